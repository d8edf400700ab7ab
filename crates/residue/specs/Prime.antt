-- Prime numbers: by their divisors, and as a test that computes.
use Rattle.std.specs.Prelude.{ℕ, zero, suc, ◌+◌, ◌-◌, ◌%◌, ◌≤◌, ◌≡◌, ◌⊎◌, Bool, true, not, ◌&&◌, leb, eqb}
use Rattle.std.specs.Int.{◌∣◌}

-- p is above 1, and has no divisor but 1 and itself
pub record Prime (p : ℕ) : Type 0 where
  pub above : 2 ≤ p
  pub only : (d : ℕ) → d ∣ p → (d ≡ 1) ⊎ (d ≡ p)

-- none of the k numbers from 2 on divides p
unfoldable pub no_divisor : (k p : ℕ) → Bool
no_divisor zero p = true
no_divisor (suc k) p = not (eqb (p % (k + 2)) 0) && no_divisor k p

-- whether p is prime: above 1, and none of the numbers from 2 to p - 1 divides it
unfoldable pub is_prime : (p : ℕ) → Bool
is_prime p = leb 2 p && no_divisor (p - 2) p
