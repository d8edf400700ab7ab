-- The test for primes agrees with the definition.
use mathlib.Core.Path.{◌≡◌, refl}
use mathlib.Core.Bool.{Bool, true, false, and-false}
use mathlib.Core.Logic.{◌⊎◌, inl, inr, ⊎_elim}
use Prim.Native.Nat.{ℕ, zero, suc, ◌+◌, ◌-◌, ◌%◌, ◌≤◌, ◌<◌, ◌∣◌}
use native.Mathlib.Nat.{eq-or-lt_of_le, lt_of_not-le, le_of_dvd, pos_of_dvd_of_pos, mod-eq-zero_of_dvd, dvd_of_mod-eq-zero}
use native.Mathlib.Omega.{arith}
use borrow.Author.Tests.{eq-eqb, ne_eqb, le-leb, lt-leb}
use Rattle.residue.specs.Prime.{Prime, no_divisor, is_prime}

-- what is known of p when no number below n divides it, but 1
abbrev pub NoDivisorBelow : (n p : ℕ) → Type 0
NoDivisorBelow n p = (k : ℕ) → k < n → 2 ≤ k → p % k ≡ 0 → ⊥

-- a prime has no divisor from 2 to p - 1
pub prime-none : (p : ℕ) → Prime p → NoDivisorBelow p p
prime-none p h k l two e =
    ⊎_elim (λ q. omega arith) (λ q. omega arith) (h.only k (dvd_of_mod-eq-zero k e))

-- a number above 1 with no divisor from 2 to p - 1 is prime
pub none-prime : (p : ℕ) → 2 ≤ p → NoDivisorBelow p p → Prime p
none-prime p h none = record { above = h; only = only } where
  larger : (d : ℕ) → d ∣ p → 2 ≤ d → (d ≡ 1) ⊎ (d ≡ p)
  larger d v two =
      ⊎_elim
      (λ e. inr e)
      (λ l. absurd (none d l two (mod-eq-zero_of_dvd d v)))
      (eq-or-lt_of_le (le_of_dvd (let z : 0 < p = omega arith in z) v))

  only : (d : ℕ) → d ∣ p → (d ≡ 1) ⊎ (d ≡ p)
  only d v =
      let pos : 1 ≤ d = pos_of_dvd_of_pos v (let z : 0 < p = omega arith in z) in
      ⊎_elim (λ e. inl (let z : d ≡ 1 = omega arith in z)) (λ l. larger d v l) (eq-or-lt_of_le pos)

-- none of so many numbers divides p
pub none-divides : (k p : ℕ) → NoDivisorBelow (k + 2) p → no_divisor k p ≡ true
unfolding no_divisor
none-divides zero p h = refl
none-divides (suc k) p h =
    simp (ne_eqb (p % (k + 2)) 0 (h (k + 2) (omega arith) (omega arith)), none-divides k p (λ d l m. h d (omega arith) m))

-- one of so many numbers divides p
pub one-divides : (k p d : ℕ) → 2 ≤ d → d < k + 2 → p % d ≡ 0 → no_divisor k p ≡ false
unfolding no_divisor
one-divides zero p d l m e = absurd (let z : ⊥ = omega arith in z)
one-divides (suc k) p d l m e =
    ⊎_elim
    (λ q. let w : p % (k + 2) ≡ 0 = rw (← q) e in simp (eq-eqb (p % (k + 2)) 0 w))
    (λ q. simp (one-divides k p d l q e, and-false))
    (eq-or-lt_of_le (let z : d ≤ k + 2 = omega arith in z))

-- the test is true of a prime
pub prime-true : (p : ℕ) → Prime p → is_prime p ≡ true
unfolding is_prime
prime-true p h =
    simp (
      le-leb 2 p h.above,
      none-divides (p - 2) p (λ d l m. prime-none p h d (let z : d < p = omega (arith, h.above) in z) m),
    )

-- the test is false of a number with a divisor from 2 to p - 1
pub divisor-false : (p d : ℕ) → 2 ≤ d → d < p → p % d ≡ 0 → is_prime p ≡ false
unfolding is_prime
divisor-false p d l m e = simp (one-divides (p - 2) p d l (omega arith) e, and-false)

-- the test is false of 0 and 1
pub small-false : (p : ℕ) → p < 2 → is_prime p ≡ false
unfolding is_prime
small-false p h = simp (lt-leb 2 p h)

-- a test is not both
pub clash : (b : Bool) → b ≡ true → b ≡ false → ⊥
clash b h k = let z : ◌≡◌ {A = Bool} true false = cc in let y : ◌≡◌ {A = ℕ} 0 1 = cc in omega arith

-- a number of which the test is true is prime
pub true-prime : (p : ℕ) → is_prime p ≡ true → Prime p
true-prime p h =
    none-prime p
    (lt_of_not-le (λ q. clash (is_prime p) h (small-false p (let z : p < 2 = omega arith in z))))
    (λ d l two e. clash (is_prime p) h (divisor-false p d two l e))
