-- The number of levels in the bound, apart from how it is found. Assumes nothing.
use Rattle.std.specs.Prelude.{◌≡◌, ◌⊎◌, ℕ, ◌^◌, ◌≤◌}

-- demand 3: "M is the smaller of 6 and the least whole number from 1 up with 4 to the power M at least N"
pub record IsLevels (n M : ℕ) : Type 0 where
  pub one : 1 ≤ M
  pub six : M ≤ 6
  -- the power reaches n, or M is 6
  pub reaches : (n ≤ 4 ^ M) ⊎ (M ≡ 6)
  -- and no smaller number's does
  pub least : (m : ℕ) → 1 ≤ m → n ≤ 4 ^ m → M ≤ m
