-- What a passed or failed test tells. Assumes nothing.
use mathlib.Core.Path.{◌≡◌, refl}
use mathlib.Core.Bool.{Bool, true, false}
use Prim.Native.Nat.{ℕ, zero, suc, ◌<◌}
use native.Mathlib.Omega.{arith}
pub use Rattle.conditions.proofs.Tests.{yes, no}
use Rattle.polynomial.specs.Opening.{first}
use Rattle.opening.specs.Run.{unless}

-- a refusal comes first
pub first_some : (r k : ℕ) → (r ≡ 0 → ⊥) → r ≡ first r k
first_some zero k h = absurd (h refl)
first_some (suc r) k h = refl

pub passed : (b : Bool) (r : ℕ) → 0 < r → unless b r ≡ 0 → b ≡ true
passed true r l h = refl
passed false r l h = absurd (let z : ⊥ = omega arith in z)
