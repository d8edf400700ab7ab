-- What the test before a call shows: a prime. Assumes nothing.
use mathlib.Core.Path.{◌≡◌, sym, ◌∙◌}
use mathlib.Core.Bool.{Bool, false, not}
use Prim.Native.Nat.{ℕ}
use borrow.Author.Tests.{not-false}
use Rattle.residue.specs.Prime.{Prime, is_prime}
use Rattle.residue.proofs.Primality.{true-prime}

pub tested-prime : (p : ℕ) (t : Bool) → t ≡ is_prime p → not t ≡ false → Prime p
tested-prime p t e h = true-prime p (sym e ∙ not-false t h)
