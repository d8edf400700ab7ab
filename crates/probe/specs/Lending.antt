-- The tests before a polynomial is checked or a part of it is read, and what its multiple asks. Assumes nothing.
use Rattle.std.specs.Prelude.{ℕ, ◌+◌, ◌<◌, ◌≤◌, Bool, ◌&&◌, List, leb, ltb, eqb, length, get_or}
use Rattle.limits.specs.Limits.{largest_weight}
use Rattle.residue.specs.Modular.{Modulus}
use Rattle.monomial.specs.Words.{Packed}
use Rattle.polynomial.specs.Checking.{Carried}
use Rattle.merge_common.specs.Lent.{Poly}
use Rattle.multiple.specs.Multiplying.{AllPacked}
use Rattle.probe.specs.Answers.{weights_fit}

-- at most 6 variables, six weights up to 16, and as many coefficients as words
unfoldable pub checkable : (n : ℕ) (weights : List ℕ) (words coefs : ℕ) → Bool
checkable n vs words coefs = leb n 6 && (weights_fit largest_weight vs && eqb coefs words)

-- what a check carries, from its four numbers
abbrev pub numbers : (stop late : ℕ) (seen : Bool) (last : ℕ) → Carried ℕ
numbers stop late seen last = record { stop = stop; late = late; seen = seen; last = last }

-- polynomial k has both starts, which rise and end within the slice
unfoldable pub part_there : List ℕ → ℕ → ℕ → Bool
part_there starts k len = ltb (k + 1) (length starts) && (leb (get_or starts k 0) (get_or starts (k + 1) 0) && leb (get_or starts (k + 1) 0) len)

-- a polynomial modulo p, a term c·q, and room for the multiple from place `to` on
pub record Factors (p c q : ℕ) (ws cs : List ℕ) (to : ℕ) (ow oc : List ℕ) : Type 0 where
  pub modulus : Modulus p
  pub below : c < p
  pub poly : Poly p ws cs
  pub monomial : Packed q
  pub packed : AllPacked ws
  pub words-room : to + length ws ≤ length ow
  pub coefs-room : to + length ws ≤ length oc
