-- What the merge of two areas of the work space asks. Assumes nothing.
use Prim.Native.Nat.{ℕ, ◌+◌, ◌<◌, ◌≤◌, compare}
use Rattle.std.specs.Prelude.{◌≡◌, List, length}
use Rattle.residue.specs.Modular.{Modulus}
use Rattle.polynomial.specs.Terms.{terms, Canonical}
use Rattle.merge_common.specs.Lent.{part, Apart}

-- two polynomials of n and m terms at places a and b of the work space, none of them empty, and room for all their terms from `to` on, apart from both
pub record Areas (p : ℕ) (ww wc : List ℕ) (a n b m to : ℕ) : Type 0 where
  pub modulus : Modulus p
  pub left : Canonical compare p (terms (part a n ww) (part a n wc))
  pub right : Canonical compare p (terms (part b m ww) (part b m wc))
  pub left-some : 0 < n
  pub right-some : 0 < m
  pub left_end : a + n ≤ length ww
  pub right_end : b + m ≤ length ww
  pub room : to + (n + m) ≤ length ww
  pub long : length wc ≡ length ww
  pub left-apart : Apart a n to (n + m)
  pub right-apart : Apart b m to (n + m)
