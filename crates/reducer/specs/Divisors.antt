-- The polynomials of a reduction as its opening checks leave them. Assumes nothing.
use Rattle.std.specs.Prelude.{ℕ, ◌+◌, ◌<◌, ◌≤◌, ◌≡◌, List, length, get_or}
use Rattle.residue.specs.Modular.{Modulus}
use Rattle.residue.specs.Prime.{Prime}
use Rattle.monomial.specs.declared.order.Order.{Order}
use Rattle.monomial.specs.Layout.{Below, Layout}
use Rattle.monomial.specs.Words.{compare_words}
use Rattle.polynomial.specs.Opening.{Within}
use Rattle.division.specs.Divisors.{Valid}
use Rattle.call.specs.Lending.{polynomial}

-- a word of the layout with these weights; those of fewer variables are words of six
abbrev pub OfLayout : Order → (weights : List ℕ) → ℕ → Type 0
OfLayout o vs w = Layout o 6 vs w

-- polynomials that passed the opening checks of a reduction; the code does not need their weights, which are at most 16
pub record Checked (o : Order) (p : ℕ) (words coefs starts : List ℕ) : Type 0 where
  pub weights : List ℕ
  pub small : Below 17 weights
  pub modulus : Modulus p
  pub prime : Prime p
  pub long : length coefs ≡ length words
  pub some : 1 < length starts
  pub parts : (k : ℕ) → k + 1 < length starts → Within starts k (length words)
  pub valid : (k : ℕ) → k + 1 < length starts → Valid (compare_words o) p (OfLayout o weights) (polynomial words coefs starts k)
  pub not-zero : (k : ℕ) → 1 ≤ k → k + 1 < length starts → get_or starts k 0 < get_or starts (k + 1) 0
