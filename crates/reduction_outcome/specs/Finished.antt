-- Finished calls of `reduce`, and how polynomials of several such calls stand to each other, by exponents. Assumes nothing.
use Prim.Native.Nat.{ℕ, ◌+◌, ◌*◌, ◌%◌, Ordering}
use Rattle.std.specs.Prelude.{◌≡◌, List}
use Rattle.monomial.specs.Exponents.{order_of, compare_in}
use Rattle.polynomial.specs.Terms.{Term, coef_at}
use Rattle.polynomial.specs.declared.setting.Setting.{Setting}
use Rattle.call.specs.declared.answer.Tally.{Tally}
use Rattle.division.specs.Edits.{Edited, SameAbove}
use Rattle.reduction_outcome.specs.Outcome.{reduction_outcome}
use Rattle.reduction_outcome.specs.Meaning.{remainder_in, dividend_in, divisors_in}

-- A call with the setting t and the divisors gs has reduced f to r: its answer is 0, f is its polynomial 0, and r lies in its output at return. Which limit it had, what it was lent besides, and where the terms stand in its slices is left open.
pub record Reduces (t : Setting) (gs : List (List (Term (List ℕ)))) (f r : List (Term (List ℕ))) : Type 0 where
  pub tally : Tally
  pub words : List ℕ
  pub coefs : List ℕ
  pub starts : List ℕ
  pub limit : ℕ
  pub bw : List ℕ
  pub bc : List ℕ
  pub ww : List ℕ
  pub wc : List ℕ
  pub ow : List ℕ
  pub oc : List ℕ
  pub done : (reduction_outcome tally t words coefs starts limit bw bc ww wc ow oc).answer.number ≡ 0
  pub dividend-is : dividend_in t words coefs starts ≡ f
  pub divisors-are : divisors_in t words coefs starts ≡ gs
  pub remainder_is : remainder_in t (reduction_outcome tally t words coefs starts limit bw bc ww wc ow oc) ≡ r

module _ (t : Setting) where
  -- how monomials stand to each other in the setting
  abbrev pub comparing : List ℕ → List ℕ → Ordering
  comparing = compare_in (order_of t.order) t.weights

  -- the coefficient of m in f, modulo p
  abbrev pub coef_in : List ℕ → List (Term (List ℕ)) → ℕ
  coef_in m f = coef_at comparing t.p m f

  -- h is f + g, as polynomials modulo p
  abbrev pub IsSum : (f g h : List (Term (List ℕ))) → Type 0
  IsSum f g h = (m : List ℕ) → coef_in m h ≡ (coef_in m f + coef_in m g) % t.p

  -- g is c times f
  abbrev pub IsTimes : (c : ℕ) → (f g : List (Term (List ℕ))) → Type 0
  IsTimes c f g = (m : List ℕ) → coef_in m g ≡ c * coef_in m f % t.p

  -- g is f with the coefficient of α changed by δ, from 1 to p - 1
  abbrev pub IsEdit : (α : List ℕ) (δ : ℕ) → (f g : List (Term (List ℕ))) → Type 0
  IsEdit α δ f g = Edited comparing t.p α δ f g

  -- f and g have the same coefficients at all monomials above α
  abbrev pub AgreeAbove : (α : List ℕ) → (f g : List (Term (List ℕ))) → Type 0
  AgreeAbove α f g = SameAbove comparing t.p α f g
