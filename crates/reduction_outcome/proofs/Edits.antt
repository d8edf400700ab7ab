-- What a change of the closing condition does to the remainder (document 02, "One changed term in the closing condition."): about calls of `reduce` that finish, with the same setting and divisors, whatever their limits and outputs. Polynomials are meant by exponents. Assumes nothing.
use mathlib.Core.Path.{◌≡◌, refl, sym, ap, ◌∙◌, subst}
use mathlib.Core.Bool.{false}
use mathlib.Core.List.{List, [], ◌∷◌}
use Prim.Native.Nat.{ℕ, ◌+◌, ◌*◌, ◌%◌, ◌<◌}
use native.Mathlib.Nat.{mod-mod}
use native.Mathlib.Omega.{arith}
use Rattle.residue.specs.Prime.{Prime}
use Rattle.residue.proofs.Remainder.{add-both}
use Rattle.monomial.specs.Exponents.{order_of, divides, quotient, product}
use Rattle.monomial.specs.TotalOrder.{TotalOrder}
use Rattle.monomial.proofs.OrderLaws.{exponents-order}
use Rattle.polynomial.specs.Terms.{Term, term, total}
use Rattle.polynomial.specs.declared.setting.Setting.{Setting}
use Rattle.call.specs.declared.answer.Tally.{Tally}
use Rattle.division.specs.Choice.{chosen}
use Rattle.division.specs.Division.{SumOf}
use Rattle.division.specs.Divisors.{Valid, AllOf}
use Rattle.division.specs.Operations.{Operations}
use Rattle.division.specs.Edits.{scaled}
use Rattle.division.proofs.DivisionLaws.{not-empty, division-unique}
use Rattle.division.proofs.FitLaws.{chosen-choice}
use Rattle.division.proofs.ExponentOperations.{exponent-operations}
use Rattle.division.proofs.Scaling.{mul_left}
use Rattle.division.proofs.Remainders.{Leaves}
use Rattle.division.proofs.Remainders as R
use Rattle.reduction_outcome.specs.Meaning.{remainder_in, InVariables, dividend_in, divisors_in, DividesTo}
use Rattle.reduction_outcome.specs.Finished.{Reduces, comparing, coef_in, IsSum, IsTimes, IsEdit, AgreeAbove}
use Rattle.reduction_outcome.proofs.Demands as D

-- ---- what a finished call says of its polynomials
record Said (t : Setting) (gs : List (List (Term (List ℕ)))) (f r : List (Term (List ℕ))) : Type 0 where
  pub prime : Prime t.p
  pub divisors : AllOf (Valid (comparing t) t.p (InVariables t)) gs
  pub valid : Valid (comparing t) t.p (InVariables t) f
  pub steps : ℕ
  pub division : DividesTo t gs steps f r

module _ (tally : Tally) (t : Setting) (words coefs ss : List ℕ) (limit : ℕ) (bw bc ww wc ow oc : List ℕ) where
  said_of : (D.outcome tally t words coefs ss limit bw bc ww wc ow oc).answer.number ≡ 0 → Said t (divisors_in t words coefs ss) (dividend_in t words coefs ss) (remainder_in t (D.outcome tally t words coefs ss limit bw bc ww wc ow oc))
  said_of done =
      let none = D.answered-opened tally t words coefs ss limit bw bc ww wc ow oc done in
      record {
        prime = (D.opened tally t words coefs ss limit bw bc ww wc ow oc none).prime;
        divisors = D.divisors-valid tally t words coefs ss limit bw bc ww wc ow oc none;
        valid = D.dividend-valid tally t words coefs ss limit bw bc ww wc ow oc none;
        steps = (D.outcome tally t words coefs ss limit bw bc ww wc ow oc).answer.finished;
        division = D.demand-2-division tally t words coefs ss limit bw bc ww wc ow oc none done;
      }

said : {t : Setting} {gs : List (List (Term (List ℕ)))} {f r : List (Term (List ℕ))} → Reduces t gs f r → Said t gs f r
said {t} {gs} {f} {r} c =
    subst (λ (l : List (List (Term (List ℕ)))). Said t l f r) c.divisors-are
    (subst (λ (g : List (Term (List ℕ))). Said t (divisors_in t c.words c.coefs c.starts) g r) c.dividend-is
    (subst (Said t (divisors_in t c.words c.coefs c.starts) (dividend_in t c.words c.coefs c.starts)) c.remainder_is
    (said_of c.tally t c.words c.coefs c.starts c.limit c.bw c.bc c.ww c.wc c.ow c.oc c.done)))

module _ (t : Setting) (gs : List (List (Term (List ℕ)))) where
  O : TotalOrder (List ℕ) (comparing t)
  O = exponents-order (order_of t.order) t.weights

  ops : Operations (List ℕ) (comparing t) divides quotient product (λ a b. false) (InVariables t)
  ops = exponent-operations (order_of t.order) t.n t.weights

  -- the division that a finished call has done; `a` is any finished call with the same divisors
  module _ {f r : List (Term (List ℕ))} (a : Reduces t gs f r) where
    abbrev Left : (g s : List (Term (List ℕ))) → Type 0
    Left g s = Leaves (comparing t) (chosen divides gs) quotient product t.p divides gs (chosen-choice divides gs) O (InVariables t) ops (said a).prime (said a).divisors g s

    left : {g s : List (Term (List ℕ))} → Reduces t gs g s → Left g s
    left c = record { valid = (said c).valid; steps = (said c).steps; division = (said c).division }

  -- sums of coefficients that are reduced first
  sums : (a b : ℕ) → (a + b) % t.p ≡ (a % t.p + b % t.p) % t.p
  sums a b = add-both t.p a (a % t.p) b (b % t.p) (sym (mod-mod a t.p)) (sym (mod-mod b t.p))

  of-sum : (f g h : List (Term (List ℕ))) → SumOf (comparing t) t.p f g h → IsSum t f g h
  of-sum f g h s m = s.coefficients m ∙ sums (total (comparing t) m f) (total (comparing t) m g)

  -- the remainder is determined by setting, divisors and polynomial 0
  pub remainder-once : {f r s : List (Term (List ℕ))} → Reduces t gs f r → Reduces t gs f s → r ≡ s
  remainder-once {f} {r} {s} a b = (division-unique (comparing t) O (chosen divides gs) quotient product t.p (omega (arith, (said a).prime.above)) (said a).steps (said b).steps f r s (said a).division (said b).division).1

  -- "the remainder of f + g is the remainder of f plus that of g": h is any polynomial 0 that is f + g
  pub remainders-add : {f g h r s q : List (Term (List ℕ))} → Reduces t gs f r → Reduces t gs g s → Reduces t gs h q → IsSum t f g h → IsSum t r s q
  remainders-add {f} {g} {h} {r} {s} {q} a b c sum =
      of-sum r s q
      (R.remainders-add (comparing t) (chosen divides gs) quotient product t.p divides gs (chosen-choice divides gs) O (InVariables t) ops (said a).prime (said a).divisors (left a a) (left a b) (left a c) (λ m. sum m ∙ sym (sums (total (comparing t) m f) (total (comparing t) m g))))

  -- the remainder of c times f is c times that of f
  pub remainder-scaled : (c : ℕ) → 0 < c → c < t.p → {f g r s : List (Term (List ℕ))} → Reduces t gs f r → Reduces t gs g s → IsTimes t c f g → s ≡ scaled t.p c r
  remainder-scaled c some small {f = f} a b times =
      R.remainder-scaled (comparing t) (chosen divides gs) quotient product t.p divides gs (chosen-choice divides gs) O (InVariables t) ops (said a).prime (said a).divisors c some small (left a a) (left a b)
      (λ m. times m ∙ mul_left t.p c (coef_in t m f) (total (comparing t) m f) (mod-mod (total (comparing t) m f) t.p))

  -- "an edit at one monomial moves the remainder by that term's own remainder, scaled": by δ times `own`, what 1·α leaves. The remainder after the edit is foretold by two finished calls, whether or not a call on g would finish within its limits.
  pub edit-foretold : {f g r own : List (Term (List ℕ))} (α : List ℕ) (δ k : ℕ) (s : List (Term (List ℕ))) → Reduces t gs f r → Reduces t gs (term α 1 ∷ []) own → Valid (comparing t) t.p (InVariables t) g → DividesTo t gs k g s → IsEdit t α δ f g → IsSum t r (scaled t.p δ own) s
  edit-foretold {r = r} {own = own} α δ k s a c v d e = of-sum r (scaled t.p δ own) s (R.edit-moves (comparing t) (chosen divides gs) quotient product t.p divides gs (chosen-choice divides gs) O (InVariables t) ops (said a).prime (said a).divisors α δ (left a a) (record { valid = v; steps = k; division = d }) (left a c) e)

  -- and so it is of a finished call on g
  pub edit-moves : {f g r s own : List (Term (List ℕ))} (α : List ℕ) (δ : ℕ) → Reduces t gs f r → Reduces t gs g s → Reduces t gs (term α 1 ∷ []) own → IsEdit t α δ f g → IsSum t r (scaled t.p δ own) s
  edit-moves {s = s} α δ a b c e = edit-foretold α δ (said b).steps s a c (said b).valid (said b).division e

  -- so from zero it moves to δ times that
  pub edit-of-zero : {f g s own : List (Term (List ℕ))} (α : List ℕ) (δ : ℕ) → Reduces t gs f [] → Reduces t gs g s → Reduces t gs (term α 1 ∷ []) own → IsEdit t α δ f g → s ≡ scaled t.p δ own
  edit-of-zero α δ a b c e = R.edit-of-zero (comparing t) (chosen divides gs) quotient product t.p divides gs (chosen-choice divides gs) O (InVariables t) ops (said a).prime (said a).divisors α δ (left a a) (left a b) (left a c) e

  -- and is zero again exactly where that is zero: whether an arm that closed still does
  pub edit-keeps-zero : {f g s own : List (Term (List ℕ))} (α : List ℕ) (δ : ℕ) → Reduces t gs f [] → Reduces t gs g s → Reduces t gs (term α 1 ∷ []) own → IsEdit t α δ f g → (s ≡ [] → own ≡ []) × (own ≡ [] → s ≡ [])
  edit-keeps-zero {own = own} α δ a b c e = let z = edit-of-zero α δ a b c e in (λ h. none own (sym z ∙ h), λ h. z ∙ ap (scaled t.p δ) h)
    where
      none : (r : List (Term (List ℕ))) → scaled t.p δ r ≡ [] → r ≡ []
      none [] h = refl
      none (u ∷ r) h = absurd (not-empty (term u.mono (δ * u.coef % t.p)) (scaled t.p δ r) h)

  -- "never at a monomial above the edited one": where f and g agree above α, so do their remainders. The reduction of 1·α need not be finished, and more than one term up to α may differ.
  pub edit-below : {f g r s : List (Term (List ℕ))} (α : List ℕ) → Reduces t gs f r → Reduces t gs g s → AgreeAbove t α f g → AgreeAbove t α r s
  edit-below α a b above = R.edit-below (comparing t) (chosen divides gs) quotient product t.p divides gs (chosen-choice divides gs) O (InVariables t) ops (said a).prime (said a).divisors α (left a a) (left a b) above

  -- so it is for one edited term
  pub edit-never-above : {f g r s : List (Term (List ℕ))} (α : List ℕ) (δ : ℕ) → Reduces t gs f r → Reduces t gs g s → IsEdit t α δ f g → AgreeAbove t α r s
  edit-never-above {f} {g} α δ a b e = edit-below α a b (R.edited-above (comparing t) O t.p α δ f g e)
