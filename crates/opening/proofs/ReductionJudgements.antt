-- Demand 1 for the opening of a reduction: its refusal is the number of the first of its conditions that does not hold. Assumes nothing.
use mathlib.Core.Path.{◌≡◌, refl, ap, ◌∙◌}
use mathlib.Core.Bool.{true}
use mathlib.Core.List.{List, [], ◌∷◌, ◌++◌}
use Prim.Native.Nat.{ℕ, ◌+◌, ◌-◌, ◌<◌, ◌≤◌, min}
use native.Mathlib.Omega.{arith}
use borrow.Author.Tests.{le-leb}
use lib.ListN.{length, get_or, drop, length-take, length-drop}
use Rattle.refusal.specs.Judgement.{Judged, condition}
use Rattle.refusal.proofs.JudgementLaws.{judged-once}
use Rattle.conditions.specs.Divisors.{divisors_good}
use Rattle.conditions.proofs.Tests.{both}
use Rattle.conditions.proofs.LengthLaws.{good-lent}
use Rattle.conditions.proofs.DivisorLaws.{divisors-rise, rise-good}
use Rattle.polynomial.specs.declared.setting.Setting.{Setting}
use Rattle.polynomial.specs.Terms.{Term, terms}
use Rattle.polynomial.specs.Opening.{part_of, first}
use Rattle.polynomial.proofs.TermLists.{length-terms}
use Rattle.polynomial.proofs.StartLaws.{good-within}
use Rattle.opening.specs.Run.{unless, setting, polynomials_refusal}
use Rattle.opening.specs.Reduction.{reduction_shape, reduction_refusal}
use Rattle.opening.specs.Judgement.{setting_conditions, polynomials_conditions}
use Rattle.opening.specs.ReductionJudgement.{GoodReductionShape, GoodDivisors, reduction_conditions}
use Rattle.opening.proofs.Judging.{judged-unless, judged-first, judged-test}
use Rattle.opening.proofs.StartsJudged.{good-starts}
use Rattle.opening.proofs.WeightsJudged.{weights-small}
use Rattle.opening.proofs.PolynomialLaws.{part_length}
use Rattle.opening.proofs.PolynomialsJudged.{polynomials-counted, polynomials-judged}
use Rattle.opening.proofs.ReductionLaws.{reduction-shape-passes}
use Rattle.opening.proofs.Judgements.{setting-counted, setting-judged}

good-reduction-shape : {weights words coefs : ℕ} {ss : List ℕ} {limit bw bc ww wc ow oc : ℕ} → GoodReductionShape weights words coefs ss limit bw bc ww wc ow oc → reduction_shape weights words coefs ss limit bw bc ww wc ow oc ≡ true
unfolding reduction_shape
good-reduction-shape g = both _ _ (good-lent g.lent) (both _ _ (good-starts _ _ g.starts) (both _ _ (le-leb _ _ g.some) (le-leb _ _ g.few-steps)))

-- ---- a divisor is zero where its starts are equal
module _ (words coefs : List ℕ) {weights : ℕ} {ss : List ℕ} {limit bw bc ww wc ow oc : ℕ} (shape : GoodReductionShape weights (length words) (length coefs) ss limit bw bc ww wc ow oc) where
  part-long : (k : ℕ) → k + 1 < length ss → length (terms (part_of ss k words) (part_of ss k coefs)) ≡ get_or ss (k + 1) 0 - get_or ss k 0
  part-long k l =
      let w = good-within ss (length words) (good-starts (length words) ss shape.starts) k l in
      let e = length-take (get_or ss (k + 1) 0 - get_or ss k 0) (drop (get_or ss k 0) words) in
      let f = length-drop (get_or ss k 0) words in
      length-terms (part_of ss k words) (part_of ss k coefs) (part_length ss k words coefs shape.lent.lent) ∙ (e ∙ (let z : min (get_or ss (k + 1) 0 - get_or ss k 0) (length (drop (get_or ss k 0) words)) ≡ get_or ss (k + 1) 0 - get_or ss k 0 = omega (arith, f, w.ends) in z))

  divisors-good : divisors_good ss ≡ true → GoodDivisors words coefs ss
  divisors-good h k one l z =
      let r = divisors-rise ss h k one (omega arith) in
      let e = part-long k (omega arith) in
      let f = ap length z in
      let q : ⊥ = omega (arith, r, e, f) in q

  not-zero : GoodDivisors words coefs ss → (k : ℕ) → 1 ≤ k → k + 1 < length ss → get_or ss k 0 < get_or ss (k + 1) 0
  not-zero g k one l = by (terms (part_of ss k words) (part_of ss k coefs)) refl
    where
      by : (f : List (Term ℕ)) → terms (part_of ss k words) (part_of ss k coefs) ≡ f → get_or ss k 0 < get_or ss (k + 1) 0
      by [] e = absurd (g k one (omega arith) e)
      by (t ∷ f) e = let a = part-long k l in let b = ap length e in omega (arith, a, b)

-- ---- the judgement
module _ (t : Setting) (words coefs ss : List ℕ) (limit bw bc ww wc ow oc : ℕ) where
  -- every reduction is refused under exactly one condition, or passes
  pub reduction-judged : Judged (reduction_conditions t words coefs ss limit bw bc ww wc ow oc) (reduction_refusal t words coefs ss limit bw bc ww wc ow oc)
  unfolding reduction_refusal
  reduction-judged =
      let shape = reduction_shape (length t.weights) (length words) (length coefs) ss limit bw bc ww wc ow oc in
      let late = polynomials_refusal t words coefs ss in
      let last = unless (divisors_good ss) 7 in
      let polynomials = polynomials_conditions t words coefs ss in
      let seven = condition 7 (GoodDivisors words coefs ss) in
      let eight = condition 8 (GoodReductionShape (length t.weights) (length words) (length coefs) ss limit bw bc ww wc ow oc) in
      judged-first (setting_conditions t) (eight ∷ (polynomials ++ (seven ∷ []))) (setting t) (first (unless shape 8) (first late last)) (setting-counted t) (setting-judged t)
      (λ s. judged-test eight (polynomials ++ (seven ∷ [])) shape (first late last) (omega arith) reduction-shape-passes good-reduction-shape
      (λ g. judged-first polynomials (seven ∷ []) late last (polynomials-counted t words coefs ss) (polynomials-judged t words coefs ss s.1.1.0.1 (weights-small t.n t.weights s.1.1.1.0))
      (λ a. judged-unless seven (divisors_good ss) (divisors-good words coefs g) (λ d. rise-good ss (not-zero words coefs g d)))))

  -- and no other number is judged so
  pub reduction-judged-only : (r : ℕ) → Judged (reduction_conditions t words coefs ss limit bw bc ww wc ow oc) r → reduction_refusal t words coefs ss limit bw bc ww wc ow oc ≡ r
  reduction-judged-only r j = judged-once (reduction_conditions t words coefs ss limit bw bc ww wc ow oc) (reduction_refusal t words coefs ss limit bw bc ww wc ow oc) r reduction-judged j
