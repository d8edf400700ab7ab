-- Demand 1 for the opening of a run: its refusal is the number of the first of its conditions that does not hold. Assumes nothing.
use mathlib.Core.Path.{◌≡◌}
use mathlib.Core.Bool.{true, ◌&&◌}
use mathlib.Core.List.{List, [], ◌∷◌}
use Prim.Native.Nat.{ℕ, ◌-◌}
use native.Mathlib.Omega.{arith}
use borrow.Author.Tests.{le-leb, leb-true}
use lib.Dec.{leb}
use lib.ListN.{length}
use Rattle.limits.specs.Limits.{largest_prime, most_variables}
use Rattle.refusal.specs.Judgement.{Judged, Counted, condition}
use Rattle.refusal.proofs.JudgementLaws.{judged-once}
use Rattle.conditions.specs.Lengths.{lent_good, pairs_good}
use Rattle.conditions.specs.Operations.{operations_good, GoodOperations}
use Rattle.conditions.proofs.Tests.{both}
use Rattle.conditions.proofs.LengthLaws.{lent-passes, good-lent, pairs-passes, good-pairs}
use Rattle.conditions.proofs.OperationsJudged.{operations-good, good-operations}
use Rattle.residue.specs.Prime.{is_prime}
use Rattle.residue.proofs.Primality.{prime-true, true-prime}
use Rattle.monomial.proofs.Places.{and_both}
use Rattle.polynomial.specs.declared.setting.Setting.{Setting}
use Rattle.polynomial.specs.Opening.{starts_good, first}
use Rattle.opening.specs.Run.{unless, between, weights_good, setting, shape_good, polynomials_refusal, run_refusal}
use Rattle.opening.specs.Judgement.{GoodPrime, Between, GoodWeights, setting_conditions, GoodShape, polynomials_conditions, run_conditions}
use Rattle.opening.proofs.Judging.{judged-unless, judged-first, judged-test}
use Rattle.opening.proofs.StartsJudged.{starts-good, good-starts}
use Rattle.opening.proofs.WeightsJudged.{between-good, good-between, weights-good, good-weights, weights-small}
use Rattle.opening.proofs.PolynomialsJudged.{polynomials-judged}

-- ---- each test, and what it tests
prime-good : (p : ℕ) → (is_prime p && leb p largest_prime) ≡ true → GoodPrime p
prime-good p e = let b = and_both (is_prime p) (leb p largest_prime) e in (true-prime p b.0, leb-true p largest_prime b.1)

good-prime : (p : ℕ) → GoodPrime p → (is_prime p && leb p largest_prime) ≡ true
good-prime p g = both (is_prime p) (leb p largest_prime) (prime-true p g.0) (le-leb p largest_prime g.1)

module _ (weights words coefs ss ops : List ℕ) (bw bc ww wc ow oc : ℕ) where
  shape-good : shape_good (length weights) (length words) (length coefs) ss (length ops) bw bc ww wc ow oc ≡ true → GoodShape weights words coefs ss ops bw bc ww wc ow oc
  unfolding shape_good
  shape-good e =
      let a = and_both (lent_good (length weights) (length words) (length coefs) bw bc ww wc ow oc) (starts_good ss (length words) && pairs_good (length ops)) e in
      let r = and_both (starts_good ss (length words)) (pairs_good (length ops)) a.1 in
      record { lent = lent-passes a.0; starts = starts-good (length words) ss r.0; pairs = pairs-passes r.1 }

  good-shape : GoodShape weights words coefs ss ops bw bc ww wc ow oc → shape_good (length weights) (length words) (length coefs) ss (length ops) bw bc ww wc ow oc ≡ true
  unfolding shape_good
  good-shape g = both _ _ (good-lent g.lent) (both _ _ (good-starts (length words) ss g.starts) (good-pairs g.pairs))

-- ---- the judgement
pub setting-counted : (t : Setting) → Counted (setting_conditions t)
setting-counted t = (omega arith, (omega arith, (omega arith, (omega arith, tt))))

pub setting-judged : (t : Setting) → Judged (setting_conditions t) (setting t)
unfolding setting
setting-judged t =
    let order = condition 2 (Between 1 3 t.order) in
    let variables = condition 3 (Between 1 most_variables t.n) in
    let weights = condition 24 (GoodWeights t.n t.weights) in
    let last = unless (weights_good t.n t.weights) 24 in
    let third = first (unless (between 1 most_variables t.n) 3) last in
    judged-test (condition 1 (GoodPrime t.p)) (order ∷ (variables ∷ (weights ∷ []))) (is_prime t.p && leb t.p largest_prime) (first (unless (between 1 3 t.order) 2) third) (omega arith) (prime-good t.p) (good-prime t.p)
    (λ g. judged-test order (variables ∷ (weights ∷ [])) (between 1 3 t.order) third (omega arith) (between-good 1 3 t.order) (good-between 1 3 t.order)
    (λ h. judged-test variables (weights ∷ []) (between 1 most_variables t.n) last (omega arith) (between-good 1 most_variables t.n) (good-between 1 most_variables t.n)
    (λ i. judged-unless weights (weights_good t.n t.weights) (weights-good t.n t.weights) (good-weights t.n t.weights))))

module _ (t : Setting) (words coefs ss ops : List ℕ) (bw bc ww wc ow oc : ℕ) where
  -- every run is refused under exactly one condition, or passes
  pub judged : Judged (run_conditions t words coefs ss ops bw bc ww wc ow oc) (run_refusal t words coefs ss ops bw bc ww wc ow oc)
  unfolding run_refusal
  judged =
      let shape = shape_good (length t.weights) (length words) (length coefs) ss (length ops) bw bc ww wc ow oc in
      let operations = operations_good ops (length ss - 1) in
      let late = polynomials_refusal t words coefs ss in
      let polynomials = polynomials_conditions t words coefs ss in
      let nine = condition 9 (GoodOperations ops (length ss - 1)) in
      let eight = condition 8 (GoodShape t.weights words coefs ss ops bw bc ww wc ow oc) in
      judged-first (setting_conditions t) (eight ∷ (nine ∷ polynomials)) (setting t) (first (unless shape 8) (first (unless operations 9) late)) (setting-counted t) (setting-judged t)
      (λ s. judged-test eight (nine ∷ polynomials) shape (first (unless operations 9) late) (omega arith) (shape-good t.weights words coefs ss ops bw bc ww wc ow oc) (good-shape t.weights words coefs ss ops bw bc ww wc ow oc)
      (λ g. judged-test nine polynomials operations late (omega arith) (operations-good ops (length ss - 1)) (good-operations ops (length ss - 1))
      (λ h. polynomials-judged t words coefs ss s.1.1.0.1 (weights-small t.n t.weights s.1.1.1.0))))

  -- and no other number is judged so
  pub judged-only : (r : ℕ) → Judged (run_conditions t words coefs ss ops bw bc ww wc ow oc) r → run_refusal t words coefs ss ops bw bc ww wc ow oc ≡ r
  judged-only r j = judged-once (run_conditions t words coefs ss ops bw bc ww wc ow oc) (run_refusal t words coefs ss ops bw bc ww wc ow oc) r judged j
