-- The test of the weights is the statement on them, and what weights that pass are. Assumes nothing.
use mathlib.Core.Path.{◌≡◌, refl, sym, ap, ap₂, ◌∙◌}
use mathlib.Core.Bool.{Bool, true, false, ◌&&◌}
use mathlib.Core.List.{List, [], ◌∷◌}
use Prim.Native.Nat.{ℕ, zero, suc, ◌+◌, ◌-◌, ◌<◌, ◌≤◌, zero-le}
use native.Mathlib.Decide.{dec_lt}
use native.Mathlib.Omega.{arith}
use borrow.Author.Tests.{le-leb, leb-true, lt-ltb, le-ltb, eq-eqb, eqb-true}
use lib.Dec.{leb, ltb}
use lib.ListN.{length, get_or}
use Rattle.std.specs.List.{list_all, enumerate_from}
use Rattle.limits.specs.Limits.{largest_weight}
use Rattle.conditions.proofs.Tests.{both}
use Rattle.monomial.specs.Exponents.{Positive}
use Rattle.monomial.specs.Layout.{Below, WeightsFit}
use Rattle.monomial.proofs.Places.{and_both, Below-more}
use Rattle.opening.specs.Run.{between, weight_good, weights_good}
use Rattle.opening.specs.Judgement.{Between, GoodWeights}

pub between-good : (low high x : ℕ) → between low high x ≡ true → Between low high x
between-good low high x e = let b = and_both (leb low x) (leb x high) e in (leb-true low x b.0, leb-true x high b.1)

pub good-between : (low high x : ℕ) → Between low high x → between low high x ≡ true
good-between low high x g = both (leb low x) (leb x high) (le-leb low x g.0) (le-leb x high g.1)

-- ---- one weight
used-good : (n v : ℕ) → weight_good (ltb 0 n) v ≡ true → 0 < n → Between 1 largest_weight v
used-good n v e l = between-good 1 largest_weight v (sym (ap (λ (b : Bool). weight_good b v) (lt-ltb 0 n l)) ∙ e)

unused-good : (n v : ℕ) → weight_good (ltb 0 n) v ≡ true → n ≤ 0 → v ≡ 1
unused-good n v e l = eqb-true v 1 (sym (ap (λ (b : Bool). weight_good b v) (le-ltb 0 n l)) ∙ e)

good-weight : (n v : ℕ) → (0 < n → Between 1 largest_weight v) → (n ≤ 0 → v ≡ 1) → weight_good (ltb 0 n) v ≡ true
good-weight zero v f g = ap (λ (b : Bool). weight_good b v) (le-ltb 0 zero zero-le) ∙ eq-eqb v 1 (g zero-le)
good-weight (suc n) v f g = ap (λ (b : Bool). weight_good b v) (lt-ltb 0 (suc n) (omega arith)) ∙ good-between 1 largest_weight v (f (omega arith))

-- ---- all of them
one_more : (n v : ℕ) (vs : List ℕ) → weight_good (ltb 0 n) v ≡ true → GoodWeights (n - 1) vs → GoodWeights n (v ∷ vs)
one_more n v vs e g = record { in-range = used; beyond-one = unused }
  where
    used : (i : ℕ) → i < length (v ∷ vs) → i < n → Between 1 largest_weight (get_or (v ∷ vs) i 0)
    used zero l m = used-good n v e m
    used (suc i) l m = g.in-range i (omega (arith, l)) (omega (arith, m))

    unused : (i : ℕ) → i < length (v ∷ vs) → n ≤ i → get_or (v ∷ vs) i 0 ≡ 1
    unused zero l m = unused-good n v e m
    unused (suc i) l m = g.beyond-one i (omega (arith, l)) (omega (arith, m))

pub weights-good : (n : ℕ) (vs : List ℕ) → weights_good n vs ≡ true → GoodWeights n vs
unfolding weights_good
weights-good n [] e = record { in-range = λ i l m. absurd (let z : ⊥ = omega arith in z); beyond-one = λ i l m. absurd (let z : ⊥ = omega arith in z) }
weights-good n (v ∷ vs) e =
    let a = and_both (weight_good (ltb 0 n) v) (weights_good (n - 1) vs) e in
    one_more n v vs a.0 (weights-good (n - 1) vs a.1)

pub good-weights : (n : ℕ) (vs : List ℕ) → GoodWeights n vs → weights_good n vs ≡ true
unfolding weights_good
good-weights n [] g = refl
good-weights n (v ∷ vs) g =
    both (weight_good (ltb 0 n) v) (weights_good (n - 1) vs) (good-weight n v (λ m. g.in-range zero (omega arith) m) (λ m. g.beyond-one zero (omega arith) m))
    (good-weights (n - 1) vs
    (record {
      in-range = λ i l m. g.in-range (suc i) (omega (arith, l)) (omega (arith, m));
      beyond-one = λ i l m. g.beyond-one (suc i) (omega (arith, l)) (omega (arith, m));
    }))

-- ---- weights that pass are from 1 to 16, each of them
weight-range : (used : Bool) (v : ℕ) → weight_good used v ≡ true → Between 1 largest_weight v
weight-range true v e = between-good 1 largest_weight v e
weight-range false v e = let q = eqb-true v 1 e in (omega arith, omega arith)

pub weights-range : (n : ℕ) (vs : List ℕ) → weights_good n vs ≡ true → Below 17 vs × Positive vs
unfolding weights_good
weights-range n [] e = (tt, tt)
weights-range n (v ∷ vs) e =
    let a = and_both (weight_good (ltb 0 n) v) (weights_good (n - 1) vs) e in
    let b = weight-range (ltb 0 n) v a.0 in
    let r = weights-range (n - 1) vs a.1 in
    ((omega (arith, b.1), r.0), (b.0, r.1))

pub weights-small : (n : ℕ) (vs : List ℕ) → GoodWeights n vs → Below 17 vs
weights-small n vs g = (weights-range n vs (good-weights n vs g)).0

pub weights-fit : (n : ℕ) (vs : List ℕ) → weights_good n vs ≡ true → length vs ≡ 6 → WeightsFit vs
weights-fit n vs e six = record { six-are = six; bytes-are = Below-more 17 256 vs (omega arith) (weights-range n vs e).0 }

-- ---- the weights one by one, from place i on
weigh : (n i : ℕ) (vs : List ℕ) → list_all (λ (p : ℕ × ℕ). weight_good (ltb p.0 n) p.1) (enumerate_from i vs) ≡ weights_good (n - i) vs
unfolding weights_good
weigh n i [] = refl
weigh n i (v ∷ vs) = ap₂ ◌&&◌ (ap (λ (b : Bool). weight_good b v) (left (dec_lt i n))) (weigh n (i + 1) vs ∙ ap (λ (m : ℕ). weights_good m vs) (let e : n - (i + 1) ≡ n - i - 1 = omega arith in e))
  where
    left : Dec (i < n) → ltb i n ≡ ltb 0 (n - i)
    left (yes l) = lt-ltb i n l ∙ sym (lt-ltb 0 (n - i) (omega arith))
    left (no l) = le-ltb i n (omega arith) ∙ sym (le-ltb 0 (n - i) (omega arith))

pub weigh_all : (n : ℕ) (vs : List ℕ) → list_all (λ (p : ℕ × ℕ). weight_good (ltb p.0 n) p.1) (enumerate_from 0 vs) ≡ weights_good n vs
weigh_all n vs = weigh n 0 vs ∙ ap (λ (m : ℕ). weights_good m vs) (let e : n - 0 ≡ n = omega arith in e)
