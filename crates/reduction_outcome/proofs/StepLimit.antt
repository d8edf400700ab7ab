-- How many leads a reduction can remove, and a step limit that is always enough (document 02, "One changed term in the closing condition."): about what a call leaves. And that the division of every polynomial 0 ends, apart from the engine's limits. Assumes nothing.
use mathlib.Core.Path.{◌≡◌, refl, sym, ap, ◌∙◌, subst}
use mathlib.Core.List.{List, [], ◌∷◌, ◌++◌}
use mathlib.Core.Logic.{⊎_elim}
use Prim.Native.Nat.{ℕ, zero, suc, ◌+◌, ◌^◌, ◌%◌, ◌<◌, ◌≤◌, Ordering}
use native.Mathlib.Nat.{le_trans, pow-le-pow_right, zero-mod}
use native.Mathlib.Omega.{arith}
use lib.Dec.{lit<}
use lib.ListN.{length, length-append}
use Rattle.limits.specs.Limits.{sufficient_steps}
use Rattle.monomial.specs.Exponents.{order_of, divides, quotient, product, compare_in}
use Rattle.monomial.specs.Layout.{exponents, Below, Layout}
use Rattle.monomial.specs.TotalOrder.{TotalOrder}
use Rattle.monomial.proofs.OrderLaws.{exponents-order}
use Rattle.monomial.proofs.LayoutLaws.{length-exponents, exponents-small}
use Rattle.polynomial.specs.Terms.{Term, All, Under, total}
use Rattle.polynomial.proofs.MergeLaws.{all_map}
use Rattle.polynomial.specs.declared.setting.Setting.{Setting}
use Rattle.geobucket.specs.Buckets.{total_in}
use Rattle.geobucket.specs.TrueSum.{IsLead}
use Rattle.call.specs.declared.answer.Tally.{Tally}
use Rattle.call.specs.Answers.{Outcome}
use Rattle.refusal.proofs.JudgementLaws.{one-of-not}
use Rattle.call.specs.Places.{held_at}
use Rattle.opening.proofs.ListedLaws.{reduction-numbers}
use Rattle.opening.proofs.WeightsJudged.{weights-range}
use Rattle.division.specs.Choice.{chosen}
use Rattle.division.specs.Ending.{finished, at-limit, over, too_many, no_place, Ending, first-too-many, by-steps}
use Rattle.division.proofs.FitLaws.{chosen-choice}
use Rattle.division.proofs.StateLaws.{all_append, falling-last}
use Rattle.division.proofs.RenamedEndings.{like-or-none, renamed-all}
use Rattle.division.proofs.ExponentOperations.{exponent-operations}
use Rattle.division.proofs.Chains.{order-ends}
use Rattle.division.proofs.EveryDivision.{division-ends}
use Rattle.division.proofs.Few.{falling-few}
use Rattle.reduction_outcome.specs.Meaning.{by_exponents, remainder_in, held_in, InVariables, over_exponents, dividend_in, divisors_in, DividesTo}
use Rattle.reduction_outcome.proofs.Demands as D

-- a lead of one list is a monomial of it
lead-among : {A : Type 0} (cmp : A → A → Ordering) (O : TotalOrder A cmp) (p : ℕ) (Q : A → Type 0) (ts : List (Term A)) (t : Term A) → All (λ u. Q u.mono) ts → IsLead cmp p (ts ∷ []) t → Q t.mono
unfolding total_in
lead-among cmp O p Q ts t all l =
    ⊎_elim
    (λ (a, q, e). subst Q (O.same a t.mono e) q)
    (λ z. absurd (let e : (total cmp t.mono ts + 0) % p ≡ 0 = ap (λ (k : ℕ). k % p) (let i : total cmp t.mono ts + 0 ≡ 0 = omega (arith, z) in i) ∙ zero-mod p in let q : ⊥ = omega (arith, l.coef-is, l.not-zero, e) in q))
    (like-or-none cmp Q t.mono ts all)

module _ (tally : Tally) (t : Setting) (words coefs ss : List ℕ) (limit : ℕ) (bw bc ww wc ow oc : List ℕ) where
  abbrev outcome : Outcome
  outcome = D.outcome tally t words coefs ss limit bw bc ww wc ow oc

  abbrev cmp : List ℕ → List ℕ → Ordering
  cmp = compare_in (order_of t.order) t.weights

  abbrev leads : List (Term (List ℕ))
  leads = by_exponents t (D.leads tally t words coefs ss limit bw bc ww wc ow oc)

  -- ---- a call that no opening check refuses
  module _ (none : D.opening tally t words coefs ss limit bw bc ww wc ow oc ≡ 0) where
    few : t.n ≤ 6
    few = (D.opened tally t words coefs ss limit bw bc ww wc ow oc none).n-high

    -- n exponents, each from 0 to 127
    abbrev Small : List ℕ → Type 0
    Small α = (length α ≡ t.n) × Below 128 α

    small : (ws : List (Term ℕ)) → All (λ u. Layout (order_of t.order) t.n t.weights u.mono) ws → All (λ u. Small u.mono) (by_exponents t ws)
    small =
        renamed-all (exponents (order_of t.order) t.n) (λ w. Layout (order_of t.order) t.n t.weights w) (λ u. Layout (order_of t.order) t.n t.weights u.mono) (λ u. Small u.mono)
        (λ u l. (length-exponents (order_of t.order) t.n u.mono few, exponents-small (order_of t.order) t.n t.weights u.mono few l))

    leads-small : All (λ u. Small u.mono) leads
    leads-small = small (D.leads tally t words coefs ss limit bw bc ww wc ow oc) (D.leads-words tally t words coefs ss limit bw bc ww wc ow oc none)

    O : TotalOrder (List ℕ) cmp
    O = exponents-order (order_of t.order) t.weights

    -- there are at most as many leads as monomials: they fall, so no two are the same
    pub leads-few : (D.outcome tally t words coefs ss limit bw bc ww wc ow oc).answer.finished ≤ 128 ^ t.n
    leads-few = subst (λ (k : ℕ). k ≤ 128 ^ t.n) (D.leads-count tally t words coefs ss limit bw bc ww wc ow oc none) (falling-few 128 t.n cmp O leads (D.leads-fall tally t words coefs ss limit bw bc ww wc ow oc none) leads-small)

    -- and where a further one is found, one less
    further : (u : Term (List ℕ)) → IsLead cmp t.p (held_in t outcome ∷ []) u → outcome.answer.finished < 128 ^ t.n
    further u l =
        let held_small : All (λ v. Small v.mono) (held_in t outcome) = small (held_at outcome.bw outcome.bc) (D.held-words tally t words coefs ss limit bw bc ww wc ow oc none) in
        let below : All (λ v. cmp v.mono u.mono ≡ Ordering.gt) leads = all_map {P = λ v. Under cmp v.mono (held_in t outcome)} {Q = λ v. cmp v.mono u.mono ≡ Ordering.gt} (λ v h. lead-among cmp O t.p (λ m. cmp v.mono m ≡ Ordering.gt) (held_in t outcome) u h l) leads (D.leads-over tally t words coefs ss limit bw bc ww wc ow oc none) in
        let all = falling-few 128 t.n cmp O (leads ++ u ∷ []) (falling-last cmp leads u (D.leads-fall tally t words coefs ss limit bw bc ww wc ow oc none) below) (all_append (λ v. Small v.mono) leads (u ∷ []) leads-small (lead-among cmp O t.p Small (held_in t outcome) u held_small l, tt)) in
        omega (arith, all, length-append leads (u ∷ []), D.leads-count tally t words coefs ss limit bw bc ww wc ow oc none)

    -- 13 asks for a limit below the number of monomials
    short-of : (k l : ℕ) (r : List (Term (List ℕ))) → l ≡ outcome.answer.finished → Ending cmp (chosen divides (divisors_in t words coefs ss)) quotient (over_exponents t) t.p (length ow) limit k l (dividend_in t words coefs ss) r (held_in t outcome ∷ []) → k ≡ 13 → limit < 128 ^ t.n
    short-of k l r same (first-too-many e h a b c) z = absurd (let q : ⊥ = omega (arith, e, z) in q)
    short-of k l r same (by-steps h (finished e a b c)) z = absurd (let q : ⊥ = omega (arith, e, z) in q)
    short-of k l r same (by-steps h (at-limit u e a b)) z = omega (arith, a, same, further u b)
    short-of k l r same (by-steps h (over u j g tail e a b c d)) z = absurd (let q : ⊥ = omega (arith, e, z) in q)
    short-of k l r same (by-steps h (too_many u j g tail e a b c d i)) z = absurd (let q : ⊥ = omega (arith, e, z) in q)
    short-of k l r same (by-steps h (no_place u e a b c d)) z = absurd (let q : ⊥ = omega (arith, e, z) in q)

    short : outcome.answer.number ≡ 13 → limit < 128 ^ t.n
    short z = short-of outcome.answer.number outcome.answer.finished (remainder_in t outcome) refl (D.demand-1-ending tally t words coefs ss limit bw bc ww wc ow oc none) z

    -- the division of polynomial 0 ends: as mathematics, without the engine's limits on exponents, terms and steps
    pub every-division : (k : ℕ) × (s : List (Term (List ℕ))) × DividesTo t (divisors_in t words coefs ss) k (dividend_in t words coefs ss) s
    every-division =
        let o = D.opened tally t words coefs ss limit bw bc ww wc ow oc none in
        division-ends cmp (chosen divides (divisors_in t words coefs ss)) quotient product t.p divides (divisors_in t words coefs ss) (chosen-choice divides (divisors_in t words coefs ss)) O (InVariables t) (exponent-operations (order_of t.order) t.n t.weights) o.prime
        (D.divisors-valid tally t words coefs ss limit bw bc ww wc ow oc none)
        (λ α i. order-ends (order_of t.order) t.n t.weights (weights-range t.n t.weights o.weights).1 (omega (arith, o.weights-six, o.n-high)) α i)
        (dividend_in t words coefs ss) (D.dividend-valid tally t words coefs ss limit bw bc ww wc ow oc none)

  -- ---- any call: no opening check gives 13
  past-opening : outcome.answer.number ≡ 13 → D.opening tally t words coefs ss limit bw bc ww wc ow oc ≡ 0
  past-opening z = by (D.opening tally t words coefs ss limit bw bc ww wc ow oc) refl
    where
      by : (k : ℕ) → D.opening tally t words coefs ss limit bw bc ww wc ow oc ≡ k → D.opening tally t words coefs ss limit bw bc ww wc ow oc ≡ 0
      by zero e = e
      by (suc k) e =
          absurd
          (one-of-not (0 ∷ 1 ∷ 2 ∷ 3 ∷ 4 ∷ 5 ∷ 6 ∷ 7 ∷ 8 ∷ 24 ∷ []) 13 (D.opening tally t words coefs ss limit bw bc ww wc ow oc) refl (reduction-numbers t words coefs ss limit (length bw) (length bc) (length ww) (length wc) (length ow) (length oc))
          (sym (D.refused-number tally t words coefs ss limit bw bc ww wc ow oc e) ∙ z))

  -- with a limit of all monomials in n variables, 128^n, the answer is never 13
  pub monomials-suffice : 128 ^ t.n ≤ limit → (D.outcome tally t words coefs ss limit bw bc ww wc ow oc).answer.number ≡ 13 → ⊥
  monomials-suffice h z = let s = short (past-opening z) z in omega (arith, h, s)

  -- "13 is never given with an allowed step limit of 4,398,046,511,104 (128 to the sixth) or more"; one that is not allowed gives 8
  pub limit-suffices : sufficient_steps ≤ limit → (D.outcome tally t words coefs ss limit bw bc ww wc ow oc).answer.number ≡ 13 → ⊥
  limit-suffices h z = monomials-suffice (le_trans (let m : 128 ^ t.n ≤ 128 ^ 6 = pow-le-pow_right (lit< tt) (few (past-opening z)) in m) h) z
