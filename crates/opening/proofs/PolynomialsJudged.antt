-- The refusal of a polynomial, and of polynomials in turn, is the number of the first of their conditions that does not hold. Assumes nothing.
use mathlib.Core.Path.{◌≡◌, refl, sym, ap, ◌∙◌, subst}
use mathlib.Core.Bool.{Bool, true, false, ◌&&◌}
use mathlib.Core.List.{List, [], ◌∷◌}
use mathlib.Core.Logic.{inl, inr}
use Prim.Native.Nat.{ℕ, zero, suc, ◌+◌, ◌-◌, ◌≤◌, Ordering}
use native.Mathlib.Nat.{add-zero}
use native.Mathlib.Omega.{arith}
use borrow.Author.Tests.{lt-ltb, ltb-true}
use lib.Dec.{ltb}
use lib.ListN.{length}
use Rattle.refusal.specs.Judgement.{Judged, AllHold, Counted, condition}
use Rattle.refusal.proofs.JudgementLaws.{counted-then}
use Rattle.conditions.proofs.Tests.{both, clash}
use Rattle.monomial.specs.Exponents.{order_of}
use Rattle.monomial.specs.Layout.{Below, Layout, in_layout}
use Rattle.monomial.specs.Words.{compare_words}
use Rattle.monomial.proofs.KeyLaws.{compare-layout}
use Rattle.monomial.proofs.LayoutLaws.{layout-test, test-layout}
use Rattle.monomial.proofs.OrderLaws.{words-order}
use Rattle.monomial.proofs.Places.{and_both}
use Rattle.polynomial.specs.declared.setting.Setting.{Setting}
use Rattle.polynomial.specs.Terms.{Term, terms, All, Under, Falling}
use Rattle.polynomial.specs.Opening.{part_of, first, term_by, term_refusal, terms_refusal, fall, order_by, refusal_of, polynomial_refusal}
use Rattle.polynomial.proofs.OpeningLaws.{fall-falling, falling-fall}
use Rattle.opening.specs.Run.{refusal_at, refusal_from, polynomials_refusal}
use Rattle.opening.specs.Judgement.{by_exponents, GoodCoef, GoodWord, GoodOrder, places_conditions, polynomial_conditions, conditions_below, polynomials_conditions}
use Rattle.opening.proofs.Judging.{judged-first}

-- ---- falling by words, and by exponents
module _ (cmp cmp' : ℕ → ℕ → Ordering) (Is : ℕ → Type 0) (agree : (a b : ℕ) → Is a → Is b → cmp' a b ≡ cmp a b) where
  under-agrees : (m : ℕ) → Is m → (us : List (Term ℕ)) → All (λ u. Is u.mono) us → Under cmp m us → Under cmp' m us
  under-agrees m i [] a u = tt
  under-agrees m i (x ∷ us) a u = (agree m x.mono i a.0 ∙ u.0, under-agrees m i us a.1 u.1)

  falling-agrees : (us : List (Term ℕ)) → All (λ u. Is u.mono) us → Falling cmp us → Falling cmp' us
  falling-agrees [] a f = tt
  falling-agrees (x ∷ us) a f = (under-agrees x.mono a.0 us a.1 f.0, falling-agrees us a.1 f.1)

module _ (t : Setting) where
  -- ---- 4 and 5
  coef-good : (u : Term ℕ) → (ltb 0 u.coef && ltb u.coef t.p) ≡ true → GoodCoef t u
  coef-good u e = let b = and_both (ltb 0 u.coef) (ltb u.coef t.p) e in (ltb-true 0 u.coef b.0, ltb-true u.coef t.p b.1)

  good-coef : (u : Term ℕ) → GoodCoef t u → (ltb 0 u.coef && ltb u.coef t.p) ≡ true
  good-coef u g = both (ltb 0 u.coef) (ltb u.coef t.p) (lt-ltb 0 u.coef g.0) (lt-ltb u.coef t.p g.1)

  pub places-judged : (us : List (Term ℕ)) → Judged (places_conditions t us) (terms_refusal (term_refusal (order_of t.order) t.n t.weights t.p) us)
  unfolding terms_refusal
  places-judged [] = refl
  places-judged (u ∷ us) = by (ltb 0 u.coef && ltb u.coef t.p) (in_layout (order_of t.order) t.n t.weights u.mono) refl refl (terms_refusal (term_refusal (order_of t.order) t.n t.weights t.p) us) (places-judged us)
    where
      by : (a b : Bool) → (ltb 0 u.coef && ltb u.coef t.p) ≡ a → in_layout (order_of t.order) t.n t.weights u.mono ≡ b → (r : ℕ) → Judged (places_conditions t us) r → Judged (places_conditions t (u ∷ us)) (first (term_by a b) r)
      by false b e f r j = inl ((λ g. clash e (good-coef u g)), refl)
      by true false e f r j = inr (coef-good u e, inl ((λ g. clash f (layout-test (order_of t.order) t.n t.weights u.mono g)), refl))
      by true true e f r j = inr (coef-good u e, inr (test-layout (order_of t.order) t.n t.weights u.mono f, j))

  places-counted : (us : List (Term ℕ)) → Counted (places_conditions t us)
  places-counted [] = tt
  places-counted (u ∷ us) = (omega arith, (omega arith, places-counted us))

  words-good : (us : List (Term ℕ)) → AllHold (places_conditions t us) → All (λ u. GoodWord t u) us
  words-good [] a = tt
  words-good (u ∷ us) a = (a.1.0, words-good us a.1.1)

  pub polynomial-counted : (us : List (Term ℕ)) → Counted (polynomial_conditions t us)
  polynomial-counted us = counted-then (places_conditions t us) (condition 6 (GoodOrder t us) ∷ []) (places-counted us) (omega arith, tt)

  module _ (few : t.n ≤ 6) (small : Below 17 t.weights) where
    -- ---- 6
    module _ (us : List (Term ℕ)) (a : All (λ u. GoodWord t u) us) where
      order-good : fall (compare_words (order_of t.order)) us ≡ true → GoodOrder t us
      order-good e =
          let o = order_of t.order in
          falling-agrees (compare_words o) (by_exponents o t.n t.weights) (λ w. Layout o t.n t.weights w) (λ x y i j. sym (compare-layout o t.n t.weights x y few small i j)) us a
          (fall-falling (compare_words o) (words-order o) us e)

      good-order : GoodOrder t us → fall (compare_words (order_of t.order)) us ≡ true
      good-order g =
          let o = order_of t.order in
          falling-fall (compare_words o) us
          (falling-agrees (by_exponents o t.n t.weights) (compare_words o) (λ w. Layout o t.n t.weights w) (λ x y i j. compare-layout o t.n t.weights x y few small i j) us a g)

      order-judged : (b : Bool) → fall (compare_words (order_of t.order)) us ≡ b → Judged (condition 6 (GoodOrder t us) ∷ []) (order_by b)
      order-judged true e = inr (order-good e, refl)
      order-judged false e = inl ((λ g. clash e (good-order g)), refl)

    pub polynomial-judged : (us : List (Term ℕ)) → Judged (polynomial_conditions t us) (polynomial_refusal t us)
    unfolding refusal_of
    polynomial-judged us =
        let falls = fall (compare_words (order_of t.order)) us in
        judged-first (places_conditions t us) (condition 6 (GoodOrder t us) ∷ []) (terms_refusal (term_refusal (order_of t.order) t.n t.weights t.p) us) (order_by falls) (places-counted us) (places-judged us)
        (λ a. order-judged us (words-good us a) falls refl)

-- ---- one polynomial after the other
pub first-zero : (r : ℕ) → first r 0 ≡ r
first-zero zero = refl
first-zero (suc r) = refl

first-first : (r s q : ℕ) → first r (first s q) ≡ first (first r s) q
first-first zero s q = refl
first-first (suc r) s q = refl

module _ (t : Setting) (words coefs ss : List ℕ) where
  -- the last polynomial taken apart
  from_last : (more k : ℕ) → refusal_from t words coefs ss (suc more) k ≡ first (refusal_from t words coefs ss more k) (refusal_at t words coefs ss (k + more))
  unfolding refusal_from
  from_last zero k = first-zero (refusal_at t words coefs ss k) ∙ ap (refusal_at t words coefs ss) (sym (add-zero k))
  from_last (suc more) k =
      ap (first (refusal_at t words coefs ss k)) (from_last more (k + 1) ∙ ap (λ (j : ℕ). first (refusal_from t words coefs ss more (k + 1)) (refusal_at t words coefs ss j)) (let e : k + 1 + more ≡ k + suc more = omega arith in e))
      ∙ first-first (refusal_at t words coefs ss k) (refusal_from t words coefs ss more (k + 1)) (refusal_at t words coefs ss (k + suc more))

  below-counted : (k : ℕ) → Counted (conditions_below t words coefs ss k)
  below-counted zero = tt
  below-counted (suc k) = counted-then (conditions_below t words coefs ss k) (polynomial_conditions t (terms (part_of ss k words) (part_of ss k coefs))) (below-counted k) (polynomial-counted t (terms (part_of ss k words) (part_of ss k coefs)))

  pub polynomials-counted : Counted (polynomials_conditions t words coefs ss)
  polynomials-counted = below-counted (length ss - 1)

  module _ (few : t.n ≤ 6) (small : Below 17 t.weights) where
    below-judged : (k : ℕ) → Judged (conditions_below t words coefs ss k) (refusal_from t words coefs ss k 0)
    unfolding refusal_from
    below-judged zero = refl
    below-judged (suc k) =
        let us = terms (part_of ss k words) (part_of ss k coefs) in
        subst (λ (r : ℕ). Judged (conditions_below t words coefs ss (suc k)) r)
        (ap (λ (j : ℕ). first (refusal_from t words coefs ss k 0) (refusal_at t words coefs ss j)) (let e : k ≡ 0 + k = omega arith in e) ∙ sym (from_last k 0))
        (judged-first (conditions_below t words coefs ss k) (polynomial_conditions t us) (refusal_from t words coefs ss k 0) (polynomial_refusal t us) (below-counted k) (below-judged k) (λ a. polynomial-judged t few small us))

    pub polynomials-judged : Judged (polynomials_conditions t words coefs ss) (polynomials_refusal t words coefs ss)
    polynomials-judged = below-judged (length ss - 1)
