-- The opening check of a polynomial: what its steps come to, and what a polynomial that passes it is. Assumes nothing.
use mathlib.Core.Path.{◌≡◌, refl, sym, ap, ap₂, ◌∙◌}
use mathlib.Core.Bool.{Bool, true, false, ◌&&◌}
use mathlib.Core.List.{List, [], ◌∷◌}
use Prim.Native.Nat.{ℕ, zero, suc, ◌≤◌, compare, Ordering}
use native.Mathlib.Omega.{arith}
use borrow.Author.Tests.{lt-ltb, le-ltb, ltb-true}
use lib.Dec.{ltb}
use Rattle.monomial.specs.declared.order.Order.{Order}
use Rattle.monomial.specs.Layout.{Layout, in_layout}
use Rattle.monomial.specs.TotalOrder.{TotalOrder}
use Rattle.monomial.specs.Words.{compare_words}
use Rattle.monomial.proofs.Comparing.{Tri, less, same, more, tri}
use Rattle.monomial.proofs.OrderLaws.{words-order}
use Rattle.monomial.proofs.LayoutLaws.{test-layout}
use Rattle.monomial.proofs.Places.{and_both}
use Rattle.polynomial.specs.Terms.{Term, All, Reduced, Falling, Canonical}
use Rattle.polynomial.specs.Opening.{first, term_by, term_refusal, terms_refusal, is_larger, fall, order_by, refusal_of}
use Rattle.polynomial.proofs.MergeLaws.{under_more}

-- ---- the order of two neighbours
pub larger-number : (a b : ℕ) → is_larger (compare a b) ≡ ltb b a
larger-number a b = go (tri a b)
  where
    go : Tri a b → is_larger (compare a b) ≡ ltb b a
    go (less k e) = ap is_larger e ∙ sym (le-ltb b a (let l : a ≤ b = omega arith in l))
    go (same k e) = ap is_larger e ∙ sym (le-ltb b a (let l : a ≤ b = omega arith in l))
    go (more k e) = ap is_larger e ∙ sym (lt-ltb b a k)

-- ---- a polynomial that passes
larger-gt : (t : Ordering) → is_larger t ≡ true → t ≡ Ordering.gt
larger-gt Ordering.lt h = let z : ◌≡◌ {A = ℕ} 0 1 = cc in absurd (let q : ⊥ = omega arith in q)
larger-gt Ordering.eq h = let z : ◌≡◌ {A = ℕ} 0 1 = cc in absurd (let q : ⊥ = omega arith in q)
larger-gt Ordering.gt h = refl

-- the test of neighbours is the statement on all terms
pub fall-falling : {A : Type 0} (cmp : A → A → Ordering) → TotalOrder A cmp → (ts : List (Term A)) → fall cmp ts ≡ true → Falling cmp ts
unfolding fall
fall-falling cmp O [] h = tt
fall-falling cmp O (t ∷ []) h = (tt, tt)
fall-falling cmp O (t ∷ (u ∷ ts)) h =
    let e = and_both (is_larger (cmp t.mono u.mono)) (fall cmp (u ∷ ts)) h in
    let g = larger-gt (cmp t.mono u.mono) e.0 in
    let f = fall-falling cmp O (u ∷ ts) e.1 in
    ((g, under_more cmp O t.mono u.mono g ts f.0), f)

pub falling-fall : {A : Type 0} (cmp : A → A → Ordering) (ts : List (Term A)) → Falling cmp ts → fall cmp ts ≡ true
unfolding fall
falling-fall cmp [] f = refl
falling-fall cmp (t ∷ []) f = refl
falling-fall cmp (t ∷ (u ∷ ts)) f = ap₂ ◌&&◌ (ap is_larger f.0.0) (falling-fall cmp (u ∷ ts) f.1)

pub first-none : (r k : ℕ) → first r k ≡ 0 → (r ≡ 0) × (k ≡ 0)
first-none zero k h = (refl, h)
first-none (suc r) k h = absurd (let z : ⊥ = omega arith in z)

by-none : (c w : Bool) → term_by c w ≡ 0 → (c ≡ true) × (w ≡ true)
by-none false w h = absurd (let z : ⊥ = omega arith in z)
by-none true false h = absurd (let z : ⊥ = omega arith in z)
by-none true true h = (refl, refl)

order-none : (b : Bool) → order_by b ≡ 0 → b ≡ true
order-none true h = refl
order-none false h = absurd (let z : ⊥ = omega arith in z)

terms-pass : (o : Order) (n : ℕ) (vs : List ℕ) (p : ℕ) (ts : List (Term ℕ)) → terms_refusal (term_refusal o n vs p) ts ≡ 0 → Reduced p ts × All (λ t. Layout o n vs t.mono) ts
unfolding terms_refusal
terms-pass o n vs p [] h = (tt, tt)
terms-pass o n vs p (t ∷ ts) h =
    let a = first-none (term_refusal o n vs p t) (terms_refusal (term_refusal o n vs p) ts) h in
    let b = by-none (ltb 0 t.coef && ltb t.coef p) (in_layout o n vs t.mono) a.0 in
    let c = and_both (ltb 0 t.coef) (ltb t.coef p) b.0 in
    let r = terms-pass o n vs p ts a.1 in
    (((ltb-true 0 t.coef c.0, ltb-true t.coef p c.1), r.0), (test-layout o n vs t.mono b.1, r.1))

-- a polynomial that no refusal meets is canonical, and its words are of the layout
pub passes : (o : Order) (n : ℕ) (vs : List ℕ) (p : ℕ) (ts : List (Term ℕ)) → refusal_of (term_refusal o n vs p) (compare_words o) ts ≡ 0 → Canonical (compare_words o) p ts × All (λ t. Layout o n vs t.mono) ts
unfolding refusal_of
passes o n vs p ts h =
    let a = first-none (terms_refusal (term_refusal o n vs p) ts) (order_by (fall (compare_words o) ts)) h in
    let b = terms-pass o n vs p ts a.0 in
    (record { falling = fall-falling (compare_words o) (words-order o) ts (order-none (fall (compare_words o) ts) a.1); reduced = b.0 }, b.1)
