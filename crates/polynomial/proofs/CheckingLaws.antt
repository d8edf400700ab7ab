-- The opening check carried on from part to part: what it comes to, wherever a polynomial is cut. Over any kind of monomials, any judgement of a term and any comparison. Assumes nothing.
use mathlib.Core.Path.{◌≡◌, refl, sym, ap, ap₂, ◌∙◌}
use mathlib.Core.Bool.{Bool, true, false, ◌&&◌, and-false}
use mathlib.Core.List.{List, [], ◌∷◌, ◌++◌}
use mathlib.Core.Logic.{◌⊎◌, inl, inr}
use Prim.Native.Nat.{ℕ, zero, suc, ◌+◌, ◌<◌, ◌≤◌, zero-le, Ordering}
use native.Mathlib.Omega.{arith}
use lib.ListN.{length, take, drop, take-append-drop, drop_of_length-le}
use Rattle.monomial.specs.Exponents.{order_of}
use Rattle.monomial.specs.Words.{compare_words}
use Rattle.polynomial.specs.declared.check.Checking.{Checking}
use Rattle.polynomial.specs.declared.setting.Setting.{Setting}
use Rattle.polynomial.specs.Terms.{Term, terms}
use Rattle.refusal.specs.Table.{listed}
use Rattle.polynomial.specs.Opening.{first, term_by, term_refusal, terms_refusal, is_larger, fall, order_by, refusal_of, polynomial_refusal}
use Rattle.polynomial.specs.Checking.{Carried, unseen, verdict, order_next, late_after, one_more, carry_on, carry_over, together, carried_by, polynomial_on}
use Rattle.polynomial.proofs.TermLists.{terms-append}

-- the numbers after terms of which none is bad
abbrev pub good : {A : Type 0} → (late : ℕ) (seen : Bool) (last : A) → Carried A
good late seen last = record { stop = 0; late = late; seen = seen; last = last }

module _ {A : Type 0} (judge : Term A → ℕ) (cmp : A → A → Ordering) where
  -- ---- a cut
  pub carry-cut : (s : Carried A) (ts us : List (Term A)) → carry_on judge cmp s (ts ++ us) ≡ carry_on judge cmp (carry_on judge cmp s ts) us
  unfolding carry_on
  carry-cut s [] us = refl
  carry-cut s (t ∷ ts) us = carry-cut (one_more judge cmp s.stop s.late s.seen s.last t) ts us

  -- several cuts
  pub carry-parts : (s : Carried A) (parts : List (List (Term A))) → carry_over judge cmp s parts ≡ carry_on judge cmp s (together parts)
  unfolding carry_on carry_over together
  carry-parts s [] = refl
  carry-parts s (ts ∷ parts) = carry-parts (carry_on judge cmp s ts) parts ∙ sym (carry-cut s ts (together parts))

  -- ---- the whole
  -- after a bad term nothing is looked at
  carry-stopped : (r late : ℕ) (seen : Bool) (last : A) (ts : List (Term A)) → carry_on judge cmp (record { stop = suc r; late = late; seen = seen; last = last }) ts ≡ record { stop = suc r; late = late; seen = seen; last = last }
  unfolding carry_on
  carry-stopped r late seen last [] = refl
  carry-stopped r late seen last (t ∷ ts) = carry-stopped r late seen last ts

  pub stays-stopped : (s : Carried A) (ts : List (Term A)) → (s.stop ≡ 0 → ⊥) → s ≡ carry_on judge cmp s ts
  stays-stopped s ts f = by s.stop f
    where
      by : (r : ℕ) → (r ≡ 0 → ⊥) → ◌≡◌ {A = Carried A} (record { stop = r; late = s.late; seen = s.seen; last = s.last }) (carry_on judge cmp (record { stop = r; late = s.late; seen = s.seen; last = s.last }) ts)
      by zero g = absurd (g refl)
      by (suc r) g = sym (carry-stopped r s.late s.seen s.last ts)

  -- whether terms fall after the last monomial
  abbrev fall_from : (seen : Bool) (last : A) → List (Term A) → Bool
  fall_from false last ts = fall cmp ts
  fall_from true last [] = true
  fall_from true last (t ∷ ts) = is_larger (cmp last t.mono) && fall cmp (t ∷ ts)

  from_first : (t : Term A) (ts : List (Term A)) → fall_from true t.mono ts ≡ fall cmp (t ∷ ts)
  unfolding fall
  from_first t [] = refl
  from_first t (u ∷ ts) = refl

  next_both : (a b : Bool) (late : ℕ) → order_next b (order_next a late) ≡ order_next (a && b) late
  next_both true b late = refl
  next_both false true late = refl
  next_both false false late = refl

  after_one : (seen : Bool) (last : A) (t : Term A) (ts : List (Term A)) (late : ℕ) → order_next (fall_from true t.mono ts) (late_after cmp seen last t.mono late) ≡ order_next (fall_from seen last (t ∷ ts)) late
  after_one false last t ts late = ap (λ (b : Bool). order_next b late) (from_first t ts)
  after_one true last t ts late =
      ap (λ (b : Bool). order_next b (order_next (is_larger (cmp last t.mono)) late)) (from_first t ts)
      ∙ next_both (is_larger (cmp last t.mono)) (fall cmp (t ∷ ts)) late

  verdict-is : (late : ℕ) (seen : Bool) (last : A) (ts : List (Term A)) → verdict (carry_on judge cmp (good late seen last) ts) ≡ first (terms_refusal judge ts) (order_next (fall_from seen last ts) late)
  unfolding carry_on terms_refusal fall
  verdict-is late true last [] = refl
  verdict-is late false last [] = refl
  verdict-is late seen last (t ∷ ts) = by (judge t) (verdict-is (late_after cmp seen last t.mono late) true t.mono ts)
    where
      late' : ℕ
      late' = late_after cmp seen last t.mono late

      by : (r : ℕ) → verdict (carry_on judge cmp (good late' true t.mono) ts) ≡ first (terms_refusal judge ts) (order_next (fall_from true t.mono ts) late')
          → verdict (carry_on judge cmp (record { stop = r; late = late'; seen = true; last = t.mono }) ts) ≡ first (first r (terms_refusal judge ts)) (order_next (fall_from seen last (t ∷ ts)) late)
      by zero again = again ∙ ap (first (terms_refusal judge ts)) (after_one seen last t ts late)
      by (suc r) again = ap verdict (carry-stopped r late' true t.mono ts)

  next-none : (b : Bool) → order_next b 0 ≡ order_by b
  next-none true = refl
  next-none false = refl

  -- the pass over all terms gives the refusal, whatever stands as the last monomial before them
  pub carry-whole : (m : A) (ts : List (Term A)) → verdict (carry_on judge cmp (unseen m) ts) ≡ refusal_of judge cmp ts
  unfolding refusal_of
  carry-whole m ts = verdict-is 0 false m ts ∙ ap (first (terms_refusal judge ts)) (next-none (fall cmp ts))

  -- "Cut one anywhere: the check of its first part, carried on over the rest from a few numbers, gives the number that the whole gets."
  pub check-cut : (m : A) (k : ℕ) (ts : List (Term A)) → verdict (carry_on judge cmp (carry_on judge cmp (unseen m) (take k ts)) (drop k ts)) ≡ refusal_of judge cmp ts
  check-cut m k ts =
      ap verdict (sym (carry-cut (unseen m) (take k ts) (drop k ts)))
      ∙ (carry-whole m (take k ts ++ drop k ts)
      ∙ ap (refusal_of judge cmp) (take-append-drop k ts))

  -- the same for any parts, of any number
  pub check-parts : (m : A) (parts : List (List (Term A))) → verdict (carry_over judge cmp (unseen m) parts) ≡ refusal_of judge cmp (together parts)
  check-parts m parts = ap verdict (carry-parts (unseen m) parts) ∙ carry-whole m (together parts)

  -- ---- faults of the order, and bad terms
  good-first : (ts us : List (Term A)) → terms_refusal judge ts ≡ 0 → terms_refusal judge (ts ++ us) ≡ terms_refusal judge us
  unfolding terms_refusal
  good-first [] us h = refl
  good-first (t ∷ ts) us h = by (judge t) h (λ e. good-first ts us e)
    where
      by : (r : ℕ) → first r (terms_refusal judge ts) ≡ 0 → (terms_refusal judge ts ≡ 0 → terms_refusal judge (ts ++ us) ≡ terms_refusal judge us) → first r (terms_refusal judge (ts ++ us)) ≡ terms_refusal judge us
      by zero e again = again e
      by (suc r) e again = absurd (let z : ⊥ = omega arith in z)

  not-fall : (ts : List (Term A)) (t u : Term A) (us : List (Term A)) → is_larger (cmp t.mono u.mono) ≡ false → fall cmp (ts ++ (t ∷ (u ∷ us))) ≡ false
  unfolding fall
  not-fall [] t u us h = ap (λ (b : Bool). b && fall cmp (u ∷ us)) h
  not-fall (v ∷ []) t u us h = ap (λ (b : Bool). is_larger (cmp v.mono t.mono) && b) (ap (λ (b : Bool). b && fall cmp (u ∷ us)) h) ∙ and-false (is_larger (cmp v.mono t.mono))
  not-fall (v ∷ (w ∷ ts)) t u us h = ap (λ (b : Bool). is_larger (cmp v.mono w.mono) && b) (not-fall (w ∷ ts) t u us h) ∙ and-false (is_larger (cmp v.mono w.mono))

  -- two neighbours that do not fall, equal ones among them, give 6 where no term is bad, however the terms are cut
  pub cut-six : (m : A) (ts : List (Term A)) (t u : Term A) (us : List (Term A)) → is_larger (cmp t.mono u.mono) ≡ false → terms_refusal judge (ts ++ (t ∷ (u ∷ us))) ≡ 0
      → (parts : List (List (Term A))) → together parts ≡ ts ++ (t ∷ (u ∷ us)) → verdict (carry_over judge cmp (unseen m) parts) ≡ 6
  unfolding refusal_of
  cut-six m ts t u us h z parts e =
      check-parts m parts
      ∙ (ap (refusal_of judge cmp) e
      ∙ ap₂ (λ (r : ℕ) (b : Bool). first r (order_by b)) z (not-fall ts t u us h))

  -- a bad term is what counts, whatever the order of the terms before it
  pub late-bad : (ts : List (Term A)) (u : Term A) (us : List (Term A)) (r : ℕ) → terms_refusal judge ts ≡ 0 → judge u ≡ suc r → refusal_of judge cmp (ts ++ (u ∷ us)) ≡ suc r
  unfolding refusal_of terms_refusal
  late-bad ts u us r z e = ap (λ (k : ℕ). first k (order_by (fall cmp (ts ++ (u ∷ us))))) (good-first ts (u ∷ us) z ∙ ap (λ (k : ℕ). first k (terms_refusal judge us)) e)

-- ---- the code's numbers
-- what `check_on` returns for a further part of two slices, from what came of those before it, is what it returns for all of them; so for any number of parts, one after the other
pub slices-on : (t : Setting) (ws cs us ds : List ℕ) (a b : Checking) → length cs ≡ length ws
    → carried_by a ≡ polynomial_on t (unseen 0) (terms ws cs) → carried_by b ≡ polynomial_on t (carried_by a) (terms us ds)
    → carried_by b ≡ polynomial_on t (unseen 0) (terms (ws ++ us) (cs ++ ds))
slices-on t ws cs us ds a b long ea eb =
    eb
    ∙ (ap (λ (s : Carried ℕ). polynomial_on t s (terms us ds)) ea
    ∙ (sym (carry-cut (term_refusal (order_of t.order) t.n t.weights t.p) (compare_words (order_of t.order)) (unseen 0) (terms ws cs) (terms us ds))
    ∙ ap (polynomial_on t (unseen 0)) (terms-append ws cs us ds long)))

-- and its verdict is what `check` returns for the whole
pub slices-whole : (t : Setting) (ws cs : List ℕ) (a : Checking) → carried_by a ≡ polynomial_on t (unseen 0) (terms ws cs) → verdict (carried_by a) ≡ polynomial_refusal t (terms ws cs)
slices-whole t ws cs a e = ap (λ (s : Carried ℕ). verdict s) e ∙ carry-whole (term_refusal (order_of t.order) t.n t.weights t.p) (compare_words (order_of t.order)) 0 (terms ws cs)

-- ---- the numbers that can come
-- the number for the order stays as it is, or becomes 6
module _ {A : Type 0} (judge : Term A → ℕ) (cmp : A → A → Ordering) where
  late-stays : (s : Carried A) (ts : List (Term A)) → ((carry_on judge cmp s ts).late ≡ s.late) ⊎ ((carry_on judge cmp s ts).late ≡ 6)
  unfolding carry_on
  late-stays s [] = inl refl
  late-stays s (t ∷ ts) = by s.stop s.seen (is_larger (cmp s.last t.mono)) refl (λ u. late-stays u ts)
    where
      by : (r : ℕ) (seen : Bool) (b : Bool) → is_larger (cmp s.last t.mono) ≡ b → ((u : Carried A) → ((carry_on judge cmp u ts).late ≡ u.late) ⊎ ((carry_on judge cmp u ts).late ≡ 6)) → ((carry_on judge cmp (one_more judge cmp r s.late seen s.last t) ts).late ≡ s.late) ⊎ ((carry_on judge cmp (one_more judge cmp r s.late seen s.last t) ts).late ≡ 6)
      by (suc r) seen b e again = again (record { stop = suc r; late = s.late; seen = seen; last = s.last })
      by zero false b e again = again (record { stop = judge t; late = s.late; seen = true; last = t.mono })
      by zero true true e again = rw e (again (record { stop = judge t; late = s.late; seen = true; last = t.mono }))
      by zero true false e again = rw e (six (again (record { stop = judge t; late = 6; seen = true; last = t.mono })))
        where
          six : {k l : ℕ} → (k ≡ 6) ⊎ (k ≡ 6) → (k ≡ l) ⊎ (k ≡ 6)
          six (inl q) = inr q
          six (inr q) = inr q

  -- so from 0 it is 0 or 6
  pub late-either : (from : Carried A) (ts : List (Term A)) → from.late ≡ 0 → ((carry_on judge cmp from ts).late ≡ 0) ⊎ ((carry_on judge cmp from ts).late ≡ 6)
  late-either from ts z = by (late-stays from ts)
    where
      by : {k : ℕ} → (k ≡ from.late) ⊎ (k ≡ 6) → (k ≡ 0) ⊎ (k ≡ 6)
      by (inl q) = inl (q ∙ z)
      by (inr q) = inr q

  pub late-six : (from : Carried A) (ts : List (Term A)) → from.late ≡ 0 → ((carry_on judge cmp from ts).late ≡ 0 → ⊥) → (carry_on judge cmp from ts).late ≡ 6
  late-six from ts z f = by (late-either from ts z)
    where
      by : ((carry_on judge cmp from ts).late ≡ 0) ⊎ ((carry_on judge cmp from ts).late ≡ 6) → (carry_on judge cmp from ts).late ≡ 6
      by (inl q) = absurd (f q)
      by (inr q) = q

-- the number of a polynomial is that of a refusal, where it is not 0
term-listed : (a b : Bool) → (term_by a b ≡ 0 → ⊥) → listed (term_by a b) ≡ true
unfolding listed
term-listed false b f = refl
term-listed true false f = refl
term-listed true true f = absurd (f refl)

terms-listed : {A : Type 0} (judge : Term A → ℕ) → ((t : Term A) → (judge t ≡ 0 → ⊥) → listed (judge t) ≡ true) → (ts : List (Term A)) → (terms_refusal judge ts ≡ 0 → ⊥) → listed (terms_refusal judge ts) ≡ true
unfolding terms_refusal
terms-listed judge l [] f = absurd (f refl)
terms-listed judge l (t ∷ ts) f = by (judge t) (l t) (terms-listed judge l ts) f
  where
    by : (r : ℕ) → ((r ≡ 0 → ⊥) → listed r ≡ true) → ((terms_refusal judge ts ≡ 0 → ⊥) → listed (terms_refusal judge ts) ≡ true) → (first r (terms_refusal judge ts) ≡ 0 → ⊥) → listed (first r (terms_refusal judge ts)) ≡ true
    by zero k again h = again h
    by (suc r) k again h = k h

pub polynomial-listed : (t : Setting) (ts : List (Term ℕ)) → (polynomial_refusal t ts ≡ 0 → ⊥) → listed (polynomial_refusal t ts) ≡ true
unfolding refusal_of listed
polynomial-listed t ts f = by (terms_refusal judge ts) (fall (compare_words (order_of t.order)) ts) (terms-listed judge (λ u. term-listed _ _) ts) f
  where
    judge : Term ℕ → ℕ
    judge u = term_refusal (order_of t.order) t.n t.weights t.p u

    by : (r : ℕ) (b : Bool) → ((r ≡ 0 → ⊥) → listed r ≡ true) → (first r (order_by b) ≡ 0 → ⊥) → listed (first r (order_by b)) ≡ true
    by zero true l h = absurd (h refl)
    by zero false l h = refl
    by (suc r) b l h = l h

-- ---- the steps of the code
-- the check carried on over the whole, from where no term has come
pub whole : (t : Setting) (ws cs : List ℕ) {u a : Checking} {n : ℕ} → carried_by u ≡ unseen 0 → carried_by a ≡ polynomial_on t (carried_by u) (terms ws cs) → n ≡ verdict (carried_by a) → n ≡ polynomial_refusal t (terms ws cs)
whole t ws cs {a = a} eu ea en = en ∙ slices-whole t ws cs a (ea ∙ ap (λ (s : Carried ℕ). polynomial_on t s (terms ws cs)) eu)

pub good-is : (s : Carried ℕ) → s.stop ≡ 0 → good s.late s.seen s.last ≡ s
good-is s h = ap (λ (r : ℕ). record { stop = r; late = s.late; seen = s.seen; last = s.last }) (sym h)

pub stop-first : (stop late : ℕ) → (stop ≡ 0 → ⊥) → stop ≡ first stop late
stop-first zero late f = absurd (f refl)
stop-first (suc r) late f = refl

-- ---- a loop over the terms: i of them are looked at, none of them is bad, and these are the numbers
pub record Looked {A : Type 0} (judge : Term A → ℕ) (cmp : A → A → Ordering) (from : Carried A) (ts : List (Term A)) (i late : ℕ) (seen : Bool) (last : A) : Type 0 where
  pub low : i ≤ length ts
  pub rest : carry_on judge cmp (good late seen last) (drop i ts) ≡ carry_on judge cmp from ts

module _ {A : Type 0} (judge : Term A → ℕ) (cmp : A → A → Ordering) where
  pub look-start : (late : ℕ) (seen : Bool) (last : A) (ts : List (Term A)) → Looked judge cmp (good late seen last) ts 0 late seen last
  look-start late seen last ts = record { low = zero-le; rest = refl }

  module _ (from : Carried A) (ts : List (Term A)) (i late : ℕ) (seen : Bool) (last : A) (l : Looked judge cmp from ts i late seen last) where
    pub look-ends : length ts ≤ i → ◌≡◌ {A = Carried A} (good late seen last) (carry_on judge cmp from ts)
    unfolding carry_on
    look-ends h = sym (ap (carry_on judge cmp (good late seen last)) (drop_of_length-le ts {i = i} h)) ∙ l.rest

    module _ (inside : i < length ts) (t : Term A) (lead : drop i ts ≡ t ∷ drop (i + 1) ts) (r late' : ℕ) (e : r ≡ judge t) (q : late' ≡ late_after cmp seen last t.mono late) where
      at-term : carry_on judge cmp (record { stop = r; late = late'; seen = true; last = t.mono }) (drop (i + 1) ts) ≡ carry_on judge cmp from ts
      unfolding carry_on
      at-term =
          ap₂ (λ (k l : ℕ). carry_on judge cmp (record { stop = k; late = l; seen = true; last = t.mono }) (drop (i + 1) ts)) e q
          ∙ (sym (ap (carry_on judge cmp (good late seen last)) lead) ∙ l.rest)

      pub look_stop : (r ≡ 0 → ⊥) → ◌≡◌ {A = Carried A} (record { stop = r; late = late'; seen = true; last = t.mono }) (carry_on judge cmp from ts)
      look_stop f = stays-stopped judge cmp (record { stop = r; late = late'; seen = true; last = t.mono }) (drop (i + 1) ts) f ∙ at-term

      pub look-next : r ≡ 0 → Looked judge cmp from ts (i + 1) late' true t.mono
      look-next z = record {
        low = omega arith;
        rest = sym (ap (λ (k : ℕ). carry_on judge cmp (record { stop = k; late = late'; seen = true; last = t.mono }) (drop (i + 1) ts)) z) ∙ at-term;
      }
