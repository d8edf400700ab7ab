-- What a reduction of words means, by exponents, as document 000 orders, multiplies and divides monomials. No product is too large there, and a word cannot stand for a monomial of another kind. Assumes nothing.
use mathlib.Core.Path.{◌≡◌, refl, sym, ap, ◌∙◌, subst}
use mathlib.Core.Bool.{false, not}
use mathlib.Core.List.{List, [], ◌∷◌, ◌++◌, map, append-nil}
use Prim.Native.Nat.{ℕ, zero, suc, ◌+◌, ◌-◌, ◌%◌, ◌<◌, ◌≤◌, Ordering}
use native.Mathlib.Nat.{zero-mod}
use native.Mathlib.Omega.{arith}
use lib.ListN.{length}
use Rattle.limits.specs.Limits.{most_terms}
use Rattle.monomial.specs.declared.order.Order.{Order}
use Rattle.monomial.specs.Exponents.{divides, quotient, product, compare_in}
use Rattle.monomial.specs.Layout.{exponents, below, Layout}
use Rattle.monomial.specs.Words.{compare_words, divides_word}
use Rattle.monomial.proofs.LayoutLaws.{length-exponents}
use Rattle.monomial.proofs.OrderLaws.{exponents-order, words-order}
use Rattle.polynomial.specs.Terms.{Term, term, All, Falling, total, coef_at, Same, Canonical}
use Rattle.polynomial.proofs.CoefLaws.{total-nil, canonical-unique}
use Rattle.geobucket.specs.Buckets.{full_sum}
use Rattle.geobucket.specs.TrueSum.{sum_at, IsLead}
use Rattle.geobucket.proofs.LeadLaws.{sum-right}
use Rattle.division.specs.Choice.{Fit, unfit, chosen}
use Rattle.division.specs.Division.{Division}
use Rattle.division.specs.Steps.{Reduction, over_word, reduction_of_words}
use Rattle.division.specs.Divisors.{Undivided}
use Rattle.division.specs.Ending.{Stopping, finished, at-limit, over, too_many, no_place, Ending, first-too-many, by-steps}
use Rattle.division.specs.InExponents.{in_exponents}
use Rattle.division.specs.Combination.{Combination, LeadsOf}
use Rattle.division.proofs.DivisionLaws.{division-unique, leads-unique}
use Rattle.division.proofs.HeldTerms.{sum-each}
use Rattle.division.proofs.TailLaws.{DividedStep, all-zip}
use Rattle.division.proofs.FitLaws.{Sound, choice-sound, chosen-choice}
use Rattle.division.proofs.WordOperations.{word-operations, words-agree, over-exponents, all-exponents}
use Rattle.division.proofs.ExponentOperations.{exponent-operations}
use Rattle.division.proofs.Renaming.{fit_renamed, canonical-renamed, chosen-renamed, renamed_step}
use Rattle.division.proofs.RenamedEndings.{OneList, renamed-long, renamed-all, same-renamed, ending-renamed}
use Rattle.division.proofs.Endings.{by_first}
use Rattle.division.proofs.Dividing.{reduction-follows, finished-follows}
use Rattle.division.proofs.Combining.{combination-same, combination-kept, combination-divided}
use Rattle.division.proofs.AnyDivision.{division-none, division-kept, division-divided, leads-none, leads-kept, leads-divided}
use Rattle.division.proofs.Remaining.{Begins, begins-none, begins-kept, begins-divided}
use Rattle.division.proofs.Reductions.{Given}
use Rattle.division.proofs.Reductions as W

module _ {o : Order} {n : ℕ} {vs : List ℕ} {p : ℕ} {gs : List (List (Term ℕ))} {f : List (Term ℕ)} (given : Given o n vs p gs f) (places limit : ℕ) where
  abbrev cmp : ℕ → ℕ → Ordering
  cmp = compare_words o

  abbrev Is : ℕ → Type 0
  Is w = Layout o n vs w

  abbrev reduced : Reduction ℕ
  reduced = reduction_of_words o p gs places limit f

  abbrev choose : ℕ → Fit ℕ
  choose = chosen divides_word gs

  -- what the buckets hold at the end, as one polynomial
  abbrev whole : List (Term ℕ)
  whole = full_sum (compare_words o) p (reduction_of_words o p gs places limit f).work.buckets

  -- ---- by exponents
  abbrev E : List (Term ℕ) → List (Term (List ℕ))
  E ts = in_exponents o n ts

  abbrev G : List (List (Term (List ℕ)))
  G = map (in_exponents o n) gs

  abbrev Divided : (k : ℕ) → (g r : List (Term (List ℕ))) → Type 0
  Divided k g r = Division (compare_in o vs) (chosen divides (map (in_exponents o n) gs)) quotient product p k g r

  abbrev Combined : (g r : List (Term (List ℕ))) → Type 0
  Combined g r = Combination (compare_in o vs) product (λ α. length α ≡ n) p (map (in_exponents o n) gs) g r

  abbrev Removes : (k : ℕ) → (g ls : List (Term (List ℕ))) → Type 0
  Removes k g ls = LeadsOf (compare_in o vs) (chosen divides (map (in_exponents o n) gs)) quotient product p k g ls

  pos : 0 < p
  pos = omega (arith, given.prime.above)

  sound : Sound (compare_words o) p (λ w. Layout o n vs w) divides_word (chosen divides_word gs)
  sound = choice-sound cmp p Is divides_word gs given.divisors choose (chosen-choice divides_word gs)

  same : (w : ℕ) → Layout o n vs w → chosen divides (map (in_exponents o n) gs) (exponents o n w) ≡ fit_renamed (exponents o n) (λ w. Layout o n vs w) (chosen divides_word gs w)
  same = chosen-renamed (exponents o n) Is cmp divides_word ◌-◌ ◌+◌ (compare_in o vs) divides quotient product (words-agree o n vs given.few given.small) p gs given.divisors

  unfit-of : (w : ℕ) → Layout o n vs w → chosen divides_word gs w ≡ unfit → chosen divides (map (in_exponents o n) gs) (exponents o n w) ≡ unfit
  unfit-of w l e = same w l ∙ ap (fit_renamed (exponents o n) Is) e

  step_of : (t : Term ℕ) (ts : List (Term ℕ)) (g : Term ℕ) (tail h : List (Term ℕ)) → DividedStep (compare_words o) (chosen divides_word gs) ◌-◌ ◌+◌ over_word (λ w. Layout o n vs w) p t ts g tail h
      → DividedStep (compare_in o vs) (chosen divides (map (in_exponents o n) gs)) quotient product (λ a b. false) (λ α. length α ≡ n) p (term (exponents o n t.mono) t.coef) (in_exponents o n ts) (term (exponents o n g.mono) g.coef) (in_exponents o n tail) (in_exponents o n h)
  step_of = renamed_step (exponents o n) Is cmp divides_word ◌-◌ ◌+◌ (compare_in o vs) divides quotient product (words-agree o n vs given.few given.small) (words-order o) (exponents-order o vs) over_word (word-operations o n vs given.few given.small) p given.prime choose sound (chosen divides G) same (λ α. length α ≡ n) (λ w l. length-exponents o n w given.few)

  -- ---- a reduction follows the division algorithm on exponents, for any relation that a step of it keeps; R k g r ls: k steps divide g, leave r and remove the leads ls
  module _
      (R : (k : ℕ) → (g r ls : List (Term (List ℕ))) → Type 0)
      (kept : (k : ℕ) (t : Term (List ℕ)) (ts s ks : List (Term (List ℕ))) → chosen divides (map (in_exponents o n) gs) t.mono ≡ unfit → R k ts s ks → R (suc k) (t ∷ ts) (t ∷ s) (t ∷ ks))
      (divided : (k : ℕ) (t : Term (List ℕ)) (ts s ks : List (Term (List ℕ))) (g : Term (List ℕ)) (tail h : List (Term (List ℕ))) → DividedStep (compare_in o vs) (chosen divides (map (in_exponents o n) gs)) quotient product (λ a b. false) (λ α. length α ≡ n) p t ts g tail h → R k h s ks → R (suc k) (t ∷ ts) s (t ∷ ks)) where
    abbrev one : Term ℕ → Term (List ℕ)
    one t = term (exponents o n t.mono) t.coef

    follows : length f ≤ most_terms → (i : ℕ) (s ks : List (Term (List ℕ))) → R i (E whole) s ks → R (reduced.leads + i) (E f) (E reduced.remainder ++ s) (E reduced.work.given ++ ks)
    follows h i s ks r =
        subst (λ (j : ℕ). R j (E f) (E reduced.remainder ++ s) (E reduced.work.given ++ ks)) (let e : reduced.leads + 0 + i ≡ reduced.leads + i = omega arith in e)
        (subst (λ (u : List (Term ℕ)). R (reduced.leads + 0 + i) (E f) (E u ++ s) (E reduced.work.given ++ ks)) (append-nil reduced.remainder)
        (subst (λ (u : List (Term ℕ)). R (reduced.leads + 0 + i) (E f) (E (reduced.remainder ++ []) ++ s) (E u ++ ks)) (append-nil reduced.work.given)
        (reduction-follows cmp (words-order o) divides_word ◌-◌ ◌+◌ over_word Is (word-operations o n vs given.few given.small) p given.prime choose sound places (λ k g u ls. R (k + i) (E g) (E u ++ s) (E ls ++ ks))
        (λ k t ts u us l e d. subst (λ (j : ℕ). R j (E (t ∷ ts)) (E (t ∷ u) ++ s) (E (t ∷ us) ++ ks)) (let q : suc (k + i) ≡ suc k + i = omega arith in q) (kept (k + i) (one t) (E ts) (E u ++ s) (E us ++ ks) (unfit-of t.mono l e) d))
        (λ k t ts u us g tail w a d. subst (λ (j : ℕ). R j (E (t ∷ ts)) (E u ++ s) (E (t ∷ us) ++ ks)) (let q : suc (k + i) ≡ suc k + i = omega arith in q) (divided (k + i) (one t) (E ts) (E u ++ s) (E us ++ ks) (one g) (E tail) (E w) (step_of t ts g tail w a) d))
        limit f given.valid h 0 [] [] (subst (λ (j : ℕ). R j (E whole) s ks) (let q : i ≡ 0 + i = omega arith in q) r))))

    follows-all : R 0 [] [] [] → reduced.stop ≡ 0 → R reduced.leads (E f) (E reduced.remainder) (E reduced.work.given)
    follows-all =
        finished-follows cmp (words-order o) divides_word ◌-◌ ◌+◌ over_word Is (word-operations o n vs given.few given.small) p given.prime choose sound places (λ k g u ls. R k (E g) (E u) (E ls))
        (λ k t ts u us l e d. kept k (one t) (E ts) (E u) (E us) (unfit-of t.mono l e) d)
        (λ k t ts u us g tail w a d. divided k (one t) (E ts) (E u) (E us) (one g) (E tail) (E w) (step_of t ts g tail w a) d)
        limit f given.valid

  -- ---- Demand 2
  division-follows : (s : List (Term (List ℕ))) → length f ≤ most_terms → (k : ℕ) → Divided k (E whole) s → Divided (reduced.leads + k) (E f) (E reduced.remainder ++ s)
  division-follows s h k d =
      follows (λ k g r ls. Divided k g r)
      (λ k t ts s ks e d. division-kept (compare_in o vs) (chosen divides G) quotient product p k t ts s e d)
      (λ k t ts s ks g tail h a d. division-divided (compare_in o vs) (chosen divides G) quotient product p k t ts s a.number g tail h a.fit a.sum d)
      h k s [] d

  -- "A finished remainder is that of the division algorithm in its stated divisor order", and the leads removed are its steps
  pub by-division : reduced.stop ≡ 0 → Divided reduced.leads (E f) (E reduced.remainder)
  by-division =
      follows-all (λ k g r ls. Divided k g r)
      (λ k t ts s ks e d. division-kept (compare_in o vs) (chosen divides G) quotient product p k t ts s e d)
      (λ k t ts s ks g tail h a d. division-divided (compare_in o vs) (chosen divides G) quotient product p k t ts s a.number g tail h a.fit a.sum d)
      (division-none (compare_in o vs) (chosen divides G) quotient product p)

  -- and no other number and list are
  pub by-division-only : reduced.stop ≡ 0 → (k : ℕ) (s : List (Term (List ℕ))) → Divided k (E f) s → (reduced.leads ≡ k) × (E reduced.remainder ≡ s)
  by-division-only z k s d = division-unique (compare_in o vs) (exponents-order o vs) (chosen divides G) quotient product p pos reduced.leads k (E f) (E reduced.remainder) s (by-division z) d

  combined-kept : (k : ℕ) (t : Term (List ℕ)) (ts s ks : List (Term (List ℕ))) → chosen divides (map (in_exponents o n) gs) t.mono ≡ unfit → Combined ts s → Combined (t ∷ ts) (t ∷ s)
  combined-kept k t ts s ks e c = combination-kept (compare_in o vs) product (λ α. length α ≡ n) p G t ts s c

  combined-divided : (k : ℕ) (t : Term (List ℕ)) (ts s ks : List (Term (List ℕ))) (g : Term (List ℕ)) (tail h : List (Term (List ℕ))) → DividedStep (compare_in o vs) (chosen divides (map (in_exponents o n) gs)) quotient product (λ a b. false) (λ α. length α ≡ n) p t ts g tail h → Combined h s → Combined (t ∷ ts) s
  combined-divided k t ts s ks g tail h a c = combination-divided (compare_in o vs) product (λ α. length α ≡ n) p G divides quotient (λ a b. false) (exponent-operations o n vs) given.prime (all-exponents o n vs given.few given.small p gs given.divisors) (chosen divides G) (chosen-choice divides G) t ts g tail h a s c

  -- of a finished reduction, the polynomial is the remainder and a sum of multiples of divisors
  pub by-remainder : reduced.stop ≡ 0 → Combined (E f) (E reduced.remainder)
  by-remainder = follows-all (λ k g r ls. Combined g r) combined-kept combined-divided (combination-same (compare_in o vs) product (λ α. length α ≡ n) p G [] [] (λ m. refl))

  -- ---- the terms that the buckets hold at the end, in one list ts
  module _ (ts : List (Term ℕ)) (held-as : OneList (compare_words o) (λ w. Layout o n vs w) (reduction_of_words o p gs places limit f).work.buckets ts) where
    whole-right : Canonical cmp p whole × ((m : ℕ) → coef_at cmp p m whole ≡ sum_at cmp p reduced.work.buckets m)
    whole-right = sum-right cmp p (words-order o) pos reduced.work.buckets (W.held-canon given places limit)

    whole-are : All (λ t. Layout o n vs t.mono) whole
    whole-are = sum-each Is cmp p [] reduced.work.buckets tt (W.last-state given places limit).held-are

    whole_same : Same (compare_in o vs) p (E whole) (E ts)
    whole_same = same-renamed (exponents o n) Is cmp (compare_in o vs) (exponents-order o vs) (words-agree o n vs given.few given.small).compares p whole ts whole-are held-as.are (λ m. whole-right.1 m ∙ ap (λ (k : ℕ). k % p) (sym (held-as.totals m)))

    whole-canonical : Canonical (compare_in o vs) p (E whole)
    whole-canonical = canonical-renamed (exponents o n) Is cmp (compare_in o vs) (words-agree o n vs given.few given.small).compares p whole whole-are whole-right.0

    -- what is held has a canonical list, the full sum, and no other
    pub held-canonical : (h : List (Term (List ℕ))) × Canonical (compare_in o vs) p h × Same (compare_in o vs) p h (E ts)
    held-canonical = (E whole, whole-canonical, whole_same)

    whole_is : (h : List (Term (List ℕ))) → Canonical (compare_in o vs) p h → Same (compare_in o vs) p h (E ts) → h ≡ E whole
    whole_is h c e = canonical-unique (compare_in o vs) (exponents-order o vs) p pos h (E whole) c whole-canonical (λ m. e m ∙ sym (whole_same m))

    -- Demand 1: each refusal under its condition
    pub by-ending : Ending (compare_in o vs) (chosen divides (map (in_exponents o n) gs)) quotient (λ α β. not (below 128 (product α β))) p places limit reduced.stop reduced.leads (E f) (E reduced.remainder) (E ts ∷ [])
    by-ending =
        ending-renamed (exponents o n) Is cmp (compare_in o vs) (exponents-order o vs) (words-agree o n vs given.few given.small).compares (words-order o) p reduced.work.buckets ts held-as divides_word ◌-◌ ◌+◌ over_word divides quotient product (λ α β. not (below 128 (product α β)))
        (words-agree o n vs given.few given.small) (λ a b i j. sym (over-exponents o n vs given.few given.small a b i j)) (word-operations o n vs given.few given.small) choose sound (chosen divides G) same places limit reduced.stop reduced.leads f reduced.remainder (W.demand-1-ending given places limit)

    -- the polynomial is the remainder so far, what is still held, and a sum of multiples of divisors
    pub by-sum : length f ≤ most_terms → Combined (E f) (E reduced.remainder ++ E ts)
    by-sum h = follows (λ k g r ls. Combined g r) combined-kept combined-divided h 0 (E ts) [] (combination-same (compare_in o vs) product (λ α. length α ≡ n) p G (E whole) (E ts) whole_same)

    -- what a stopped reduction holds, divided further, gives the steps and the remainder of f
    pub by-stopped : length f ≤ most_terms → (h : List (Term (List ℕ))) → Canonical (compare_in o vs) p h → Same (compare_in o vs) p h (E ts) → (k : ℕ) (s : List (Term (List ℕ))) → Divided k h s → Divided (reduced.leads + k) (E f) (E reduced.remainder ++ s)
    by-stopped l h c e k s d = division-follows s l k (subst (λ (g : List (Term (List ℕ))). Divided k g s) (whole_is h c e) d)

  -- Where f is divided in k steps to s, a reduction, finished or stopped, has done the first of them, and its remainder so far is the beginning of s.
  begun : length f ≤ most_terms → Begins (compare_in o vs) (exponents-order o vs) (chosen divides G) quotient product p pos (E whole) reduced.leads (E f) (E reduced.remainder)
  begun h k s d =
      let B = Begins (compare_in o vs) (exponents-order o vs) (chosen divides G) quotient product p pos (E whole) in
      let r = follows (λ k g r ls. B k g r)
      (λ k t ts s ks e d. begins-kept (compare_in o vs) (exponents-order o vs) (chosen divides G) quotient product p pos (E whole) k t ts s e d)
      (λ k t ts s ks g tail h a d. begins-divided (compare_in o vs) (exponents-order o vs) (chosen divides G) quotient product p pos (E whole) k t ts s a.number g tail h a.fit a.sum d)
      h 0 [] [] (begins-none (compare_in o vs) (exponents-order o vs) (chosen divides G) quotient product p pos (E whole)) in
      let c = r k s d in
      record { steps = c.steps; terms = c.terms; divided = c.divided; steps-are = omega (arith, c.steps-are); terms-are = c.terms-are ∙ ap (λ (l : List (Term (List ℕ))). l ++ c.terms) (append-nil (E reduced.remainder)) }

  pub by-beginning : length f ≤ most_terms → (k : ℕ) (s : List (Term (List ℕ))) → Divided k (E f) s → (i : ℕ) × (u : List (Term (List ℕ))) × (k ≡ reduced.leads + i) × (s ≡ E reduced.remainder ++ u)
  by-beginning h k s d = let c = begun h k s d in (c.steps, c.terms, c.steps-are, c.terms-are)

  -- 13 means that the division takes more steps than the limit
  pub by-limit : reduced.stop ≡ 13 → (k : ℕ) (s : List (Term (List ℕ))) → Divided k (E f) s → limit < k
  unfolding Division
  by-limit z k s d = go (W.demand-1-ending given places limit)
    where
      -- the lead that is found is left, so the division goes on
      more : (t : Term ℕ) → IsLead cmp p reduced.work.buckets t → (i : ℕ) (u : List (Term (List ℕ))) → Divided i (E whole) u → 0 < i
      more t l zero u e =
          let b = sum-right cmp p (words-order o) pos reduced.work.buckets (W.held-canon given places limit) in
          let z = nothing whole (omega (arith, renamed-long (exponents o n) Is whole, ap length e.0)) t.mono in
          absurd (let q : ⊥ = omega (arith, b.1 t.mono, ap (λ (k : ℕ). k % p) z ∙ zero-mod p, l.coef-is, l.not-zero) in q)
        where
          nothing : (g : List (Term ℕ)) → length g ≡ 0 → (m : ℕ) → total cmp m g ≡ 0
          nothing [] h m = total-nil cmp m
          nothing (t ∷ g) h m = absurd (let q : ⊥ = omega arith in q)
      more t l (suc i) u e = omega arith

      steps : length f ≤ most_terms → Stopping cmp choose ◌-◌ over_word p places limit reduced.stop reduced.leads reduced.remainder reduced.work.buckets → limit < k
      steps h (finished e l y c) = absurd (let q : ⊥ = omega (arith, z, e) in q)
      steps h (at-limit t e l a) = let c = begun h k s d in omega (arith, c.steps-are, more t a c.steps c.terms c.divided, l)
      steps h (over t j g tail e l a u b) = absurd (let q : ⊥ = omega (arith, z, e) in q)
      steps h (too_many t j g tail e l a u b c) = absurd (let q : ⊥ = omega (arith, z, e) in q)
      steps h (no_place t e l a u c) = absurd (let q : ⊥ = omega (arith, z, e) in q)

      go : Ending cmp choose ◌-◌ over_word p places limit reduced.stop reduced.leads f reduced.remainder reduced.work.buckets → limit < k
      go (first-too-many e h l r w) = absurd (let q : ⊥ = omega (arith, z, e) in q)
      go (by-steps h t) = steps h t

  -- ---- the remainder, finished or so far
  last-are : All (λ t. Layout o n vs t.mono) reduced.remainder
  last-are = (W.last-state given places limit).out-gone.are

  pub remainder-canonical : Canonical (compare_in o vs) p (E reduced.remainder)
  remainder-canonical = canonical-renamed (exponents o n) Is cmp (compare_in o vs) (words-agree o n vs given.few given.small).compares p reduced.remainder last-are (W.remainder-canonical given places limit)

  pub remainder-irreducible : All (λ u. Undivided divides (map (in_exponents o n) gs) u.mono) (E reduced.remainder)
  remainder-irreducible =
      renamed-all (exponents o n) Is (λ u. Layout o n vs u.mono × (choose u.mono ≡ unfit)) (λ u. Undivided divides G u.mono) (λ u h. (chosen-choice divides G).none (exponents o n u.mono) (unfit-of u.mono h.0 h.1)) reduced.remainder
      (all-zip {P = λ u. Layout o n vs u.mono} {Q = λ u. choose u.mono ≡ unfit} {R = λ u. Layout o n vs u.mono × (choose u.mono ≡ unfit)} (λ u h k. (h, k)) reduced.remainder last-are (W.last-state given places limit).out-unfit)

  -- ---- the leads: those of the division, one by one, and no others; they fall strictly
  pub leads-are : Removes reduced.leads (E f) (E reduced.work.given)
  leads-are =
      by_first cmp choose ◌-◌ ◌+◌ over_word p places limit f (λ x. x ≡ reduced → Removes reduced.leads (E f) (E reduced.work.given))
      (λ h e. subst (λ (x : Reduction ℕ). Removes x.leads (E f) (E x.work.given)) e (leads-none (compare_in o vs) (chosen divides G) quotient product p (E f)))
      (λ h e. few-leads h)
      refl
    where
      few-leads : length f ≤ most_terms → Removes reduced.leads (E f) (E reduced.work.given)
      few-leads h =
          subst (λ (k : ℕ). Removes k (E f) (E reduced.work.given)) (let i : reduced.leads + 0 ≡ reduced.leads = omega arith in i)
          (subst (λ (l : List (Term (List ℕ))). Removes (reduced.leads + 0) (E f) l) (append-nil (E reduced.work.given))
          (follows (λ k g r ls. Removes k g ls)
          (λ k t ts s ks e d. leads-kept (compare_in o vs) (chosen divides G) quotient product p k t ts ks e d)
          (λ k t ts s ks g tail h a d. leads-divided (compare_in o vs) (chosen divides G) quotient product p k t ts ks a.number g tail h a.fit a.sum d)
          h 0 [] [] (leads-none (compare_in o vs) (chosen divides G) quotient product p (E whole))))

  pub leads-only : (ls : List (Term (List ℕ))) → Removes reduced.leads (E f) ls → ls ≡ E reduced.work.given
  leads-only ls d = leads-unique (compare_in o vs) (exponents-order o vs) (chosen divides G) quotient product p pos reduced.leads (E f) ls (E reduced.work.given) d leads-are

  pub leads-fall : Falling (compare_in o vs) (E reduced.work.given)
  leads-fall = let l = (W.last-state given places limit).given-gone in (canonical-renamed (exponents o n) Is cmp (compare_in o vs) (words-agree o n vs given.few given.small).compares p reduced.work.given l.are l.canonical).falling

  pub leads-count : length (E reduced.work.given) ≡ reduced.leads
  leads-count = renamed-long (exponents o n) Is reduced.work.given ∙ W.leads-count given places limit
