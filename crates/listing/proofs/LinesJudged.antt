-- What a run asks of the polynomials of a script is what is asked of the script's own terms, addition by addition. Assumes nothing.
use Prim.Native.Nat.{ℕ, suc, ◌+◌, ◌-◌, ◌≤◌, Ordering}
use native.Mathlib.Nat.{add-zero}
use native.Mathlib.Numerals.{add-one}
use native.Mathlib.Omega.{arith}
use mathlib.Core.Path.{◌≡◌, refl, sym, ap, ap₂, ◌∙◌, subst}
use mathlib.Core.List.{List, [], ◌∷◌, ◌++◌, map, append-nil, append_assoc}
use mathlib.Core.Logic.{inl, inr}
use lib.ListN.{length, replicate, length-map}
use lib.Seq.{take_all}
use Rattle.refusal.specs.Judgement.{Condition, condition, Judged, AllHold}
use Rattle.monomial.specs.declared.order.Order.{Order}
use Rattle.monomial.specs.Exponents.{compare_in, order_of, order_number}
use Rattle.monomial.specs.Layout.{Layout, word_of, fields, exponents, Below}
use Rattle.monomial.proofs.LayoutLaws.{fields-word, exponents-word, layout-word}
use Rattle.polynomial.specs.Terms.{Term, term, terms, Under}
use Rattle.call.specs.Lending.{polynomial}
use Rattle.polynomial.specs.declared.setting.Setting.{Setting}
use Rattle.opening.specs.Judgement.{GoodOrder, by_exponents, places_conditions, polynomial_conditions, conditions_below, polynomials_conditions}
use Rattle.grammar.specs.Grammar.{Entry, Line, add_line, lead_line, sum_line, Script, GoodEntry, GoodEntries, GoodLines, GoodWeights}
use Rattle.grammar.specs.Parts.{capped, entry_word, entry_coef, six_weights}
use Rattle.script.specs.Loading.{entries_in, ends_from, words_of, coefs_of, starts_of}
use Rattle.monomial.proofs.OrderLaws.{order-number}
use Rattle.listing.specs.Judgement.{LineInRange, entries_conditions, own_weights, EntriesFall, lines_conditions}
use Rattle.listing.specs.Whole.{setting_in}
use Rattle.listing.proofs.Additions.{From, added_is, from_next}
use Rattle.listing.proofs.WeightsJudged.{same-order}

-- ---- conditions of the same numbers, each of which holds where the other does, once those before it hold
abbrev pub Alike : (cs ds : List Condition) → Type 0
Alike [] [] = Unit {0}
Alike [] (d ∷ ds) = ⊥
Alike (c ∷ cs) [] = ⊥
Alike (c ∷ cs) (d ∷ ds) = (c.number ≡ d.number) × (c.holds → d.holds) × (d.holds → c.holds) × (d.holds → Alike cs ds)

pub alike-judged : (cs ds : List Condition) (r : ℕ) → Alike cs ds → Judged cs r → Judged ds r
alike-judged [] [] r a j = j
alike-judged [] (d ∷ ds) r a j = absurd a
alike-judged (c ∷ cs) [] r a j = absurd a
alike-judged (c ∷ cs) (d ∷ ds) r a (inl h) = inl ((λ g. h.0 (a.2 g)), h.1 ∙ a.0)
alike-judged (c ∷ cs) (d ∷ ds) r a (inr h) = inr (a.1 h.0, alike-judged cs ds r (a.3 (a.1 h.0)) h.1)

alike_then : (cs ds cs' ds' : List Condition) → Alike cs ds → (AllHold ds → Alike cs' ds') → Alike (cs ++ cs') (ds ++ ds')
alike_then [] [] cs' ds' a k = k tt
alike_then [] (d ∷ ds) cs' ds' a k = absurd a
alike_then (c ∷ cs) [] cs' ds' a k = absurd a
alike_then (c ∷ cs) (d ∷ ds) cs' ds' a k = (a.0, a.1, a.2, λ h. alike_then cs ds cs' ds' (a.3 h) (λ g. k (h, g)))

-- ---- exponents as bytes
below-front : (k : ℕ) (α β : List ℕ) → Below k (α ++ β) → Below k α
below-front k [] β b = tt
below-front k (a ∷ α) β b = (b.0, below-front k α β b.1)

capped-bytes : (α : List ℕ) → Below 256 (map capped α)
capped-bytes [] = tt
capped-bytes (a ∷ α) = (omega arith, capped-bytes α)

capped-below : (α : List ℕ) → Below 128 (map capped α) → Below 128 α
capped-below [] b = tt
capped-below (a ∷ α) b = (omega (arith, b.0), capped-below α b.1)

capped_same : (α : List ℕ) → Below 128 α → map capped α ≡ α
capped_same [] b = refl
capped_same (a ∷ α) b = ap₂ ◌∷◌ (omega (arith, b.0)) (capped_same α b.1)

-- ---- a term of a script
module _ (o : Order) (vs : List ℕ) (n : ℕ) (few : n ≤ 6) (e : Entry) (g : GoodEntry n e) where
  abbrev α : List ℕ
  α = map capped e.exps

  word-is : entry_word o vs e ≡ word_of o vs α
  word-is = ap (λ (l : List ℕ). word_of o vs (map capped l)) (take_all 6 e.exps (omega (arith, g.n-exps)))

  long : length α ≡ n
  long = length-map e.exps capped ∙ g.n-exps

  -- "an exponent over 127 gives 5"
  word-exps : Layout o n vs (entry_word o vs e) → Below 128 e.exps
  word-exps l = capped-below e.exps (below-front 128 α (replicate (6 - length α) 0) (subst (Below 128) (ap (fields o) word-is ∙ fields-word o vs α (omega (arith, long)) (capped-bytes e.exps)) l.tops))

  exps-word : Below 128 e.exps → Layout o n vs (entry_word o vs e)
  exps-word b = subst (Layout o n vs) (sym word-is) (layout-word o n vs α long few (subst (Below 128) (sym (capped_same e.exps b)) b))

  pub exps-of : Below 128 e.exps → exponents o n (entry_word o vs e) ≡ e.exps
  exps-of b = ap (exponents o n) word-is ∙ (exponents-word o n vs α long few (capped-bytes e.exps) ∙ capped_same e.exps b)

-- ---- the terms of an addition
module _ (s : Script) (few : s.vars ≤ 6) (counted : GoodWeights s.vars s.weights) (range : LineInRange s.weights) where
  abbrev o : Order
  o = s.order

  abbrev n : ℕ
  n = s.vars

  abbrev t : Setting
  t = setting_in s

  abbrev six : List ℕ
  six = six_weights s.weights

  abbrev word : Entry → ℕ
  word e = entry_word s.order (six_weights s.weights) e

  abbrev loaded : List Entry → List (Term ℕ)
  loaded es = terms (map (entry_word s.order (six_weights s.weights)) es) (map entry_coef es)

  abbrev own : List Entry → List (Term (List ℕ))
  own es = map (λ e. term e.exps e.coef) es

  places-alike : (es : List Entry) → GoodEntries n es → Alike (places_conditions t (loaded es)) (entries_conditions s es)
  places-alike [] g = tt
  places-alike (e ∷ es) g =
      let is = order-number o in
      (refl, λ h. h, λ h. h, λ c. (refl, λ l. word-exps o six n few e g.0 (subst (λ (x : Order). Layout x n six (word e)) is l), λ b. subst (λ (x : Order). Layout x n six (word e)) (sym is) (exps-word o six n few e g.0 b), λ b. places-alike es g.1))

  agree : (e e' : Entry) → GoodEntry n e → GoodEntry n e' → Below 128 e.exps → Below 128 e'.exps → by_exponents (order_of (order_number o)) n six (word e) (word e') ≡ compare_in o (own_weights s) e.exps e'.exps
  agree e e' g g' b b' = ap (λ (x : Order). by_exponents x n six (word e) (word e')) (order-number o) ∙ (ap₂ (compare_in o six) (exps-of o six n few e g b) (exps-of o six n few e' g' b') ∙ same-order o n s.weights few counted range e.exps e'.exps g.n-exps g'.n-exps)

  abbrev words-cmp : ℕ → ℕ → Ordering
  words-cmp = by_exponents (order_of (order_number s.order)) s.vars (six_weights s.weights)

  under-both : (e : Entry) → GoodEntry n e → Below 128 e.exps → (es : List Entry) → GoodEntries n es → AllHold (entries_conditions s es) → (Under words-cmp (word e) (loaded es) → Under (compare_in o (own_weights s)) e.exps (own es)) × (Under (compare_in o (own_weights s)) e.exps (own es) → Under words-cmp (word e) (loaded es))
  under-both e g b [] gs a = (λ u. tt, λ u. tt)
  under-both e g b (e' ∷ es) gs a =
      let q = agree e e' g gs.0 b a.1.0 in
      let r = under-both e g b es gs.1 a.1.1 in
      (λ u. (sym q ∙ u.0, r.0 u.1), λ u. (q ∙ u.0, r.1 u.1))

  fall-both : (es : List Entry) → GoodEntries n es → AllHold (entries_conditions s es) → (GoodOrder t (loaded es) → EntriesFall s es) × (EntriesFall s es → GoodOrder t (loaded es))
  fall-both [] gs a = (λ f. tt, λ f. tt)
  fall-both (e ∷ es) gs a =
      let u = under-both e gs.0 a.1.0 es gs.1 a.1.1 in
      let r = fall-both es gs.1 a.1.1 in
      (λ f. (u.0 f.0, r.0 f.1), λ f. (u.1 f.0, r.1 f.1))

  abbrev of_line : List Entry → List Condition
  of_line es = entries_conditions s es ++ (condition 6 (EntriesFall s es) ∷ [])

  polynomial-alike : (es : List Entry) → GoodEntries n es → Alike (polynomial_conditions t (loaded es)) (of_line es)
  polynomial-alike es g =
      alike_then (places_conditions t (loaded es)) (entries_conditions s es) (condition 6 (GoodOrder t (loaded es)) ∷ []) (condition 6 (EntriesFall s es) ∷ []) (places-alike es g)
      (λ a. let f = fall-both es g a in (refl, f.0, f.1, λ h. tt))

  -- ---- addition by addition
  abbrev below : ℕ → List Condition
  below k = conditions_below (setting_in s) (words_of s) (coefs_of s) (starts_of s) k

  lines-alike : (ls : List Line) (k at : ℕ) (ds : List Condition) → GoodLines n ls → From s ls k at → Alike (below k) ds → Alike (below (k + length (ends_from at ls))) (ds ++ lines_conditions s ls)
  unfolding ends_from entries_in
  lines-alike [] k at ds g f a = subst (λ (x : ℕ). Alike (below x) (ds ++ [])) (sym (add-zero k)) (subst (Alike (below k)) (sym (append-nil ds)) a)
  lines-alike (add_line us ∷ ls) k at ds g f a =
      let p = polynomial (words_of s) (coefs_of s) (starts_of s) k in
      let here : Alike (polynomial_conditions t p) (of_line us) = subst (λ (x : List (Term ℕ)). Alike (polynomial_conditions t x) (of_line us)) (sym (added_is s us ls k at f)) (polynomial-alike us g.0) in
      let next : Alike (below (suc k)) (ds ++ of_line us) = alike_then (below k) ds (polynomial_conditions t p) (of_line us) a (λ h. here) in
      let m = length (ends_from (at + length us) ls) in
      let j : suc k + m ≡ k + suc m = omega arith in
      subst (λ (x : ℕ). Alike (below x) (ds ++ (of_line us ++ lines_conditions s ls))) j
      (subst (Alike (below (suc k + m))) (append_assoc ds (of_line us) (lines_conditions s ls))
      (lines-alike ls (suc k) (at + length us) (ds ++ of_line us) g.1 (subst (λ (x : ℕ). From s ls x (at + length us)) (add-one k) (from_next s us ls k at f)) next))
  lines-alike (lead_line ∷ ls) k at ds g f a = lines-alike ls k at ds g.1 f a
  lines-alike (sum_line ∷ ls) k at ds g f a = lines-alike ls k at ds g.1 f a

  pub script-alike : GoodLines n s.lines → Alike (polynomials_conditions t (words_of s) (coefs_of s) (starts_of s)) (lines_conditions s s.lines)
  script-alike g =
      let e : 0 + length (ends_from 0 s.lines) ≡ length (starts_of s) - 1 = omega arith in
      subst (λ (x : ℕ). Alike (below x) (lines_conditions s s.lines)) e (lines-alike s.lines 0 0 [] g (refl, refl, refl) tt)
