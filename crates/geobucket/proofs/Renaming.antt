-- Renaming the monomials along a map that keeps the comparison commutes with an addition to a geobucket, the full sum and the search, and keeps their counts. Assumes nothing.
use mathlib.Core.Path.{◌≡◌, refl, sym, ap, ap₂, ◌∙◌, subst}
use mathlib.Core.List.{List, [], ◌∷◌, ◌++◌, map, append-nil}
use Prim.Native.Nat.{ℕ, zero, suc, ◌+◌, ◌*◌, ◌<◌, ◌≤◌, Ordering}
use borrow.Author.Tests.{le-leb, lt-leb}
use lib.ListN.{length}
use Rattle.polynomial.specs.Terms.{Term, term, renamed}
use Rattle.polynomial.specs.Merge.{merge, compared}
use Rattle.polynomial.proofs.Renaming.{length-renamed, renamed_pairs, length_pairs, renamed-keep, renamed-merge, renamed-compared, renamed-canonical, canonical-renamed}
use Rattle.geobucket.specs.Buckets.{held, Good, carry, carry_compared, place, place_compared, add, add_compared, sum_from, sum_compared}
use Rattle.geobucket.specs.Search.{Pass, replaced, passing, seek, Lead, none, lead, Searched, higher, pass, after, onward, ended, search_in, search, put_back, with_lead}
use Rattle.geobucket.proofs.AddLaws.{carry-along, place-along}
use Rattle.geobucket.proofs.SearchLaws.{seek-less, seek-same, seek-more, seek-along}

-- ---- equations of the addition, by the test of the length
module _ {A : Type 0} (cmp : A → A → Ordering) (p cap : ℕ) (g b : List (Term A)) (bs : List (List (Term A))) where
  carry-stays : length (merge cmp p g b) ≤ cap → carry cmp p cap g (b ∷ bs) ≡ merge cmp p g b ∷ bs
  unfolding carry
  carry-stays h = rw (le-leb (length (merge cmp p g b)) cap h, carry)

  carry-goes : cap < length (merge cmp p g b) → carry cmp p cap g (b ∷ bs) ≡ [] ∷ carry cmp p (4 * cap) (merge cmp p g b) bs
  unfolding carry
  carry-goes h = rw (lt-leb (length (merge cmp p g b)) cap h, carry)

  pairs-stay : length (merge cmp p g b) ≤ cap → carry_compared cmp p cap g (b ∷ bs) ≡ compared cmp g b
  unfolding carry_compared
  pairs-stay h = rw (le-leb (length (merge cmp p g b)) cap h, carry_compared, append-nil)

  pairs-go : cap < length (merge cmp p g b) → carry_compared cmp p cap g (b ∷ bs) ≡ compared cmp g b ++ carry_compared cmp p (4 * cap) (merge cmp p g b) bs
  unfolding carry_compared
  pairs-go h = rw (lt-leb (length (merge cmp p g b)) cap h, carry_compared)

  place_here : length g ≤ cap → place cmp p cap g (b ∷ bs) ≡ carry cmp p cap g (b ∷ bs)
  unfolding place
  place_here h = rw (le-leb (length g) cap h, place)

  place-on : cap < length g → place cmp p cap g (b ∷ bs) ≡ b ∷ place cmp p (4 * cap) g bs
  unfolding place
  place-on h = rw (lt-leb (length g) cap h, place)

  pairs-here : length g ≤ cap → place_compared cmp p cap g (b ∷ bs) ≡ carry_compared cmp p cap g (b ∷ bs)
  unfolding place_compared
  pairs-here h = rw (le-leb (length g) cap h, place_compared)

  pairs-on : cap < length g → place_compared cmp p cap g (b ∷ bs) ≡ place_compared cmp p (4 * cap) g bs
  unfolding place_compared
  pairs-on h = rw (lt-leb (length g) cap h, place_compared)

map-append : {A B : Type 0} (f : A → B) (xs ys : List A) → map f (xs ++ ys) ≡ map f xs ++ map f ys
map-append f [] ys = refl
map-append f (x ∷ xs) ys = ap (λ (l : List _). f x ∷ l) (map-append f xs ys)

-- ---- what a search ends with, renamed
abbrev pub renamed_term : {A B : Type 0} → (A → B) → Term A → Term B
renamed_term f t = term (f t.mono) t.coef

abbrev pub renamed_lead : {A B : Type 0} → (A → B) → Lead A → Lead B
renamed_lead f none = none
renamed_lead f (lead at t) = lead at (term (f t.mono) t.coef)

abbrev renamed_pass : {A B : Type 0} → (A → B) → Pass A → Pass B
renamed_pass f s = record { lead = renamed_term f s.lead; at = s.at; own = renamed f s.own; above = map (renamed f) s.above; pairs = renamed_pairs f s.pairs }

abbrev pub renamed_searched : {A B : Type 0} → (A → B) → Searched A → Searched B
renamed_searched f s = record { answer = renamed_lead f s.answer; buckets = map (renamed f) s.buckets; pairs = renamed_pairs f s.pairs }

-- ---- what holds of any renaming
module _ {A B : Type 0} (f : A → B) where
  pub renamed-held : (bs : List (List (Term A))) → held (map (renamed f) bs) ≡ held bs
  unfolding held
  renamed-held [] = refl
  renamed-held (b ∷ bs) = ap₂ (λ (n m : ℕ). n + m) (length-renamed f b) (renamed-held bs)

  renamed-put : (at : ℕ) (t : Term A) (bs : List (List (Term A))) → put_back at (renamed_term f t) (map (renamed f) bs) ≡ map (renamed f) (put_back at t bs)
  unfolding put_back
  renamed-put at t [] = refl
  renamed-put zero t (b ∷ bs) = refl
  renamed-put (suc at) t (b ∷ bs) = ap (λ (l : List (List (Term B))). renamed f b ∷ l) (renamed-put at t bs)

  pub renamed-with_lead : (l : Lead A) (bs : List (List (Term A))) → with_lead (renamed_lead f l) (map (renamed f) bs) ≡ map (renamed f) (with_lead l bs)
  renamed-with_lead none bs = refl
  renamed-with_lead (lead at t) bs = renamed-put at t bs

  renamed-higher : (l : Lead A) → higher (renamed_lead f l) ≡ renamed_lead f (higher l)
  renamed-higher none = refl
  renamed-higher (lead at t) = refl

module _ {A B : Type 0} (cmp_a : A → A → Ordering) (cmp_b : B → B → Ordering) (f : A → B) (keeps : (x y : A) → cmp_b (f x) (f y) ≡ cmp_a x y) (p : ℕ) where
  -- ---- good buckets, both ways
  pub renamed-good : (cap : ℕ) (bs : List (List (Term A))) → Good cmp_a p cap bs → Good cmp_b p cap (map (renamed f) bs)
  unfolding Good
  renamed-good cap [] g = tt
  renamed-good cap (b ∷ bs) g = ((renamed-canonical cmp_a cmp_b f keeps p b g.0.0, subst (λ (n : ℕ). n ≤ cap) (sym (length-renamed f b)) g.0.1), renamed-good (4 * cap) bs g.1)

  pub good-renamed : (cap : ℕ) (bs : List (List (Term A))) → Good cmp_b p cap (map (renamed f) bs) → Good cmp_a p cap bs
  unfolding Good
  good-renamed cap [] g = tt
  good-renamed cap (b ∷ bs) g = ((canonical-renamed cmp_a cmp_b f keeps p b g.0.0, subst (λ (n : ℕ). n ≤ cap) (length-renamed f b) g.0.1), good-renamed (4 * cap) bs g.1)

  -- ---- an addition
  merged : (g b : List (Term A)) → merge cmp_b p (renamed f g) (renamed f b) ≡ renamed f (merge cmp_a p g b)
  merged g b = renamed-merge cmp_a cmp_b f keeps p g b

  merged-length : (g b : List (Term A)) → length (merge cmp_b p (renamed f g) (renamed f b)) ≡ length (merge cmp_a p g b)
  merged-length g b = ap length (merged g b) ∙ length-renamed f (merge cmp_a p g b)

  renamed-carry : (cap : ℕ) (g : List (Term A)) (bs : List (List (Term A)))
      → (carry cmp_b p cap (renamed f g) (map (renamed f) bs) ≡ map (renamed f) (carry cmp_a p cap g bs)) × (carry_compared cmp_b p cap (renamed f g) (map (renamed f) bs) ≡ renamed_pairs f (carry_compared cmp_a p cap g bs))
  unfolding carry carry_compared
  renamed-carry =
      carry-along cmp_a p (λ cap g bs cs qs. (carry cmp_b p cap (renamed f g) (map (renamed f) bs) ≡ map (renamed f) cs) × (carry_compared cmp_b p cap (renamed f g) (map (renamed f) bs) ≡ renamed_pairs f qs))
      (λ cap g. (refl, refl))
      (λ cap g b bs h.
      let k : length (merge cmp_b p (renamed f g) (renamed f b)) ≤ cap = subst (λ (n : ℕ). n ≤ cap) (sym (merged-length g b)) h in (
        carry-stays cmp_b p cap (renamed f g) (renamed f b) (map (renamed f) bs) k ∙ ap (λ (m : List (Term B)). m ∷ map (renamed f) bs) (merged g b),
        pairs-stay cmp_b p cap (renamed f g) (renamed f b) (map (renamed f) bs) k ∙ renamed-compared cmp_a cmp_b f keeps g b,
      ))
      (λ cap g b bs cs qs h r.
      let k : cap < length (merge cmp_b p (renamed f g) (renamed f b)) = subst (λ (n : ℕ). cap < n) (sym (merged-length g b)) h in (
        carry-goes cmp_b p cap (renamed f g) (renamed f b) (map (renamed f) bs) k ∙ ap (λ (l : List (List (Term B))). [] ∷ l) (ap (λ (m : List (Term B)). carry cmp_b p (4 * cap) m (map (renamed f) bs)) (merged g b) ∙ r.0),
        pairs-go cmp_b p cap (renamed f g) (renamed f b) (map (renamed f) bs) k
            ∙ (ap₂ (λ (us vs : List (B × B)). us ++ vs) (renamed-compared cmp_a cmp_b f keeps g b) (ap (λ (m : List (Term B)). carry_compared cmp_b p (4 * cap) m (map (renamed f) bs)) (merged g b) ∙ r.1)
            ∙ sym (map-append _ (compared cmp_a g b) qs)),
      ))

  renamed-place : (cap : ℕ) (g : List (Term A)) (bs : List (List (Term A)))
      → (place cmp_b p cap (renamed f g) (map (renamed f) bs) ≡ map (renamed f) (place cmp_a p cap g bs)) × (place_compared cmp_b p cap (renamed f g) (map (renamed f) bs) ≡ renamed_pairs f (place_compared cmp_a p cap g bs))
  unfolding place place_compared
  renamed-place =
      place-along cmp_a p (λ cap g bs cs qs. (place cmp_b p cap (renamed f g) (map (renamed f) bs) ≡ map (renamed f) cs) × (place_compared cmp_b p cap (renamed f g) (map (renamed f) bs) ≡ renamed_pairs f qs))
      (λ cap g. (refl, refl))
      (λ cap g b bs h.
      let k : length (renamed f g) ≤ cap = subst (λ (n : ℕ). n ≤ cap) (sym (length-renamed f g)) h in
      let r = renamed-carry cap g (b ∷ bs) in
      (place_here cmp_b p cap (renamed f g) (renamed f b) (map (renamed f) bs) k ∙ r.0, pairs-here cmp_b p cap (renamed f g) (renamed f b) (map (renamed f) bs) k ∙ r.1))
      (λ cap g b bs cs qs h r.
      let k : cap < length (renamed f g) = subst (λ (n : ℕ). cap < n) (sym (length-renamed f g)) h in (
        place-on cmp_b p cap (renamed f g) (renamed f b) (map (renamed f) bs) k ∙ ap (λ (l : List (List (Term B))). renamed f b ∷ l) r.0,
        pairs-on cmp_b p cap (renamed f g) (renamed f b) (map (renamed f) bs) k ∙ r.1,
      ))

  pub renamed-add : (g : List (Term A)) (bs : List (List (Term A))) → add cmp_b p (renamed f g) (map (renamed f) bs) ≡ map (renamed f) (add cmp_a p g bs)
  unfolding add
  renamed-add [] bs = refl
  renamed-add (t ∷ ts) bs = (renamed-place 4 (t ∷ ts) bs).0

  pub renamed-add-pairs : (g : List (Term A)) (bs : List (List (Term A))) → add_compared cmp_b p (renamed f g) (map (renamed f) bs) ≡ renamed_pairs f (add_compared cmp_a p g bs)
  unfolding add_compared
  renamed-add-pairs [] bs = refl
  renamed-add-pairs (t ∷ ts) bs = (renamed-place 4 (t ∷ ts) bs).1

  pub renamed-add-count : (g : List (Term A)) (bs : List (List (Term A))) → length (add_compared cmp_b p (renamed f g) (map (renamed f) bs)) ≡ length (add_compared cmp_a p g bs)
  renamed-add-count g bs = ap length (renamed-add-pairs g bs) ∙ length_pairs f (add_compared cmp_a p g bs)

  -- ---- the full sum
  pub renamed-sum : (g : List (Term A)) (bs : List (List (Term A))) → sum_from cmp_b p (renamed f g) (map (renamed f) bs) ≡ renamed f (sum_from cmp_a p g bs)
  unfolding sum_from
  renamed-sum g [] = refl
  renamed-sum g (b ∷ bs) = ap (λ (m : List (Term B)). sum_from cmp_b p m (map (renamed f) bs)) (merged g b) ∙ renamed-sum (merge cmp_a p g b) bs

  pub renamed-sum-pairs : (g : List (Term A)) (bs : List (List (Term A))) → sum_compared cmp_b p (renamed f g) (map (renamed f) bs) ≡ renamed_pairs f (sum_compared cmp_a p g bs)
  unfolding sum_compared
  renamed-sum-pairs g [] = refl
  renamed-sum-pairs g (b ∷ bs) =
      ap₂ (λ (us vs : List (B × B)). us ++ vs) (renamed-compared cmp_a cmp_b f keeps g b) (ap (λ (m : List (Term B)). sum_compared cmp_b p m (map (renamed f) bs)) (merged g b) ∙ renamed-sum-pairs (merge cmp_a p g b) bs)
      ∙ sym (map-append _ (compared cmp_a g b) (sum_compared cmp_a p (merge cmp_a p g b) bs))

  pub renamed-sum-count : (g : List (Term A)) (bs : List (List (Term A))) → length (sum_compared cmp_b p (renamed f g) (map (renamed f) bs)) ≡ length (sum_compared cmp_a p g bs)
  renamed-sum-count g bs = ap length (renamed-sum-pairs g bs) ∙ length_pairs f (sum_compared cmp_a p g bs)

  -- ---- the search
  renamed-seek : (bs : List (List (Term A))) (x : Term A) (xs : List (Term A)) → seek cmp_b p (renamed_term f x) (renamed f xs) (map (renamed f) bs) ≡ renamed_pass f (seek cmp_a p x xs bs)
  unfolding seek
  renamed-seek =
      seek-along cmp_a p (λ x xs bs s. seek cmp_b p (renamed_term f x) (renamed f xs) (map (renamed f) bs) ≡ renamed_pass f s)
      (λ x xs. refl)
      (λ x xs bs s r. ap (λ (s : Pass B). passing [] [] s) r)
      (λ x xs y ys bs s h r.
      seek-less cmp_b p (renamed_term f x) (renamed f xs) (renamed_term f y) (renamed f ys) (map (renamed f) bs) (keeps x.mono y.mono ∙ h)
      ∙ ap₂ (λ (b : List (Term B)) (s : Pass B). replaced b (f x.mono, f y.mono) s) (renamed-keep f x.mono x.coef xs) r)
      (λ x xs y ys bs s h r.
      seek-same cmp_b p (renamed_term f x) (renamed f xs) (renamed_term f y) (renamed f ys) (map (renamed f) bs) (keeps x.mono y.mono ∙ h)
      ∙ ap (λ (s : Pass B). passing (renamed f ys) ((f x.mono, f y.mono) ∷ []) s) r)
      (λ x xs y ys bs s h r.
      seek-more cmp_b p (renamed_term f x) (renamed f xs) (renamed_term f y) (renamed f ys) (map (renamed f) bs) (keeps x.mono y.mono ∙ h)
      ∙ ap (λ (s : Pass B). passing (renamed f (y ∷ ys)) ((f x.mono, f y.mono) ∷ []) s) r)

  renamed-pass : (bs : List (List (Term A))) → pass cmp_b p (map (renamed f) bs) ≡ renamed_searched f (pass cmp_a p bs)
  unfolding pass
  renamed-pass [] = refl
  renamed-pass ([] ∷ bs) =
      let s = pass cmp_a p bs in
      ap (λ (s : Searched B). record { answer = higher s.answer; buckets = [] ∷ s.buckets; pairs = s.pairs }) (renamed-pass bs)
      ∙ ap (λ (a : Lead B). record { answer = a; buckets = [] ∷ map (renamed f) s.buckets; pairs = renamed_pairs f s.pairs }) (renamed-higher f s.answer)
  renamed-pass ((x ∷ xs) ∷ bs) = ap (λ (s : Pass B). record { answer = lead s.at s.lead; buckets = s.own ∷ s.above; pairs = s.pairs }) (renamed-seek bs x xs)

  module _ (s : Searched A) (again : List (List (Term A)) → Searched A) (again_b : List (List (Term B)) → Searched B) (h : (cs : List (List (Term A))) → again_b (map (renamed f) cs) ≡ renamed_searched f (again cs)) where
    renamed-onward : (c : ℕ) → onward cmp_b p c (renamed_searched f s) again_b ≡ renamed_searched f (onward cmp_a p c s again)
    unfolding onward
    renamed-onward zero =
        let w = again s.buckets in
        ap (λ (w : Searched B). after cmp_b p (renamed_pairs f s.pairs) w) (h s.buckets)
        ∙ ap (λ (qs : List (B × B)). record { answer = renamed_lead f w.answer; buckets = map (renamed f) w.buckets; pairs = qs }) (sym (map-append _ s.pairs w.pairs))
    renamed-onward (suc c) = refl

    renamed-ended : (l : Lead A) → ended cmp_b p (renamed_lead f l) (renamed_searched f s) again_b ≡ renamed_searched f (ended cmp_a p l s again)
    unfolding ended
    renamed-ended none = refl
    renamed-ended (lead at t) = renamed-onward t.coef

  renamed-search-in : (n : ℕ) (bs : List (List (Term A))) → search_in cmp_b p n (map (renamed f) bs) ≡ renamed_searched f (search_in cmp_a p n bs)
  unfolding search_in
  renamed-search-in zero bs = refl
  renamed-search-in (suc n) bs =
      let s = pass cmp_a p bs in
      ap (λ (s : Searched B). ended cmp_b p s.answer s (λ cs. search_in cmp_b p n cs)) (renamed-pass bs)
      ∙ renamed-ended s (λ cs. search_in cmp_a p n cs) (λ cs. search_in cmp_b p n cs) (λ cs. renamed-search-in n cs) s.answer

  pub renamed-search : (bs : List (List (Term A))) → search cmp_b p (map (renamed f) bs) ≡ renamed_searched f (search cmp_a p bs)
  renamed-search bs = ap (λ (n : ℕ). search_in cmp_b p (suc n) (map (renamed f) bs)) (renamed-held f bs) ∙ renamed-search-in (suc (held bs)) bs

  pub search-answer : (bs : List (List (Term A))) → (search cmp_b p (map (renamed f) bs)).answer ≡ renamed_lead f (search cmp_a p bs).answer
  search-answer bs = ap (λ (s : Searched B). s.answer) (renamed-search bs)

  pub search-buckets : (bs : List (List (Term A))) → (search cmp_b p (map (renamed f) bs)).buckets ≡ map (renamed f) (search cmp_a p bs).buckets
  search-buckets bs = ap (λ (s : Searched B). s.buckets) (renamed-search bs)

  pub search-count : (bs : List (List (Term A))) → length (search cmp_b p (map (renamed f) bs)).pairs ≡ length (search cmp_a p bs).pairs
  search-count bs = ap (λ (s : Searched B). length s.pairs) (renamed-search bs) ∙ length_pairs f (search cmp_a p bs).pairs
