-- A search, pass by pass, over lists. Assumes nothing.
use mathlib.Core.Path.{◌≡◌, refl, sym, ap, ap₂, ◌∙◌, subst}
use mathlib.Core.List.{List, [], ◌∷◌, ◌++◌}
use Prim.Native.Nat.{ℕ, zero, suc, ◌+◌, ◌-◌, ◌*◌, ◌<◌, ◌≤◌, Ordering}
use native.Mathlib.Omega.{arith}
use lib.ListN.{length, get_or, drop, length-append}
use Rattle.limits.specs.Limits.{bucket_places}
use Rattle.monomial.specs.TotalOrder.{TotalOrder}
use Rattle.polynomial.specs.Terms.{Term}
use Rattle.geobucket.specs.Buckets.{held, Canon}
use Rattle.geobucket.specs.Search.{seek, Lead, none, lead, Searched, pass, after, ended, search_in, search, put_back}
use Rattle.geobucket.proofs.SearchLaws.{Above, Shrunk, Tops, Fewer, Within, Passes, passes, pass-within, ended-none, ended-lead, ended-again, seek-along}
use Rattle.space.specs.Space.{list_from}
use Rattle.space.proofs.SpaceLaws.{from-same}

-- ---- a pass over buckets of which the lowest are empty
module _ (cmp : ℕ → ℕ → Ordering) (p : ℕ) (g : ℕ → List (Term ℕ)) where
  pub pass-first : (i a k : ℕ) → ((j : ℕ) → j < i → g (a + j) ≡ []) → (x : Term ℕ) (xs : List (Term ℕ)) → g (a + i) ≡ x ∷ xs
      → let s = seek cmp p x xs (list_from g (suc (a + i)) k) in pass cmp p (list_from g a (i + suc k)) ≡ record { answer = lead (i + s.at) s.lead; buckets = list_from g a i ++ (s.own ∷ s.above); pairs = s.pairs }
  unfolding pass list_from
  pass-first zero a k none_below x xs e =
      let z : a + 0 ≡ a = omega arith in
      let n : 0 + suc k ≡ suc k = omega arith in
      let e' : g a ≡ x ∷ xs = ap g (sym z) ∙ e in
      let w : 0 + (seek cmp p x xs (list_from g (suc a) k)).at ≡ (seek cmp p x xs (list_from g (suc a) k)).at = omega arith in
      rw (z, n, e', w) refl
  pass-first (suc i) a k none_below x xs e =
      let z : a + suc i ≡ suc a + i = omega arith in
      let n : suc i + suc k ≡ suc (i + suc k) = omega arith in
      let first : g a ≡ [] = ap g (let w : a ≡ a + 0 = omega arith in w) ∙ none_below 0 (omega arith) in
      let r = pass-first i (suc a) k (λ j h. ap g (let w : suc a + j ≡ a + suc j = omega arith in w) ∙ none_below (suc j) (omega arith)) x xs (ap g (sym z) ∙ e) in
      let s = seek cmp p x xs (list_from g (suc (suc a + i)) k) in
      let w : suc i + s.at ≡ suc (i + s.at) = omega arith in
      rw (z, n, first, r, w) refl

  pub pass-none : (k a : ℕ) → ((j : ℕ) → j < k → g (a + j) ≡ []) → pass cmp p (list_from g a k) ≡ record { answer = none; buckets = list_from g a k; pairs = [] }
  unfolding pass list_from
  pass-none zero a h = refl
  pass-none (suc k) a h =
      let first : g a ≡ [] = ap g (let w : a ≡ a + 0 = omega arith in w) ∙ h 0 (omega arith) in
      let r = pass-none k (suc a) (λ j l. ap g (let w : suc a + j ≡ a + suc j = omega arith in w) ∙ h (suc j) (omega arith)) in
      rw (first, r) refl

-- ---- a lead that is put back
pub put-append : (as' bs : List (List (Term ℕ))) (k : ℕ) (t : Term ℕ) → as' ++ put_back k t bs ≡ put_back (length as' + k) t (as' ++ bs)
unfolding put_back
put-append [] bs k t = ap (λ (n : ℕ). put_back n t bs) (let e : k ≡ 0 + k = omega arith in e)
put-append (a ∷ as') bs k t = ap (λ (l : List (List (Term ℕ))). a ∷ l) (put-append as' bs k t) ∙ ap (λ (n : ℕ). put_back n t (a ∷ (as' ++ bs))) (let e : suc (length as' + k) ≡ suc (length as') + k = omega arith in e)

pub canon-put : (cmp : ℕ → ℕ → Ordering) (p at : ℕ) (t : Term ℕ) (bs : List (List (Term ℕ))) → 0 < t.coef → t.coef < p → Above cmp p t.mono bs → Canon cmp p bs → Canon cmp p (put_back at t bs)
unfolding put_back Canon Above
canon-put cmp p at t [] h k a c = tt
canon-put cmp p zero t (b ∷ bs) h k a c = (record { falling = (a.0, c.0.falling); reduced = ((h, k), c.0.reduced) }, c.1)
canon-put cmp p (suc at) t (b ∷ bs) h k a c = (c.0, canon-put cmp p at t bs h k a.1 c.1)

-- the buckets g with the lead t in front of bucket j: t is there, and without it the buckets are cs
pub record Fronted (g : ℕ → List (Term ℕ)) (a k j : ℕ) (t : Term ℕ) (cs : List (List (Term ℕ))) : Type 0 where
  pub rest : List (Term ℕ)
  pub front : g (a + j) ≡ t ∷ rest
  pub back : (g' : ℕ → List (Term ℕ)) → g' (a + j) ≡ rest → ((m : ℕ) → a ≤ m → m < a + k → (m ≡ a + j → ⊥) → g' m ≡ g m) → list_from g' a k ≡ cs

list-head : (l : List (List (Term ℕ))) → List (Term ℕ)
list-head l = get_or l 0 []

pub fronted : (g : ℕ → List (Term ℕ)) (k a j : ℕ) (t : Term ℕ) (cs : List (List (Term ℕ))) → list_from g a k ≡ put_back j t cs → j < k → length cs ≡ k → Fronted g a k j t cs
unfolding put_back list_from list-head
fronted g zero a j t cs e h l = absurd (let z : ⊥ = omega arith in z)
fronted g (suc k) a j t [] e h l = absurd (let z : ⊥ = omega arith in z)
fronted g (suc k) a zero t (c ∷ cs) e h l =
    let z : a + 0 ≡ a = omega arith in
    record {
      rest = c;
      front = ap g z ∙ ap list-head e;
      back = λ g' f o. ap₂ (λ (x : List (Term ℕ)) (y : List (List (Term ℕ))). x ∷ y) (ap g' (sym z) ∙ f) (from-same g' g (suc a) k (λ m u v. o m (omega arith) (omega arith) (λ q. let w : ⊥ = omega arith in w)) ∙ ap (λ (x : List (List (Term ℕ))). drop 1 x) e);
    }
fronted g (suc k) a (suc j) t (c ∷ cs) e h l =
    let r = fronted g k (suc a) j t cs (ap (λ (x : List (List (Term ℕ))). drop 1 x) e) (omega arith) (let w : length cs ≡ k = omega arith in w) in
    let z : suc a + j ≡ a + suc j = omega arith in
    record {
      rest = r.rest;
      front = ap g (sym z) ∙ r.front;
      back = λ g' f o. ap₂ (λ (x : List (Term ℕ)) (y : List (List (Term ℕ))). x ∷ y) (o a (omega arith) (omega arith) (λ q. let w : ⊥ = omega arith in w) ∙ ap list-head e) (r.back g' (ap g' z ∙ f) (λ m u v ne. o m (omega arith) (omega arith) (λ q. ne (q ∙ sym z))));
    }

pub shrunk-long : (cs bs : List (List (Term ℕ))) → Shrunk cs bs → length cs ≡ length bs
unfolding Shrunk
shrunk-long [] [] h = refl
shrunk-long [] (b ∷ bs) h = absurd h
shrunk-long (c ∷ cs) [] h = absurd h
shrunk-long (c ∷ cs) (b ∷ bs) h = ap suc (shrunk-long cs bs h.1)

-- a pass compares at most once for each bucket above its first candidate's
pub seek-few : (cmp : ℕ → ℕ → Ordering) (p : ℕ) (bs : List (List (Term ℕ))) (x : Term ℕ) (xs : List (Term ℕ)) → length (seek cmp p x xs bs).pairs ≤ length bs
seek-few cmp p =
    seek-along cmp p (λ x xs bs s. length s.pairs ≤ length bs)
    (λ x xs. omega arith)
    (λ x xs bs s r. omega arith)
    (λ x xs y ys bs s h r. omega arith)
    (λ x xs y ys bs s h r. omega arith)
    (λ x xs y ys bs s h r. omega arith)

-- ---- the state: F is what the whole search ends with; bs is what is left to search after n comparisons
pub record Finding (cmp : ℕ → ℕ → Ordering) (p : ℕ) (F : Searched ℕ) (bs : List (List (Term ℕ))) (n : ℕ) : Type 0 where
  pub fuel : ℕ
  pub enough : held bs < fuel
  pub answer-is : (search_in cmp p fuel bs).answer ≡ F.answer
  pub buckets-are : (search_in cmp p fuel bs).buckets ≡ F.buckets
  pub count-is : n + length (search_in cmp p fuel bs).pairs ≡ length F.pairs
  pub canon : Canon cmp p bs
  pub few : n + 6 * held bs ≤ 40000

pub finding-start : (cmp : ℕ → ℕ → Ordering) (p : ℕ) (bs : List (List (Term ℕ))) → Canon cmp p bs → held bs ≤ bucket_places → Finding cmp p (search cmp p bs) bs 0
finding-start cmp p bs c h = record { fuel = suc (held bs); enough = omega arith; answer-is = refl; buckets-are = refl; count-is = omega arith; canon = c; few = omega arith }

-- a search whose first pass is P
module _ (cmp : ℕ → ℕ → Ordering) (p : ℕ) (bs : List (List (Term ℕ))) (P : Searched ℕ) (e_p : pass cmp p bs ≡ P) where
  search-none : (fuel : ℕ) → held bs < fuel → P.answer ≡ none → search_in cmp p fuel bs ≡ P
  unfolding search_in
  search-none zero h e = absurd (let z : ⊥ = omega arith in z)
  search-none (suc k) h e = ap (λ (s : Searched ℕ). ended cmp p s.answer s (λ cs. search_in cmp p k cs)) e_p ∙ ended-none cmp p P (λ cs. search_in cmp p k cs) e

  search-lead : (fuel : ℕ) → held bs < fuel → (at c : ℕ) (t : Term ℕ) → P.answer ≡ lead at t → t.coef ≡ suc c → search_in cmp p fuel bs ≡ P
  unfolding search_in
  search-lead zero h at c t e k = absurd (let z : ⊥ = omega arith in z)
  search-lead (suc m) h at c t e k = ap (λ (s : Searched ℕ). ended cmp p s.answer s (λ cs. search_in cmp p m cs)) e_p ∙ ended-lead cmp p P (λ cs. search_in cmp p m cs) at c t e k

  search-again : (k at : ℕ) (t : Term ℕ) → P.answer ≡ lead at t → t.coef ≡ 0 → search_in cmp p (suc k) bs ≡ after cmp p P.pairs (search_in cmp p k P.buckets)
  unfolding search_in
  search-again k at t e z = ap (λ (s : Searched ℕ). ended cmp p s.answer s (λ cs. search_in cmp p k cs)) e_p ∙ ended-again cmp p P (λ cs. search_in cmp p k cs) at t e z

module _ {cmp : ℕ → ℕ → Ordering} {p : ℕ} {F : Searched ℕ} {bs : List (List (Term ℕ))} {n : ℕ} (O : TotalOrder ℕ cmp) (pos : 0 < p) (f : Finding cmp p F bs n) (P : Searched ℕ) (e_p : pass cmp p bs ≡ P) where
  the-pass : Passes cmp p bs P
  the-pass = subst (Passes cmp p bs) e_p (passes cmp p O pos bs f.canon)

  pub pass-long : length P.buckets ≡ length bs
  pass-long = shrunk-long P.buckets bs the-pass.short

  -- the pass is the last one
  module _ (w : search_in cmp p f.fuel bs ≡ P) where
    pub last-answer : F.answer ≡ P.answer
    last-answer = sym f.answer-is ∙ ap (λ (s : Searched ℕ). s.answer) w

    pub last-buckets : F.buckets ≡ P.buckets
    last-buckets = sym f.buckets-are ∙ ap (λ (s : Searched ℕ). s.buckets) w

    pub last-count : length F.pairs ≡ n + length P.pairs
    last-count = omega (arith, f.count-is, ap (λ (s : Searched ℕ). length s.pairs) w)

  -- it ends with no candidate
  pub whole-none : P.answer ≡ none → search_in cmp p f.fuel bs ≡ P
  whole-none = search-none cmp p bs P e_p f.fuel f.enough

  -- it ends with a candidate
  module _ (at : ℕ) (t : Term ℕ) (e : P.answer ≡ lead at t) where
    pub lead-in : at < length bs
    lead-in = let w : at < length P.buckets = subst (λ (a : Lead ℕ). Within cmp p a P.buckets) e (subst (λ (s : Searched ℕ). Within cmp p s.answer s.buckets) e_p (pass-within cmp p bs)) in omega (arith, w, pass-long)

    tops : (t.coef < p) × Above cmp p t.mono P.buckets
    tops = subst (λ (a : Lead ℕ). Tops cmp p a P.buckets) e the-pass.tops

    pub fewer : held P.buckets < held bs
    fewer = subst (λ (a : Lead ℕ). Fewer cmp p a P.buckets bs) e the-pass.fewer

    -- not of coefficient 0: it is the lead
    module _ (ne : t.coef ≡ 0 → ⊥) where
      pub whole-lead : search_in cmp p f.fuel bs ≡ P
      whole-lead = search-lead cmp p bs P e_p f.fuel f.enough at (t.coef - 1) t e (omega (arith, ne))

      pub lead-canon : Canon cmp p (put_back at t P.buckets)
      lead-canon = canon-put cmp p at t P.buckets (omega (arith, ne)) tops.0 tops.1 the-pass.canon

    -- of coefficient 0: the search goes on without it
    pub finding-on : t.coef ≡ 0 → length P.pairs ≤ 5 → Finding cmp p F P.buckets (n + length P.pairs)
    finding-on z few =
        let k = f.fuel - 1 in
        let w : search_in cmp p f.fuel bs ≡ after cmp p P.pairs (search_in cmp p k P.buckets) = ap (λ (m : ℕ). search_in cmp p m bs) (let q : f.fuel ≡ suc k = omega (arith, f.enough) in q) ∙ search-again cmp p bs P e_p k at t e z in
        record {
          fuel = k;
          enough = omega (arith, f.enough, fewer);
          answer-is = ap (λ (s : Searched ℕ). s.answer) (sym w) ∙ f.answer-is;
          buckets-are = ap (λ (s : Searched ℕ). s.buckets) (sym w) ∙ f.buckets-are;
          count-is = omega (arith, f.count-is, ap (λ (s : Searched ℕ). length s.pairs) w, length-append P.pairs (search_in cmp p k P.buckets).pairs);
          canon = the-pass.canon;
          few = omega (arith, f.few, few, fewer);
        }
