-- The search: it ends with a term above all that the buckets still hold, or with zero and empty buckets, and keeps the sum. Assumes nothing.
use mathlib.Core.Path.{◌≡◌, refl, sym, ap, ◌∙◌, subst}
use mathlib.Core.List.{List, [], ◌∷◌}
use mathlib.Core.Logic.{◌⊎◌, inl, inr, ⊎_elim}
use Prim.Native.Nat.{ℕ, zero, suc, ◌+◌, ◌%◌, ◌<◌, ◌≤◌, Ordering}
use native.Mathlib.Nat.{mod-lt}
use native.Mathlib.Omega.{arith}
use lib.ListN.{length}
use Rattle.residue.proofs.Remainder.{add_same}
use Rattle.monomial.specs.TotalOrder.{TotalOrder}
use Rattle.polynomial.specs.Terms.{Term, term, here, total, Under, Canonical}
use Rattle.polynomial.specs.Merge.{keep}
use Rattle.polynomial.proofs.MergeLaws.{Stands, less, same, more, stands, all_keep, falling-keep, length-keep, turned-gt, under_more}
use Rattle.polynomial.proofs.CoefLaws.{here-zero, here-sum, total-nil, total-cons, total-keep}
use Rattle.geobucket.specs.Buckets.{held, Canon, total_in}
use Rattle.geobucket.specs.Search.{Pass, replaced, passed, passing, seek, Lead, none, lead, Searched, higher, pass, after, onward, ended, search_in, search}
use Rattle.geobucket.specs.Credit.{Low}

-- each bucket is no longer than before
unfoldable pub Shrunk : {A : Type 0} → List (List (Term A)) → List (List (Term A)) → Type 0
Shrunk [] [] = Unit {0}
Shrunk [] (b ∷ bs) = ⊥
Shrunk (c ∷ cs) [] = ⊥
Shrunk (c ∷ cs) (b ∷ bs) = (length c ≤ length b) × Shrunk cs bs

pub shrunk-refl : {A : Type 0} (bs : List (List (Term A))) → Shrunk bs bs
unfolding Shrunk
shrunk-refl [] = tt
shrunk-refl (b ∷ bs) = (let e : length b ≤ length b = omega arith in e, shrunk-refl bs)

pub shrunk-trans : {A : Type 0} (as' bs cs : List (List (Term A))) → Shrunk as' bs → Shrunk bs cs → Shrunk as' cs
unfolding Shrunk
shrunk-trans [] [] [] h k = tt
shrunk-trans [] [] (c ∷ cs) h k = k
shrunk-trans [] (b ∷ bs) cs h k = absurd h
shrunk-trans (a ∷ as') [] cs h k = absurd h
shrunk-trans (a ∷ as') (b ∷ bs) [] h k = absurd k
shrunk-trans (a ∷ as') (b ∷ bs) (c ∷ cs) h k = (let e : length a ≤ length c = omega arith in e, shrunk-trans as' bs cs h.1 k.1)

pub shrunk-low : {A : Type 0} (M i : ℕ) (cs bs : List (List (Term A))) → Shrunk cs bs → Low M i bs → Low M i cs
unfolding Shrunk Low
shrunk-low M i [] [] h l = tt
shrunk-low M i [] (b ∷ bs) h l = absurd h
shrunk-low M i (c ∷ cs) [] h l = absurd h
shrunk-low M i (c ∷ cs) (b ∷ bs) h l = (λ k. l.0 (let e : 0 < length b = omega arith in e), shrunk-low M (suc i) cs bs h.1 l.1)

module _ {A : Type 0} (cmp : A → A → Ordering) (p : ℕ) where
  -- m is larger than every term
  unfoldable pub Above : A → List (List (Term A)) → Type 0
  Above m [] = Unit {0}
  Above m (b ∷ bs) = Under cmp m b × Above m bs

  -- the equations of a pass
  module _ (x : Term A) (xs : List (Term A)) (y : Term A) (ys : List (Term A)) (bs : List (List (Term A))) where
    pub seek-less : cmp x.mono y.mono ≡ Ordering.lt → seek cmp p x xs ((y ∷ ys) ∷ bs) ≡ replaced (keep x.mono x.coef xs) (x.mono, y.mono) (seek cmp p y ys bs)
    unfolding seek
    seek-less h = rw (h, seek)

    pub seek-same : cmp x.mono y.mono ≡ Ordering.eq → seek cmp p x xs ((y ∷ ys) ∷ bs) ≡ passing ys ((x.mono, y.mono) ∷ []) (seek cmp p (term x.mono ((x.coef + y.coef) % p)) xs bs)
    unfolding seek
    seek-same h = rw (h, seek)

    pub seek-more : cmp x.mono y.mono ≡ Ordering.gt → seek cmp p x xs ((y ∷ ys) ∷ bs) ≡ passing (y ∷ ys) ((x.mono, y.mono) ∷ []) (seek cmp p x xs bs)
    unfolding seek
    seek-more h = rw (h, seek)

  -- ---- Induction along a pass that begins with a candidate.
  module _
      (P : Term A → List (Term A) → List (List (Term A)) → Pass A → Type 0)
      (ends : (x : Term A) (xs : List (Term A)) → P x xs [] (record { lead = x; at = 0; own = xs; above = []; pairs = [] }))
      (skips : (x : Term A) (xs : List (Term A)) (bs : List (List (Term A))) (s : Pass A) → P x xs bs s → P x xs ([] ∷ bs) (passing [] [] s))
      (replaces : (x : Term A) (xs : List (Term A)) (y : Term A) (ys : List (Term A)) (bs : List (List (Term A))) (s : Pass A) → cmp x.mono y.mono ≡ Ordering.lt → P y ys bs s → P x xs ((y ∷ ys) ∷ bs) (replaced (keep x.mono x.coef xs) (x.mono, y.mono) s))
      (joins : (x : Term A) (xs : List (Term A)) (y : Term A) (ys : List (Term A)) (bs : List (List (Term A))) (s : Pass A) → cmp x.mono y.mono ≡ Ordering.eq → P (term x.mono ((x.coef + y.coef) % p)) xs bs s → P x xs ((y ∷ ys) ∷ bs) (passing ys ((x.mono, y.mono) ∷ []) s))
      (keeps : (x : Term A) (xs : List (Term A)) (y : Term A) (ys : List (Term A)) (bs : List (List (Term A))) (s : Pass A) → cmp x.mono y.mono ≡ Ordering.gt → P x xs bs s → P x xs ((y ∷ ys) ∷ bs) (passing (y ∷ ys) ((x.mono, y.mono) ∷ []) s)) where
    at-bucket : (x : Term A) (xs : List (Term A)) (y : Term A) (ys : List (Term A)) (bs : List (List (Term A))) → Stands cmp x.mono y.mono → ((z : Term A) (zs : List (Term A)) → P z zs bs (seek cmp p z zs bs)) → P x xs ((y ∷ ys) ∷ bs) (seek cmp p x xs ((y ∷ ys) ∷ bs))
    at-bucket x xs y ys bs (less h) r = rw (seek-less x xs y ys bs h) (replaces x xs y ys bs _ h (r y ys))
    at-bucket x xs y ys bs (same h) r = rw (seek-same x xs y ys bs h) (joins x xs y ys bs _ h (r (term x.mono ((x.coef + y.coef) % p)) xs))
    at-bucket x xs y ys bs (more h) r = rw (seek-more x xs y ys bs h) (keeps x xs y ys bs _ h (r x xs))

    pub seek-along : (bs : List (List (Term A))) (x : Term A) (xs : List (Term A)) → P x xs bs (seek cmp p x xs bs)
    unfolding seek
    seek-along [] x xs = ends x xs
    seek-along ([] ∷ bs) x xs = skips x xs bs _ (seek-along bs x xs)
    seek-along ((y ∷ ys) ∷ bs) x xs = at-bucket x xs y ys bs (stands cmp x.mono y.mono) (λ z zs. seek-along bs z zs)

  -- ---- what a pass that begins with the candidate x ends with
  pub record Sought (x : Term A) (xs : List (Term A)) (bs : List (List (Term A))) (s : Pass A) : Type 0 where
    -- the polynomial is unchanged
    pub sums : (m : A) → (here (cmp s.lead.mono m) s.lead.coef + (total cmp m s.own + total_in cmp m s.above)) % p ≡ (here (cmp x.mono m) x.coef + (total cmp m xs + total_in cmp m bs)) % p
    pub own-canon : Canonical cmp p s.own
    pub canon : Canon cmp p s.above
    -- the last candidate is larger than all other terms, and not smaller than the first
    pub own-under : Under cmp s.lead.mono s.own
    pub under : Above s.lead.mono s.above
    pub top : (s.lead.mono ≡ x.mono) ⊎ (cmp s.lead.mono x.mono ≡ Ordering.gt)
    pub small : s.lead.coef < p
    pub own-short : length s.own ≤ suc (length xs)
    pub short : Shrunk s.above bs
    pub fewer : length s.own + held s.above ≤ length xs + held bs

  -- a candidate, and the rest of its bucket
  pub record Candidate (x : Term A) (xs : List (Term A)) : Type 0 where
    pub over : Under cmp x.mono xs
    pub rest : Canonical cmp p xs
    pub below : x.coef < p

  of-bucket : (y : Term A) (ys : List (Term A)) → Canonical cmp p (y ∷ ys) → Candidate y ys
  of-bucket y ys c = record { over = c.falling.0; rest = record { falling = c.falling.1; reduced = c.reduced.1 }; below = c.reduced.0.1 }

  module _ (O : TotalOrder A cmp) (pos : 0 < p) where
    -- what is under the first candidate is under the last
    lifted : (l x k : A) → (l ≡ x) ⊎ (cmp l x ≡ Ordering.gt) → cmp x k ≡ Ordering.gt → cmp l k ≡ Ordering.gt
    lifted l x k t h = ⊎_elim (λ e. ap (λ (m : A). cmp m k) e ∙ h) (λ g. O.falls l x k g h) t

    keep-canon : (x : Term A) (xs : List (Term A)) → Candidate x xs → Canonical cmp p (keep x.mono x.coef xs)
    keep-canon x xs c = record {
      falling = falling-keep cmp x.mono x.coef xs c.over c.rest.falling;
      reduced = all_keep (λ t. (0 < t.coef) × (t.coef < p)) x.mono x.coef xs (λ h. (h, c.below)) c.rest.reduced;
    }

    pub sought : (bs : List (List (Term A))) (x : Term A) (xs : List (Term A)) → Candidate x xs → Canon cmp p bs → Sought x xs bs (seek cmp p x xs bs)
    unfolding total_in held Canon Above Shrunk
    sought =
        seek-along (λ x xs bs s. Candidate x xs → Canon cmp p bs → Sought x xs bs s)
        (λ x xs c g. record { sums = λ m. refl; own-canon = c.rest; canon = tt; own-under = c.over; under = tt; top = inl refl; small = c.below; own-short = omega arith; short = tt; fewer = omega arith })
        (λ x xs bs s r c g.
        let a = r c g.1 in
        record {
          sums = λ m.
              let n = total-nil cmp m in
              let l = here (cmp s.lead.mono m) s.lead.coef in
              let k = here (cmp x.mono m) x.coef in
              ap (λ (v : ℕ). v % p) (let e : l + (total cmp m s.own + (total cmp m [] + total_in cmp m s.above)) ≡ l + (total cmp m s.own + total_in cmp m s.above) = omega arith in e)
              ∙ (a.sums m ∙ ap (λ (v : ℕ). v % p) (let e : k + (total cmp m xs + total_in cmp m bs) ≡ k + (total cmp m xs + (total cmp m [] + total_in cmp m bs)) = omega arith in e));
          own-canon = a.own-canon;
          canon = (record { falling = tt; reduced = tt }, a.canon);
          own-under = a.own-under;
          under = (tt, a.under);
          top = a.top;
          small = a.small;
          own-short = a.own-short;
          short = (let e : 0 ≤ 0 = omega arith in e, a.short);
          fewer = omega (arith, a.fewer);
        })
        (λ x xs y ys bs s h r c g.
        let d = of-bucket y ys g.0 in
        let a = r d g.1 in
        let up = lifted s.lead.mono y.mono x.mono a.top (turned-gt cmp O x.mono y.mono h) in
        record {
          sums = λ m.
              let l = here (cmp s.lead.mono m) s.lead.coef in
              let k = here (cmp x.mono m) x.coef in
              let q = here (cmp y.mono m) y.coef in
              ap (λ (v : ℕ). v % p) (let e : l + (total cmp m (keep x.mono x.coef xs) + (total cmp m s.own + total_in cmp m s.above)) ≡ l + (total cmp m s.own + total_in cmp m s.above) + (k + total cmp m xs) = omega (arith, total-keep cmp m x.mono x.coef xs) in e)
              ∙ (add_same p (l + (total cmp m s.own + total_in cmp m s.above)) (q + (total cmp m ys + total_in cmp m bs)) (k + total cmp m xs) (a.sums m)
              ∙ ap (λ (v : ℕ). v % p) (let e : q + (total cmp m ys + total_in cmp m bs) + (k + total cmp m xs) ≡ k + (total cmp m xs + (total cmp m (y ∷ ys) + total_in cmp m bs)) = omega (arith, total-cons cmp m y ys) in e));
          own-canon = keep-canon x xs c;
          canon = (a.own-canon, a.canon);
          own-under = all_keep (λ t. cmp s.lead.mono t.mono ≡ Ordering.gt) x.mono x.coef xs (λ z. up) (under_more cmp O s.lead.mono x.mono up xs c.over);
          under = (a.own-under, a.under);
          top = inr up;
          small = a.small;
          own-short = length-keep x.mono x.coef xs;
          short = (a.own-short, a.short);
          fewer = omega (arith, a.fewer, length-keep x.mono x.coef xs);
        })
        (λ x xs y ys bs s h r c g.
        let d = of-bucket y ys g.0 in
        let e = O.same x.mono y.mono h in
        let a = r (record { over = c.over; rest = c.rest; below = mod-lt (x.coef + y.coef) pos }) g.1 in
        record {
          sums = λ m.
              let o = cmp x.mono m in
              let l = here (cmp s.lead.mono m) s.lead.coef in
              let like : here o y.coef ≡ here (cmp y.mono m) y.coef = ap (λ (u : A). here (cmp u m) y.coef) e in
              ap (λ (v : ℕ). v % p) (let i : l + (total cmp m s.own + (total cmp m ys + total_in cmp m s.above)) ≡ l + (total cmp m s.own + total_in cmp m s.above) + total cmp m ys = omega arith in i)
              ∙ (add_same p (l + (total cmp m s.own + total_in cmp m s.above)) (here o ((x.coef + y.coef) % p) + (total cmp m xs + total_in cmp m bs)) (total cmp m ys) (a.sums m)
              ∙ (ap (λ (v : ℕ). v % p) (let i : here o ((x.coef + y.coef) % p) + (total cmp m xs + total_in cmp m bs) + total cmp m ys ≡ here o ((x.coef + y.coef) % p) + (total cmp m xs + total_in cmp m bs + total cmp m ys) = omega arith in i)
              ∙ (add_same p (here o ((x.coef + y.coef) % p)) (here o x.coef + here o y.coef) (total cmp m xs + total_in cmp m bs + total cmp m ys) (here-sum p o x.coef y.coef)
              ∙ ap (λ (v : ℕ). v % p) (let i : here o x.coef + here o y.coef + (total cmp m xs + total_in cmp m bs + total cmp m ys) ≡ here o x.coef + (total cmp m xs + (total cmp m (y ∷ ys) + total_in cmp m bs)) = omega (arith, like, total-cons cmp m y ys) in i))));
          own-canon = a.own-canon;
          canon = (d.rest, a.canon);
          own-under = a.own-under;
          under = (
            ⊎_elim (λ q. subst (λ (u : A). Under cmp u ys) (sym (q ∙ e)) d.over) (λ q. under_more cmp O s.lead.mono y.mono (ap (cmp s.lead.mono) (sym e) ∙ q) ys d.over) a.top,
            a.under,
          );
          top = a.top;
          small = a.small;
          own-short = a.own-short;
          short = (let i : length ys ≤ suc (length ys) = omega arith in i, a.short);
          fewer = omega (arith, a.fewer);
        })
        (λ x xs y ys bs s h r c g.
        let d = of-bucket y ys g.0 in
        let a = r c g.1 in
        let up = lifted s.lead.mono x.mono y.mono a.top h in
        record {
          sums = λ m.
              let l = here (cmp s.lead.mono m) s.lead.coef in
              let k = here (cmp x.mono m) x.coef in
              let t = total cmp m (y ∷ ys) in
              ap (λ (v : ℕ). v % p) (let e : l + (total cmp m s.own + (t + total_in cmp m s.above)) ≡ l + (total cmp m s.own + total_in cmp m s.above) + t = omega arith in e)
              ∙ (add_same p (l + (total cmp m s.own + total_in cmp m s.above)) (k + (total cmp m xs + total_in cmp m bs)) t (a.sums m)
              ∙ ap (λ (v : ℕ). v % p) (let e : k + (total cmp m xs + total_in cmp m bs) + t ≡ k + (total cmp m xs + (t + total_in cmp m bs)) = omega arith in e));
          own-canon = a.own-canon;
          canon = (g.0, a.canon);
          own-under = a.own-under;
          under = ((up, under_more cmp O s.lead.mono y.mono up ys d.over), a.under);
          top = a.top;
          small = a.small;
          own-short = a.own-short;
          short = (let e : suc (length ys) ≤ suc (length ys) = omega arith in e, a.short);
          fewer = omega (arith, a.fewer);
        })

  -- ---- a pass over all buckets, and the search

  -- the share of a lead in the coefficient of m
  abbrev pub lead_total : A → Lead A → ℕ
  lead_total m none = 0
  lead_total m (lead at t) = here (cmp t.mono m) t.coef

  -- a candidate is larger than all terms beside it; without one there are none
  abbrev pub Tops : Lead A → List (List (Term A)) → Type 0
  Tops none cs = held cs ≡ 0
  Tops (lead at t) cs = (t.coef < p) × Above t.mono cs

  -- a candidate is a term less
  abbrev pub Fewer : Lead A → List (List (Term A)) → List (List (Term A)) → Type 0
  Fewer none cs bs = held cs ≤ held bs
  Fewer (lead at t) cs bs = held cs < held bs

  pub record Passes (bs : List (List (Term A))) (s : Searched A) : Type 0 where
    pub sums : (m : A) → (lead_total m s.answer + total_in cmp m s.buckets) % p ≡ total_in cmp m bs % p
    pub canon : Canon cmp p s.buckets
    pub short : Shrunk s.buckets bs
    pub tops : Tops s.answer s.buckets
    pub fewer : Fewer s.answer s.buckets bs

  -- a lead that is not zero
  abbrev pub Leads : Lead A → List (List (Term A)) → Type 0
  Leads none cs = held cs ≡ 0
  Leads (lead at t) cs = (0 < t.coef) × (t.coef < p) × Above t.mono cs

  pub record Finds (bs : List (List (Term A))) (s : Searched A) : Type 0 where
    -- the lead and the buckets without it are the polynomial
    pub sums : (m : A) → (lead_total m s.answer + total_in cmp m s.buckets) % p ≡ total_in cmp m bs % p
    pub canon : Canon cmp p s.buckets
    pub short : Shrunk s.buckets bs
    pub leads : Leads s.answer s.buckets
    pub fewer : Fewer s.answer s.buckets bs

  pub ended-none : (s : Searched A) (again : List (List (Term A)) → Searched A) → s.answer ≡ none → ended cmp p s.answer s again ≡ s
  unfolding ended
  ended-none s again h = ap (λ (a : Lead A). ended cmp p a s again) h

  pub ended-lead : (s : Searched A) (again : List (List (Term A)) → Searched A) (at c : ℕ) (t : Term A) → s.answer ≡ lead at t → t.coef ≡ suc c → ended cmp p s.answer s again ≡ s
  unfolding ended onward
  ended-lead s again at c t h k = ap (λ (a : Lead A). ended cmp p a s again) h ∙ ap (λ (n : ℕ). onward cmp p n s again) k

  pub ended-again : (s : Searched A) (again : List (List (Term A)) → Searched A) (at : ℕ) (t : Term A) → s.answer ≡ lead at t → t.coef ≡ 0 → ended cmp p s.answer s again ≡ after cmp p s.pairs (again s.buckets)
  unfolding ended onward
  ended-again s again at t h k = ap (λ (a : Lead A). ended cmp p a s again) h ∙ ap (λ (n : ℕ). onward cmp p n s again) k

  -- ---- Induction along a search: it ends with a pass, or goes on after one.
  module _
      (P : List (List (Term A)) → Searched A → Type 0)
      (stops : (bs : List (List (Term A))) → P bs (record { answer = none; buckets = bs; pairs = [] }))
      (ends : (bs : List (List (Term A))) → P bs (pass cmp p bs))
      (goes_on : (bs : List (List (Term A))) (s : Searched A) → P (pass cmp p bs).buckets s → P bs (after cmp p (pass cmp p bs).pairs s)) where
    pub search-along : (n : ℕ) (bs : List (List (Term A))) → P bs (search_in cmp p n bs)
    unfolding search_in
    search-along zero bs = stops bs
    search-along (suc n) bs = by_answer s.answer refl (search-along n s.buckets)
      where
        s : Searched A
        s = pass cmp p bs

        again : List (List (Term A)) → Searched A
        again cs = search_in cmp p n cs

        by-coef : (at : ℕ) (t : Term A) → s.answer ≡ lead at t → (c : ℕ) → t.coef ≡ c → P s.buckets (again s.buckets) → P bs (ended cmp p s.answer s again)
        by-coef at t e zero z r = subst (P bs) (sym (ended-again s again at t e z)) (goes_on bs _ r)
        by-coef at t e (suc c) z r = subst (P bs) (sym (ended-lead s again at c t e z)) (ends bs)

        by_answer : (a : Lead A) → s.answer ≡ a → P s.buckets (again s.buckets) → P bs (ended cmp p s.answer s again)
        by_answer none e r = subst (P bs) (sym (ended-none s again e)) (ends bs)
        by_answer (lead at t) e r = by-coef at t e t.coef refl r

  -- ---- the lead's bucket is one of the buckets
  abbrev pub Within : Lead A → List (List (Term A)) → Type 0
  Within none cs = Unit {0}
  Within (lead at t) cs = at < length cs

  passed-within : (at n : ℕ) → at ≤ n → passed at ≤ suc n
  passed-within zero n h = omega arith
  passed-within (suc at) n h = omega arith

  seek-within : (bs : List (List (Term A))) (x : Term A) (xs : List (Term A)) → (seek cmp p x xs bs).at ≤ length (seek cmp p x xs bs).above
  seek-within =
      seek-along (λ x xs bs s. s.at ≤ length s.above)
      (λ x xs. omega arith)
      (λ x xs bs s r. passed-within s.at (length s.above) r)
      (λ x xs y ys bs s h r. omega arith)
      (λ x xs y ys bs s h r. passed-within s.at (length s.above) r)
      (λ x xs y ys bs s h r. passed-within s.at (length s.above) r)

  higher-within : (a : Lead A) (cs : List (List (Term A))) → Within a cs → Within (higher a) ([] ∷ cs)
  higher-within none cs h = tt
  higher-within (lead at t) cs h = omega arith

  pub pass-within : (bs : List (List (Term A))) → Within (pass cmp p bs).answer (pass cmp p bs).buckets
  unfolding pass
  pass-within [] = tt
  pass-within ([] ∷ bs) = higher-within (pass cmp p bs).answer (pass cmp p bs).buckets (pass-within bs)
  pass-within ((x ∷ xs) ∷ bs) = omega (arith, seek-within bs x xs)

  pub search-within : (bs : List (List (Term A))) → Within (search cmp p bs).answer (search cmp p bs).buckets
  search-within bs = search-along (λ bs s. Within s.answer s.buckets) (λ bs. tt) pass-within (λ bs s r. r) (suc (held bs)) bs

  module _ (O : TotalOrder A cmp) (pos : 0 < p) where
    raised : (m : A) (a : Lead A) → lead_total m (higher a) ≡ lead_total m a
    raised m none = refl
    raised m (lead at t) = refl

    raised-tops : (a : Lead A) (cs : List (List (Term A))) → Tops a cs → Tops (higher a) ([] ∷ cs)
    unfolding held Above
    raised-tops none cs h = omega arith
    raised-tops (lead at t) cs h = (h.0, (tt, h.1))

    raised-fewer : (a : Lead A) (cs bs : List (List (Term A))) → Fewer a cs bs → Fewer (higher a) ([] ∷ cs) ([] ∷ bs)
    unfolding held
    raised-fewer none cs bs h = omega arith
    raised-fewer (lead at t) cs bs h = omega arith

    pub passes : (bs : List (List (Term A))) → Canon cmp p bs → Passes bs (pass cmp p bs)
    unfolding pass total_in held Canon Shrunk Above
    passes [] g = record { sums = λ m. refl; canon = tt; short = tt; tops = refl; fewer = omega arith }
    passes ([] ∷ bs) g =
        let a = passes bs g.1 in
        let s = pass cmp p bs in
        record {
          sums = λ m.
              let n = total-nil cmp m in
              ap (λ (v : ℕ). v % p) (let e : lead_total m (higher s.answer) + (total cmp m [] + total_in cmp m s.buckets) ≡ lead_total m s.answer + total_in cmp m s.buckets = omega (arith, raised m s.answer) in e)
              ∙ (a.sums m ∙ ap (λ (v : ℕ). v % p) (let e : total_in cmp m bs ≡ total cmp m [] + total_in cmp m bs = omega arith in e));
          canon = (g.0, a.canon);
          short = (let e : 0 ≤ 0 = omega arith in e, a.short);
          tops = raised-tops s.answer s.buckets a.tops;
          fewer = raised-fewer s.answer s.buckets bs a.fewer;
        }
    passes ((x ∷ xs) ∷ bs) g =
        let a = sought O pos bs x xs (of-bucket x xs g.0) g.1 in
        record {
          sums = λ m. a.sums m ∙ ap (λ (v : ℕ). v % p) (let e : here (cmp x.mono m) x.coef + (total cmp m xs + total_in cmp m bs) ≡ total cmp m (x ∷ xs) + total_in cmp m bs = omega (arith, total-cons cmp m x xs) in e);
          canon = (a.own-canon, a.canon);
          short = (a.own-short, a.short);
          tops = (a.small, (a.own-under, a.under));
          fewer = omega (arith, a.fewer);
        }

    finds-in : (n : ℕ) (bs : List (List (Term A))) → held bs < n → Canon cmp p bs → Finds bs (search_in cmp p n bs)
    unfolding search_in
    finds-in zero bs h g = absurd (let z : ⊥ = omega arith in z)
    finds-in (suc n) bs h g = by_answer s.answer refl (passes bs g) (λ cs k c. finds-in n cs k c)
      where
        s : Searched A
        s = pass cmp p bs

        again : List (List (Term A)) → Searched A
        again cs = search_in cmp p n cs

        by-coef : (at : ℕ) (t : Term A) → s.answer ≡ lead at t → (c : ℕ) → t.coef ≡ c → Passes bs s → ((cs : List (List (Term A))) → held cs < n → Canon cmp p cs → Finds cs (again cs)) → Finds bs (ended cmp p s.answer s again)
        by-coef at t e zero z q r =
            let few : held s.buckets < held bs = subst (λ (a : Lead A). Fewer a s.buckets bs) e q.fewer in
            let d = r s.buckets (let k : held s.buckets < n = omega arith in k) q.canon in
            let w = again s.buckets in
            subst (Finds bs) (sym (ended-again s again at t e z))
            (record {
              sums = λ m.
                  let none' : lead_total m s.answer ≡ 0 = ap (lead_total m) e ∙ (ap (here (cmp t.mono m)) z ∙ here-zero (cmp t.mono m)) in
                  d.sums m ∙ (ap (λ (v : ℕ). v % p) (let i : total_in cmp m s.buckets ≡ lead_total m s.answer + total_in cmp m s.buckets = omega arith in i) ∙ q.sums m);
              canon = d.canon;
              short = shrunk-trans w.buckets s.buckets bs d.short q.short;
              leads = d.leads;
              fewer = few-again w.answer w.buckets d.fewer few;
            })
          where
            few-again : (a : Lead A) (cs : List (List (Term A))) → Fewer a cs s.buckets → held s.buckets < held bs → Fewer a cs bs
            few-again none cs i k = omega arith
            few-again (lead at' t') cs i k = omega arith
        by-coef at t e (suc c) z q r =
            let top : Tops (lead at t) s.buckets = subst (λ (a : Lead A). Tops a s.buckets) e q.tops in
            subst (Finds bs) (sym (ended-lead s again at c t e z))
            (record {
              sums = q.sums;
              canon = q.canon;
              short = q.short;
              leads = subst (λ (a : Lead A). Leads a s.buckets) (sym e) (let i : 0 < t.coef = omega arith in i, top.0, top.1);
              fewer = q.fewer;
            })

        by_answer : (a : Lead A) → s.answer ≡ a → Passes bs s → ((cs : List (List (Term A))) → held cs < n → Canon cmp p cs → Finds cs (again cs)) → Finds bs (ended cmp p s.answer s again)
        by_answer none e q r =
            subst (Finds bs) (sym (ended-none s again e))
            (record { sums = q.sums; canon = q.canon; short = q.short; leads = subst (λ (a : Lead A). Leads a s.buckets) (sym e) (subst (λ (a : Lead A). Tops a s.buckets) e q.tops); fewer = q.fewer })
        by_answer (lead at t) e q r = by-coef at t e t.coef refl q r

    pub finds : (bs : List (List (Term A))) → Canon cmp p bs → Finds bs (search cmp p bs)
    finds bs g = finds-in (suc (held bs)) bs (omega arith) g
