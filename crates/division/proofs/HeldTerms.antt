-- What holds of every monomial in the buckets: an addition and a search keep it. Assumes nothing.
use mathlib.Core.Path.{◌≡◌}
use mathlib.Core.List.{List, [], ◌∷◌}
use Prim.Native.Nat.{ℕ, suc, Ordering}
use Rattle.polynomial.specs.Terms.{Term, All}
use Rattle.polynomial.specs.Merge.{merge}
use Rattle.polynomial.proofs.MergeLaws.{merge-all, all_keep}
use Rattle.geobucket.specs.Buckets.{held, carry, place, add, sum_from}
use Rattle.geobucket.specs.Search.{seek, Lead, none, lead, higher, pass, search}
use Rattle.geobucket.proofs.AddLaws.{carry-along, place-along}
use Rattle.geobucket.proofs.SearchLaws.{Above, seek-along, search-along}

module _ {A : Type 0} (P : A → Type 0) where
  -- P holds of each monomial of a list
  abbrev pub Each : List (Term A) → Type 0
  Each ts = All (λ t. P t.mono) ts

  unfoldable pub Every : List (List (Term A)) → Type 0
  Every [] = Unit {0}
  Every (b ∷ bs) = All (λ t. P t.mono) b × Every bs

  -- of the lead, where there is one
  abbrev pub OfLead : Lead A → Type 0
  OfLead none = Unit {0}
  OfLead (lead at t) = P t.mono

  module _ (cmp : A → A → Ordering) (p : ℕ) where
    merge-each : (f b : List (Term A)) → Each f → Each b → Each (merge cmp p f b)
    merge-each f b u v = merge-all cmp p (λ t. P t.mono) (λ x y h a c s. a) f b u v

    carry-every : (cap : ℕ) (f : List (Term A)) (bs : List (List (Term A))) → Each f → Every bs → Every (carry cmp p cap f bs)
    unfolding Every
    carry-every =
        carry-along cmp p (λ cap f bs cs qs. Each f → Every bs → Every cs)
        (λ cap f u v. tt)
        (λ cap f b bs l u v. (merge-each f b u v.0, v.1))
        (λ cap f b bs cs qs l r u v. (tt, r (merge-each f b u v.0) v.1))

    place-every : (cap : ℕ) (f : List (Term A)) (bs : List (List (Term A))) → Each f → Every bs → Every (place cmp p cap f bs)
    unfolding Every
    place-every =
        place-along cmp p (λ cap f bs cs qs. Each f → Every bs → Every cs)
        (λ cap f u v. tt)
        (λ cap f b bs l u v. carry-every cap f (b ∷ bs) u v)
        (λ cap f b bs cs qs l r u v. (v.0, r u v.1))

    pub add-every : (f : List (Term A)) (bs : List (List (Term A))) → All (λ t. P t.mono) f → Every bs → Every (add cmp p f bs)
    unfolding add
    add-every [] bs u v = v
    add-every (t ∷ ts) bs u v = place-every 4 (t ∷ ts) bs u v

    -- ---- a full sum
    pub sum-each : (f : List (Term A)) (bs : List (List (Term A))) → All (λ t. P t.mono) f → Every bs → All (λ t. P t.mono) (sum_from cmp p f bs)
    unfolding sum_from Every
    sum-each f [] u v = u
    sum-each f (b ∷ bs) u v = sum-each (merge cmp p f b) bs (merge-each f b u v.0) v.1

    -- ---- a search
    seek-every : (bs : List (List (Term A))) (x : Term A) (xs : List (Term A)) → P x.mono → Each xs → Every bs → P (seek cmp p x xs bs).lead.mono × Each (seek cmp p x xs bs).own × Every (seek cmp p x xs bs).above
    unfolding Every
    seek-every =
        seek-along cmp p (λ x xs bs s. P x.mono → Each xs → Every bs → P s.lead.mono × Each s.own × Every s.above)
        (λ x xs h u v. (h, u, tt))
        (λ x xs bs s r h u v. let q = r h u v.1 in (q.0, q.1, (tt, q.2)))
        (λ x xs y ys bs s e r h u v. let q = r v.0.0 v.0.1 v.1 in (q.0, all_keep (λ t. P t.mono) x.mono x.coef xs (λ z. h) u, (q.1, q.2)))
        (λ x xs y ys bs s e r h u v. let q = r h u v.1 in (q.0, q.1, (v.0.1, q.2)))
        (λ x xs y ys bs s e r h u v. let q = r h u v.1 in (q.0, q.1, (v.0, q.2)))

    higher-lead : (a : Lead A) → OfLead a → OfLead (higher a)
    higher-lead none h = tt
    higher-lead (lead at t) h = h

    pass-every : (bs : List (List (Term A))) → Every bs → OfLead (pass cmp p bs).answer × Every (pass cmp p bs).buckets
    unfolding pass Every
    pass-every [] v = (tt, tt)
    pass-every ([] ∷ bs) v = let r = pass-every bs v.1 in (higher-lead (pass cmp p bs).answer r.0, (tt, r.1))
    pass-every ((x ∷ xs) ∷ bs) v = let r = seek-every bs x xs v.0.0 v.0.1 v.1 in (r.0, (r.1, r.2))

    pub search-every : (bs : List (List (Term A))) → Every bs → OfLead (search cmp p bs).answer × Every (search cmp p bs).buckets
    search-every bs v = search-along cmp p (λ bs s. Every bs → OfLead s.answer × Every s.buckets) (λ bs v. (tt, v)) pass-every (λ bs s r v. r (pass-every bs v).1) (suc (held bs)) bs v

-- ---- that m is larger than every term is of this kind
module _ {A : Type 0} (cmp : A → A → Ordering) (p : ℕ) (m : A) where
  pub above-every : (bs : List (List (Term A))) → Above cmp p m bs → Every (λ a. cmp m a ≡ Ordering.gt) bs
  unfolding Above Every
  above-every [] h = tt
  above-every (b ∷ bs) h = (h.0, above-every bs h.1)

  pub every-above : (bs : List (List (Term A))) → Every (λ a. cmp m a ≡ Ordering.gt) bs → Above cmp p m bs
  unfolding Above Every
  every-above [] h = tt
  every-above (b ∷ bs) h = (h.0, every-above bs h.1)
