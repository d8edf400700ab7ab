-- The full sum of the buckets as a polynomial: its lead is the lead that the search finds, and an addition adds to it. Assumes nothing.
use mathlib.Core.Path.{◌≡◌, refl, sym, ap, ◌∙◌, subst}
use mathlib.Core.List.{List, [], ◌∷◌}
use Prim.Native.Nat.{ℕ, zero, suc, ◌+◌, ◌%◌, ◌<◌, ◌≤◌, Ordering}
use native.Mathlib.Nat.{zero-mod}
use native.Mathlib.Omega.{arith}
use lib.ListN.{length}
use Rattle.residue.proofs.Remainder.{add-both}
use Rattle.monomial.specs.TotalOrder.{TotalOrder}
use Rattle.polynomial.specs.Terms.{Term, here, total, Under, Canonical}
use Rattle.polynomial.proofs.CoefLaws.{total-nil, total-cons, canonical-unique}
use Rattle.geobucket.specs.Buckets.{held, Good, total_in, add, full_sum, room, Canon}
use Rattle.geobucket.specs.Search.{Lead, none, lead, search, put_back, with_lead}
use Rattle.geobucket.specs.TrueSum.{sum_at, IsZero, IsLead, Right}
use Rattle.geobucket.proofs.AddLaws.{adds}
use Rattle.geobucket.proofs.SearchLaws.{Above, lead_total, Leads, Within, finds, search-within}
use Rattle.geobucket.proofs.EventLaws.{good-canon, with-total}
use Rattle.geobucket.proofs.LeadLaws.{lead-right, sum-right}
use Rattle.division.specs.Division.{SumOf}
use Rattle.division.proofs.HeldTerms.{sum-each, above-every}

-- a lead that is put back is one term more
pub put-held : {A : Type 0} (at : ℕ) (t : Term A) (bs : List (List (Term A))) → at < length bs → held (put_back at t bs) ≡ suc (held bs)
unfolding put_back held
put-held at t [] h = absurd (let z : ⊥ = omega arith in z)
put-held zero t (b ∷ bs) h = omega arith
put-held (suc at) t (b ∷ bs) h = omega (arith, put-held at t bs (omega arith))

module _ {A : Type 0} (cmp : A → A → Ordering) (p : ℕ) where
  put-canon : (at : ℕ) (t : Term A) (bs : List (List (Term A))) → 0 < t.coef → t.coef < p → Above cmp p t.mono bs → Canon cmp p bs → Canon cmp p (put_back at t bs)
  unfolding put_back Canon Above
  put-canon at t [] h k a c = tt
  put-canon zero t (b ∷ bs) h k a c = (record { falling = (a.0, c.0.falling); reduced = ((h, k), c.0.reduced) }, c.1)
  put-canon (suc at) t (b ∷ bs) h k a c = (c.0, put-canon at t bs h k a.1 c.1)

  with-canon : (a : Lead A) (bs : List (List (Term A))) → Leads cmp p a bs → Canon cmp p bs → Canon cmp p (with_lead a bs)
  with-canon none bs l c = c
  with-canon (lead at t) bs l c = put-canon at t bs l.0 l.1 l.2 c

  module _ (O : TotalOrder A cmp) (pos : 0 < p) where
    nil-canonical : Canonical cmp p []
    nil-canonical = record { falling = tt; reduced = tt }

    module _ (bs : List (List (Term A))) (canon : Canon cmp p bs) where
      abbrev cs : List (List (Term A))
      cs = (search cmp p bs).buckets

      -- ---- a lead that is found and left
      pub left-sum : (m : A) → sum_at cmp p (with_lead (search cmp p bs).answer (search cmp p bs).buckets) m ≡ sum_at cmp p bs m
      left-sum m = ap (λ (n : ℕ). n % p) (with-total cmp p m (search cmp p bs).answer cs (search-within cmp p bs)) ∙ (finds cmp p O pos bs canon).sums m

      pub left-canon : Canon cmp p (with_lead (search cmp p bs).answer (search cmp p bs).buckets)
      left-canon = let a = finds cmp p O pos bs canon in with-canon (search cmp p bs).answer cs a.leads a.canon

      pub whole-left : full_sum cmp p (with_lead (search cmp p bs).answer (search cmp p bs).buckets) ≡ full_sum cmp p bs
      whole-left =
          let a = sum-right cmp p O pos (with_lead (search cmp p bs).answer cs) left-canon in
          let b = sum-right cmp p O pos bs canon in
          canonical-unique cmp O p pos _ _ a.0 b.0 (λ m. a.1 m ∙ (left-sum m ∙ sym (b.1 m)))

      -- ---- zero is found
      pub whole-none : (search cmp p bs).answer ≡ none → full_sum cmp p bs ≡ []
      whole-none e =
          let b = sum-right cmp p O pos bs canon in
          let z : IsZero cmp p bs = subst (Right cmp p bs) e (lead-right cmp p O pos bs canon) in
          canonical-unique cmp O p pos _ _ b.0 nil-canonical (λ m. b.1 m ∙ (z.zero-at m ∙ sym (ap (λ (n : ℕ). n % p) (total-nil cmp m) ∙ zero-mod p)))

      pub left-none : (search cmp p bs).answer ≡ none → held (with_lead (search cmp p bs).answer (search cmp p bs).buckets) ≡ 0
      left-none e = ap (λ (x : Lead A). held (with_lead x cs)) e ∙ subst (λ (x : Lead A). Leads cmp p x cs) e (finds cmp p O pos bs canon).leads

      -- ---- a lead is found
      module _ (at : ℕ) (t : Term A) (e : (search cmp p bs).answer ≡ lead at t) where
        leads : (0 < t.coef) × (t.coef < p) × Above cmp p t.mono (search cmp p bs).buckets
        leads = subst (λ (x : Lead A). Leads cmp p x cs) e (finds cmp p O pos bs canon).leads

        pub whole-under : Under cmp t.mono (full_sum cmp p (search cmp p bs).buckets)
        whole-under = sum-each (λ m. cmp t.mono m ≡ Ordering.gt) cmp p [] cs tt (above-every cmp p t.mono cs leads.2)

        pub whole-lead : full_sum cmp p bs ≡ t ∷ full_sum cmp p (search cmp p bs).buckets
        whole-lead =
            let f = finds cmp p O pos bs canon in
            let a = sum-right cmp p O pos cs f.canon in
            let b = sum-right cmp p O pos bs canon in
            canonical-unique cmp O p pos _ _ b.0 (record { falling = (whole-under, a.0.falling); reduced = ((leads.0, leads.1), a.0.reduced) })
            (λ m.
            let s = here (cmp t.mono m) t.coef in
            b.1 m
            ∙ (sym (f.sums m)
            ∙ (ap (λ (x : Lead A). (lead_total cmp p m x + total_in cmp m cs) % p) e
            ∙ (add-both p s s (total_in cmp m cs) (total cmp m (full_sum cmp p cs)) refl (sym (a.1 m)) ∙ ap (λ (n : ℕ). n % p) (sym (total-cons cmp m t (full_sum cmp p cs)))))))

        pub left-lead : IsLead cmp p (with_lead (search cmp p bs).answer (search cmp p bs).buckets) t
        left-lead =
            let l : IsLead cmp p bs t = subst (Right cmp p bs) e (lead-right cmp p O pos bs canon) in
            record { coef-is = left-sum t.mono ∙ l.coef-is; not-zero = l.not-zero; largest = λ m h. left-sum m ∙ l.largest m h }

        pub left-held : held (with_lead (search cmp p bs).answer (search cmp p bs).buckets) ≡ suc (held (search cmp p bs).buckets)
        left-held = ap (λ (x : Lead A). held (with_lead x cs)) e ∙ put-held at t cs (subst (λ (x : Lead A). Within cmp p x cs) e (search-within cmp p bs))

    -- ---- an addition
    pub whole-added : (f : List (Term A)) (bs : List (List (Term A))) → length f + held bs ≤ room 4 bs → Canonical cmp p f → Good cmp p 4 bs → SumOf cmp p (full_sum cmp p bs) f (full_sum cmp p (add cmp p f bs))
    whole-added f bs few c g =
        let a = adds cmp p O pos f bs few c g in
        let b = sum-right cmp p O pos (add cmp p f bs) (good-canon cmp p 4 (add cmp p f bs) a.good) in
        let d = sum-right cmp p O pos bs (good-canon cmp p 4 bs g) in
        record {
          canonical = b.0;
          coefficients = λ m.
              b.1 m
              ∙ (a.sums m
              ∙ (add-both p (total cmp m f) (total cmp m f) (total_in cmp m bs) (total cmp m (full_sum cmp p bs)) refl (sym (d.1 m))
              ∙ ap (λ (n : ℕ). n % p) (let e : total cmp m f + total cmp m (full_sum cmp p bs) ≡ total cmp m (full_sum cmp p bs) + total cmp m f = omega arith in e)));
        }
