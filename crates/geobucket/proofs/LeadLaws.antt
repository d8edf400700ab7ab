-- The search gives the lead of the true sum, and zero exactly where that is zero; the full sum is the canonical list of the true sum. Assumes nothing.
use mathlib.Core.Path.{◌≡◌, refl, sym, ap, ◌∙◌}
use mathlib.Core.List.{List, [], ◌∷◌}
use Prim.Native.Nat.{ℕ, ◌+◌, ◌%◌, ◌<◌, Ordering}
use native.Mathlib.Nat.{mod-eq_of_lt}
use native.Mathlib.Omega.{arith}
use Rattle.monomial.specs.TotalOrder.{TotalOrder}
use Rattle.polynomial.specs.Terms.{Term, here, total, coef_at, Canonical}
use Rattle.polynomial.proofs.MergeLaws.{turned_lt, under_more}
use Rattle.polynomial.proofs.CoefLaws.{total-nil, total-under}
use Rattle.geobucket.specs.Buckets.{held, Canon, total_in, full_sum}
use Rattle.geobucket.specs.Search.{Lead, none, lead, search}
use Rattle.geobucket.specs.TrueSum.{sum_at, IsZero, Right}
use Rattle.geobucket.proofs.SearchLaws.{Above, lead_total, Leads, finds}
use Rattle.geobucket.proofs.SumLaws.{sum-totals, sum-canonical}

module _ {A : Type 0} (cmp : A → A → Ordering) (p : ℕ) where
  none-total : (m : A) (bs : List (List (Term A))) → held bs ≡ 0 → total_in cmp m bs ≡ 0
  unfolding held total_in
  none-total m [] h = refl
  none-total m ([] ∷ bs) h = omega (arith, total-nil cmp m, none-total m bs (omega arith))
  none-total m ((t ∷ ts) ∷ bs) h = absurd (let z : ⊥ = omega arith in z)

  module _ (O : TotalOrder A cmp) (pos : 0 < p) where
    above-total : (m : A) (bs : List (List (Term A))) → Above cmp p m bs → total_in cmp m bs ≡ 0
    unfolding Above total_in
    above-total m [] h = refl
    above-total m (b ∷ bs) h = omega (arith, total-under cmp O m b h.0, above-total m bs h.1)

    above_more : (m k : A) → cmp m k ≡ Ordering.gt → (bs : List (List (Term A))) → Above cmp p k bs → Above cmp p m bs
    unfolding Above
    above_more m k h [] a = tt
    above_more m k h (b ∷ bs) a = (under_more cmp O m k h b a.0, above_more m k h bs a.1)

    right : (bs cs : List (List (Term A))) (a : Lead A) → ((m : A) → (lead_total cmp p m a + total_in cmp m cs) % p ≡ total_in cmp m bs % p) → Leads cmp p a cs → Right cmp p bs a
    right bs cs none s l = record { zero-at = λ m. sym (s m) ∙ (ap (λ (n : ℕ). n % p) (let e : 0 + total_in cmp m cs ≡ 0 = omega (arith, none-total m cs l) in e) ∙ mod-eq_of_lt pos) }
    right bs cs (lead at t) s l = record {
      coef-is =
          sym (s t.mono)
          ∙ (ap (λ (n : ℕ). n % p) (let e : here (cmp t.mono t.mono) t.coef + total_in cmp t.mono cs ≡ t.coef = omega (arith, ap (λ (o : Ordering). here o t.coef) (O.like t.mono), above-total t.mono cs l.2) in e)
          ∙ mod-eq_of_lt l.1);
      not-zero = l.0;
      largest = λ m h.
          sym (s m)
          ∙ (ap (λ (n : ℕ). n % p) (let e : here (cmp t.mono m) t.coef + total_in cmp m cs ≡ 0 = omega (arith, ap (λ (o : Ordering). here o t.coef) (turned_lt cmp O m t.mono h), above-total m cs (above_more m t.mono h cs l.2)) in e)
          ∙ mod-eq_of_lt pos);
    }

    -- the term given is the lead of the true sum, and zero is given only where that is zero
    pub lead-right : (bs : List (List (Term A))) → Canon cmp p bs → Right cmp p bs (search cmp p bs).answer
    lead-right bs g = let a = finds cmp p O pos bs g in right bs (search cmp p bs).buckets (search cmp p bs).answer a.sums a.leads

    -- and there it is given
    pub zero-found : (bs : List (List (Term A))) → Canon cmp p bs → IsZero cmp p bs → (search cmp p bs).answer ≡ none
    zero-found bs g z = go (search cmp p bs).answer (lead-right bs g)
      where
        go : (a : Lead A) → Right cmp p bs a → a ≡ none
        go none r = refl
        go (lead at t) r = absurd (let q : ⊥ = omega (arith, r.coef-is, r.not-zero, z.zero-at t.mono) in q)

    -- the full sum is the one canonical list with the true sum's coefficients
    pub sum-right : (bs : List (List (Term A))) → Canon cmp p bs → Canonical cmp p (full_sum cmp p bs) × ((m : A) → coef_at cmp p m (full_sum cmp p bs) ≡ sum_at cmp p bs m)
    sum-right bs g = (
      sum-canonical cmp p O pos [] bs (record { falling = tt; reduced = tt }) g,
      λ m. sum-totals cmp p O m [] bs ∙ ap (λ (n : ℕ). n % p) (let e : total cmp m [] + total_in cmp m bs ≡ total_in cmp m bs = omega (arith, total-nil cmp m) in e),
    )
