-- The last state of a reduction, finished or stopped: its counts, the leads that it removed, and its remainder so far. Assumes nothing.
use mathlib.Core.Path.{◌≡◌, refl, ◌∙◌}
use mathlib.Core.Bool.{Bool}
use mathlib.Core.List.{List, [], ◌∷◌}
use Prim.Native.Nat.{ℕ, zero, suc, ◌+◌, ◌*◌, ◌<◌, ◌≤◌, Ordering}
use native.Mathlib.Omega.{arith}
use lib.ListN.{length}
use Rattle.limits.specs.Limits.{most_terms}
use Rattle.residue.specs.Prime.{Prime}
use Rattle.monomial.specs.TotalOrder.{TotalOrder}
use Rattle.polynomial.specs.Terms.{Term, All}
use Rattle.polynomial.proofs.MergeLaws.{all_map}
use Rattle.geobucket.specs.Buckets.{empty, held, emptied, Good}
use Rattle.geobucket.specs.Search.{Lead, none, lead, search, put_back, with_lead}
use Rattle.geobucket.specs.Events.{Work, start, added, left}
use Rattle.geobucket.proofs.SearchLaws.{Above, Fewer, finds, Within, search-within}
use Rattle.geobucket.proofs.LeftLaws.{search-left}
use Rattle.geobucket.proofs.EventLaws.{good-canon, shrunk-good, shrunk-count, emptied-good, left-ends}
use Rattle.division.specs.Choice.{Fit, unfit}
use Rattle.division.specs.Steps.{Reduction, steps_from, reduction}
use Rattle.division.specs.Operations.{Operations}
use Rattle.division.specs.Divisors.{Valid}
use Rattle.division.proofs.HeldTerms.{Every, OfLead, search-every, above-every, every-above}
use Rattle.division.proofs.FitLaws.{Sound}
use Rattle.division.proofs.StateLaws.{Gone, gone-none, State, start-state}
use Rattle.division.proofs.StepsAlong.{steps-along}
use Rattle.division.proofs.WholeLaws.{put-held, left-canon}
use Rattle.division.proofs.Endings.{by_first}

-- ---- a lead that is put back
module _ {A : Type 0} (P : A → Type 0) where
  pub put-every : (at : ℕ) (t : Term A) (bs : List (List (Term A))) → P t.mono → Every P bs → Every P (put_back at t bs)
  unfolding put_back Every
  put-every at t [] h e = tt
  put-every zero t (b ∷ bs) h e = ((h, e.0), e.1)
  put-every (suc at) t (b ∷ bs) h e = (e.0, put-every at t bs h e.1)

  pub with-every : (a : Lead A) (bs : List (List (Term A))) → OfLead P a → Every P bs → Every P (with_lead a bs)
  with-every none bs h e = e
  with-every (lead at t) bs h e = put-every at t bs h e

module _ {A : Type 0} (cmp : A → A → Ordering) (p : ℕ) where
  with-held : (a : Lead A) (cs bs : List (List (Term A))) → Within cmp p a cs → Fewer cmp p a cs bs → held (with_lead a cs) ≤ held bs
  with-held none cs bs i h = h
  with-held (lead at t) cs bs i h = omega (arith, put-held at t cs i)

  -- what is larger than all is still so after a search that leaves its lead
  gone-left : (Is : A → Type 0) (bs : List (List (Term A))) (ts : List (Term A)) → Gone cmp p Is bs ts → Gone cmp p Is (with_lead (search cmp p bs).answer (search cmp p bs).buckets) ts
  gone-left Is bs ts g = record {
    canonical = g.canonical;
    over = all_map {P = λ u. Above cmp p u.mono bs} {Q = λ u. Above cmp p u.mono (with_lead (search cmp p bs).answer (search cmp p bs).buckets)}
        (λ u a.
        let s = search-every (λ m. cmp u.mono m ≡ Ordering.gt) cmp p bs (above-every cmp p u.mono bs a) in
        every-above cmp p u.mono _ (with-every (λ m. cmp u.mono m ≡ Ordering.gt) (search cmp p bs).answer (search cmp p bs).buckets s.0 s.1))
        ts g.over;
    are = g.are;
  }

  module _ (Is : A → Type 0) (choose : A → Fit A) (places limit : ℕ) where
    -- What holds of a reduction x, to its end or up to the step that is stopped.
    pub record Last (x : Reduction A) : Type 0 where
      pub leads-few : x.leads ≤ limit
      pub held-few : held x.work.buckets ≤ most_terms
      pub held-good : Good cmp p 4 x.work.buckets
      pub held-six : length x.work.buckets ≡ 6
      pub held-are : Every Is x.work.buckets
      pub brought-few : length x.work.brought ≤ most_terms * suc x.leads
      pub pairs-few : length x.work.pairs ≤ 35 * length x.work.brought
      -- the leads removed are what the geobucket gave out: they fall strictly, and each is larger than all that is held
      pub given-count : length x.work.given ≡ x.leads
      pub given-gone : Gone cmp p Is x.work.buckets x.work.given
      -- the remainder so far: no divisor fits a term of it
      pub out-few : length x.remainder ≤ x.leads
      pub out-places : length x.remainder ≤ places
      pub out-gone : Gone cmp p Is x.work.buckets x.remainder
      pub out-unfit : All (λ u. choose u.mono ≡ unfit) x.remainder

module _ {A : Type 0} (cmp : A → A → Ordering) (O : TotalOrder A cmp) (divides : A → A → Bool) (quotient ◌·◌ : A → A → A) (too_large : A → A → Bool) (Is : A → Type 0) (ops : Operations A cmp divides quotient ◌·◌ too_large Is) (p : ℕ) (prime : Prime p) (choose : A → Fit A) (sound : Sound cmp p Is divides choose) (places : ℕ) where
  pos : 0 < p
  pos = omega (arith, prime.above)

  module _ {leads : ℕ} {r : List (Term A)} {w : Work A} (s : State cmp p Is choose places leads r w) where
    -- the state in which a step that finds a lead stops, or a search that finds zero
    stopped : (refusal limit : ℕ) → leads ≤ limit → Last cmp p Is choose places limit (record { stop = refusal; leads = leads; remainder = r; work = left cmp p w })
    stopped refusal limit l =
        let a = finds cmp p O pos w.buckets (good-canon cmp p 4 w.buckets s.holds.good) in
        record {
          leads-few = l;
          held-few = omega (arith, with-held cmp p (search cmp p w.buckets).answer (search cmp p w.buckets).buckets w.buckets (search-within cmp p w.buckets) a.fewer, s.held-few);
          held-good = shrunk-good cmp p 4 (left cmp p w).buckets w.buckets (search-left cmp p w.buckets) (left-canon cmp p O pos w.buckets (good-canon cmp p 4 w.buckets s.holds.good)) s.holds.good;
          held-six = shrunk-count (left cmp p w).buckets w.buckets (search-left cmp p w.buckets) ∙ s.holds.six;
          held-are = let e = search-every Is cmp p w.buckets s.are in with-every Is (search cmp p w.buckets).answer (search cmp p w.buckets).buckets e.0 e.1;
          brought-few = s.brought-few;
          pairs-few = (left-ends cmp p O pos 6 (omega arith) w s.holds).paid;
          given-count = s.given-count;
          given-gone = gone-left cmp p Is w.buckets w.given s.given-gone;
          out-few = s.out-few;
          out-places = s.out-places;
          out-gone = gone-left cmp p Is w.buckets r s.out-gone;
          out-unfit = s.out-unfit;
        }

  steps-last : (limit more leads : ℕ) (r : List (Term A)) (w : Work A) → State cmp p Is choose places leads r w → leads + more ≤ limit → Last cmp p Is choose places limit (steps_from cmp choose quotient ◌·◌ too_large p places more leads r w)
  steps-last limit =
      steps-along cmp O divides quotient ◌·◌ too_large Is ops p prime choose sound places (λ more leads r w x. leads + more ≤ limit → Last cmp p Is choose places limit x)
      (λ more leads r w s e l. stopped s 0 limit (omega arith))
      (λ leads r w at t s e l. stopped s 13 limit (omega arith))
      (λ more leads r w at t s e u h l. stopped s 10 limit (omega arith))
      (λ more leads r w at t x s e u k l. k (omega arith))
      (λ more leads r w at t j g tail s e u b l. stopped s 12 limit (omega arith))
      (λ more leads r w at t j g tail s e u b h l. stopped s 11 limit (omega arith))
      (λ more leads r w at t j g tail x s e u b h k l. k (omega arith))

  pub last : (limit : ℕ) (f : List (Term A)) → Valid cmp p Is f → Last cmp p Is choose places limit (reduction cmp choose quotient ◌·◌ too_large p places limit f)
  unfolding held emptied Every
  last limit f v =
      by_first cmp choose quotient ◌·◌ too_large p places limit f (Last cmp p Is choose places limit)
      (λ h. record {
        leads-few = omega arith;
        held-few = omega arith;
        held-good = emptied-good cmp p 4 empty;
        held-six = refl;
        held-are = (tt, (tt, (tt, (tt, (tt, (tt, tt))))));
        brought-few = omega arith;
        pairs-few = omega arith;
        given-count = refl;
        given-gone = gone-none cmp p Is empty;
        out-few = omega arith;
        out-places = omega arith;
        out-gone = gone-none cmp p Is empty;
        out-unfit = tt;
      })
      (λ h. steps-last limit limit 0 [] (added cmp p f start) (start-state cmp O divides quotient ◌·◌ too_large Is ops p prime choose sound places f v.canonical v.are h) (omega arith))
