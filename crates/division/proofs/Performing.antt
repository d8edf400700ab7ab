-- Demand 3 for reductions, finished or stopped: what a reduction does with its geobucket is the list of events of its leads, so its comparisons are within the bound, and nothing is lost. Assumes nothing.
use mathlib.Core.Path.{◌≡◌, refl, sym, ap, ◌∙◌, subst}
use mathlib.Core.Bool.{Bool}
use mathlib.Core.List.{List, [], ◌∷◌, ◌++◌, append-nil, append_assoc}
use Prim.Native.Nat.{ℕ, ◌+◌, ◌%◌, ◌<◌, ◌≤◌, Ordering}
use native.Mathlib.Omega.{arith}
use borrow.Author.Tests.{le-leb, lt-leb}
use lib.ListN.{length}
use Rattle.limits.specs.Limits.{most_terms}
use Rattle.residue.specs.Prime.{Prime}
use Rattle.monomial.specs.TotalOrder.{TotalOrder}
use Rattle.polynomial.specs.Terms.{Term, total, Canonical}
use Rattle.geobucket.specs.Buckets.{held, total_in}
use Rattle.geobucket.specs.Events.{Event, addition, removal, Work, start, added, removed, left, perform, Polynomials, bound}
use Rattle.geobucket.proofs.EventLaws.{events-bound, events-kept}
use Rattle.division.specs.Choice.{Fit, unfit, fits}
use Rattle.division.specs.Division.{tail_multiple}
use Rattle.division.specs.Steps.{Reduction, steps_from, reduction}
use Rattle.division.specs.Operations.{Operations}
use Rattle.division.specs.Divisors.{Valid}
use Rattle.division.specs.Demanded.{events_by, events_of, reduction_events}
use Rattle.division.proofs.FitLaws.{Sound}
use Rattle.division.proofs.StateLaws.{State, start-state, removed-given, step-adds, step-length}
use Rattle.division.proofs.StepsAlong.{steps-along}
use Rattle.division.proofs.Endings.{by_first}

-- ---- one event more in front
module _ {A : Type 0} (cmp : A → A → Ordering) (p : ℕ) where
  perform-added : (f : List (Term A)) (es : List (Event A)) (w v : Work A) → held w.buckets + length f ≤ most_terms → v ≡ perform cmp p es (added cmp p f w) → v ≡ perform cmp p (addition f ∷ es) w
  unfolding perform
  perform-added f es w v h e = rw (le-leb (held w.buckets + length f) most_terms h, perform) e

  perform-refused : (f : List (Term A)) (es : List (Event A)) (w : Work A) → most_terms < held w.buckets + length f → w ≡ perform cmp p (addition f ∷ es) w
  unfolding perform
  perform-refused f es w h = rw (lt-leb (held w.buckets + length f) most_terms h, perform)

  perform-removed : (es : List (Event A)) (w v : Work A) → v ≡ perform cmp p es (removed cmp p w) → v ≡ perform cmp p (removal ∷ es) w
  unfolding perform
  perform-removed es w v e = e

  -- the steps that remove the leads ls make v of w
  module _ (choose : A → Fit A) (quotient ◌·◌ : A → A → A) where
    record Performs (ls : List (Term A)) (w v : Work A) : Type 0 where
      polynomials : Polynomials cmp p (events_of choose quotient ◌·◌ p ls)
      work-is : v ≡ perform cmp p (events_of choose quotient ◌·◌ p ls) w

    performs-none : (w : Work A) → Performs [] w (left cmp p w)
    unfolding perform Polynomials events_of
    performs-none w = record { polynomials = tt; work-is = refl }

    performs-kept : (t : Term A) (ls : List (Term A)) (w v : Work A) → choose t.mono ≡ unfit → Performs ls (removed cmp p w) v → Performs (t ∷ ls) w v
    unfolding Polynomials events_of
    performs-kept t ls w v e q = record {
      polynomials = subst (λ (x : Fit A). Polynomials cmp p (events_by quotient ◌·◌ p x t (events_of choose quotient ◌·◌ p ls))) (sym e) q.polynomials;
      work-is = subst (λ (x : Fit A). v ≡ perform cmp p (events_by quotient ◌·◌ p x t (events_of choose quotient ◌·◌ p ls)) w) (sym e) (perform-removed (events_of choose quotient ◌·◌ p ls) w v q.work-is);
    }

    performs-divided : (t : Term A) (j : ℕ) (g : Term A) (tail ls : List (Term A)) (w v : Work A) → choose t.mono ≡ fits j g tail → Canonical cmp p (tail_multiple quotient ◌·◌ p t g tail) → held (removed cmp p w).buckets + length (tail_multiple quotient ◌·◌ p t g tail) ≤ most_terms → Performs ls (added cmp p (tail_multiple quotient ◌·◌ p t g tail) (removed cmp p w)) v → Performs (t ∷ ls) w v
    unfolding Polynomials events_of
    performs-divided t j g tail ls w v e c h q =
        let m = tail_multiple quotient ◌·◌ p t g tail in
        record {
          polynomials = subst (λ (x : Fit A). Polynomials cmp p (events_by quotient ◌·◌ p x t (events_of choose quotient ◌·◌ p ls))) (sym e) (c, q.polynomials);
          work-is = subst (λ (x : Fit A). v ≡ perform cmp p (events_by quotient ◌·◌ p x t (events_of choose quotient ◌·◌ p ls)) w) (sym e)
              (perform-removed (addition m ∷ events_of choose quotient ◌·◌ p ls) w v (perform-added m (events_of choose quotient ◌·◌ p ls) (removed cmp p w) v h q.work-is));
        }

module _ {A : Type 0} (cmp : A → A → Ordering) (O : TotalOrder A cmp) (divides : A → A → Bool) (quotient ◌·◌ : A → A → A) (too_large : A → A → Bool) (Is : A → Type 0) (ops : Operations A cmp divides quotient ◌·◌ too_large Is) (p : ℕ) (prime : Prime p) (choose : A → Fit A) (sound : Sound cmp p Is divides choose) (places : ℕ) where
  pos : 0 < p
  pos = omega (arith, prime.above)

  -- the leads that the steps from w to v remove, and their events
  record Done (w v : Work A) : Type 0 where
    gone : List (Term A)
    given_is : v.given ≡ w.given ++ gone
    performs : Performs cmp p choose quotient ◌·◌ gone w v

  done_none : (w : Work A) → Done w (left cmp p w)
  done_none w = record { gone = []; given_is = sym (append-nil w.given); performs = performs-none cmp p choose quotient ◌·◌ w }

  steps-perform : (more leads : ℕ) (r : List (Term A)) (w : Work A) → State cmp p Is choose places leads r w → Done w (steps_from cmp choose quotient ◌·◌ too_large p places more leads r w).work
  steps-perform =
      steps-along cmp O divides quotient ◌·◌ too_large Is ops p prime choose sound places (λ more leads r w x. Done w x.work)
      (λ more leads r w s e. done_none w)
      (λ leads r w at t s e. done_none w)
      (λ more leads r w at t s e u h. done_none w)
      (λ more leads r w at t x s e u k. record {
        gone = t ∷ k.gone;
        given_is = k.given_is ∙ (ap (λ (l : List (Term A)). l ++ k.gone) (removed-given cmp O divides quotient ◌·◌ too_large Is ops p prime choose sound places s at t e) ∙ append_assoc w.given (t ∷ []) k.gone);
        performs = performs-kept cmp p choose quotient ◌·◌ t k.gone w x.work u k.performs;
      })
      (λ more leads r w at t j g tail s e u b. done_none w)
      (λ more leads r w at t j g tail s e u b h. done_none w)
      (λ more leads r w at t j g tail x s e u b h k. record {
        gone = t ∷ k.gone;
        given_is = k.given_is ∙ (ap (λ (l : List (Term A)). l ++ k.gone) (removed-given cmp O divides quotient ◌·◌ too_large Is ops p prime choose sound places s at t e) ∙ append_assoc w.given (t ∷ []) k.gone);
        performs = performs-divided cmp p choose quotient ◌·◌ t j g tail k.gone w x.work u (step-adds cmp O divides quotient ◌·◌ too_large Is ops p prime choose sound places s at t e j g tail u b).canonical (omega (arith, step-length cmp O divides quotient ◌·◌ too_large Is ops p prime choose sound places s at t e j g tail u b)) k.performs;
      })

  module _ (limit : ℕ) (f : List (Term A)) (v : Valid cmp p Is f) where
    abbrev pub reduced : Reduction A
    reduced = reduction cmp choose quotient ◌·◌ too_large p places limit f

    begun : (h : length f ≤ most_terms) → Done (added cmp p f start) (steps_from cmp choose quotient ◌·◌ too_large p places limit 0 [] (added cmp p f start)).work
    begun h = steps-perform limit 0 [] (added cmp p f start) (start-state cmp O divides quotient ◌·◌ too_large Is ops p prime choose sound places f v.canonical v.are h)

    -- each polynomial that is added is canonical
    pub events-canonical : Polynomials cmp p (reduction_events choose quotient ◌·◌ p f reduced.work.given)
    unfolding Polynomials events_of
    events-canonical =
        by_first cmp choose quotient ◌·◌ too_large p places limit f (λ y. Polynomials cmp p (reduction_events choose quotient ◌·◌ p f y.work.given))
        (λ h. (v.canonical, tt))
        (λ h. let d = begun h in (v.canonical, subst (λ (l : List (Term A)). Polynomials cmp p (events_of choose quotient ◌·◌ p l)) (sym d.given_is) d.performs.polynomials))

    -- what the reduction does with its geobucket are the events of its leads, from the empty one
    pub reduction-performs : reduced.work ≡ perform cmp p (reduction_events choose quotient ◌·◌ p f reduced.work.given) start
    unfolding held
    reduction-performs =
        by_first cmp choose quotient ◌·◌ too_large p places limit f (λ y. y.work ≡ perform cmp p (reduction_events choose quotient ◌·◌ p f y.work.given) start)
        (λ h. perform-refused cmp p f (events_of choose quotient ◌·◌ p []) start (omega arith))
        (λ h.
        let d = begun h in
        perform-added cmp p f _ start _ (omega arith) (subst (λ (l : List (Term A)). (steps_from cmp choose quotient ◌·◌ too_large p places limit 0 [] (added cmp p f start)).work ≡ perform cmp p (events_of choose quotient ◌·◌ p l) (added cmp p f start)) (sym d.given_is) d.performs.work-is))

    -- "They are at most 6·N·M"
    pub reduction-bound : length reduced.work.pairs ≤ bound (length reduced.work.brought)
    reduction-bound = subst (λ (w : Work A). length w.pairs ≤ bound (length w.brought)) (sym reduction-performs) (events-bound cmp p O pos (reduction_events choose quotient ◌·◌ p f reduced.work.given) events-canonical)

    -- "as polynomials modulo p, terms given out + terms still held = terms brought in"
    pub reduction-kept : (m : A) → (total cmp m reduced.work.given + total_in cmp m reduced.work.buckets) % p ≡ total cmp m reduced.work.brought % p
    reduction-kept m = subst (λ (w : Work A). (total cmp m w.given + total_in cmp m w.buckets) % p ≡ total cmp m w.brought % p) (sym reduction-performs) (events-kept cmp p O pos (reduction_events choose quotient ◌·◌ p f reduced.work.given) events-canonical m)
