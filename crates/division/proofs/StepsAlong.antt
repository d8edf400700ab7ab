-- Induction along the steps of a reduction, with what holds before each. Assumes nothing.
use mathlib.Core.Path.{◌≡◌, refl, sym, subst}
use mathlib.Core.Bool.{Bool, true, false}
use mathlib.Core.List.{List, [], ◌∷◌, ◌++◌}
use Prim.Native.Nat.{ℕ, zero, suc, ◌+◌, ◌<◌, ◌≤◌, Ordering}
use native.Mathlib.Decide.{dec_le}
use native.Mathlib.Omega.{arith}
use lib.ListN.{length}
use Rattle.limits.specs.Limits.{most_terms}
use Rattle.residue.specs.Prime.{Prime}
use Rattle.monomial.specs.TotalOrder.{TotalOrder}
use Rattle.polynomial.specs.Terms.{Term}
use Rattle.geobucket.specs.Buckets.{held}
use Rattle.geobucket.specs.Search.{Lead, none, lead, search}
use Rattle.geobucket.specs.Events.{Work, added, removed}
use Rattle.division.specs.Choice.{Fit, unfit, fits}
use Rattle.division.specs.Division.{tail_multiple}
use Rattle.division.specs.Steps.{Reduction, any_too_large, stopped_by, steps_from}
use Rattle.division.specs.Operations.{Operations}
use Rattle.division.proofs.FitLaws.{Sound}
use Rattle.division.proofs.StepLaws.{step-none, step-limit, step_kept, step-full, step-large, step-many, step-divided}
use Rattle.division.proofs.StateLaws.{State, kept-state, divided-state}

module _ {A : Type 0} (cmp : A → A → Ordering) (O : TotalOrder A cmp) (divides : A → A → Bool) (quotient ◌·◌ : A → A → A) (too_large : A → A → Bool) (Is : A → Type 0) (ops : Operations A cmp divides quotient ◌·◌ too_large Is) (p : ℕ) (prime : Prime p) (choose : A → Fit A) (sound : Sound cmp p Is divides choose) (places : ℕ) where
  abbrev Stop : ℕ → (leads : ℕ) → List (Term A) → Work A → Reduction A
  Stop refusal leads r w = stopped_by cmp p refusal leads r w

  abbrev Steps : (more leads : ℕ) → List (Term A) → Work A → Reduction A
  Steps more leads r w = steps_from cmp choose quotient ◌·◌ too_large p places more leads r w

  abbrev Before : (leads : ℕ) → List (Term A) → Work A → Type 0
  Before leads r w = State cmp p Is choose places leads r w

  module _
      (P : (more leads : ℕ) → List (Term A) → Work A → Reduction A → Type 0)
      (finishes : (more leads : ℕ) (r : List (Term A)) (w : Work A) → State cmp p Is choose places leads r w → (search cmp p w.buckets).answer ≡ none → P more leads r w (stopped_by cmp p 0 leads r w))
      (limited : (leads : ℕ) (r : List (Term A)) (w : Work A) (at : ℕ) (t : Term A) → State cmp p Is choose places leads r w → (search cmp p w.buckets).answer ≡ lead at t → P 0 leads r w (stopped_by cmp p 13 leads r w))
      (fills : (more leads : ℕ) (r : List (Term A)) (w : Work A) (at : ℕ) (t : Term A) → State cmp p Is choose places leads r w → (search cmp p w.buckets).answer ≡ lead at t → choose t.mono ≡ unfit → places ≤ length r → P (suc more) leads r w (stopped_by cmp p 10 leads r w))
      (keeps : (more leads : ℕ) (r : List (Term A)) (w : Work A) (at : ℕ) (t : Term A) (x : Reduction A) → State cmp p Is choose places leads r w → (search cmp p w.buckets).answer ≡ lead at t → choose t.mono ≡ unfit → P more (suc leads) (r ++ t ∷ []) (removed cmp p w) x → P (suc more) leads r w x)
      (large_tail : (more leads : ℕ) (r : List (Term A)) (w : Work A) (at : ℕ) (t : Term A) (j : ℕ) (g : Term A) (tail : List (Term A)) → State cmp p Is choose places leads r w → (search cmp p w.buckets).answer ≡ lead at t → choose t.mono ≡ fits j g tail → any_too_large too_large (quotient t.mono g.mono) tail ≡ true → P (suc more) leads r w (stopped_by cmp p 12 leads r w))
      (too_many : (more leads : ℕ) (r : List (Term A)) (w : Work A) (at : ℕ) (t : Term A) (j : ℕ) (g : Term A) (tail : List (Term A)) → State cmp p Is choose places leads r w → (search cmp p w.buckets).answer ≡ lead at t → choose t.mono ≡ fits j g tail → any_too_large too_large (quotient t.mono g.mono) tail ≡ false → most_terms < held (removed cmp p w).buckets + length tail → P (suc more) leads r w (stopped_by cmp p 11 leads r w))
      (goes_on : (more leads : ℕ) (r : List (Term A)) (w : Work A) (at : ℕ) (t : Term A) (j : ℕ) (g : Term A) (tail : List (Term A)) (x : Reduction A) → State cmp p Is choose places leads r w → (search cmp p w.buckets).answer ≡ lead at t → choose t.mono ≡ fits j g tail → any_too_large too_large (quotient t.mono g.mono) tail ≡ false → held (removed cmp p w).buckets + length tail ≤ most_terms → P more (suc leads) r (added cmp p (tail_multiple quotient ◌·◌ p t g tail) (removed cmp p w)) x → P (suc more) leads r w x) where
    -- a step, where `rest` are the steps after it
    module _ (more leads : ℕ) (r : List (Term A)) (w : Work A) (s : State cmp p Is choose places leads r w) (rest : (k : ℕ) (q : List (Term A)) (v : Work A) → State cmp p Is choose places k q v → P more k q v (steps_from cmp choose quotient ◌·◌ too_large p places more k q v)) where
      abbrev Here : Reduction A → Type 0
      Here x = P (suc more) leads r w x

      module _ (at : ℕ) (t : Term A) (e : (search cmp p w.buckets).answer ≡ lead at t) where
        by_place : choose t.mono ≡ unfit → Dec (places ≤ length r) → Here (Steps (suc more) leads r w)
        by_place u (yes h) = subst Here (sym (step-full cmp choose quotient ◌·◌ too_large p places more leads r w at t e u h)) (fills more leads r w at t s e u h)
        by_place u (no h) =
            let free : length r < places = omega arith in
            subst Here (sym (step_kept cmp choose quotient ◌·◌ too_large p places more leads r w at t e u free))
            (keeps more leads r w at t _ s e u (rest (suc leads) (r ++ t ∷ []) (removed cmp p w) (kept-state cmp O divides quotient ◌·◌ too_large Is ops p prime choose sound places s at t e u free)))

        module _ (j : ℕ) (g : Term A) (tail : List (Term A)) (fit : choose t.mono ≡ fits j g tail) where
          by-room : any_too_large too_large (quotient t.mono g.mono) tail ≡ false → Dec (held (removed cmp p w).buckets + length tail ≤ most_terms) → Here (Steps (suc more) leads r w)
          by-room n (yes h) =
              subst Here (sym (step-divided cmp choose quotient ◌·◌ too_large p places more leads r w at t e j g tail fit n h))
              (goes_on more leads r w at t j g tail _ s e fit n h (rest (suc leads) r _ (divided-state cmp O divides quotient ◌·◌ too_large Is ops p prime choose sound places s at t e j g tail fit n h)))
          by-room n (no h) =
              let many : most_terms < held (removed cmp p w).buckets + length tail = omega arith in
              subst Here (sym (step-many cmp choose quotient ◌·◌ too_large p places more leads r w at t e j g tail fit n many)) (too_many more leads r w at t j g tail s e fit n many)

          by_size : (b : Bool) → any_too_large too_large (quotient t.mono g.mono) tail ≡ b → Here (Steps (suc more) leads r w)
          by_size true b = subst Here (sym (step-large cmp choose quotient ◌·◌ too_large p places more leads r w at t e j g tail fit b)) (large_tail more leads r w at t j g tail s e fit b)
          by_size false b = by-room b (dec_le (held (removed cmp p w).buckets + length tail) most_terms)

        by-fit : (x : Fit A) → choose t.mono ≡ x → Here (Steps (suc more) leads r w)
        by-fit unfit u = by_place u (dec_le places (length r))
        by-fit (fits j g tail) u = by_size j g tail u (any_too_large too_large (quotient t.mono g.mono) tail) refl

      step : (a : Lead A) → (search cmp p w.buckets).answer ≡ a → Here (Steps (suc more) leads r w)
      step none e = subst Here (sym (step-none cmp choose quotient ◌·◌ too_large p places (suc more) leads r w e)) (finishes (suc more) leads r w s e)
      step (lead at t) e = by-fit at t e (choose t.mono) refl

    pub steps-along : (more leads : ℕ) (r : List (Term A)) (w : Work A) → State cmp p Is choose places leads r w → P more leads r w (steps_from cmp choose quotient ◌·◌ too_large p places more leads r w)
    steps-along zero leads r w s = last (search cmp p w.buckets).answer refl
      where
        last : (a : Lead A) → (search cmp p w.buckets).answer ≡ a → P 0 leads r w (Steps 0 leads r w)
        last none e = subst (P 0 leads r w) (sym (step-none cmp choose quotient ◌·◌ too_large p places 0 leads r w e)) (finishes 0 leads r w s e)
        last (lead at t) e = subst (P 0 leads r w) (sym (step-limit cmp choose quotient ◌·◌ too_large p places leads r w at t e)) (limited leads r w at t s e)
    steps-along (suc more) leads r w s = step more leads r w s (λ k q v u. steps-along more k q v u) (search cmp p w.buckets).answer refl
