-- The steps of a reduction, one equation for each way that a step can go. Assumes nothing.
use mathlib.Core.Path.{◌≡◌, refl}
use mathlib.Core.Bool.{Bool, true, false}
use mathlib.Core.List.{List, [], ◌∷◌, ◌++◌}
use Prim.Native.Nat.{ℕ, zero, suc, ◌+◌, ◌<◌, ◌≤◌, Ordering}
use borrow.Author.Tests.{lt-ltb, le-ltb, le-leb, lt-leb}
use lib.ListN.{length}
use Rattle.limits.specs.Limits.{most_terms}
use Rattle.polynomial.specs.Terms.{Term}
use Rattle.geobucket.specs.Buckets.{held}
use Rattle.geobucket.specs.Search.{none, lead, search}
use Rattle.geobucket.specs.Events.{Work, added, removed}
use Rattle.division.specs.Choice.{Fit, unfit, fits}
use Rattle.division.specs.Division.{tail_multiple}
use Rattle.division.specs.Steps.{Reduction, any_too_large, stopped_by, dividing, keeping, steps_from}

module _ {A : Type 0} (cmp : A → A → Ordering) (choose : A → Fit A) (quotient ◌·◌ : A → A → A) (too_large : A → A → Bool) (p places : ℕ) where
  abbrev Steps : (more leads : ℕ) → List (Term A) → Work A → Reduction A
  Steps more leads r w = steps_from cmp choose quotient ◌·◌ too_large p places more leads r w

  abbrev Stop : ℕ → (leads : ℕ) → List (Term A) → Work A → Reduction A
  Stop refusal leads r w = stopped_by cmp p refusal leads r w

  -- the search finds zero
  pub step-none : (more leads : ℕ) (r : List (Term A)) (w : Work A) → (search cmp p w.buckets).answer ≡ none → steps_from cmp choose quotient ◌·◌ too_large p places more leads r w ≡ stopped_by cmp p 0 leads r w
  unfolding steps_from
  step-none zero leads r w h = to _ refl
    where
      to : (x : Reduction A) → Stop 0 leads r w ≡ x → Steps 0 leads r w ≡ x
      to x e = rw (h, steps_from) e
  step-none (suc more) leads r w h = to _ refl
    where
      to : (x : Reduction A) → Stop 0 leads r w ≡ x → Steps (suc more) leads r w ≡ x
      to x e = rw (h, steps_from) e

  -- it finds a lead, and no step is left
  pub step-limit : (leads : ℕ) (r : List (Term A)) (w : Work A) (at : ℕ) (t : Term A) → (search cmp p w.buckets).answer ≡ lead at t → steps_from cmp choose quotient ◌·◌ too_large p places 0 leads r w ≡ stopped_by cmp p 13 leads r w
  unfolding steps_from
  step-limit leads r w at t h = to _ refl
    where
      to : (x : Reduction A) → Stop 13 leads r w ≡ x → Steps 0 leads r w ≡ x
      to x e = rw (h, steps_from) e

  module _ (more leads : ℕ) (r : List (Term A)) (w : Work A) (at : ℕ) (t : Term A) (found : (search cmp p w.buckets).answer ≡ lead at t) where
    -- the lead goes to the remainder
    pub step_kept : choose t.mono ≡ unfit → length r < places → steps_from cmp choose quotient ◌·◌ too_large p places (suc more) leads r w ≡ steps_from cmp choose quotient ◌·◌ too_large p places more (suc leads) (r ++ t ∷ []) (removed cmp p w)
    unfolding steps_from keeping
    step_kept e k = to _ refl
      where
        to : (x : Reduction A) → Steps more (suc leads) (r ++ t ∷ []) (removed cmp p w) ≡ x → Steps (suc more) leads r w ≡ x
        to x q = rw (found, e, lt-ltb (length r) places k, steps_from, keeping) q

    pub step-full : choose t.mono ≡ unfit → places ≤ length r → steps_from cmp choose quotient ◌·◌ too_large p places (suc more) leads r w ≡ stopped_by cmp p 10 leads r w
    unfolding steps_from keeping
    step-full e k = to _ refl
      where
        to : (x : Reduction A) → Stop 10 leads r w ≡ x → Steps (suc more) leads r w ≡ x
        to x q = rw (found, e, le-ltb (length r) places k, steps_from, keeping) q

    -- the multiple of a divisor's tail is added
    module _ (j : ℕ) (g : Term A) (tail : List (Term A)) (fit : choose t.mono ≡ fits j g tail) where
      pub step-large : any_too_large too_large (quotient t.mono g.mono) tail ≡ true → steps_from cmp choose quotient ◌·◌ too_large p places (suc more) leads r w ≡ stopped_by cmp p 12 leads r w
      unfolding steps_from dividing
      step-large e = to _ refl
        where
          to : (x : Reduction A) → Stop 12 leads r w ≡ x → Steps (suc more) leads r w ≡ x
          to x q = rw (found, fit, e, steps_from, dividing) q

      pub step-many : any_too_large too_large (quotient t.mono g.mono) tail ≡ false → most_terms < held (removed cmp p w).buckets + length tail → steps_from cmp choose quotient ◌·◌ too_large p places (suc more) leads r w ≡ stopped_by cmp p 11 leads r w
      unfolding steps_from dividing
      step-many e k = to _ refl
        where
          to : (x : Reduction A) → Stop 11 leads r w ≡ x → Steps (suc more) leads r w ≡ x
          to x q = rw (found, fit, e, lt-leb (held (removed cmp p w).buckets + length tail) most_terms k, steps_from, dividing) q

      pub step-divided : any_too_large too_large (quotient t.mono g.mono) tail ≡ false → held (removed cmp p w).buckets + length tail ≤ most_terms → steps_from cmp choose quotient ◌·◌ too_large p places (suc more) leads r w ≡ steps_from cmp choose quotient ◌·◌ too_large p places more (suc leads) r (added cmp p (tail_multiple quotient ◌·◌ p t g tail) (removed cmp p w))
      unfolding steps_from dividing
      step-divided e k = to _ refl
        where
          to : (x : Reduction A) → Steps more (suc leads) r (added cmp p (tail_multiple quotient ◌·◌ p t g tail) (removed cmp p w)) ≡ x → Steps (suc more) leads r w ≡ x
          to x q = rw (found, fit, e, le-leb (held (removed cmp p w).buckets + length tail) most_terms k, steps_from, dividing) q
