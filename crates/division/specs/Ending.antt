-- How a reduction that passed its opening checks ends, by what it leaves: each refusal under the condition that document 01 names. Assumes nothing.
use Prim.Native.Nat.{ℕ, ◌+◌, ◌<◌, ◌≤◌, Ordering}
use Rattle.std.specs.Prelude.{◌≡◌, Bool, true, false, List, [], length}
use Rattle.limits.specs.Limits.{most_terms}
use Rattle.polynomial.specs.Terms.{Term}
use Rattle.geobucket.specs.Buckets.{held}
use Rattle.geobucket.specs.TrueSum.{IsZero, IsLead}
use Rattle.division.specs.Choice.{Fit, unfit, fits}
use Rattle.division.specs.Steps.{any_too_large}

module _ {A : Type 0} (cmp : A → A → Ordering) (choose : A → Fit A) (quotient : A → A → A) (too_large : A → A → Bool) (p places limit : ℕ) where
  -- The steps end with the refusal k, 0 for none, so many leads removed, the remainder r so far, and the buckets bs: "In a reduction step: 13; then 12, then 11, if a divisor fits, else 10". A stopped step leaves its lead in the buckets, so t is the lead of what they hold.
  pub data Stopping (k leads : ℕ) (r : List (Term A)) (bs : List (List (Term A))) : Type 0 where
    -- no lead is left, and the buckets are empty
    finished : k ≡ 0 → leads ≤ limit → IsZero cmp p bs → held bs ≡ 0 → Stopping k leads r bs
    -- "13: a non-zero lead is found and the step limit's leads are removed already"
    at-limit : (t : Term A) → k ≡ 13 → leads ≡ limit → IsLead cmp p bs t → Stopping k leads r bs
    -- "12: a product has an exponent over 127"
    over : (t : Term A) (j : ℕ) (g : Term A) (tail : List (Term A)) → k ≡ 12 → leads < limit → IsLead cmp p bs t → choose t.mono ≡ fits j g tail → any_too_large too_large (quotient t.mono g.mono) tail ≡ true → Stopping k leads r bs
    -- "11: terms held + terms to add > 4,096; in a reduction the lead is not counted as held"
    too_many : (t : Term A) (j : ℕ) (g : Term A) (tail : List (Term A)) → k ≡ 11 → leads < limit → IsLead cmp p bs t → choose t.mono ≡ fits j g tail → any_too_large too_large (quotient t.mono g.mono) tail ≡ false → most_terms + 1 < held bs + length tail → Stopping k leads r bs
    -- "10: too little output: a lead or remainder term needs one free place"
    no_place : (t : Term A) → k ≡ 10 → leads < limit → IsLead cmp p bs t → choose t.mono ≡ unfit → places < length r + 1 → Stopping k leads r bs

  -- The reduction of f ends so.
  pub data Ending (k leads : ℕ) (f r : List (Term A)) (bs : List (List (Term A))) : Type 0 where
    -- "polynomial 0 itself is tested before the first step, leaving buckets, work space and tally all 0"
    first-too-many : k ≡ 11 → most_terms < length f → leads ≡ 0 → r ≡ [] → held bs ≡ 0 → Ending k leads f r bs
    by-steps : length f ≤ most_terms → Stopping k leads r bs → Ending k leads f r bs
