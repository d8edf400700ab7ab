-- What demand 3 says of a reduction: the events on its geobucket, as its leads determine them. Assumes nothing.
use Rattle.std.specs.Prelude.{ℕ, List, [], ◌∷◌}
use Rattle.polynomial.specs.Terms.{Term}
use Rattle.geobucket.specs.Events.{Event, addition, removal, finding}
use Rattle.division.specs.Choice.{Fit, unfit, fits}
use Rattle.division.specs.Division.{tail_multiple}

module _ {A : Type 0} (quotient ◌·◌ : A → A → A) (p : ℕ) where
  -- the lead t is removed, and where a divisor fits, the multiple of its tail is added
  abbrev pub events_by : Fit A → Term A → List (Event A) → List (Event A)
  events_by unfit t es = removal ∷ es
  events_by (fits k g tail) t es = removal ∷ addition (tail_multiple quotient ◌·◌ p t g tail) ∷ es

module _ {A : Type 0} (choose : A → Fit A) (quotient ◌·◌ : A → A → A) (p : ℕ) where
  -- the steps that remove these leads, and the search after them: "the search of a stopped step counts, and so does a reduction's last, which finds zero"
  unfoldable pub events_of : List (Term A) → List (Event A)
  events_of [] = finding ∷ []
  events_of (t ∷ ts) = events_by quotient ◌·◌ p (choose t.mono) t (events_of ts)

  -- "Polynomial 0 is added first"
  abbrev pub reduction_events : (f leads : List (Term A)) → List (Event A)
  reduction_events f leads = addition f ∷ events_of leads
