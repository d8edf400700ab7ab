-- How a call's state changes, beside the buckets. Assumes nothing.
use Rattle.std.specs.Prelude.{ℕ, ◌+◌, ◌<◌, Bool, true, false}
use Rattle.refusal.specs.declared.Refusal.{Refusal}
use Rattle.refusal.specs.Table.{number_of}
use Rattle.call.specs.declared.state.Course.{Course}
use Rattle.call.specs.declared.state.Course.TheVariants.{Going, Finished, Refused}
use Rattle.call.specs.declared.state.State.{State}

abbrev pub goes_on : Course → Bool
goes_on Going = true
goes_on Finished = false
goes_on (Refused r) = false

-- the number of the refusal that stopped the call, 0 for none
abbrev pub stop_of : Course → ℕ
stop_of Going = 0
stop_of Finished = 0
stop_of (Refused r) = number_of r

-- a sum that is far from 64 bits
abbrev pub Countable : (count more : ℕ) → Type 0
Countable count more = count + more < 9000000000000000000

abbrev pub begun : State
begun = record { comparisons = 0; brought = 0; given = 0; places = 0; finished = 0; course = Going }

abbrev pub counted : State → (comparisons : ℕ) → State
counted s n = record { comparisons = s.comparisons + n; brought = s.brought; given = s.given; places = s.places; finished = s.finished; course = s.course }

abbrev pub brought : State → (terms : ℕ) → State
brought s n = record { comparisons = s.comparisons; brought = s.brought + n; given = s.given; places = s.places; finished = s.finished; course = s.course }

abbrev pub gave : State → (terms places : ℕ) → State
gave s n m = record { comparisons = s.comparisons; brought = s.brought; given = s.given + n; places = s.places + m; finished = s.finished; course = s.course }

abbrev pub finished_one : State → State
finished_one s = record { comparisons = s.comparisons; brought = s.brought; given = s.given; places = s.places; finished = s.finished + 1; course = s.course }

-- a call's course is set, and nothing else changes
abbrev pub turned : State → Course → State
turned s c = record { comparisons = s.comparisons; brought = s.brought; given = s.given; places = s.places; finished = s.finished; course = c }

abbrev pub closed : State → State
closed s = turned s Finished

abbrev pub halted : State → Refusal → State
halted s r = turned s (Refused r)
