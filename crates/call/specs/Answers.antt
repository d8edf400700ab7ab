-- What a call answers and leaves. Assumes nothing.
use Rattle.std.specs.Prelude.{ℕ, zero, suc, Result, Ok, Err, List, ◌++◌, map, length, drop, replicate}
use Rattle.limits.specs.Limits.{work_places}
use Rattle.refusal.specs.Table.{number_of}
use Rattle.polynomial.specs.Terms.{Term}
use Rattle.polynomial.specs.Terms as T
use Rattle.space.specs.Space.{Buckets, held_in, laid_out}
use Rattle.call.specs.declared.state.State.{State}
use Rattle.call.specs.declared.answer.Tally.{Tally}
use Rattle.call.specs.declared.answer.Done.{Done}
use Rattle.call.specs.declared.answer.Stopped.{Stopped}
use Rattle.call.specs.States.{stop_of}

-- "When an answer is an enum, a definition states this paper's number and values for each of its cases": the refusal's number, 0 for none, "how many operations (or leads) were finished", and the output places written
pub record Stated : Type 0 where
  pub number : ℕ
  pub finished : ℕ
  pub places : ℕ

abbrev pub stated : Result Done Stopped → Stated
stated (Ok d) = record { number = 0; finished = d.finished; places = d.places }
stated (Err s) = record { number = number_of s.refusal; finished = s.finished; places = s.places }

-- an opening refusal
abbrev pub opening_refused : (number : ℕ) → Stated
opening_refused number = record { number = number; finished = 0; places = 0 }

-- Everything that a call determines: its answer, its tally, and every lent slice that can change.
pub record Outcome : Type 0 where
  pub answer : Stated
  pub tally : Tally
  pub bw : List ℕ
  pub bc : List ℕ
  pub ww : List ℕ
  pub wc : List ℕ
  pub ow : List ℕ
  pub oc : List ℕ

-- A call that passed its opening checks, with the buckets that it holds at return and the output that it wrote. "Places past a bucket's terms are 0 at return. The work space, 8,192 places for each, is all 0 at return." Of the lent slices only the output is read, past the places written: "Output past the last place written is untouched."
abbrev pub returned : Stated → Tally → (held : List (List (Term ℕ))) → (written : List (Term ℕ)) → (ow oc : List ℕ) → Outcome
returned answer tally held written ow oc = record {
  answer = answer;
  tally = tally;
  bw = laid_out 4 (map T.words held);
  bc = laid_out 4 (map T.coefs held);
  ww = replicate work_places 0;
  wc = replicate work_places 0;
  ow = T.words written ++ drop (length written) ow;
  oc = T.coefs written ++ drop (length written) oc;
}

-- "These change nothing": by the number of the opening refusal, 0 for none, with the outcome past the opening
abbrev pub decided_by : (number : ℕ) → Tally → (past : Outcome) → (bw bc ww wc ow oc : List ℕ) → Outcome
decided_by zero tally past bw bc ww wc ow oc = past
decided_by (suc k) tally past bw bc ww wc ow oc = record { answer = opening_refused (suc k); tally = tally; bw = bw; bc = bc; ww = ww; wc = wc; ow = ow; oc = oc }

-- ---- what the code hands back
abbrev pub stated_of : State → Stated
stated_of s = record { number = stop_of s.course; finished = s.finished; places = s.places }

abbrev pub tally_in : State → Buckets → Tally
tally_in s b = record { comparisons = s.comparisons; brought = s.brought; given = s.given; held = held_in b }
