-- The listing as a function of a script's bytes. Assumes nothing.
use Rattle.std.specs.Prelude.{ℕ, zero, suc, ◌≤◌, ◌≡◌, List, ◌++◌, map, take, replicate}
use Rattle.std.proofs.Math.Option.{Option, none, some}
use Rattle.limits.specs.Limits.{bucket_places, script_terms, work_places}
use Rattle.monomial.specs.declared.order.Order.{Order}
use Rattle.monomial.specs.Exponents.{order_number}
use Rattle.polynomial.specs.Terms.{terms}
use Rattle.call.specs.declared.answer.Tally.{Tally}
use Rattle.call.specs.Answers.{Stated, Outcome}
use Rattle.polynomial.specs.declared.setting.Setting.{Setting}
use Rattle.polynomial.specs.Settings.{setting_of}
use Rattle.run_outcome.specs.Outcome.{run_outcome}
use Rattle.script.specs.declared.reader.Loaded.{Loaded}
use Rattle.run_outcome.specs.Runs.{Operation, adds, leads, sums}
use Rattle.grammar.specs.Grammar.{Line, add_line, lead_line, sum_line, Script}
use Rattle.grammar.specs.Reading.{script_of}
use Rattle.grammar.specs.Parts.{entry_word, entry_coef, six_weights}
use Rattle.script.specs.Loading.{words_of, coefs_of, starts_of, pairs_of}
use Rattle.listing_lines.specs.Listing.{answers_text, cost_text, refused_text}

-- What a run answered, with its counts and its output: the lines of its leads and sums and the cost; or the refusal alone; by the number of the refusal, 0 for none.
abbrev pub ran_by : (number finished : ℕ) → (done : List ℕ) → List ℕ
ran_by zero finished done = done
ran_by (suc k) finished done = refused_text (suc k) finished

unfoldable pub ran_text : Order → (n : ℕ) → (ops ow oc : List ℕ) → Tally → Stated → List ℕ
ran_text o n ops ow oc tally a = ran_by a.number a.finished (answers_text o n ops (terms (take a.places ow) (take a.places oc)) ++ cost_text tally.comparisons tally.brought)

-- no counts before a run
abbrev pub no_tally : Tally
no_tally = record { comparisons = 0; brought = 0; given = 0; held = 0 }

-- a line as an operation of the run: an addition adds its terms, each as the word of its exponents (theorems `demand-2-operations` and `demand-2-exponents`)
abbrev pub operation_in : Script → Line → Operation
operation_in s (add_line es) = adds (terms (map (entry_word s.order (six_weights s.weights)) es) (map entry_coef es))
operation_in s lead_line = leads
operation_in s sum_line = sums

-- the setting of a script
abbrev pub setting_in : Script → Setting
setting_in s = setting_of s.prime (order_number s.order) s.vars (six_weights s.weights)

-- the run of a script, with an output of 4,096 places
abbrev pub script_outcome : Script → Outcome
script_outcome s =
    run_outcome no_tally (setting_in s) (words_of s) (coefs_of s) (starts_of s) (pairs_of s) (replicate bucket_places 0) (replicate bucket_places 0) (replicate work_places 0) (replicate work_places 0) (replicate script_terms 0) (replicate script_terms 0)

-- the lines of all its leads and sums, and the cost
abbrev pub done_text : Script → List ℕ
done_text s =
    let r = script_outcome s in
    answers_text s.order s.vars (pairs_of s) (terms (take r.answer.places r.ow) (take r.answer.places r.oc)) ++ cost_text r.tally.comparisons r.tally.brought

abbrev pub outcome_text : Order → (n : ℕ) → (ops : List ℕ) → Outcome → List ℕ
outcome_text o n ops r = ran_text o n ops r.ow r.oc r.tally r.answer

-- "17 is judged first, over the whole script, with 0 operations finished"
abbrev pub listing_by : Option Script → List ℕ
listing_by none = refused_text 17 0
listing_by (some s) = outcome_text s.order s.vars (pairs_of s) (script_outcome s)

unfoldable pub listing_of : (script : List ℕ) → List ℕ
listing_of s = listing_by (script_of s)

-- what is put for a run asks of its answer
pub record RanRoom (tally : Tally) (answer : Stated) (ow oc : ℕ) : Type 0 where
  pub brought-small : tally.brought ≤ 100000000000000000
  pub same-long : oc ≡ ow
  pub places-in : answer.places ≤ ow

-- the listing of what was read
abbrev pub loaded_text : Loaded → (words coefs starts ops : List ℕ) → List ℕ
loaded_text l words coefs starts ops =
    outcome_text l.order l.vars ops (run_outcome no_tally (setting_of l.prime (order_number l.order) l.vars l.weights) words coefs starts ops (replicate bucket_places 0) (replicate bucket_places 0) (replicate work_places 0) (replicate work_places 0) (replicate script_terms 0) (replicate script_terms 0))
