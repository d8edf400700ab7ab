-- The outcome of a run (document 01, "Runs"): answer, tally, and every lent slice that can change, from what came in. Assumes nothing.
use Rattle.std.specs.Prelude.{ℕ, List, length}
use Rattle.monomial.specs.Exponents.{order_of}
use Rattle.monomial.specs.Words.{compare_words}
use Rattle.polynomial.specs.declared.setting.Setting.{Setting}
use Rattle.geobucket.specs.Buckets.{held}
use Rattle.call.specs.declared.answer.Tally.{Tally}
use Rattle.call.specs.Answers.{Stated, Outcome, returned, decided_by}
use Rattle.opening.specs.Run.{run_refusal}
use Rattle.run_outcome.specs.Runs.{Running, begun, operate_all, operations_of}

-- "comparisons, terms brought in, terms given out, terms held"
abbrev pub tally_of : Running → Tally
tally_of t = record { comparisons = length t.work.pairs; brought = length t.work.brought; given = length t.work.given; held = held t.work.buckets }

-- the refusal that stopped the run, 0 for none, the operations finished, and the output places written
abbrev pub answer_of : Running → Stated
answer_of t = record { number = t.stop; finished = t.finished; places = length t.output }

-- a run that passed its opening checks and ended, or was stopped, as t
abbrev pub ended : Running → (ow oc : List ℕ) → Outcome
ended t ow oc = returned (answer_of t) (tally_of t) t.work.buckets t.output ow oc

-- a run begins with an empty geobucket
abbrev pub ran_through : Setting → (words coefs starts ops : List ℕ) (places : ℕ) → Running
ran_through t words coefs starts ops places = operate_all (compare_words (order_of t.order)) t.p places (operations_of words coefs starts ops) begun

abbrev pub run_outcome : (tally : Tally) (t : Setting) (words coefs starts ops bw bc ww wc ow oc : List ℕ) → Outcome
run_outcome tally t words coefs starts ops bw bc ww wc ow oc =
    decided_by (run_refusal t words coefs starts ops (length bw) (length bc) (length ww) (length wc) (length ow) (length oc)) tally (ended (ran_through t words coefs starts ops (length ow)) ow oc) bw bc ww wc ow oc
