-- The outcome of a reduction (document 01, "Reductions"), from what came in. Assumes nothing.
use Rattle.std.specs.Prelude.{ℕ, List, length}
use Rattle.monomial.specs.Exponents.{order_of}
use Rattle.polynomial.specs.declared.setting.Setting.{Setting}
use Rattle.geobucket.specs.Buckets.{held}
use Rattle.call.specs.declared.answer.Tally.{Tally}
use Rattle.call.specs.Answers.{Outcome, returned, decided_by}
use Rattle.call.specs.Lending.{polynomial, divisors_of}
use Rattle.opening.specs.Reduction.{reduction_refusal}
use Rattle.division.specs.Steps.{Reduction, reduction_of_words}

-- "terms brought in counts the first polynomial and each tail added; terms given out counts the remainder"
abbrev pub tally_of : Reduction ℕ → Tally
tally_of r = record { comparisons = length r.work.pairs; brought = length r.work.brought; given = length r.remainder; held = held r.work.buckets }

-- A reduction that passed its opening checks and finished, or was stopped, as r. "The answer carries the number of leads removed", and the remainder's terms so far. "Output and tally are as in a run, but no zero place ends a remainder".
abbrev pub ended : Reduction ℕ → (ow oc : List ℕ) → Outcome
ended r ow oc = returned (record { number = r.stop; finished = r.leads; places = length r.remainder }) (tally_of r) r.work.buckets r.remainder ow oc

-- "Polynomial 0 is added first; the others are divisors."
abbrev pub reduced_through : Setting → (words coefs starts : List ℕ) (limit places : ℕ) → Reduction ℕ
reduced_through t words coefs starts limit places = reduction_of_words (order_of t.order) t.p (divisors_of words coefs starts) places limit (polynomial words coefs starts 0)

abbrev pub reduction_outcome : (tally : Tally) (t : Setting) (words coefs starts : List ℕ) (limit : ℕ) (bw bc ww wc ow oc : List ℕ) → Outcome
reduction_outcome tally t words coefs starts limit bw bc ww wc ow oc =
    decided_by (reduction_refusal t words coefs starts limit (length bw) (length bc) (length ww) (length wc) (length ow) (length oc)) tally (ended (reduced_through t words coefs starts limit (length ow)) ow oc) bw bc ww wc ow oc
