-- Idle engines (document 01, "Which idle engines get through a weak contract?"): for each a call, and what is right there; the idle engine makes something else of it. Assumes nothing.
use mathlib.Core.Path.{◌≡◌, refl, ap, ap₂, ◌∙◌}
use mathlib.Core.List.{List, [], ◌∷◌}
use Prim.Native.Nat.{ℕ}
use lib.ListN.{length}
use Rattle.limits.specs.Limits.{bucket_places, work_places}
use Rattle.residue.specs.Prime.{is_prime, no_divisor}
use Rattle.monomial.specs.Exponents.{ones}
use Rattle.monomial.specs.Layout.{bytes, fields, in_layout}
use Rattle.polynomial.specs.Settings.{setting_of}
use Rattle.polynomial.specs.Merge.{keep, into, merge, compared_into, compared}
use Rattle.polynomial.specs.Opening.{starts_good, rise_to, terms_refusal, fall, refusal_of}
use Rattle.geobucket.specs.Buckets.{held, carry, carry_compared, place, place_compared, add, add_compared}
use Rattle.geobucket.specs.Search.{seek, pass, onward, ended, search_in}
use Rattle.call.specs.declared.answer.Tally.{Tally}
use Rattle.call.specs.Answers.{Outcome}
use Rattle.conditions.specs.Lengths.{space_good, lent_good, pairs_good}
use Rattle.conditions.specs.Operations.{operation_good, operations_good}
use Rattle.opening.specs.Run.{weights_good, setting, shape_good, refusal_from, run_refusal}
use Rattle.run_outcome.specs.Runs.{operate, operate_all, operations_of}
use Rattle.run_outcome.specs.Outcome as R
use Rattle.run_outcome.proofs.Demands.{outcome-is}

-- the words of x1² and x1, in order Dp and one variable
abbrev square : ℕ
square = 565148976676864

abbrev single : ℕ
single = 282574488338432

-- the opening checks of a call that lends the polynomials 3·x1² and x1, modulo 7
abbrev refusal : (ops : List ℕ) (bw bc ww wc ow oc : ℕ) → ℕ
refusal ops bw bc ww wc ow oc = run_refusal (setting_of 7 2 1 ones) (square ∷ single ∷ []) (3 ∷ 1 ∷ []) (0 ∷ 1 ∷ 2 ∷ []) ops bw bc ww wc ow oc

-- polynomial 0 is added and its lead taken; and both polynomials are added
abbrev add_and_lead : List ℕ
add_and_lead = 1 ∷ 0 ∷ 2 ∷ 0 ∷ []

abbrev add_twice : List ℕ
add_twice = 1 ∷ 0 ∷ 1 ∷ 1 ∷ []

lead-passed : refusal add_and_lead bucket_places bucket_places work_places work_places 2 2 ≡ 0
unfolding run_refusal setting weights_good is_prime no_divisor shape_good lent_good space_good starts_good rise_to pairs_good operations_good operation_good refusal_from refusal_of terms_refusal fall in_layout fields bytes
lead-passed = refl

full-passed : refusal add_and_lead bucket_places bucket_places work_places work_places 0 0 ≡ 0
unfolding run_refusal setting weights_good is_prime no_divisor shape_good lent_good space_good starts_good rise_to pairs_good operations_good operation_good refusal_from refusal_of terms_refusal fall in_layout fields bytes
full-passed = refl

twice-passed : refusal add_twice bucket_places bucket_places work_places work_places 0 0 ≡ 0
unfolding run_refusal setting weights_good is_prime no_divisor shape_good lent_good space_good starts_good rise_to pairs_good operations_good operation_good refusal_from refusal_of terms_refusal fall in_layout fields bytes
twice-passed = refl

module _ (tally : Tally) (bw bc ww wc : List ℕ) (eb : length bw ≡ bucket_places) (ec : length bc ≡ bucket_places) (ew : length ww ≡ work_places) (ex : length wc ≡ work_places) where
  -- what the call leaves
  abbrev left : (ops ow oc : List ℕ) → Outcome
  left ops ow oc = R.run_outcome tally (setting_of 7 2 1 ones) (square ∷ single ∷ []) (3 ∷ 1 ∷ []) (0 ∷ 1 ∷ 2 ∷ []) ops bw bc ww wc ow oc

  left_is : (ops ow oc : List ℕ) → refusal ops bucket_places bucket_places work_places work_places (length ow) (length oc) ≡ 0 → left ops ow oc ≡ R.ended (R.ran_through (setting_of 7 2 1 ones) (square ∷ single ∷ []) (3 ∷ 1 ∷ []) (0 ∷ 1 ∷ 2 ∷ []) ops (length ow)) ow oc
  left_is ops ow oc e =
      outcome-is tally (setting_of 7 2 1 ones) (square ∷ single ∷ []) (3 ∷ 1 ∷ []) (0 ∷ 1 ∷ 2 ∷ []) ops bw bc ww wc ow oc
      (ap₂ (λ (b c : ℕ). refusal ops b c (length ww) (length wc) (length ow) (length oc)) eb ec ∙ (ap₂ (λ (w x : ℕ). refusal ops bucket_places bucket_places w x (length ow) (length oc)) ew ex ∙ e))

  -- an engine that touches nothing leaves the output as it came, and one that always gives zero writes a zero place
  pub lead-written : ((left add_and_lead (9 ∷ 9 ∷ []) (9 ∷ 9 ∷ [])).ow ≡ square ∷ 9 ∷ []) × ((left add_and_lead (9 ∷ 9 ∷ []) (9 ∷ 9 ∷ [])).oc ≡ 3 ∷ 9 ∷ [])
  unfolding operations_of operate_all operate held add place carry merge into keep add_compared place_compared carry_compared compared compared_into search_in pass seek ended onward
  lead-written = (ap (λ (x : Outcome). x.ow) (left_is add_and_lead (9 ∷ 9 ∷ []) (9 ∷ 9 ∷ []) lead-passed), ap (λ (x : Outcome). x.oc) (left_is add_and_lead (9 ∷ 9 ∷ []) (9 ∷ 9 ∷ []) lead-passed))

  -- one that refuses all has a refusal here, and no operation finished
  pub none-refused : (left add_and_lead (9 ∷ 9 ∷ []) (9 ∷ 9 ∷ [])).answer ≡ record { number = 0; finished = 2; places = 1 }
  unfolding operations_of operate_all operate held add place carry merge into keep add_compared place_compared carry_compared compared compared_into search_in pass seek ended onward
  none-refused = ap (λ (x : Outcome). x.answer) (left_is add_and_lead (9 ∷ 9 ∷ []) (9 ∷ 9 ∷ []) lead-passed)

  -- one that does the first operation and repeats its state for the rest has brought in one term here; one whose comparisons are invented has not counted the one of this merge
  pub twice-brought : (left add_twice [] []).tally ≡ record { comparisons = 1; brought = 2; given = 0; held = 2 }
  unfolding operations_of operate_all operate held add place carry merge into keep add_compared place_compared carry_compared compared compared_into
  twice-brought = ap (λ (x : Outcome). x.tally) (left_is add_twice [] [] twice-passed)

  -- without an output place the lead is refused, with 10 and one operation finished
  pub stopped-by-10 : (left add_and_lead [] []).answer ≡ record { number = 10; finished = 1; places = 0 }
  unfolding operations_of operate_all operate held add place carry merge into keep add_compared place_compared carry_compared compared compared_into search_in pass seek ended onward
  stopped-by-10 = ap (λ (x : Outcome). x.answer) (left_is add_and_lead [] [] full-passed)

  -- one that leaves the tally untouched on a stop keeps what it came with
  pub stop-brought : (left add_and_lead [] []).tally ≡ record { comparisons = 0; brought = 1; given = 0; held = 1 }
  unfolding operations_of operate_all operate held add place carry merge into keep add_compared place_compared carry_compared compared compared_into search_in pass seek ended onward
  stop-brought = ap (λ (x : Outcome). x.tally) (left_is add_and_lead [] [] full-passed)
