-- Engines that judge in another order, each by a call on which that shows. Assumes nothing.
use mathlib.Core.Path.{◌≡◌, refl}
use mathlib.Core.List.{[], ◌∷◌}
use Rattle.limits.specs.Limits.{bucket_places, work_places}
use lib.ListN.{replicate}
use Rattle.conditions.specs.Operations.{operations_good}
use Rattle.conditions.specs.Lengths.{space_good, lent_good, pairs_good}
use Rattle.monomial.specs.Exponents.{ones}
use Rattle.residue.specs.Prime.{is_prime, no_divisor}
use Rattle.polynomial.specs.Settings.{setting_of}
use Rattle.polynomial.specs.Opening.{starts_good, rise_to}
use Rattle.opening.specs.Run.{weights_good, setting, shape_good, refusal_from, run_refusal}

-- 9 before 8: half a pair of operations, of an unknown code
pub eight-first : run_refusal (setting_of 7 1 1 ones) [] [] (0 ∷ []) (9 ∷ []) bucket_places bucket_places work_places work_places 0 0 ≡ 8
unfolding run_refusal setting weights_good is_prime no_divisor shape_good lent_good space_good starts_good rise_to pairs_good
eight-first = refl

-- 8 before 24: one weight alone, which is 0
pub twenty-four-first : run_refusal (setting_of 7 1 1 (0 ∷ [])) [] [] (0 ∷ []) [] bucket_places bucket_places work_places work_places 0 0 ≡ 24
unfolding run_refusal setting weights_good is_prime no_divisor
twenty-four-first = refl

-- 24 for another number of weights: five ones
pub five-weights : run_refusal (setting_of 7 1 1 (1 ∷ 1 ∷ 1 ∷ 1 ∷ 1 ∷ [])) [] [] (0 ∷ []) [] bucket_places bucket_places work_places work_places 0 0 ≡ 8
unfolding run_refusal setting weights_good is_prime no_divisor shape_good lent_good
five-weights = refl

-- 24 before 3: seven variables, and one weight alone, which is 0
pub three-first : run_refusal (setting_of 7 1 7 (0 ∷ [])) [] [] (0 ∷ []) [] bucket_places bucket_places work_places work_places 0 0 ≡ 3
unfolding run_refusal setting is_prime no_divisor
three-first = refl

-- another largest weight: six of 16 are taken, and 17 is not
pub sixteen-taken : run_refusal (setting_of 7 1 6 (replicate 6 16)) [] [] (0 ∷ []) [] bucket_places bucket_places work_places work_places 0 0 ≡ 0
unfolding run_refusal setting weights_good is_prime no_divisor shape_good lent_good space_good starts_good rise_to pairs_good operations_good refusal_from
sixteen-taken = refl

pub seventeen-refused : run_refusal (setting_of 7 1 6 (16 ∷ 16 ∷ 16 ∷ 16 ∷ 16 ∷ 17 ∷ [])) [] [] (0 ∷ []) [] bucket_places bucket_places work_places work_places 0 0 ≡ 24
unfolding run_refusal setting weights_good is_prime no_divisor
seventeen-refused = refl
