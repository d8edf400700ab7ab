-- Outcomes on named calls, worked out from the definitions: wrong programs differ from them there. Assumes nothing.
use Rattle.std.proofs.Common.{◌≡◌, refl, List, [], ◌∷◌, ◌++◌, ℕ, zero, suc, ◌+◌, ◌*◌, ◌/◌, ◌%◌, ◌^◌, replicate}
use Rattle.refusal.specs.declared.Refusal.TheVariants.{BadShape, TooManyTerms, NotBlocks, BadCheck, BadWeight}
use Rattle.residue.specs.Prime.{is_prime, no_divisor}
use Rattle.monomial.specs.Exponents.{ones}
use Rattle.monomial.specs.Layout.{bytes, fields, in_layout}
use Rattle.polynomial.specs.Settings.{setting_of}
use Rattle.polynomial.specs.Opening.{terms_refusal, fall, refusal_of}
use Rattle.opening.specs.Run.{weights_good, setting}
use Rattle.block_form.specs.Form.{all_below, whole_blocks, form_refusal_with}
use Rattle.block.specs.Block.{sum_words}
use Rattle.blocks.specs.Outcome.{answer_refused, write_refusal, WriteOutcome, write_stated, write_outcome, ReadOutcome, read_stated, read_outcome}

-- no bytes are no blocks, and 8 comes first
pub no_blocks : ◌≡◌ {A = ReadOutcome} (read_outcome [] (5 ∷ []) (6 ∷ [])) (record { answer = read_stated (answer_refused NotBlocks 0); ws = 5 ∷ []; cs = 6 ∷ [] })
unfolding form_refusal_with whole_blocks
no_blocks = refl

pub eight-first : ◌≡◌ {A = ReadOutcome} (read_outcome [] [] (6 ∷ [])) (record { answer = read_stated (answer_refused BadShape 0); ws = []; cs = 6 ∷ [] })
unfolding form_refusal_with
eight-first = refl

-- a block of zeros has the check 1
pub zeros-refused : ◌≡◌ {A = ReadOutcome} (read_outcome (replicate 512 0) [] []) (record { answer = read_stated (answer_refused BadCheck 0); ws = []; cs = [] })
unfolding form_refusal_with whole_blocks all_below sum_words
zeros-refused = refl

-- "15 for all blocks, 16": the first of these two blocks has a right check and a wrong count, the second a wrong check; a program that judges 16 before 15, or block by block, answers 16
pub fifteen-first : ◌≡◌ {A = ReadOutcome} (read_outcome (replicate 508 0 ++ (1 ∷ replicate 515 0)) [] []) (record { answer = read_stated (answer_refused BadCheck 0); ws = []; cs = [] })
unfolding form_refusal_with whole_blocks all_below sum_words
fifteen-first = refl

-- writing: 8 before 4, on one word with two coefficients that are 0
pub eight-before-four : ◌≡◌ {A = WriteOutcome} (write_outcome (setting_of 7 1 1 ones) (0 ∷ []) (0 ∷ 0 ∷ []) (5 ∷ [])) (record { answer = write_stated (answer_refused BadShape 0); bytes = 5 ∷ [] })
unfolding write_refusal setting weights_good is_prime no_divisor
eight-before-four = refl

-- writing: 24 over the weights that are there, before 8; five weights of 1 give 8
pub weight-before-eight : ◌≡◌ {A = WriteOutcome} (write_outcome (setting_of 7 1 1 (0 ∷ [])) [] [] (5 ∷ [])) (record { answer = write_stated (answer_refused BadWeight 0); bytes = 5 ∷ [] })
unfolding write_refusal setting weights_good is_prime no_divisor
weight-before-eight = refl

pub five-weights : ◌≡◌ {A = WriteOutcome} (write_outcome (setting_of 7 1 1 (replicate 5 1)) [] [] (5 ∷ [])) (record { answer = write_stated (answer_refused BadShape 0); bytes = 5 ∷ [] })
unfolding write_refusal setting weights_good is_prime no_divisor
five-weights = refl

-- the first k of the monomials x1^i x2^j with j below 64, from the largest down, in lp: i and j are the digits of a number to the base 64
abbrev down_from : ℕ → List ℕ
down_from zero = []
down_from (suc k) = ((k / 64 + k % 64) * 2 ^ 48 + (k / 64 * 2 ^ 40 + k % 64 * 2 ^ 32)) ∷ down_from k

-- writing: 11 before 10, on 4,097 terms and no byte
pub eleven-first : ◌≡◌ {A = WriteOutcome} (write_outcome (setting_of 7 1 2 ones) (down_from 4097) (replicate 4097 1) []) (record { answer = write_stated (answer_refused TooManyTerms 0); bytes = [] })
unfolding write_refusal setting weights_good is_prime no_divisor refusal_of terms_refusal fall in_layout fields bytes
eleven-first = refl
