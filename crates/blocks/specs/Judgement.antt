-- What documents 01 and 02 ask of a call that writes or reads blocks, in their words ("Refusals by cause"; "Weighted degrees.") and their order. Assumes nothing.
use Rattle.std.specs.Prelude.{ℕ, ◌≤◌, ◌≡◌, List, [], ◌∷◌, ◌++◌, length}
use Rattle.limits.specs.Limits.{most_terms, weight_count}
use Rattle.refusal.specs.Judgement.{Condition, condition}
use Rattle.polynomial.specs.Terms.{terms}
use Rattle.polynomial.specs.declared.setting.Setting.{Setting}
use Rattle.opening.specs.Judgement.{setting_conditions, polynomial_conditions}
use Rattle.block.specs.Block.{blocks_of, setting_in}
use Rattle.block_form.specs.Judgement.{form_conditions}
use Rattle.blocks.specs.Reading.{terms_in}

-- 8: "words and coefficients (input or output) of unequal length"; and there are six weights
pub record GoodSizes (weights ws cs : List ℕ) : Type 0 where
  pub weights-six : length weights ≡ weight_count
  pub coefs-alike : length ws ≡ length cs

-- "Writing: 1 to 3, 8, 4 to 6, 11, 10.", with 24 "after 3"; "reading or writing blocks needs all of its places", and the room is in bytes
abbrev pub write_conditions : Setting → (ws cs : List ℕ) (room : ℕ) → List Condition
write_conditions t ws cs room =
    setting_conditions t
    ++ (condition 8 (GoodSizes t.weights ws cs)
    ∷ (polynomial_conditions t (terms ws cs)
    ++ (condition 11 (length ws ≤ most_terms) ∷ (condition 10 (length (blocks_of t (terms ws cs)) ≤ room) ∷ []))))

-- "Reading: 8, 14, 15 for all blocks, 16, then 1 to 6, then 10.", with 24 "after 3"; the two numbers are how many words and coefficients are lent
abbrev pub read_conditions : (bytes : List ℕ) (ow oc : ℕ) → List Condition
read_conditions s ow oc =
    form_conditions s ow oc
    ++ (setting_conditions (setting_in s)
    ++ (polynomial_conditions (setting_in s) (terms_in s)
    ++ (condition 10 (length (terms_in s) ≤ ow) ∷ [])))
