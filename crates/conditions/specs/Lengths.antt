-- The lengths of what is lent to a run or a reduction (document 01, "Refusals by cause", 8). Assumes nothing.
use Rattle.std.specs.Prelude.{ℕ, ◌/◌, ◌%◌, ◌≤◌, ◌≡◌, Bool, ◌&&◌, leb, eqb}
use Rattle.limits.specs.Limits.{bucket_places, most_operations, weight_count, work_places}

-- "The bucket space has 5,460 places for words and for coefficients"; "The work space, 8,192 places for each"
unfoldable pub space_good : (bw bc ww wc : ℕ) → Bool
space_good bw bc ww wc = eqb bw bucket_places && (eqb bc bucket_places && (eqb ww work_places && eqb wc work_places))

-- 8: "words and coefficients (input or output) of unequal length, bucket or work space of another size than above", by the lengths; and another number of weights than six
unfoldable pub lent_good : (weights words coefs bw bc ww wc ow oc : ℕ) → Bool
lent_good weights words coefs bw bc ww wc ow oc = eqb weights weight_count && (eqb words coefs && (eqb ow oc && space_good bw bc ww wc))

-- 8: "operations not whole pairs or over 16,777,216 of them", by the length of their list
unfoldable pub pairs_good : ℕ → Bool
pairs_good len = eqb (len % 2) 0 && leb (len / 2) most_operations

-- ---- the same as statements

-- "words and coefficients (input or output) of unequal length, bucket or work space of another size than above", by the lengths; and there are six weights
pub record GoodLent (weights words coefs bw bc ww wc ow oc : ℕ) : Type 0 where
  pub weights-six : weights ≡ weight_count
  pub lent : words ≡ coefs
  pub output : ow ≡ oc
  pub bucket-words : bw ≡ bucket_places
  pub bucket-coefs : bc ≡ bucket_places
  pub work-words : ww ≡ work_places
  pub work-coefs : wc ≡ work_places

-- "operations not whole pairs or over 16,777,216 of them", by the length of their list
pub record GoodPairs (len : ℕ) : Type 0 where
  pub whole : len % 2 ≡ 0
  pub most : len / 2 ≤ most_operations
