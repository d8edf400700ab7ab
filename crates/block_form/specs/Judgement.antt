-- What document 01 asks of the form of blocks that are read, in its words ("Blocks" and "Refusals by cause"), and its order, with the header of document 02 ("Larger primes." and "Weighted degrees."). Assumes nothing.
use Rattle.std.specs.Prelude.{ℕ, ◌+◌, ◌-◌, ◌*◌, ◌%◌, ◌^◌, ◌<◌, ◌≤◌, ◌≡◌, List, [], ◌∷◌, length, get_or, drop}
use Rattle.limits.specs.Limits.{most_terms}
use Rattle.refusal.specs.Judgement.{Condition, condition}
use Rattle.block.specs.Block.{number_at, sum_words}
use Rattle.block_form.specs.Form.{count_in}

-- "14: not 1 to 100 whole blocks."
pub record WholeBlocks (s : List ℕ) : Type 0 where
  pub count : ℕ
  pub some : 1 ≤ count
  pub most : count ≤ 100
  pub whole : length s ≡ 512 * count

-- "15: check wrong." The check of block k is "the sum of the first 127 32-bit words, plus 1, wrapping at 2^32".
abbrev pub GoodCheck : List ℕ → (k : ℕ) → Type 0
GoodCheck s k = number_at 4 (512 * k + 508) s ≡ (sum_words 127 (drop (512 * k) s) + 1) % 2 ^ 32

-- "terms here", as block k says it
abbrev pub terms_here : List ℕ → (k : ℕ) → ℕ
terms_here s k = number_at 2 (512 * k + 4) s

-- "16: a block number, count, number of terms or filler that writing would not put there, p, order or n unlike the first block's", for block k
pub record GoodBlock (s : List ℕ) (k : ℕ) : Type 0 where
  pub number : number_at 2 (512 * k) s ≡ k
  pub count : number_at 2 (512 * k + 2) s ≡ count_in s
  -- "Every block but the last holds 41 terms; zero is one block with none": a block that is not the first holds some
  pub terms-full : k + 1 < count_in s → terms_here s k ≡ 41
  pub terms-most : terms_here s k ≤ 41
  pub terms-some : 1 ≤ k → 1 ≤ terms_here s k
  -- p in two parts: "In a block the upper 16 bits of p take the first two of the six zero bytes."
  pub p : number_at 2 (512 * k + 6) s ≡ number_at 2 6 s
  pub upper-p : number_at 2 (512 * k + 10) s ≡ number_at 2 10 s
  pub order : number_at 1 (512 * k + 8) s ≡ number_at 1 8 s
  pub n : number_at 1 (512 * k + 9) s ≡ number_at 1 9 s
  -- "bytes 12 to 14 hold weight minus 1 in four bits each"; "Weights unlike the first block's give 16."
  pub weights : number_at 3 (512 * k + 12) s ≡ number_at 3 12 s
  -- the last of "six zero bytes"; "unused places are 0"
  pub zero-byte : get_or s (512 * k + 15) 0 ≡ 0
  pub unused : (i : ℕ) → 16 + 12 * terms_here s k ≤ i → i < 508 → get_or s (512 * k + i) 0 ≡ 0

-- 16 for all blocks, with "or over 4,096 terms"
pub record GoodBlocks (s : List ℕ) : Type 0 where
  pub each : (k : ℕ) → k < count_in s → GoodBlock s k
  pub few : 41 * (count_in s - 1) + terms_here s (count_in s - 1) ≤ most_terms

-- "Reading: 8, 14, 15 for all blocks, 16"; the two numbers are the lengths of the lent words and coefficients
abbrev pub form_conditions : List ℕ → (ow oc : ℕ) → List Condition
form_conditions s ow oc = condition 8 (ow ≡ oc) ∷ condition 14 (WholeBlocks s) ∷ condition 15 ((k : ℕ) → k < count_in s → GoodCheck s k) ∷ condition 16 (GoodBlocks s) ∷ []
