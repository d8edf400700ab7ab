-- Whether bytes have the form of blocks, which is whether writing would put their checks, headers and filler there (document 01, "Blocks" and "Refusals by cause"; document 02, "Larger primes." and "Weighted degrees."). Assumes nothing.
use Rattle.std.specs.Prelude.{ℕ, zero, suc, ◌+◌, ◌-◌, ◌*◌, ◌/◌, ◌%◌, ◌≤◌, min, ◌≡◌, Bool, true, ◌&&◌, List, leb, eqb, length}
use Rattle.limits.specs.Limits.{most_terms}
use Rattle.polynomial.specs.Opening.{first}
use Rattle.merge_common.specs.Lent.{part}
use Rattle.opening.specs.Run.{unless, between}
use Rattle.block.specs.Block.{number_at, setting_bytes, header_with, check_of, block_count, same, zeros, setting_in}

-- f is true of each number below k
unfoldable pub all_below : ℕ → (ℕ → Bool) → Bool
all_below zero f = true
all_below (suc k) f = all_below k f && f k

-- ---- counts

-- "14: not 1 to 100 whole blocks", by the length
unfoldable pub whole_blocks : ℕ → Bool
whole_blocks len = eqb (len % 512) 0 && between 512 51200 len

abbrev pub count_in : List ℕ → ℕ
count_in s = length s / 512

-- the terms, if every block but the last holds 41 and the last as many as it says
abbrev pub total_in : List ℕ → ℕ
total_in s = 41 * (count_in s - 1) + number_at 2 (512 * (count_in s - 1) + 4) s

-- how many of so many terms writing puts into block k
abbrev pub here_of : (total k : ℕ) → ℕ
here_of total k = min 41 (total - 41 * k)

-- ---- "15: check wrong."

abbrev pub check_stands : List ℕ → ℕ → Bool
check_stands s k = eqb (number_at 4 (512 * k + 508) s) (check_of (part (512 * k) 508 s))

abbrev pub checks_stand : List ℕ → Bool
checks_stand s = all_below (count_in s) (check_stands s)

-- ---- "16: a block number, count, number of terms or filler that writing would not put there, p, order or n unlike the first block's, or over 4,096 terms."; "Weights unlike the first block's give 16."

-- the places of block k that so many terms leave unused are 0
abbrev pub unused_clear : List ℕ → (k here : ℕ) → Bool
unused_clear s k here = zeros (part (512 * k + 16 + 12 * here) (12 * (41 - here)) s)

-- block k has the header that writing would put there, with these ten bytes of a setting, and its unused places are 0
unfoldable pub stands_with : (setting s : List ℕ) (k : ℕ) → Bool
stands_with setting s k =
    let here = here_of (total_in s) k in
    same (part (512 * k) 16 s) (header_with setting k (count_in s) here) && unused_clear s k here

abbrev pub all_stand_with : (setting s : List ℕ) → Bool
all_stand_with setting s = eqb (block_count (total_in s)) (count_in s) && (leb (total_in s) most_terms && all_below (count_in s) (stands_with setting s))

-- with the first block's p, order, n and weights
abbrev pub block_stands : List ℕ → ℕ → Bool
block_stands s = stands_with (setting_bytes (setting_in s)) s

abbrev pub blocks_stand : List ℕ → Bool
blocks_stand s = all_stand_with (setting_bytes (setting_in s)) s

-- what the test of the blocks is told: their count, which is that of their terms
pub record Counted (s : List ℕ) (count total : ℕ) : Type 0 where
  pub some : 512 ≤ length s
  pub most : length s ≤ 51200
  pub count-is : count ≡ count_in s
  pub total-is : total ≡ total_in s
  pub fits : block_count total ≡ count

-- ---- "Reading: 8, 14, 15 for all blocks, 16"; the two numbers are the lengths of the lent words and coefficients
unfoldable pub form_refusal_with : (setting s : List ℕ) (ow oc : ℕ) → ℕ
form_refusal_with setting s ow oc = first (unless (eqb ow oc) 8) (first (unless (whole_blocks (length s)) 14) (first (unless (checks_stand s) 15) (unless (all_stand_with setting s) 16)))

abbrev pub form_refusal : List ℕ → (ow oc : ℕ) → ℕ
form_refusal s ow oc = form_refusal_with (setting_bytes (setting_in s)) s ow oc

-- as many terms have their places in s
pub record Lying (s : List ℕ) (total : ℕ) : Type 0 where
  pub blocks : total ≤ 41 * count_in s
  pub most : total ≤ most_terms

-- what holds of bytes that have the form of blocks
pub record Formed (s : List ℕ) : Type 0 where
  pub some : 512 ≤ length s
  pub most : length s ≤ 51200
  pub lying : Lying s (total_in s)
