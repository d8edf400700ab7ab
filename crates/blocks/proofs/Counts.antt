-- How many blocks there are, and how many terms in each. Assumes nothing.
use Rattle.std.proofs.Common.{◌≡◌, List, ℕ, ◌+◌, ◌*◌, ◌<◌, ◌≤◌, arith, length}
use Rattle.polynomial.specs.Terms.{Term}
use Rattle.polynomial.specs.declared.setting.Setting.{Setting}
use Rattle.block.specs.Block.{terms_of, block_count, blocks_of}
use Rattle.blocks.specs.Outcome.{write_refusal}
use Rattle.blocks.proofs.WriteLaws.{write-passes, length-terms_of, length-blocks}

-- "At most 4,096 terms, so 100 blocks", and at least one, in all that is written
pub some-blocks : (t : Setting) (ws cs : List ℕ) (room : ℕ) → write_refusal t ws cs room ≡ 0 → (1 ≤ block_count (length ws)) × (block_count (length ws) ≤ 100)
some-blocks t ws cs room h = let w = write-passes t ws cs room h in omega (arith, w.few)

-- "A block is 512 bytes"
pub long-blocks : (t : Setting) (ts : List (Term ℕ)) → length (blocks_of t ts) ≡ 512 * block_count (length ts)
long-blocks t ts = length-blocks (block_count (length ts)) t ts (block_count (length ts))

-- "Every block but the last holds 41 terms"
pub full-blocks : (ts : List (Term ℕ)) (k : ℕ) → k + 1 < block_count (length ts) → length (terms_of k ts) ≡ 41
full-blocks ts k h = omega (arith, length-terms_of k ts)

-- the last holds the others, one at least unless the polynomial is zero
pub last_block : (ts : List (Term ℕ)) (k : ℕ) → k + 1 ≡ block_count (length ts) → (41 * k + length (terms_of k ts) ≡ length ts) × (0 < length ts → 0 < length (terms_of k ts))
last_block ts k h = omega (arith, length-terms_of k ts)
