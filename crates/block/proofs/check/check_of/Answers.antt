-- `block::check::check_of` meets its contract.
use Rattle.std.proofs.Common.{◌≡◌, ℕ, ◌+◌, ◌%◌, ◌^◌, refl, ap, ◌∙◌, arith}
use Rattle.block.specs.Block.{sum_words}
use Rattle.block.proofs.BlockLaws.{one_more}
use Rattle.block.proofs.check.check_of.Goals as goal

pub loop-i-init : goal.loop-i-init
unfolding sum_words
loop-i-init c = refl

pub loop-i-preserved : goal.loop-i-preserved
loop-i-preserved c = let k = c.loop-i in ap (λ (n : ℕ). (k.sum + n) % 2 ^ 32) c.get_number.ensures.0 ∙ one_more _ _ k.i k.sum c.loop-i-test.true k.invariant

pub returns : goal.returns
returns c = let e : c.loop-i.i ≡ 127 = omega arith in c.loop-i.invariant ∙ rw e
