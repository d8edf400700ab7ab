-- `block::weights::weight_number` meets its contract.
use Rattle.std.proofs.Common.{drop_of_length-le, sym, ap, le_of_eq, arith}
use Rattle.block.specs.Block.{weight_number}
use Rattle.block.proofs.WeightLaws.{number-next, number-room}
use Rattle.block.proofs.weights.weight_number.Goals as goal

pub loop-i-init : goal.loop-i-init
unfolding weight_number
loop-i-init c = sym (ap weight_number (drop_of_length-le c.args.weights.now (le_of_eq c.told-weights)))

pub overflow_mul-number : goal.overflow_mul-number
overflow_mul-number c = let k = c.loop-i in omega (arith, number-room _ k.i _ 0 c.loop-i-test.true (omega arith) c.told-weights k.invariant)

pub overflow_add-number : goal.overflow_add-number
overflow_add-number c = let k = c.loop-i in omega (arith, number-room _ k.i _ 0 c.loop-i-test.true (omega arith) c.told-weights k.invariant, c.half.ensures.1)

pub loop-i-preserved : goal.loop-i-preserved
loop-i-preserved c = let k = c.loop-i in number-next _ k.i _ _ c.loop-i-test.true (omega arith) c.told-weights k.invariant c.half.ensures.0
