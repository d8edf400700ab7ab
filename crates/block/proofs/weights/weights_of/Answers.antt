-- `block::weights::weights_of` meets its contract.
use Rattle.std.proofs.Common.{refl, arith}
use Rattle.block.proofs.WeightLaws.{taken-more, taken-all}
use Rattle.block.proofs.weights.weights_of.Goals as goal

pub loop-weight-init : goal.loop-weight-init
loop-weight-init c = record { six-long = refl; is = refl }

pub loop-weight-preserved : goal.loop-weight-preserved
loop-weight-preserved c = taken-more _ _ _ _ c.loop-weight.invariant (omega (arith, c.loop-weight.invariant.six-long))

pub returns : goal.returns
returns c = taken-all _ _ _ _ c.loop-weight.invariant (omega (arith, c.loop-weight.invariant.six-long))
