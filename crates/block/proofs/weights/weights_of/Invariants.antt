-- `block::weights::weights_of` meets its contract.
use Rattle.block.proofs.WeightLaws.{Taken}
use Rattle.block.proofs.weights.weights_of.Given as goal

abbrev pub invariant-loop-weight : goal.invariant-loop-weight
invariant-loop-weight l = Taken l.number l.weight-items l.left l.weight-index
