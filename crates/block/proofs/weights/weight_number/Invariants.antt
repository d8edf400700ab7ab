-- `block::weights::weight_number` meets its contract.
use Rattle.std.proofs.Common.{◌≡◌, drop}
use Rattle.block.specs.Block.{weight_number}
use Rattle.block.proofs.weights.weight_number.Given as goal

abbrev pub invariant-loop-i : goal.invariant-loop-i
invariant-loop-i l = l.number ≡ weight_number (drop l.i l.weights)
