-- `block::check::check_of` meets its contract.
use Rattle.std.proofs.Common.{◌≡◌, ◌+◌, ◌%◌, ◌^◌}
use Rattle.merge_common.specs.Lent.{part}
use Rattle.block.specs.Block.{sum_words}
use Rattle.block.proofs.check.check_of.Given as goal

abbrev pub invariant-loop-i : goal.invariant-loop-i
invariant-loop-i l = l.sum ≡ (1 + sum_words l.i (part l.at 508 l.s)) % 2 ^ 32
