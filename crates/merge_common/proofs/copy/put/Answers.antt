-- `merge_common::copy::put` meets its contract.
use Rattle.std.proofs.Common.{arith}
use Rattle.merge_common.proofs.Lists.{sets-mid}
use Rattle.merge_common.proofs.copy.put.Goals as goal

pub returns : goal.returns
returns g c = sets-mid _ _ _ _ (omega arith) c.copy_from_slice.ensures.after c.requires
