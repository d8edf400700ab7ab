-- `merge_common::shift::close_gap` meets its contract.
use Rattle.std.proofs.Common.{arith}
use Rattle.merge_common.proofs.Shifts.{no_gap}
use Rattle.merge_common.proofs.shift.close_gap.Goals as goal

pub returns-then-gap-eq0 : goal.returns-then-gap-eq0
returns-then-gap-eq0 g c =
    let q = c.requires in
    let z = c.if-gap-eq0.true in
    (omega (arith, z), no_gap _ _ _ _ q.0 q.1 q.2 z, no_gap _ _ _ _ q.0 q.1 q.3 z)
