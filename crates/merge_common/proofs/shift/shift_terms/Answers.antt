-- `merge_common::shift::shift_terms` meets its contract: of the terms, the first i are still to be put.
use Rattle.std.proofs.Common.{◌<◌, arith}
use Rattle.merge_common.proofs.Shifts.{left-all, left_less, left-none}
use Rattle.merge_common.proofs.Turns.{left-on}
use Rattle.merge_common.proofs.shift.shift_terms.Goals as goal

pub loop-i-init : goal.loop-i-init
loop-i-init g c = let q = c.requires in (left-all _ _ _ _ q.0 q.1, left-all _ _ _ _ q.0 q.2)

pub loop-i-preserved : goal.loop-i-preserved
loop-i-preserved g c =
    let q = c.requires in
    let k : 0 < c.loop-i.i = omega arith in
    (left-on _ _ _ _ q.0 q.1 c.loop-i.invariant.0 k c.at.ensures.0 c.put.ensures.0, left_less _ _ _ _ q.0 q.2 _ _ c.loop-i.invariant.1 k)

pub returns : goal.returns
returns g c =
    let q = c.requires in
    (left-none _ _ _ _ q.0 q.1 _ _ c.loop-i.invariant.0 (omega arith), left-none _ _ _ _ q.0 q.2 _ _ c.loop-i.invariant.1 (omega arith))
