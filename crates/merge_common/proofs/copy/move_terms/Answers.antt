-- `merge_common::copy::move_terms` meets its contract: after i turns the first i are put.
use Rattle.merge_common.proofs.Lists.{begun-on}
use Rattle.merge_common.proofs.Turns.{moved-on}
use Rattle.merge_common.proofs.copy.move_terms.Goals as goal

pub loop-i-preserved : goal.loop-i-preserved
loop-i-preserved g c =
    let q = c.requires in
    let k = c.loop-i-test.true in
    (moved-on _ _ _ _ c.loop-i.invariant.0 q.0 q.4 k c.at.ensures.0 c.put.ensures.0, begun-on _ _ _ _ _ _ c.loop-i.invariant.1 q.2 q.4 k)
