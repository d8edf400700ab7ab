-- `merge_areas::rest::above` meets its contract: the keys from k on are below the last one.
use Rattle.merge_areas.proofs.Resting.{scan-on, stopped, below_last, not-below}
use Rattle.merge_areas.proofs.rest.above.Goals as goal

pub returns-then-by : goal.returns-then-by
returns-then-by g c = stopped c.loop-k.invariant c.loop-k-test.true (not-below _ _ c.at.ensures.0 c.deciding-by.ensures c.if-by.true)

pub loop-k-preserved : goal.loop-k-preserved
loop-k-preserved g c = scan-on c.loop-k.invariant c.loop-k-test.true (below_last _ _ c.at.ensures.0 c.deciding-by.ensures c.if-by.false)
