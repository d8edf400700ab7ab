-- `merge_areas::turns::one_end` meets its contract: each turn leads on from where the loop began.
use mathlib.Core.Path.{refl}
use native.Mathlib.Omega.{arith}
use Rattle.merge_areas.proofs.Leading.{ready-after, reducing-after, goes-start, goes_on}
use Rattle.merge_areas.proofs.turns.one_end.Goals as goal

pub loop-t-init : goal.loop-t-init
loop-t-init g c = (goes-start c.requires.0, refl)

pub front-t-requires : goal.front-t-requires
front-t-requires g c =
    let q = c.requires in
    let l = c.loop-t.invariant.0.leads in
    (ready-after q.0 l, reducing-after q.0 l q.1, omega (arith, c.loop-t-test.true), omega (arith, c.if-t.true))

pub loop-t-preserved : goal.loop-t-preserved
loop-t-preserved g c = let v = c.loop-t.invariant in (goes_on c.requires.0 v.0 c.front-t.ensures.goes, omega (arith, v.1))
