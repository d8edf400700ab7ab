-- `merge_areas::turns::both_ends` meets its contract: each turn leads on from where the loop began.
use mathlib.Core.Path.{refl}
use native.Mathlib.Omega.{arith}
use Rattle.merge_areas.proofs.Leading.{ready-after, reducing-after, goes-start, goes_on}
use Rattle.merge_areas.proofs.turns.both_ends.Goals as goal

pub loop-t-init : goal.loop-t-init
loop-t-init g c = (goes-start c.requires.0, refl)

pub front-t-requires : goal.front-t-requires
front-t-requires g c =
    let q = c.requires in
    let l = c.loop-t.invariant.0.leads in
    (ready-after q.0 l, reducing-after q.0 l q.1, omega (arith, c.loop-t-test.true), omega (arith, c.if-t-ge2.true))

pub back-t-requires : goal.back-t-requires
back-t-requires g c =
    let q = c.requires in
    let l = c.loop-t.invariant.0.leads in
    let y = ready-after q.0 l in
    let f = c.front-t.ensures in
    (ready-after y f.goes.leads, reducing-after y f.goes.leads (reducing-after q.0 l q.1), omega (arith, f.left_one, c.loop-t-test.true), omega (arith, f.right-one, c.if-t-ge2.true))

pub loop-t-preserved : goal.loop-t-preserved
loop-t-preserved g c =
    let y = c.requires.0 in
    let v = c.loop-t.invariant in
    (goes_on y v.0 (goes_on (ready-after y v.0.leads) c.front-t.ensures.goes c.back-t.ensures.goes), omega (arith, v.1))
