-- `merge_in::in_place::merge_into` meets its contract: the reading is ahead of the writing.
use mathlib.Core.Path.{refl}
use mathlib.Core.Logic.{◌⊎◌, inl, inr}
use Prim.Native.Nat.{◌<◌, ◌≤◌}
use native.Mathlib.Omega.{arith}
use lib.ListN.{length}
use Rattle.place.specs.Numbers.{key_numbers}
use Rattle.merge_common.proofs.Joins.{joined_small}
use Rattle.merge_in.proofs.Ahead.{start-at, x-within, y-within, turn-less, turn-ahead, rest-placed, gap-placed}
use Rattle.merge_in.proofs.in_place.merge_into.Goals.{then-loop-i-test+else-j-e, else-loop-i-test}
use Rattle.merge_in.proofs.in_place.merge_into.Goals as goal

pub loop-i-init : goal.loop-i-init
loop-i-init g c = (start-at c.requires, refl)

pub join-t-requires : goal.join-t-requires
join-t-requires g c =
    let q = c.requires in
    let v = c.loop-i.invariant.0 in
    let i : c.loop-i.i < length (key_numbers g.K.Key.width c.args.fw.now) = omega (arith, q.lent.long, c.loop-i-test.true) in
    (q.modulus, (x-within q v i c.if-j-e.true).1, (y-within q v i c.if-j-e.true).1)

pub overflow_add-i : goal.overflow_add-i
overflow_add-i g c = omega (arith, joined_small _ _ _ _ _ c.join-t.ensures, c.loop-i-test.true, c.well_formed)

pub overflow_add-j : goal.overflow_add-j
overflow_add-j g c = omega (arith, joined_small _ _ _ _ _ c.join-t.ensures, c.if-j-e.true, c.ranges)

pub overflow_add-k : goal.overflow_add-k
overflow_add-k g c = omega (arith, joined_small _ _ _ _ _ c.join-t.ensures, c.loop-i-test.true, c.if-j-e.true, c.requires, c.loop-i.invariant.0, c.ranges)

pub loop-i-smaller : goal.loop-i-smaller
loop-i-smaller g c =
    let q = c.requires in
    turn-less q c.loop-i.invariant.0 (omega (arith, q.lent.long, c.loop-i-test.true)) c.if-j-e.true (rw (c.at.ensures.0, c.at-in-loop-i.ensures.0) at c.join-t.ensures)

pub loop-i-preserved : goal.loop-i-preserved
loop-i-preserved g c =
    let q = c.requires in
    let v = c.loop-i.invariant in
    (rw c.put.ensures.0 (turn-ahead q v.0 (omega (arith, q.lent.long, c.loop-i-test.true)) c.if-j-e.true (rw (c.at.ensures.0, c.at-in-loop-i.ensures.0) at c.join-t.ensures)), omega (arith, v.1))

pub returns-then-i-fc : goal.returns-then-i-fc
returns-then-i-fc g c =
    let end : (length c.args.fc.now ≤ c.loop-i.i) ⊎ (c.args.e ≤ c.loop-i.j) =
    elim c.loop-i-test.branch [ then-loop-i-test+else-j-e w ↦ inr w.if-j-e.false | else-loop-i-test w ↦ inl w.loop-i-test.false ] in
    let w = c.put_rest.ensures in
    rest-placed c.requires c.loop-i.invariant.0 end c.if-i-fc.true w.0 w.1

pub returns : goal.returns
returns g c =
    let h = c.close_gap-head.ensures in
    gap-placed c.requires c.loop-i.invariant.0 c.if-i-fc.false h.0 h.1 h.2
