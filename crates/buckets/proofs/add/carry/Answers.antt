-- `buckets::add::carry` meets its contract.
use mathlib.Core.Path.{sym, ap, ap₂, ◌∙◌}
use Prim.Native.Nat.{ℕ, ◌+◌, ◌-◌, ◌*◌}
use native.Mathlib.Omega.{arith}
use Rattle.space.specs.Space.{side_at}
use Rattle.space.proofs.SpaceLaws.{part-to}
use Rattle.buckets.proofs.CarryState.{carries-start, up-asks, other-asks, short-count, stays, goes, last-asks, ends}
use Rattle.buckets.proofs.add.carry.Goals as goal

pub loop-l-init : goal.loop-l-init
loop-l-init c = carries-start c.requires

pub side_of-side-requires : goal.side_of-side-requires
side_of-side-requires c = (c.loop-l.invariant.laid.eighteen, c.loop-l-test.true)

pub merge_up-m-requires : goal.merge_up-m-requires
merge_up-m-requires c = up-asks c.loop-l.invariant c.loop-l-test.true

pub other_area-requires : goal.other_area-requires
other_area-requires c = let q = c.loop-l.l in rw (q.zone_is, q.cap_is) (other-asks c.loop-l.invariant c.loop-l-test.true c.side_of-side.ensures)

pub turn-requires : goal.turn-requires
turn-requires c = (c.loop-l.invariant.laid.eighteen, c.loop-l-test.true)

pub overflow_add-result : goal.overflow_add-result
overflow_add-result c = let k = c.loop-l-test.true in omega (arith, short-count c.loop-l.invariant c.loop-l-test.true c.merge_up-m.ensures.0 c.merge_up-m.auto.ww c.merge_up-m.auto.wc, k)

pub shape_of-b-then-m-l : goal.shape_of-b-then-m-l
shape_of-b-then-m-l c = c.turn.auto.b ∙ (c.loop-l.invariant.laid.eighteen ∙ sym c.requires.stands.laid.eighteen)

pub shape_of-ww-then-m-l : goal.shape_of-ww-then-m-l
shape_of-ww-then-m-l c = c.merge_up-m.auto.ww ∙ (c.loop-l.invariant.slices.work-words ∙ sym c.requires.slices.work-words)

pub shape_of-wc-then-m-l : goal.shape_of-wc-then-m-l
shape_of-wc-then-m-l c = c.merge_up-m.auto.wc ∙ (c.loop-l.invariant.slices.work-coefs ∙ sym c.requires.slices.work-coefs)

pub returns-then-m-l : goal.returns-then-m-l
returns-then-m-l c =
    let q = c.loop-l.l in
    let s = stays c.loop-l.invariant c.loop-l-test.true c.merge_up-m.ensures.0 c.merge_up-m.auto.ww c.merge_up-m.auto.wc (omega (arith, c.if-m-l.true, q.cap_is)) (c.other_area.ensures ∙ (ap (λ (x : ℕ). q.zone + (q.zone + 2 * q.cap - x)) c.side_of-side.ensures ∙ ap₂ (λ (z k : ℕ). z + (z + 2 * k - side_at c.loop-l.b q.bucket)) q.zone_is q.cap_is)) c.turn.ensures in
    record { lists-are = s.0; count-is = s.1; few = s.2; stands = s.3 }

pub head_of-h-requires : goal.head_of-h-requires
head_of-h-requires c = (c.loop-l.invariant.laid.eighteen, c.loop-l.invariant.within)

pub place-requires : goal.place-requires
place-requires c = (c.loop-l.invariant.laid.eighteen, c.loop-l.invariant.within)

pub overflow_add-n : goal.overflow_add-n
overflow_add-n c = let k = c.loop-l-test.true in omega (arith, short-count c.loop-l.invariant c.loop-l-test.true c.merge_up-m.ensures.0 c.merge_up-m.auto.ww c.merge_up-m.auto.wc, k)

pub next-l-requires : goal.next-l-requires
next-l-requires c = c.loop-l.invariant.within

pub loop-l-smaller : goal.loop-l-smaller
loop-l-smaller c = omega (arith, c.loop-l.invariant.within, c.next-l.ensures)

pub loop-l-preserved : goal.loop-l-preserved
loop-l-preserved c = goes c.loop-l.invariant c.loop-l-test.true c.merge_up-m.ensures.0 c.merge_up-m.auto.ww c.merge_up-m.auto.wc (omega (arith, c.if-m-l.false, c.loop-l.l.cap_is)) c.head_of-h.ensures c.place.ensures c.next-l.ensures

pub overflow_add-end : goal.overflow_add-end
overflow_add-end c = omega (arith, c.loop-l.invariant.in-places)

pub offset_bounds-ww-from : goal.offset_bounds-ww-from
offset_bounds-ww-from c = omega (arith, c.loop-l.invariant.in-places)

pub slice_bounds-merge_last-end : goal.slice_bounds-merge_last-end
slice_bounds-merge_last-end c = omega (arith, c.loop-l.invariant.in-places, c.loop-l.invariant.slices.work-words)

pub offset_bounds-wc-from : goal.offset_bounds-wc-from
offset_bounds-wc-from c = omega (arith, c.loop-l.invariant.in-places)

pub slice_bounds-merge_last-end-2 : goal.slice_bounds-merge_last-end-2
slice_bounds-merge_last-end-2 c = omega (arith, c.loop-l.invariant.in-places, c.loop-l.invariant.slices.work-coefs)

pub merge_last-requires : goal.merge_last-requires
merge_last-requires c = let k = c.loop-l in rw (part-to k.from k.len k.ww, part-to k.from k.len k.wc) (last-asks k.invariant (omega (arith, c.loop-l-test.false)))

pub overflow_add-result-2 : goal.overflow_add-result-2
overflow_add-result-2 c = let k = c.loop-l in omega (arith, (ends k.invariant (omega (arith, c.loop-l-test.false)) (rw (part-to k.from k.len k.ww, part-to k.from k.len k.wc) at c.merge_last.ensures)).2)

pub shape_of-b : goal.shape_of-b
shape_of-b c = c.merge_last.ensures.laid.eighteen ∙ sym c.requires.stands.laid.eighteen

pub shape_of-sw : goal.shape_of-sw
shape_of-sw c = c.merge_last.ensures.words_long ∙ sym c.requires.slices.words_long

pub shape_of-sc : goal.shape_of-sc
shape_of-sc c = c.merge_last.ensures.coefs-long ∙ sym c.requires.slices.coefs-long

pub shape_of-ww : goal.shape_of-ww
shape_of-ww c = c.loop-l.invariant.slices.work-words ∙ sym c.requires.slices.work-words

pub shape_of-wc : goal.shape_of-wc
shape_of-wc c = c.loop-l.invariant.slices.work-coefs ∙ sym c.requires.slices.work-coefs

pub returns : goal.returns
returns c =
    let k = c.loop-l in
    let s = ends k.invariant (omega (arith, c.loop-l-test.false)) (rw (part-to k.from k.len k.ww, part-to k.from k.len k.wc) at c.merge_last.ensures) in
    record { lists-are = s.0; count-is = s.1; few = s.2; stands = s.3 }
