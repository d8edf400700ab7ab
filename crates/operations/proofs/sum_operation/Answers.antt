-- `operations::sum_operation` meets its contract.
use mathlib.Core.Path.{◌∙◌}
use Prim.Native.Nat.{◌+◌, ◌-◌, ◌<◌, ◌≤◌}
use native.Mathlib.Omega.{arith}
use lib.ListN.{length}
use Rattle.space.specs.Space.{held_in, Slices}
use Rattle.operations.proofs.OperationLaws.{held_small, sum-refused, sum-asks, sum-short, sum_fits, sum-operated, part-len, rw-done}
use Rattle.operations.proofs.sum_operation.Goals.{After-full_sum-r}
use Rattle.operations.proofs.sum_operation.Goals as goal

-- what is known once the sum is in the bucket space
slices : (c : After-full_sum-r) → Slices c.full_sum-r.new.ww c.full_sum-r.new.wc c.full_sum-r.new.sw c.full_sum-r.new.sc
slices c = let q = c.requires.1 in record { work-words = c.full_sum-r.auto.ww ∙ q.work-words; work-coefs = c.full_sum-r.auto.wc ∙ q.work-coefs; words_long = c.full_sum-r.auto.sw ∙ q.words_long; coefs-long = c.full_sum-r.auto.sc ∙ q.coefs-long }

room : (c : After-full_sum-r) → held_in c.args.b.now + 1 ≤ length c.args.ow.now - c.args.s.places
room c = omega (arith, c.if-ow-at.false, c.held.ensures)

fits : (c : After-full_sum-r) → c.args.s.places + c.full_sum-r.result.len < length c.args.ow.now
fits c = sum_fits c.requires.0 c.requires.1 c.requires.2 (room c) c.full_sum-r.ensures (slices c)

pub overflow_add-held : goal.overflow_add-held
overflow_add-held c = omega (arith, c.held.ensures, held_small c.requires.0)

pub returns-then-ow-at : goal.returns-then-ow-at
returns-then-ow-at c = rw c.halt.ensures (sum-refused c.requires.0 c.requires.2 (let z : length c.args.ow.now - c.args.s.places < held_in c.args.b.now + 1 = omega (arith, c.if-ow-at.true, c.held.ensures) in z))

pub full_sum-r-requires : goal.full_sum-r-requires
full_sum-r-requires c = sum-asks c.requires.0 c.requires.1

pub slice_bounds-put_words_of-end : goal.slice_bounds-put_words_of-end
slice_bounds-put_words_of-end c = omega (arith, c.full_sum-r.ensures.in-space, (slices (goal.at.slice_bounds-put_words_of-end c).After-full_sum-r).words_long)

pub put_words_of-requires : goal.put_words_of-requires
put_words_of-requires c = omega (arith, fits (goal.at.put_words_of-requires c).After-full_sum-r, part-len c.full_sum-r.result.head c.full_sum-r.result.len c.full_sum-r.new.sw (omega (arith, c.full_sum-r.ensures.in-space, (slices (goal.at.put_words_of-requires c).After-full_sum-r).words_long)))

pub slice_bounds-put-end : goal.slice_bounds-put-end
slice_bounds-put-end c = omega (arith, c.full_sum-r.ensures.in-space, (slices (goal.at.slice_bounds-put-end c).After-full_sum-r).coefs-long)

pub put-requires : goal.put-requires
put-requires c = omega (arith, fits (goal.at.put-requires c).After-full_sum-r, part-len c.full_sum-r.result.head c.full_sum-r.result.len c.full_sum-r.new.sc (omega (arith, c.full_sum-r.ensures.in-space, (slices (goal.at.put-requires c).After-full_sum-r).coefs-long)), c.requires.2.same-long)

pub overflow_add-end : goal.overflow_add-end
overflow_add-end c = omega (arith, fits (goal.at.overflow_add-end c).After-full_sum-r, c.well_formed)

pub offset_bounds-ow-end : goal.offset_bounds-ow-end
offset_bounds-ow-end c = omega (arith, fits (goal.at.offset_bounds-ow-end c).After-full_sum-r, c.well_formed)

pub bounds-ow-end : goal.bounds-ow-end
bounds-ow-end c = omega (arith, fits (goal.at.bounds-ow-end c).After-full_sum-r, c.put_words_of.auto.dst)

pub offset_bounds-oc-end : goal.offset_bounds-oc-end
offset_bounds-oc-end c = omega (arith, fits (goal.at.offset_bounds-oc-end c).After-full_sum-r, c.well_formed)

pub bounds-oc-end : goal.bounds-oc-end
bounds-oc-end c = omega (arith, fits (goal.at.bounds-oc-end c).After-full_sum-r, c.put.auto.dst, c.requires.2.same-long)

pub compare-requires : goal.compare-requires
compare-requires c = omega (arith, c.requires.0.few, c.requires.3, c.full_sum-r.ensures.few)

pub overflow_add-r : goal.overflow_add-r
overflow_add-r c = omega (arith, fits (goal.at.overflow_add-r c).After-full_sum-r, c.well_formed)

pub give-requires : goal.give-requires
give-requires c = rw c.compare.ensures (omega (arith, c.requires.0.some-given, c.requires.3, sum-short c.requires.0 c.requires.1 c.requires.2 (room (goal.at.give-requires c).After-full_sum-r) c.full_sum-r.ensures (slices (goal.at.give-requires c).After-full_sum-r), held_small c.requires.0), omega (arith, fits (goal.at.give-requires c).After-full_sum-r, c.well_formed))

pub finish-requires : goal.finish-requires
finish-requires c = rw (c.give.ensures, c.compare.ensures) (omega (arith, c.requires.3))

pub shape_of-b : goal.shape_of-b
shape_of-b c = c.full_sum-r.auto.b

pub shape_of-bw : goal.shape_of-bw
shape_of-bw c = c.full_sum-r.auto.sw

pub shape_of-bc : goal.shape_of-bc
shape_of-bc c = c.full_sum-r.auto.sc

pub shape_of-ww : goal.shape_of-ww
shape_of-ww c = c.full_sum-r.auto.ww

pub shape_of-wc : goal.shape_of-wc
shape_of-wc c = c.full_sum-r.auto.wc

pub returns : goal.returns
returns c = rw (c.finish.ensures, c.give.ensures, c.compare.ensures) (rw-done c.args.s.places (c.args.s.places + c.full_sum-r.result.len) c.full_sum-r.result.head c.full_sum-r.result.len c.full_sum-r.new.sw c.full_sum-r.new.sc c.put_words_of.ensures c.put.ensures (sum-operated c.requires.0 c.requires.1 c.requires.2 (room (goal.at.returns c).After-full_sum-r) c.full_sum-r.ensures (slices (goal.at.returns c).After-full_sum-r) c.requires.3))
