-- `buckets::sum::sum_areas` meets its contract.
use mathlib.Core.Path.{sym, ◌∙◌}
use native.Mathlib.Omega.{arith}
use Rattle.buckets.proofs.SumLaws.{sums-start, sums-end, sum-none, sum_first, sum-asks, sum-count, sum-next}
use Rattle.buckets.proofs.sum.sum_areas.Goals as goal

pub loop-i-init : goal.loop-i-init
loop-i-init c = sums-start c.requires

pub head_of-h-requires : goal.head_of-h-requires
head_of-h-requires c = (c.requires.laid.eighteen, let u = c.loop-i-test.true in omega arith)

pub len_of-held-requires : goal.len_of-held-requires
len_of-held-requires c = (c.requires.laid.eighteen, let u = c.loop-i-test.true in omega arith)

pub loop-i-preserved-then-held-eq0 : goal.loop-i-preserved-then-held-eq0
loop-i-preserved-then-held-eq0 c = sum-none c.requires c.loop-i.invariant c.loop-i-test.true (sym c.len_of-held.ensures ∙ c.if-held-eq0.true)

pub loop-i-preserved-then-len-eq0 : goal.loop-i-preserved-then-len-eq0
loop-i-preserved-then-len-eq0 c = sum_first c.requires c.loop-i.invariant c.loop-i-test.true c.head_of-h.ensures c.len_of-held.ensures c.if-len-eq0.true

pub side_of-requires : goal.side_of-requires
side_of-requires c = (c.requires.laid.eighteen, c.loop-i-test.true)

pub merge_areas-m-requires : goal.merge_areas-m-requires
merge_areas-m-requires c = sum-asks c.requires c.loop-i.invariant c.loop-i-test.true c.if-len-eq0.false c.head_of-h.ensures c.len_of-held.ensures c.side_of.ensures c.if-held-eq0.false

pub overflow_add-n : goal.overflow_add-n
overflow_add-n c = omega (arith, sum-count c.requires c.loop-i.invariant c.loop-i-test.true c.if-len-eq0.false c.head_of-h.ensures c.len_of-held.ensures c.side_of.ensures c.merge_areas-m.ensures.0, c.loop-i-test.true)

pub loop-i-preserved : goal.loop-i-preserved
loop-i-preserved c = sum-next c.requires c.loop-i.invariant c.loop-i-test.true c.if-len-eq0.false c.head_of-h.ensures c.len_of-held.ensures c.side_of.ensures c.merge_areas-m.ensures.0 c.merge_areas-m.auto.ww c.merge_areas-m.auto.wc

pub shape_of-ww : goal.shape_of-ww
shape_of-ww c = c.loop-i.invariant.work-words ∙ sym c.requires.work-words

pub shape_of-wc : goal.shape_of-wc
shape_of-wc c = c.loop-i.invariant.work-coefs ∙ sym c.requires.work-coefs

pub returns : goal.returns
returns c = sums-end c.requires c.loop-i.invariant c.loop-i-test.false
