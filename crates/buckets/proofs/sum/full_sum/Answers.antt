-- `buckets::sum::full_sum` meets its contract.
use native.Mathlib.Omega.{arith}
use Rattle.buckets.proofs.SumLaws.{areas-asks, last-asks, all-few, sum_past, sum_done}
use Rattle.buckets.proofs.sum.full_sum.Goals as goal

pub sum_areas-low-requires : goal.sum_areas-low-requires
sum_areas-low-requires c = areas-asks c.requires

pub merge_last-n-requires : goal.merge_last-n-requires
merge_last-n-requires c = last-asks c.requires c.sum_areas-low.ensures c.sum_areas-low.auto.ww c.sum_areas-low.auto.wc

pub overflow_sub-head : goal.overflow_sub-head
overflow_sub-head c = sum_past c.requires c.sum_areas-low.ensures c.sum_areas-low.auto.ww c.sum_areas-low.auto.wc c.merge_last-n.ensures c.head_of-head.ensures

pub overflow_add-result : goal.overflow_add-result
overflow_add-result c = omega (arith, all-few c.requires c.sum_areas-low.ensures c.sum_areas-low.auto.ww c.sum_areas-low.auto.wc c.merge_last-n.ensures)

pub returns : goal.returns
returns c = sum_done c.requires c.sum_areas-low.ensures c.sum_areas-low.auto.ww c.sum_areas-low.auto.wc c.merge_last-n.ensures c.head_of-head.ensures c.len_of-len.ensures c.clear.ensures
