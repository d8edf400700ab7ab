-- `buckets::last::merge_last` meets its contract.
use Rattle.buckets.proofs.MergeLastLaws.{past_work, room-asks, into-asks, last-is}
use Rattle.buckets.proofs.last.merge_last.Goals as goal

pub overflow_sub-head_of : goal.overflow_sub-head_of
overflow_sub-head_of c = past_work c.requires c.head_of.ensures c.len_of-n.ensures

pub make_room-h-requires : goal.make_room-h-requires
make_room-h-requires c = room-asks c.requires c.head_of.ensures c.len_of-n.ensures

pub merge_into-m-requires : goal.merge_into-m-requires
merge_into-m-requires c = into-asks c.requires c.head_of.ensures c.len_of-n.ensures c.make_room-h.ensures

pub returns : goal.returns
returns c = last-is c.requires c.head_of.ensures c.len_of-n.ensures c.make_room-h.ensures c.merge_into-m.ensures c.merge_into-m.auto.sw c.merge_into-m.auto.sc c.place.ensures
