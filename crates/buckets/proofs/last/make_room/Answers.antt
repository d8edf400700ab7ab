-- `buckets::last::make_room` meets its contract.
use Rattle.buckets.proofs.MergeLastLaws.{stays-there, shifts}
use Rattle.buckets.proofs.last.make_room.Goals as goal

pub returns-then-h-more : goal.returns-then-h-more
returns-then-h-more c = stays-there c.requires c.if-h-more.true

pub returns : goal.returns
returns c = let e = c.close_gap.ensures in shifts c.requires e.0 e.1 e.2
