-- `merge_areas::merge_areas` meets its contract.
use Rattle.merge_areas.proofs.Joining.{rest-requires, both-requires, one-requires, left-ready, merged}
use Rattle.merge_areas.proofs.merge_areas.Goals as goal

pub move_rest-rested-requires : goal.move_rest-rested-requires
move_rest-rested-requires g c = rest-requires c.requires

pub both_ends-both-requires : goal.both_ends-both-requires
both_ends-both-requires g c = both-requires c.requires c.move_rest-rested.ensures

pub one_end-one-requires : goal.one_end-one-requires
one_end-one-requires g c = one-requires c.requires c.move_rest-rested.ensures c.both_ends-both.ensures

pub move_left-done-requires : goal.move_left-done-requires
move_left-done-requires g c =
    let o = c.one_end-one.ensures in
    (left-ready c.requires c.move_rest-rested.ensures c.both_ends-both.ensures o.0, o.1)

pub returns : goal.returns
returns g c =
    let h = c.close_gap-head.ensures in
    merged c.requires c.move_rest-rested.ensures c.both_ends-both.ensures c.one_end-one.ensures.0 c.move_left-done.ensures h.0 h.1 h.2
