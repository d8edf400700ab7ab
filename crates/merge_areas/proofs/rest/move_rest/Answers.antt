-- `merge_areas::rest::move_rest` meets its contract.
use Rattle.merge_areas.proofs.Resting.{rest-ends, rest-apart, rest-moved}
use Rattle.merge_areas.proofs.rest.move_rest.Goals as goal

pub move_terms-requires : goal.move_terms-requires
move_terms-requires g c =
    let q = c.requires in
    let i = rw c.at-y.ensures.0 at c.above-i.ensures in
    let j = rw c.at-x.ensures.0 at c.above-j.ensures in
    let l = rest-ends q.0 q.1 q.2 i j c.source-from.ensures c.rest_len-left.ensures in
    (l.0, l.1, l.2, l.3, rest-apart q.0 q.1 q.2 i j c.source-from.ensures c.rest_len-left.ensures)

pub returns : goal.returns
returns g c =
    let q = c.requires in
    let i = rw c.at-y.ensures.0 at c.above-i.ensures in
    let j = rw c.at-x.ensures.0 at c.above-j.ensures in
    let m = c.move_terms.ensures in
    rest-moved q.0 q.1 q.2 i j c.source-from.ensures c.rest_len-left.ensures m.0 m.1
