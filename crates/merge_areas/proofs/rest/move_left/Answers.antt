-- `merge_areas::rest::move_left` meets its contract.
use Rattle.merge_areas.proofs.Moving.{left-moved}
use Rattle.merge_areas.proofs.rest.move_left.Goals as goal

pub returns : goal.returns
returns g c =
    let q = c.requires in
    let m = c.move_terms.ensures in
    left-moved q.0 q.1 c.source-from.ensures m.0 m.1
