-- `merge_areas::turns::front` meets its contract.
use native.Mathlib.Omega.{arith}
use Rattle.merge_common.proofs.Joins.{joined_small}
use Rattle.merge_areas.proofs.Stored.{front-turn, left-coef, right-coef}
use Rattle.merge_areas.proofs.turns.front.Goals as goal

pub join-t-requires : goal.join-t-requires
join-t-requires g c =
    let q = c.requires in
    (q.1.modulus, (left-coef q.0 q.1 q.2 q.3).1, (right-coef q.0 q.1 q.2 q.3).1)

pub overflow_add-result : goal.overflow_add-result
overflow_add-result g c = let q = c.requires in omega (arith, joined_small _ _ _ _ _ c.join-t.ensures, q.0, q.2, q.3, c.well_formed)

pub overflow_add-result-2 : goal.overflow_add-result-2
overflow_add-result-2 g c = let q = c.requires in omega (arith, joined_small _ _ _ _ _ c.join-t.ensures, q.0, q.2, q.3, c.well_formed)

pub overflow_add-result-3 : goal.overflow_add-result-3
overflow_add-result-3 g c = let q = c.requires in omega (arith, joined_small _ _ _ _ _ c.join-t.ensures, q.0, q.2, q.3, c.well_formed)

pub returns : goal.returns
returns g c =
    let q = c.requires in
    rw c.put.ensures.0 (front-turn q.0 q.1 q.2 q.3 (rw (c.at.ensures.0, c.at-2.ensures.0) at c.join-t.ensures))
