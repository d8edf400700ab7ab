-- `merge_areas::turns::back` meets its contract.
use native.Mathlib.Omega.{arith}
use Rattle.merge_common.proofs.Joins.{last-small}
use Rattle.merge_areas.proofs.Stored.{back-turn, left-last-coef, right-last-coef}
use Rattle.merge_areas.proofs.turns.back.Goals as goal

pub join_last-t-requires : goal.join_last-t-requires
join_last-t-requires g c =
    let q = c.requires in
    (q.1.modulus, (left-last-coef q.0 q.1 q.2 q.3).1, (right-last-coef q.0 q.1 q.2 q.3).1)

pub overflow_sub-result : goal.overflow_sub-result
overflow_sub-result g c = let q = c.requires in omega (arith, last-small _ _ _ _ _ c.join_last-t.ensures, q.0, q.2, q.3)

pub overflow_sub-result-2 : goal.overflow_sub-result-2
overflow_sub-result-2 g c = let q = c.requires in omega (arith, last-small _ _ _ _ _ c.join_last-t.ensures, q.0, q.2, q.3)

pub overflow_sub-result-3 : goal.overflow_sub-result-3
overflow_sub-result-3 g c = let q = c.requires in omega (arith, last-small _ _ _ _ _ c.join_last-t.ensures, q.0, q.2, q.3)

pub returns : goal.returns
returns g c =
    let q = c.requires in
    rw c.put.ensures.0 (back-turn q.0 q.1 q.2 q.3 (rw (c.at.ensures.0, c.at-2.ensures.0) at c.join_last-t.ensures))
