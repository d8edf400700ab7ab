-- `merge_common::shift::shift_terms` meets its contract: of the terms, the first i are still to be put.
use Rattle.place.specs.Numbers.{key_numbers}
use Rattle.merge_common.proofs.Shifts.{Left}
use Rattle.merge_common.proofs.shift.shift_terms.Given as goal

abbrev pub invariant-loop-i : goal.invariant-loop-i
invariant-loop-i g l =
    let w = g.K.Key.width in
    Left (key_numbers w l.initial.sw) l.from l.to l.n (key_numbers w l.sw) l.i × Left l.initial.sc l.from l.to l.n l.sc l.i
