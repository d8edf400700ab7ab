-- `merge_common::copy::move_terms` meets its contract: after i turns the first i are put.
use Rattle.place.specs.Numbers.{key_numbers}
use Rattle.merge_common.specs.Lent.{part}
use Rattle.merge_common.proofs.Lists.{Begun}
use Rattle.merge_common.proofs.copy.move_terms.Given as goal

abbrev pub invariant-loop-i : goal.invariant-loop-i
invariant-loop-i g l =
    let w = g.K.Key.width in
    Begun (part l.from l.n (key_numbers w l.initial.ww)) (key_numbers w l.initial.ww) l.to (key_numbers w l.ww) l.i
    × Begun (part l.from l.n l.initial.wc) l.initial.wc l.to l.wc l.i
