-- `merge_common::keys::put_keys` meets its contract: after i turns the first i are put.
use Rattle.std.specs.Prelude.{map}
use Rattle.place.specs.Numbers.{key_numbers, word_numbers, key_by}
use Rattle.merge_common.proofs.Lists.{Begun}
use Rattle.merge_common.proofs.keys.put_keys.Given as goal

abbrev pub invariant-loop-i : goal.invariant-loop-i
invariant-loop-i g l =
    let w = g.K.Key.width in
    Begun (map (key_by w l.order) (word_numbers w l.src)) (key_numbers w l.initial.dst) l.to (key_numbers w l.dst) l.i
