-- `merge_common::keys::put_words_of` meets its contract: after i turns the first i are put.
use Rattle.std.specs.Prelude.{map}
use Rattle.place.specs.Numbers.{key_numbers, word_numbers, from_key_by}
use Rattle.merge_common.proofs.Lists.{Begun}
use Rattle.merge_common.proofs.keys.put_words_of.Given as goal

abbrev pub invariant-loop-i : goal.invariant-loop-i
invariant-loop-i g l =
    let w = g.K.Key.width in
    Begun (map (from_key_by w l.order) (key_numbers w l.src)) (word_numbers w l.initial.dst) l.to (word_numbers w l.dst) l.i
