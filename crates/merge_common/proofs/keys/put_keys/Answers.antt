-- `merge_common::keys::put_keys` meets its contract: after i turns the first i are put.
use Rattle.std.proofs.Common.{◌<◌, length, arith}
use Rattle.place.specs.Numbers.{keyed, word_numbers, key_by}
use Rattle.place.proofs.WidthLaws.{numbers-few}
use Rattle.merge_common.proofs.Steps.{each-back}
use Rattle.merge_common.proofs.Turns.{made-on, made-all}
use Rattle.merge_common.proofs.keys.put_keys.Goals as goal

pub overflow_add-to : goal.overflow_add-to
overflow_add-to g c = omega (arith, c.loop-i-test.true, c.count_places-i-end.ensures, c.requires, numbers-few keyed g.K.Key.width c.args.dst.now)

pub put-requires : goal.put-requires
put-requires g c = omega (arith, c.loop-i-test.true, c.count_places-i-end.ensures, c.requires, c.loop-i.invariant.long)

pub loop-i-preserved : goal.loop-i-preserved
loop-i-preserved g c =
    let w = g.K.Key.width in
    let s = word_numbers w c.args.src.now in
    let i : c.loop-i.i < length s = omega (arith, c.loop-i-test.true, c.count_places-i-end.ensures) in
    made-on (key_by w c.args.order) s _ _ c.loop-i.invariant i c.at.ensures.1 c.key.ensures c.put.ensures.0

pub returns : goal.returns
returns g c =
    let w = g.K.Key.width in
    let all = made-all (key_by w c.args.order) (word_numbers w c.args.src.now) _ _ c.loop-i.invariant (omega (arith, c.loop-i-test.false, c.count_places-i-end.ensures)) in
    (all, each-back w c.args.order c.args.src.now (λ i. (c.type_inv.src i).fits))
