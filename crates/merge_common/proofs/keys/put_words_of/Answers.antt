-- `merge_common::keys::put_words_of` meets its contract: after i turns the first i are put.
use Rattle.std.proofs.Common.{◌<◌, length, arith}
use Rattle.wide_monomial.specs.Wide.{paired}
use Rattle.place.specs.Numbers.{keyed, key_numbers, from_key_by}
use Rattle.place.proofs.WidthLaws.{numbers-few, numbers-alike}
use Rattle.merge_common.proofs.Turns.{made-on, made-all}
use Rattle.merge_common.proofs.keys.put_words_of.Goals as goal

pub overflow_add-to : goal.overflow_add-to
overflow_add-to g c = omega (arith, c.loop-i-test.true, c.count_places-i-end.ensures, c.requires, numbers-few keyed g.K.Key.width c.args.dst.now)

pub put-requires : goal.put-requires
put-requires g c =
    let w = g.K.Key.width in
    omega (arith, c.loop-i-test.true, c.count_places-i-end.ensures, c.requires, c.loop-i.invariant.long, numbers-alike keyed paired w c.args.dst.now, numbers-alike keyed paired w c.loop-i.dst)

pub loop-i-preserved : goal.loop-i-preserved
loop-i-preserved g c =
    let w = g.K.Key.width in
    let s = key_numbers w c.args.src.now in
    let i : c.loop-i.i < length s = omega (arith, c.loop-i-test.true, c.count_places-i-end.ensures) in
    made-on (from_key_by w c.args.order) s _ _ c.loop-i.invariant i c.at.ensures.0 c.word.ensures c.put.ensures.1

pub returns : goal.returns
returns g c =
    let w = g.K.Key.width in
    made-all (from_key_by w c.args.order) (key_numbers w c.args.src.now) _ _ c.loop-i.invariant (omega (arith, c.loop-i-test.false, c.count_places-i-end.ensures))
