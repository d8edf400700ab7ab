-- `merge_common::keys::put_terms` meets its contract: after i turns the first i are put.
use Rattle.std.proofs.Common.{◌<◌, length, refl, arith}
use Rattle.wide_monomial.specs.Wide.{paired}
use Rattle.place.specs.Numbers.{keyed, word_numbers, key_by}
use Rattle.place.proofs.WidthLaws.{numbers-alike}
use Rattle.merge_common.proofs.Lists.{begun_more, begun_all}
use Rattle.merge_common.proofs.Steps.{each-back}
use Rattle.merge_common.proofs.Turns.{made-on, made-all}
use Rattle.merge_common.proofs.keys.put_terms.Goals as goal

pub at-requires : goal.at-requires
at-requires g c = omega (arith, c.requires.0, c.loop-i-test.true, numbers-alike keyed paired g.K.Key.width c.args.fw.now)

pub loop-i-preserved : goal.loop-i-preserved
loop-i-preserved g c =
    let w = g.K.Key.width in
    let s = word_numbers w c.args.fw.now in
    let i : c.loop-i.i < length s = omega (arith, c.requires.0, c.loop-i-test.true) in
    (made-on (key_by w c.args.order) s _ _ c.loop-i.invariant.0 i c.at.ensures.1 c.key.ensures c.put.ensures.0, begun_more _ _ _ _ _ _ c.loop-i.invariant.1 c.loop-i-test.true refl)

pub returns : goal.returns
returns g c =
    let w = g.K.Key.width in
    let s = word_numbers w c.args.fw.now in
    (made-all (key_by w c.args.order) s _ _ c.loop-i.invariant.0 (omega (arith, c.requires.0, c.loop-i-test.false)), begun_all _ _ _ _ _ c.loop-i.invariant.1 c.loop-i-test.false, each-back w c.args.order c.args.fw.now (λ i. (c.type_inv.fw i).fits))
