-- `merge_common::merging::join_by` meets its contract.
use Rattle.merge_common.proofs.Joins.{flags_as, chosen-as, joined_by_is}
use Rattle.merge_common.proofs.merging.join_by.Goals as goal

pub returns : goal.returns
returns g c =
    let a = c.args in
    let number = g.K.Key.number in
    let x = number a.x in
    let y = number a.y in
    let f = flags_as _ _ x y c.deciding-by.ensures c.larger-above.ensures c.larger-below.ensures in
    joined_by_is x a.c y a.d a.p f _ c.choose-l.ensures c.choose-m.ensures c.add-sum.ensures c.choose.ensures c.choose-coef.ensures (chosen-as number _ a.y a.x c.choose-2.ensures) c.from.ensures c.from-2.ensures c.from-3.ensures
