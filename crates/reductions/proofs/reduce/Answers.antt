-- `reductions::reduce` meets its contract.
use mathlib.Core.Path.{◌≡◌, refl, sym, ap, ◌∙◌}
use lib.ListN.{length}
use Rattle.refusal.specs.Table.{refusal_in, number_of}
use Rattle.refusal.proofs.TableLaws.{number-some}
use Rattle.polynomial.specs.Settings.{setting_of}
use Rattle.call.proofs.OutcomeLaws.{decided-refused, decided-none}
use Rattle.opening.specs.Reduction.{ReductionOpened, reduction_refusal}
use Rattle.opening.proofs.ReductionLaws.{reduction-opened}
use Rattle.reductions.proofs.OpenedLaws.{reducible, spaces}
use Rattle.reductions.proofs.OutcomeLaws.{ended-as}
use Rattle.reductions.proofs.reduce.Goals.{In_default}
use Rattle.reductions.proofs.reduce.Goals as goal

-- the opening checks are passed
none : (c : In_default) → reduction_refusal (setting_of c.args.p c.args.order c.args.n c.args.weights.now) c.args.words.now c.args.coefs.now c.args.starts.now c.args.limit (length c.args.bw.now) (length c.args.bc.now) (length c.args.ww.now) (length c.args.wc.now) (length c.args.ow.now) (length c.args.oc.now) ≡ 0
none c = sym c.reduction_opening.ensures ∙ ap refusal_in c.in_default.is

pass : (c : In_default) → ReductionOpened (setting_of c.args.p c.args.order c.args.n c.args.weights.now) c.args.words.now c.args.coefs.now c.args.starts.now c.args.limit (length c.args.bw.now) (length c.args.bc.now) (length c.args.ww.now) (length c.args.wc.now) (length c.args.ow.now) (length c.args.oc.now)
pass c = reduction-opened (setting_of c.args.p c.args.order c.args.n c.args.weights.now) c.args.words.now c.args.coefs.now c.args.starts.now c.args.limit (length c.args.bw.now) (length c.args.bc.now) (length c.args.ww.now) (length c.args.wc.now) (length c.args.ow.now) (length c.args.oc.now) (none c)

pub returns-in-Err : goal.returns-in-Err
returns-in-Err c =
    let e = sym (ap refusal_in c.in-Err.is) ∙ c.reduction_opening.ensures in
    rw (← e) (decided-refused (number_of c.in-Err.refusal) c.args.tally _ c.args.bw.now c.args.bc.now c.args.ww.now c.args.wc.now c.args.ow.now c.args.oc.now (number-some c.in-Err.refusal) c.refused.ensures)

pub reduce_all-s-requires : goal.reduce_all-s-requires
reduce_all-s-requires c =
    let a = c.args in
    let o = pass (goal.at.reduce_all-s-requires c).In_default in
    (rw c.order_of-order.ensures (reducible o), spaces refl a.bw.now a.bc.now a.ww.now a.wc.now a.ow.now a.oc.now o)

pub settle-requires : goal.settle-requires
settle-requires c =
    let o = pass (goal.at.settle-requires c).In_default in
    let r = c.reduce_all-s.ensures in
    let k = c.reduce_all-s.auto in
    (r.stands.laid, k.bw ∙ o.bucket-words, k.bc ∙ o.bucket-coefs, k.ww ∙ o.work-words, k.wc ∙ o.work-coefs)

pub ended-requires : goal.ended-requires
ended-requires c = c.reduce_all-s.ensures.stands.laid

pub returns : goal.returns
returns c =
    let a = c.args in
    ended-as c.order_of-order.ensures c.reduce_all-s.ensures c.settle.ensures c.ended.ensures
    ∙ sym (decided-none _ a.tally _ a.bw.now a.bc.now a.ww.now a.wc.now a.ow.now a.oc.now (none (goal.at.returns c).In_default))
