-- `runs::run` meets its contract.
use mathlib.Core.Path.{◌≡◌, refl, sym, ap, ◌∙◌}
use lib.ListN.{length}
use Rattle.refusal.specs.Table.{refusal_in, number_of}
use Rattle.refusal.proofs.TableLaws.{number-some}
use Rattle.polynomial.specs.Settings.{setting_of}
use Rattle.opening.specs.Run.{Opened, run_refusal}
use Rattle.opening.proofs.RunLaws.{opened}
use Rattle.call.proofs.OutcomeLaws.{decided-refused, decided-none}
use Rattle.runs.proofs.OpenedLaws.{loaded, spaces}
use Rattle.runs.proofs.OutcomeLaws.{ended-in}
use Rattle.runs.proofs.run.Goals.{In_default}
use Rattle.runs.proofs.run.Goals as goal

-- the opening checks are passed
none : (c : In_default) → run_refusal (setting_of c.args.p c.args.order c.args.n c.args.weights.now) c.args.words.now c.args.coefs.now c.args.starts.now c.args.ops.now (length c.args.bw.now) (length c.args.bc.now) (length c.args.ww.now) (length c.args.wc.now) (length c.args.ow.now) (length c.args.oc.now) ≡ 0
none c = sym c.run_opening.ensures ∙ ap refusal_in c.in_default.is

pass : (c : In_default) → Opened (setting_of c.args.p c.args.order c.args.n c.args.weights.now) c.args.words.now c.args.coefs.now c.args.starts.now c.args.ops.now (length c.args.bw.now) (length c.args.bc.now) (length c.args.ww.now) (length c.args.wc.now) (length c.args.ow.now) (length c.args.oc.now)
pass c = opened (setting_of c.args.p c.args.order c.args.n c.args.weights.now) c.args.words.now c.args.coefs.now c.args.starts.now c.args.ops.now (length c.args.bw.now) (length c.args.bc.now) (length c.args.ww.now) (length c.args.wc.now) (length c.args.ow.now) (length c.args.oc.now) (none c)

pub returns-in-Err : goal.returns-in-Err
returns-in-Err c =
    let e = sym (ap refusal_in c.in-Err.is) ∙ c.run_opening.ensures in
    rw (← e) (decided-refused (number_of c.in-Err.refusal) c.args.tally _ c.args.bw.now c.args.bc.now c.args.ww.now c.args.wc.now c.args.ow.now c.args.oc.now (number-some c.in-Err.refusal) c.refused.ensures)

pub operate_all-s-requires : goal.operate_all-s-requires
operate_all-s-requires c = (rw c.order_of-order.ensures (loaded (pass (goal.at.operate_all-s-requires c).In_default)), spaces c.args.bw.now c.args.bc.now c.args.ww.now c.args.wc.now c.args.ow.now c.args.oc.now refl (pass (goal.at.operate_all-s-requires c).In_default))

pub settle-requires : goal.settle-requires
settle-requires c = let r = c.operate_all-s.ensures in (r.counting.stands.laid, c.operate_all-s.auto.bw ∙ (pass (goal.at.settle-requires c).In_default).bucket-words, c.operate_all-s.auto.bc ∙ (pass (goal.at.settle-requires c).In_default).bucket-coefs, c.operate_all-s.auto.ww ∙ (pass (goal.at.settle-requires c).In_default).work-words, c.operate_all-s.auto.wc ∙ (pass (goal.at.settle-requires c).In_default).work-coefs)

pub ended-requires : goal.ended-requires
ended-requires c = c.operate_all-s.ensures.counting.stands.laid

pub returns : goal.returns
returns c = ended-in c.order_of-order.ensures c.operate_all-s.ensures c.settle.ensures c.ended.ensures ∙ sym (decided-none _ c.args.tally _ c.args.bw.now c.args.bc.now c.args.ww.now c.args.wc.now c.args.ow.now c.args.oc.now (none (goal.at.returns c).In_default))
