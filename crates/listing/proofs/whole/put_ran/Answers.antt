use Rattle.listing.proofs.WholeLaws.{places-done, ran-done, ran-refused}
use lib.Seq.{length-take-le}
use native.Mathlib.Omega.{arith}
use mathlib.Core.Path.{sym, ◌∙◌}
use Rattle.listing.proofs.whole.put_ran.Goals as goal

pub slice_bounds-given-end : goal.slice_bounds-given-end
slice_bounds-given-end c = sym (length-take-le _ _ (places-done c.requires c.in-Ok.is))

pub slice_bounds-given-end-in-Ok : goal.slice_bounds-given-end-in-Ok
slice_bounds-given-end-in-Ok c = sym (length-take-le _ _ (omega (arith, places-done c.requires c.in-Ok.is, c.requires.same-long)))

pub invariant_of-given : goal.invariant_of-given
invariant_of-given c = record { same_long = length-take-le _ c.args.oc.now (omega (arith, places-done c.requires c.in-Ok.is, c.requires.same-long)) ∙ sym (length-take-le _ c.args.ow.now (places-done c.requires c.in-Ok.is)) }

pub returns-in-Ok : goal.returns-in-Ok
returns-in-Ok c = ran-done c.args.l.order c.args.l.vars c.args.ops.now c.args.ow.now c.args.oc.now c.args.ran.tally c.args.ran.answer c.in-Ok.is c.put_answers-at.ensures c.put_cost.ensures

pub returns-in-Err : goal.returns-in-Err
returns-in-Err c = ran-refused c.args.l.order c.args.l.vars c.args.ops.now c.args.ow.now c.args.oc.now c.args.ran.tally c.args.ran.answer c.in-Err.is _ c.number.ensures c.put_refused.ensures
