-- `search::lead::find_lead` meets its contract.
use native.Mathlib.Omega.{arith}
use Rattle.monomial.proofs.OrderLaws.{numbers-order}
use Rattle.search.proofs.SeekState.{slices-kept}
use Rattle.search.proofs.FindState.{finds-start, find_none, seek-asks, find-lead, removal, fewer-held, find-again}
use Rattle.search.proofs.WordLaws.{found_none, found-lead}
use Rattle.search.proofs.lead.find_lead.Goals as goal

pub loop-i-init : goal.loop-i-init
loop-i-init c = (finds-start c.requires.0, c.requires.1)

pub seek-d-requires : goal.seek-d-requires
seek-d-requires c = (seek-asks c.loop-i.invariant.0 c.in-Some.ensures.0 numbers-order c.in-Some.ensures.1 c.lead_key.ensures c.lead_coef.ensures, c.loop-i.invariant.1)

pub returns-then-d-ne0 : goal.returns-then-d-ne0
returns-then-d-ne0 c = rw c.in_words.ensures (found-lead c.args.ring.order c.requires.0 (find-lead c.loop-i.invariant.0 c.in-Some.ensures.0 numbers-order c.in-Some.ensures.1 c.lead_key.ensures c.lead_coef.ensures c.seek-d.ensures c.if-d-ne0.true))

pub remove_lead-requires : goal.remove_lead-requires
remove_lead-requires c = removal c.loop-i.invariant.0 c.in-Some.ensures.0 numbers-order c.in-Some.ensures.1 c.lead_key.ensures c.lead_coef.ensures c.seek-d.ensures

pub loop-i-smaller : goal.loop-i-smaller
loop-i-smaller c = fewer-held c.loop-i.invariant.0 c.in-Some.ensures.0 numbers-order c.in-Some.ensures.1 c.lead_key.ensures c.lead_coef.ensures c.seek-d.ensures c.remove_lead.ensures

pub loop-i-preserved : goal.loop-i-preserved
loop-i-preserved c = (find-again c.loop-i.invariant.0 c.in-Some.ensures.0 numbers-order c.in-Some.ensures.1 c.lead_key.ensures c.lead_coef.ensures c.seek-d.ensures c.remove_lead.ensures c.if-d-ne0.false, slices-kept c.loop-i.invariant.1 c.seek-d.auto.wc c.seek-d.auto.sc)

pub returns : goal.returns
returns c = found_none c.args.ring.order c.requires.0 (find_none c.loop-i.invariant.0 c.in_default.ensures numbers-order (omega arith))
