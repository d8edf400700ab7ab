-- `reducer::step::step` meets its contract.
use mathlib.Core.Path.{◌∙◌}
use native.Mathlib.Omega.{arith}
use Rattle.reducer.proofs.StepLaws.{searches, zero-step, limit-step, first-asks, divide-asks, keep-asks, divided-step, kept_step}
use Rattle.reducer.proofs.step.step.Goals as goal

pub find_lead-found-requires : goal.find_lead-found-requires
find_lead-found-requires c = (c.requires.0.sound.stands, c.requires.1)

pub compare-t-requires : goal.compare-t-requires
compare-t-requires c = searches c.requires.0 c.find_lead-found.ensures

pub first_fit-requires : goal.first_fit-requires
first_fit-requires c = first-asks c.requires.0 c.find_lead-found.ensures c.compare-t.ensures c.in-Some.is

pub divide-requires : goal.divide-requires
divide-requires c = (divide-asks c.requires.0 c.find_lead-found.ensures c.compare-t.ensures c.in-Some.is c.if-t-limit.false c.in-Some-first_fit.ensures.0 c.in-Some-first_fit.ensures.1, let z = c.requires.1 in record { work-words = z.work-words; work-coefs = c.find_lead-found.auto.wc ∙ z.work-coefs; words_long = z.words_long; coefs-long = c.find_lead-found.auto.sc ∙ z.coefs-long })

pub returns-in-Some-first_fit : goal.returns-in-Some-first_fit
returns-in-Some-first_fit c = divided-step c.requires.0 c.find_lead-found.ensures c.compare-t.ensures c.in-Some.is c.if-t-limit.false c.in-Some-first_fit.ensures.0 c.in-Some-first_fit.ensures.1 c.divide.ensures

pub keep-requires : goal.keep-requires
keep-requires c = keep-asks c.requires.0 c.find_lead-found.ensures c.compare-t.ensures c.in-Some.is c.if-t-limit.false c.in_default-first_fit.ensures

pub returns-in_default : goal.returns-in_default
returns-in_default c = zero-step c.requires.0 c.find_lead-found.ensures c.compare-t.ensures c.in_default.is c.close.ensures

pub returns-then-t-limit : goal.returns-then-t-limit
returns-then-t-limit c = limit-step c.requires.0 c.find_lead-found.ensures c.compare-t.ensures c.in-Some.is c.if-t-limit.true c.halt.ensures

pub returns : goal.returns
returns c = kept_step c.requires.0 c.find_lead-found.ensures c.compare-t.ensures c.in-Some.is c.if-t-limit.false c.in_default-first_fit.ensures (omega arith) c.keep.ensures
