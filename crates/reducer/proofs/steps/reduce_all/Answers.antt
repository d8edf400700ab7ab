-- `reducer::steps::reduce_all` meets its contract.
use mathlib.Core.Path.{sym, ap, ◌∙◌}
use lib.ListN.{length}
use Rattle.divisors.proofs.KeptLaws.{none_kept}
use Rattle.reducer.proofs.FirstLaws.{leads-there}
use Rattle.reducer.proofs.ReduceLaws.{first-words, addend, beginning, turn-start, turn-asks, turn_on, turn-less, turn_end}
use Rattle.reducer.proofs.steps.reduce_all.Goals as goal

pub keep_leads-requires : goal.keep_leads-requires
keep_leads-requires c = leads-there c.requires.0.checked

pub part-f-requires : goal.part-f-requires
part-f-requires c = (first-words c.requires.0, c.requires.0.checked.long)

pub begin-s-requires : goal.begin-s-requires
begin-s-requires c = (addend c.requires.0 c.part-f.ensures.0 c.part-f.ensures.1, beginning c.requires.0 c.part-f.ensures.0 c.part-f.ensures.1 c.requires.1, c.requires.1.slices)

pub loop-ring-init : goal.loop-ring-init
loop-ring-init c = turn-start c.requires.0 c.part-f.ensures.0 c.part-f.ensures.1 c.requires.1 (none_kept _ _ _ _) (let q = c.requires.1.slices in record { work-words = c.begin-s.auto.ww ∙ q.work-words; work-coefs = c.begin-s.auto.wc ∙ q.work-coefs; words_long = c.begin-s.auto.bw ∙ q.words_long; coefs-long = c.begin-s.auto.bc ∙ q.coefs-long }) c.begin-s.ensures

pub step-s-requires : goal.step-s-requires
step-s-requires c = (turn-asks c.requires.0 c.loop-ring.invariant (sym c.goes_on.ensures ∙ c.loop-ring-test.true) c.keep_leads.ensures, c.loop-ring.invariant.slices)

pub loop-ring-smaller : goal.loop-ring-smaller
loop-ring-smaller c = turn-less c.requires.0 c.loop-ring.invariant (sym c.goes_on.ensures ∙ c.loop-ring-test.true) c.step-s.ensures

pub loop-ring-preserved : goal.loop-ring-preserved
loop-ring-preserved c = turn_on c.requires.0 c.loop-ring.invariant (sym c.goes_on.ensures ∙ c.loop-ring-test.true) c.step-s.ensures c.step-s.auto.ww c.step-s.auto.wc c.step-s.auto.bw c.step-s.auto.bc c.step-s.auto.ow c.step-s.auto.oc

pub shape_of-b : goal.shape_of-b
shape_of-b c = c.loop-ring.invariant.sound.stands.laid.eighteen ∙ sym (ap length c.requires.1.none)

pub shape_of-bw : goal.shape_of-bw
shape_of-bw c = c.loop-ring.invariant.slices.words_long ∙ sym c.requires.1.slices.words_long

pub shape_of-bc : goal.shape_of-bc
shape_of-bc c = c.loop-ring.invariant.slices.coefs-long ∙ sym c.requires.1.slices.coefs-long

pub shape_of-ww : goal.shape_of-ww
shape_of-ww c = c.loop-ring.invariant.slices.work-words ∙ sym c.requires.1.slices.work-words

pub shape_of-wc : goal.shape_of-wc
shape_of-wc c = c.loop-ring.invariant.slices.work-coefs ∙ sym c.requires.1.slices.work-coefs

pub shape_of-ow : goal.shape_of-ow
shape_of-ow c = c.loop-ring.invariant.out-long

pub shape_of-oc : goal.shape_of-oc
shape_of-oc c = c.loop-ring.invariant.coefs-out-long

pub returns : goal.returns
returns c = turn_end c.requires.0 c.loop-ring.invariant (sym c.goes_on.ensures ∙ c.loop-ring-test.false)
