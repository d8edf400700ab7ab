use mathlib.Core.Path.{sym, ap, ◌∙◌}
use Rattle.text.specs.Numbers.{found}
use Rattle.text.proofs.NumberLaws.{number-empty, number-no, number-starts, found-some, found-none, only-if, no-value, reads_on, reads_none, reads_all}
use Rattle.text.proofs.number.read_number.Goals as goal

pub returns-in_err-first : goal.returns-in_err-first
returns-in_err-first c = c.from_residual.ensures ∙ sym (ap found (number-empty _ c.in_err-first.ensures.cases))

pub returns-in_err-v : goal.returns-in_err-v
returns-in_err-v c = c.from_residual-in_err-v.ensures ∙ sym (ap found (number-no _ _ _ c.in_ok-first.ensures.cases.0 (no-value _ _ (found-none _ c.in_err-v.ensures))))

pub loop-b-init : goal.loop-b-init
loop-b-init c =
    let d = only-if _ _ _ (found-some _ _ c.in_ok-v.ensures) in
    rw (← d.1) (number-starts _ _ _ c.in_ok-first.ensures.cases.0 d.0)

pub loop-b-preserved : goal.loop-b-preserved
loop-b-preserved c = sym (reads_on c.in_ok-first.rest.now c.loop-b.b-index c.loop-b.v c.loop-b-test.true _ (found-some _ _ c.in_ok-v-2.ensures)) ∙ c.loop-b.invariant

pub returns-in_err-v-2 : goal.returns-in_err-v-2
returns-in_err-v-2 c = c.from_residual-in_err-v-2.ensures ∙ sym (ap found (sym c.loop-b.invariant ∙ reads_none c.in_ok-first.rest.now c.loop-b.b-index c.loop-b.v c.loop-b-test.true (found-none _ c.in_err-v-2.ensures)))

pub returns : goal.returns
returns c = ap found (sym (reads_all c.in_ok-first.rest.now c.loop-b.b-index c.loop-b.v c.loop-b-test.false) ∙ c.loop-b.invariant)
