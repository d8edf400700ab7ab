-- `text::number::with_digit` meets its contract, test by test. Assumes nothing.
use native.Mathlib.Omega.{arith}
use mathlib.Core.Path.{ap, sym, ◌∙◌}
use Rattle.text.proofs.NumberLaws.{after-zero, no_digit, too_large, digit-code, found-some, found-none, only-if, no-value}
use Rattle.text.specs.Numbers.{found}
use Rattle.text.proofs.number.with_digit.Goals as goal

pub returns-then-v-eq0 : goal.returns-then-v-eq0
returns-then-v-eq0 c = sym (ap found (after-zero _ _ c.if-v-eq0.true))

pub returns-in_err-last : goal.returns-in_err-last
returns-in_err-last c = c.from_residual.ensures ∙ sym (ap found (no_digit _ _ (no-value _ _ (found-none _ c.in_err-last.ensures))))

pub returns-in_err-checked_mul : goal.returns-in_err-checked_mul
returns-in_err-checked_mul c = c.from_residual-in_err-checked_mul.ensures ∙ sym (ap found (too_large _ _ (omega (arith, c.in_err-checked_mul.ensures))))

pub returns : goal.returns
returns c =
    let d = only-if _ _ _ (found-some _ _ c.in_ok-last.ensures) in
    digit-code _ _ _ _ c.if-v-eq0.false d.0 c.in_ok-checked_mul.ensures.1 (rw (← d.1) at c.checked_add.ensures)
