-- `probe_check_on` is `check_on` for at most 6 variables, six weights up to 16, and as many coefficients as words.
use mathlib.Core.Bool.{not}
use mathlib.Core.Path.{◌∙◌, ap}
use Rattle.polynomial.specs.declared.setting.Setting.{Setting}
use Rattle.polynomial.specs.Terms.{terms}
use Rattle.polynomial.specs.Checking.{polynomial_on}
use Rattle.probe.specs.Lending.{numbers}
use Rattle.probe.proofs.Answering.{held, failed, yes, no}
use Rattle.probe.proofs.LendingLaws.{six-weights, checks}
use Rattle.probe.proofs.polynomials.probe_check_on.Goals as goal

pub returns-then-not-is_checkable : goal.returns-then-not-is_checkable
returns-then-not-is_checkable c = failed _ _ (no c.is_checkable.ensures (ap not c.if-not-is_checkable.true))

pub setting_of-requires : goal.setting_of-requires
setting_of-requires c = six-weights _ _ _ _ (yes c.is_checkable.ensures (ap not c.if-not-is_checkable.false))

pub invariant_of-check_on : goal.invariant_of-check_on
invariant_of-check_on c = record { same_long = (checks _ _ _ _ (yes c.is_checkable.ensures (ap not c.if-not-is_checkable.false)) _ _ _ c.setting_of.ensures).1 }

pub check_on-requires : goal.check_on-requires
check_on-requires c = (checks _ _ _ _ (yes c.is_checkable.ensures (ap not c.if-not-is_checkable.false)) _ _ _ c.setting_of.ensures).0

pub returns : goal.returns
returns c =
    let a = c.args in
    held _ (yes c.is_checkable.ensures (ap not c.if-not-is_checkable.false))
    (c.check_on.ensures ∙ ap (λ (t : Setting). polynomial_on t (numbers a.stop a.late a.seen a.last) (terms a.words.now a.coefs.now)) c.setting_of.ensures)
