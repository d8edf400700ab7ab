-- `probe_check` is `check` for at most 6 variables, six weights up to 16, and as many coefficients as words.
use mathlib.Core.Bool.{not}
use mathlib.Core.Path.{sym, ◌∙◌, ap}
use Rattle.refusal.specs.Table.{refusal_in}
use Rattle.polynomial.specs.declared.setting.Setting.{Setting}
use Rattle.polynomial.specs.Terms.{terms}
use Rattle.polynomial.specs.Opening.{polynomial_refusal}
use Rattle.probe.proofs.Answering.{held, failed, yes, no}
use Rattle.probe.proofs.LendingLaws.{six-weights, checks}
use Rattle.probe.proofs.polynomials.probe_check.Goals as goal

pub returns-then-not-is_checkable : goal.returns-then-not-is_checkable
returns-then-not-is_checkable c = failed _ _ (no c.is_checkable.ensures (ap not c.if-not-is_checkable.true))

pub setting_of-requires : goal.setting_of-requires
setting_of-requires c = six-weights _ _ _ _ (yes c.is_checkable.ensures (ap not c.if-not-is_checkable.false))

pub invariant_of-check : goal.invariant_of-check
invariant_of-check c = record { same_long = (checks _ _ _ _ (yes c.is_checkable.ensures (ap not c.if-not-is_checkable.false)) _ _ _ c.setting_of.ensures).1 }

pub check-requires : goal.check-requires
check-requires c = (checks _ _ _ _ (yes c.is_checkable.ensures (ap not c.if-not-is_checkable.false)) _ _ _ c.setting_of.ensures).0

pub returns-in-Ok : goal.returns-in-Ok
returns-in-Ok c =
    let a = c.args in
    held _ (yes c.is_checkable.ensures (ap not c.if-not-is_checkable.false))
    (sym (ap refusal_in c.in-Ok.is) ∙ (c.check.ensures ∙ ap (λ (t : Setting). polynomial_refusal t (terms a.words.now a.coefs.now)) c.setting_of.ensures))

pub returns-in-Err : goal.returns-in-Err
returns-in-Err c =
    let a = c.args in
    held _ (yes c.is_checkable.ensures (ap not c.if-not-is_checkable.false))
    (c.number.ensures ∙ (sym (ap refusal_in c.in-Err.is) ∙ (c.check.ensures ∙ ap (λ (t : Setting). polynomial_refusal t (terms a.words.now a.coefs.now)) c.setting_of.ensures)))
