-- `opening::run::run_opening` meets its contract, check by check.
use mathlib.Core.Bool.{not}
use mathlib.Core.Path.{◌≡◌, sym, ap, ◌∙◌, subst}
use Rattle.std.proofs.Common.{rules}
use Rattle.refusal.specs.Table.{refusal_in, number_of}
use Rattle.refusal.proofs.TableLaws.{number-some}
use Rattle.polynomial.specs.declared.setting.Setting.{Setting}
use Rattle.polynomial.specs.Settings.{Testable}
use Rattle.opening.specs.Run.{polynomials_refusal, run_refusal}
use Rattle.opening.proofs.Tests.{yes, no}
use Rattle.opening.proofs.SettingLaws.{setting-testable}
use Rattle.opening.proofs.PolynomialLaws.{some-starts}
use Rattle.opening.proofs.ShapeLaws.{shape-passes}
use Rattle.opening.proofs.RunLaws.{stop-setting}
use Rattle.opening.proofs.run.run_opening.Goals as goal

pub returns-in_err-check : goal.returns-in_err-check
returns-in_err-check c =
    let e : refusal_in c.from_residual.result ≡ number_of c.in_err-check.field-0.0 = search rules in
    e ∙ stop-setting _ _ _ _ _ _ _ _ _ _ _ _ c.in_err-check.ensures (number-some _)

pub returns-then-not-shape_good : goal.returns-then-not-shape_good
unfolding run_refusal
returns-then-not-shape_good c = simp (sym c.in_ok-check.ensures, no c.shape_good.ensures (ap not c.if-not-shape_good.true))

pub count-requires : goal.count-requires
count-requires c = let s = shape-passes (yes c.shape_good.ensures (ap not c.if-not-shape_good.false)) in some-starts _ _ s.starts

pub returns-then-not-operations_good : goal.returns-then-not-operations_good
unfolding run_refusal
returns-then-not-operations_good c = simp (sym c.in_ok-check.ensures, yes c.shape_good.ensures (ap not c.if-not-shape_good.false), sym c.count.ensures, no c.operations_good.ensures (ap not c.if-not-operations_good.true))

pub setting-requires : goal.setting-requires
setting-requires c = (shape-passes (yes c.shape_good.ensures (ap not c.if-not-shape_good.false))).weights-six

pub check_polynomials-requires : goal.check_polynomials-requires
check_polynomials-requires c =
    let s = shape-passes (yes c.shape_good.ensures (ap not c.if-not-shape_good.false)) in
    (subst Testable (sym c.setting.ensures) (setting-testable _ (sym c.in_ok-check.ensures) s.weights-six), s.lent, s.starts)

pub returns : goal.returns
unfolding run_refusal
returns c =
    let a = c.args in
    simp (sym c.in_ok-check.ensures, yes c.shape_good.ensures (ap not c.if-not-shape_good.false), sym c.count.ensures, yes c.operations_good.ensures (ap not c.if-not-operations_good.false), c.check_polynomials.ensures ∙ ap (λ (t : Setting). polynomials_refusal t a.ps.words.now a.ps.coefs.now a.ps.starts.now) c.setting.ensures)
