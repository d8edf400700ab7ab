-- `opening::reduction::reduction_opening` meets its contract, check by check.
use mathlib.Core.Bool.{not}
use mathlib.Core.Path.{◌≡◌, refl, sym, ap, ◌∙◌, subst}
use Rattle.std.proofs.Common.{rules}
use Rattle.refusal.specs.Table.{refusal_in, number_of}
use Rattle.refusal.proofs.TableLaws.{number-some}
use Rattle.polynomial.specs.declared.setting.Setting.{Setting}
use Rattle.polynomial.specs.Settings.{Testable}
use Rattle.opening.specs.Run.{polynomials_refusal}
use Rattle.opening.specs.Reduction.{reduction_refusal}
use Rattle.opening.proofs.Tests.{yes, no}
use Rattle.opening.proofs.SettingLaws.{setting-testable}
use Rattle.opening.proofs.StartsJudged.{good-starts}
use Rattle.opening.proofs.ReductionLaws.{reduction-shape-passes, reduction-setting, reduction-later, reduction-last}
use Rattle.opening.proofs.reduction.reduction_opening.Goals as goal

pub returns-in_err-check : goal.returns-in_err-check
returns-in_err-check c =
    let e : refusal_in c.from_residual.result ≡ number_of c.in_err-check.field-0.0 = search rules in
    e ∙ reduction-setting _ _ _ _ _ _ _ _ _ _ _ _ c.in_err-check.ensures (number-some _)

pub returns-then-not-reduction_shape : goal.returns-then-not-reduction_shape
unfolding reduction_refusal
returns-then-not-reduction_shape c = simp (sym c.in_ok-check.ensures, no c.reduction_shape.ensures (ap not c.if-not-reduction_shape.true))

pub setting-requires : goal.setting-requires
setting-requires c = (reduction-shape-passes (yes c.reduction_shape.ensures (ap not c.if-not-reduction_shape.false))).lent.weights-six

pub check_polynomials-requires : goal.check_polynomials-requires
check_polynomials-requires c =
    let s = reduction-shape-passes (yes c.reduction_shape.ensures (ap not c.if-not-reduction_shape.false)) in
    (subst Testable (sym c.setting.ensures) (setting-testable _ (sym c.in_ok-check.ensures) s.lent.weights-six), s.lent.lent, good-starts _ _ s.starts)

pub returns-in_err-check_polynomials : goal.returns-in_err-check_polynomials
returns-in_err-check_polynomials c =
    let a = c.args in
    let e : refusal_in c.from_residual-in_err-check_polynomials.result ≡ number_of c.in_err-check_polynomials.field-0.0 = search rules in
    e ∙ reduction-later _ _ _ _ _ _ _ _ _ _ _ (sym c.in_ok-check.ensures) (yes c.reduction_shape.ensures (ap not c.if-not-reduction_shape.false)) (c.in_err-check_polynomials.ensures ∙ ap (λ (t : Setting). polynomials_refusal t a.ps.words.now a.ps.coefs.now a.ps.starts.now) c.setting.ensures) (number-some _)

pub returns-then-not-divisors_good : goal.returns-then-not-divisors_good
returns-then-not-divisors_good c =
    let a = c.args in
    reduction-last _ _ _ _ _ _ _ _ _ _ _ (sym c.in_ok-check.ensures) (yes c.reduction_shape.ensures (ap not c.if-not-reduction_shape.false)) (c.in_ok-check_polynomials.ensures ∙ ap (λ (t : Setting). polynomials_refusal t a.ps.words.now a.ps.coefs.now a.ps.starts.now) c.setting.ensures) refl (sym (no c.divisors_good.ensures (ap not c.if-not-divisors_good.true)))

pub returns : goal.returns
returns c =
    let a = c.args in
    reduction-last _ _ _ _ _ _ _ _ _ _ _ (sym c.in_ok-check.ensures) (yes c.reduction_shape.ensures (ap not c.if-not-reduction_shape.false)) (c.in_ok-check_polynomials.ensures ∙ ap (λ (t : Setting). polynomials_refusal t a.ps.words.now a.ps.coefs.now a.ps.starts.now) c.setting.ensures) refl (sym (yes c.divisors_good.ensures (ap not c.if-not-divisors_good.false)))
