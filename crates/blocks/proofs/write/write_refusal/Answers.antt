-- `blocks::write::write_refusal` meets its contract.
use Rattle.std.proofs.Common.{sym, ap, ◌∙◌, arith}
use Rattle.std.proofs.lemmas.Result.{err_from_is_err_and}
use Rattle.refusal.proofs.TableLaws.{number-some}
use Rattle.polynomial.specs.Settings.{setting_of}
use Rattle.polynomial.specs.Terms.{terms}
use Rattle.polynomial.specs.Opening.{polynomial_refusal}
use Rattle.polynomial.specs.declared.setting.Setting.{Setting}
use Rattle.opening.proofs.SettingLaws.{setting-testable}
use Rattle.blocks.proofs.WriteLaws.{stop-setting, stop-weights, stop-lengths, stop-terms, stop-many, stop-room, no_stop}
use Rattle.blocks.proofs.write.write_refusal.Goals as goal

pub returns-in_err-check : goal.returns-in_err-check
returns-in_err-check c =
    let a = c.args in
    let p = err_from_is_err_and c.from_residual.result c.from_residual.ensures.1 in
    rw (p.1, p.2) (stop-setting (setting_of a.given.p a.given.order a.given.n a.given.weights.now) a.words.now a.coefs.now a.room _ c.in_err-check.ensures (number-some _))

pub returns-then-given-ne-WEIGHTS : goal.returns-then-given-ne-WEIGHTS
returns-then-given-ne-WEIGHTS c = let a = c.args in stop-weights (setting_of a.given.p a.given.order a.given.n a.given.weights.now) a.words.now a.coefs.now a.room (sym c.in_ok-check.ensures) c.if-given-ne-WEIGHTS.true

pub returns-then-words-coefs : goal.returns-then-words-coefs
returns-then-words-coefs c = let a = c.args in stop-lengths (setting_of a.given.p a.given.order a.given.n a.given.weights.now) a.words.now a.coefs.now a.room (sym c.in_ok-check.ensures) c.if-given-ne-WEIGHTS.false c.if-words-coefs.true

pub setting-requires : goal.setting-requires
setting-requires c = c.if-given-ne-WEIGHTS.false

pub check-requires-2 : goal.check-requires-2
check-requires-2 c = let a = c.args in rw c.setting.ensures (setting-testable (setting_of a.given.p a.given.order a.given.n a.given.weights.now) (sym c.in_ok-check.ensures) c.if-given-ne-WEIGHTS.false)

pub returns-in_err-check-2 : goal.returns-in_err-check-2
returns-in_err-check-2 c =
    let a = c.args in
    let p = err_from_is_err_and c.from_residual-in_err-check-2.result c.from_residual-in_err-check-2.ensures.1 in
    rw (p.1, p.2) (stop-terms (setting_of a.given.p a.given.order a.given.n a.given.weights.now) a.words.now a.coefs.now a.room (sym c.in_ok-check.ensures) c.if-given-ne-WEIGHTS.false c.if-words-coefs.false _ (c.in_err-check-2.ensures ∙ (ap (λ (t : Setting). polynomial_refusal t (terms a.words.now a.coefs.now)) c.setting.ensures)) (number-some _))

pub returns-then-words-gt-MOST_TERMS : goal.returns-then-words-gt-MOST_TERMS
returns-then-words-gt-MOST_TERMS c = let a = c.args in stop-many (setting_of a.given.p a.given.order a.given.n a.given.weights.now) a.words.now a.coefs.now a.room (sym c.in_ok-check.ensures) c.if-given-ne-WEIGHTS.false c.if-words-coefs.false (sym (c.in_ok-check-2.ensures ∙ (ap (λ (t : Setting). polynomial_refusal t (terms a.words.now a.coefs.now)) c.setting.ensures))) c.if-words-gt-MOST_TERMS.true

pub returns-then-room-block_count : goal.returns-then-room-block_count
returns-then-room-block_count c = let a = c.args in stop-room (setting_of a.given.p a.given.order a.given.n a.given.weights.now) a.words.now a.coefs.now a.room (sym c.in_ok-check.ensures) c.if-given-ne-WEIGHTS.false c.if-words-coefs.false (sym (c.in_ok-check-2.ensures ∙ (ap (λ (t : Setting). polynomial_refusal t (terms a.words.now a.coefs.now)) c.setting.ensures))) c.if-words-gt-MOST_TERMS.false (omega (arith, c.block_count.ensures, c.if-room-block_count.true))

pub returns : goal.returns
returns c = let a = c.args in no_stop (setting_of a.given.p a.given.order a.given.n a.given.weights.now) a.words.now a.coefs.now a.room (sym c.in_ok-check.ensures) c.if-given-ne-WEIGHTS.false c.if-words-coefs.false (sym (c.in_ok-check-2.ensures ∙ (ap (λ (t : Setting). polynomial_refusal t (terms a.words.now a.coefs.now)) c.setting.ensures))) c.if-words-gt-MOST_TERMS.false (omega (arith, c.block_count.ensures, c.if-room-block_count.false))
