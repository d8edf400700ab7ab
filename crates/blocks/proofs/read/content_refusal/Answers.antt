-- `blocks::read::content_refusal` meets its contract.
use Rattle.std.proofs.Common.{refl, sym, ap, ◌∙◌, length}
use Rattle.std.proofs.lemmas.Result.{err_from_is_err_and}
use Rattle.refusal.proofs.TableLaws.{number-some}
use Rattle.polynomial.specs.declared.setting.Setting.{Setting}
use Rattle.opening.proofs.SettingLaws.{setting-testable}
use Rattle.block.specs.Block.{number_at}
use Rattle.block.proofs.WeightLaws.{length-weights}
use Rattle.blocks.proofs.ReadLaws.{stop-setting, stop-terms, stop-room, no_stop}
use Rattle.blocks.proofs.read.content_refusal.Goals as goal

pub returns-in_err-check : goal.returns-in_err-check
returns-in_err-check c =
    let a = c.args in
    let p = err_from_is_err_and c.from_residual.result c.from_residual.ensures.1 in
    rw (p.1, p.2) (stop-setting a.s.now a.words_room _ c.get_setting-t.ensures _ c.in_err-check.ensures (number-some _))

pub check_terms-requires : goal.check_terms-requires
check_terms-requires c = let a = c.args in (setting-testable _ (sym c.in_ok-check.ensures) (ap (λ (t : Setting). length t.weights) c.get_setting-t.ensures ∙ length-weights 6 (number_at 3 12 a.s.now)), rw c.total_in-total.ensures c.requires.lying)

pub returns-in_err-check_terms : goal.returns-in_err-check_terms
returns-in_err-check_terms c =
    let a = c.args in
    let p = err_from_is_err_and c.from_residual-in_err-check_terms.result c.from_residual-in_err-check_terms.ensures.1 in
    rw (p.1, p.2) (stop-terms a.s.now a.words_room _ c.get_setting-t.ensures (sym c.in_ok-check.ensures) _ c.total_in-total.ensures _ c.in_err-check_terms.ensures (number-some _))

pub returns-then-words_room-total : goal.returns-then-words_room-total
returns-then-words_room-total c = let a = c.args in stop-room a.s.now a.words_room _ c.get_setting-t.ensures (sym c.in_ok-check.ensures) _ c.total_in-total.ensures _ c.in_ok-check_terms.ensures refl c.if-words_room-total.true

pub returns : goal.returns
returns c = let a = c.args in no_stop a.s.now a.words_room _ c.get_setting-t.ensures (sym c.in_ok-check.ensures) _ c.total_in-total.ensures _ c.in_ok-check_terms.ensures refl c.if-words_room-total.false
