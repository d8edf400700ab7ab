-- `blocks::read::read_refusal` meets its contract.
use Rattle.std.proofs.Common.{ℕ, sym, ap, ◌∙◌}
use Rattle.std.proofs.lemmas.Result.{err_from_is_err_and}
use Rattle.refusal.proofs.TableLaws.{number-some}
use Rattle.polynomial.specs.Opening.{first}
use Rattle.opening.proofs.Tests.{first_some}
use Rattle.block_form.proofs.FormLaws.{form-passes, form-formed}
use Rattle.blocks.specs.Reading.{content_refusal}
use Rattle.blocks.proofs.read.read_refusal.Goals as goal

pub returns-in_err-form_refusal : goal.returns-in_err-form_refusal
returns-in_err-form_refusal c =
    let p = err_from_is_err_and c.from_residual.result c.from_residual.ensures.1 in
    rw (p.1, p.2, ← c.in_err-form_refusal.ensures) (first_some _ _ (number-some _))

pub content_refusal-requires : goal.content_refusal-requires
content_refusal-requires c = let a = c.args in form-formed a.s.now a.words_room a.coefs_room (form-passes a.s.now a.words_room a.coefs_room (sym c.in_ok-form_refusal.ensures))

pub returns : goal.returns
returns c = let a = c.args in c.content_refusal.ensures ∙ ap (λ (r : ℕ). first r (content_refusal a.s.now a.words_room)) c.in_ok-form_refusal.ensures
