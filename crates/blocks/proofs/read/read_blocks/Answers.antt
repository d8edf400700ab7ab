-- `blocks::read::read_blocks` meets its contract.
use Rattle.std.proofs.Common.{arith, refl, sym, ap, ◌∙◌, length, ℕ}
use Rattle.block_form.proofs.FormLaws.{form-formed}
use Rattle.block.specs.Block.{setting_in}
use Rattle.blocks.specs.Reading.{terms_in, first_terms}
use lib.Seq.{sets}
use Rattle.polynomial.specs.Terms.{words, coefs}
use Rattle.std.proofs.lemmas.Result.{err_from_is_err_and}
use Rattle.refusal.proofs.TableLaws.{number-some}
use Rattle.blocks.proofs.ReadLaws.{read-passes, read-refused, read_done}
use Rattle.blocks.proofs.read.read_blocks.Goals as goal

pub returns-in_err-read_refusal : goal.returns-in_err-read_refusal
returns-in_err-read_refusal c =
    let a = c.args in
    let p = err_from_is_err_and c.from_residual.result c.from_residual.ensures.1 in
    rw (p.1, p.2, ← c.in_err-read_refusal.ensures) (read-refused _ (setting_in a.s.now) (terms_in a.s.now) a.words.now a.coefs.now (number-some _))

pub total_in-total-requires : goal.total_in-total-requires
total_in-total-requires c = let a = c.args in let q = read-passes a.s.now (length a.words.now) (length a.coefs.now) (sym c.in_ok-read_refusal.ensures) in let f = form-formed a.s.now (length a.words.now) (length a.coefs.now) q.form in (f.some, f.most)

pub get_terms-requires : goal.get_terms-requires
get_terms-requires c = let a = c.args in let q = read-passes a.s.now (length a.words.now) (length a.coefs.now) (sym c.in_ok-read_refusal.ensures) in let f = form-formed a.s.now (length a.words.now) (length a.coefs.now) q.form in (rw c.total_in-total.ensures f.lying, omega (arith, c.total_in-total.ensures, q.content.room), q.form.lent)

pub get_setting-t-requires : goal.get_setting-t-requires
get_setting-t-requires c = let a = c.args in let q = read-passes a.s.now (length a.words.now) (length a.coefs.now) (sym c.in_ok-read_refusal.ensures) in let f = form-formed a.s.now (length a.words.now) (length a.coefs.now) q.form in omega (arith, f.some)

pub returns : goal.returns
returns c = let a = c.args in let e = c.total_in-total.ensures in let g = c.get_terms.ensures in rw (← c.in_ok-read_refusal.ensures) (read_done 0 a.s.now a.words.now a.coefs.now _ _ _ _ _ c.in_ok-read_refusal.ensures refl c.get_setting-t.ensures (c.from.ensures ∙ c.weight_number.ensures) e (g.0 ∙ ap (λ (n : ℕ). sets a.words.now 0 (words (first_terms a.s.now n))) e) (g.1 ∙ ap (λ (n : ℕ). sets a.coefs.now 0 (coefs (first_terms a.s.now n))) e))
