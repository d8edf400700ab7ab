-- `blocks::write::write_blocks` meets its contract.
use Rattle.std.proofs.Common.{arith, refl, sym, ap, ◌∙◌, length}
use lib.Seq.{sets}
use Rattle.polynomial.specs.Settings.{setting_of}
use Rattle.polynomial.specs.Terms.{terms}
use Rattle.polynomial.specs.declared.setting.Setting.{Setting}
use Rattle.block.specs.Block.{first_blocks}
use Rattle.std.proofs.lemmas.Result.{err_from_is_err_and}
use Rattle.refusal.proofs.TableLaws.{number-some}
use Rattle.blocks.proofs.WriteLaws.{write-passes, write-refused, write_done}
use Rattle.blocks.proofs.write.write_blocks.Goals as goal

pub returns-in_err-write_refusal : goal.returns-in_err-write_refusal
returns-in_err-write_refusal c =
    let a = c.args in
    let p = err_from_is_err_and c.from_residual.result c.from_residual.ensures.1 in
    rw (p.1, p.2, ← c.in_err-write_refusal.ensures) (write-refused _ (setting_of a.p a.order a.n a.weights.now) (terms a.words.now a.coefs.now) a.s.now (number-some _))

pub setting-requires : goal.setting-requires
setting-requires c = let a = c.args in let w = write-passes (setting_of a.p a.order a.n a.weights.now) a.words.now a.coefs.now (length a.s.now) (sym c.in_ok-write_refusal.ensures) in w.six

pub invariant_of-put_blocks : goal.invariant_of-put_blocks
invariant_of-put_blocks c = let a = c.args in record { same_long = sym (write-passes (setting_of a.p a.order a.n a.weights.now) a.words.now a.coefs.now (length a.s.now) (sym c.in_ok-write_refusal.ensures)).lent }

pub put_blocks-requires : goal.put_blocks-requires
put_blocks-requires c = let a = c.args in let w = write-passes (setting_of a.p a.order a.n a.weights.now) a.words.now a.coefs.now (length a.s.now) (sym c.in_ok-write_refusal.ensures) in (w.few, c.block_count-count.ensures, omega (arith, w.enough, c.block_count-count.ensures))

pub returns : goal.returns
returns c = let a = c.args in let n = c.block_count-count in rw (← c.in_ok-write_refusal.ensures) (write_done 0 (setting_of a.p a.order a.n a.weights.now) a.words.now a.coefs.now a.s.now _ _ c.in_ok-write_refusal.ensures refl n.ensures (c.put_blocks.ensures ∙ ap (λ (t : Setting). sets a.s.now 0 (first_blocks n.result t (terms a.words.now a.coefs.now) n.result)) c.setting.ensures))
