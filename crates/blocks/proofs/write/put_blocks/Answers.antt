-- `blocks::write::put_blocks` meets its contract.
use Rattle.std.proofs.Common.{ℕ, arith, sym, ap, ◌∙◌}
use Rattle.block_form.specs.Form.{here_of}
use Rattle.polynomial.specs.Terms.{terms}
use Rattle.blocks.proofs.WriteLaws.{blocked-none, blocked-more, blocked-all, terms-part, part-long}
use Rattle.blocks.proofs.write.put_blocks.Goals as goal

pub loop-k-init : goal.loop-k-init
loop-k-init c = let a = c.args in blocked-none a.count a.t (terms a.f.words.now a.f.coefs.now) a.s.now

pub invariant_of-part : goal.invariant_of-part
invariant_of-part c = let a = c.args in record { same_long = part-long a.f.coefs.now c.loop-k.k _ (c.here_of.ensures ∙ ap (λ (n : ℕ). here_of n c.loop-k.k) (sym a.f.same_long)) ∙ sym (part-long a.f.words.now c.loop-k.k _ c.here_of.ensures) }

pub put_block-requires : goal.put_block-requires
put_block-requires c = let a = c.args in (omega (arith, part-long a.f.words.now c.loop-k.k _ c.here_of.ensures, c.here_of.ensures), omega (arith, c.loop-k.invariant.long, c.requires.2, c.loop-k-test.true))

pub loop-k-preserved : goal.loop-k-preserved
loop-k-preserved c = let a = c.args in blocked-more a.count a.t (terms a.f.words.now a.f.coefs.now) _ a.s.now c.loop-k.s _ c.loop-k.k c.loop-k.invariant c.loop-k-test.true (terms-part a.f.words.now a.f.coefs.now c.loop-k.k _ a.f.same_long c.here_of.ensures) c.put_block.ensures

pub shape_of-s : goal.shape_of-s
shape_of-s c = c.loop-k.invariant.long

pub returns : goal.returns
returns c = let a = c.args in blocked-all a.count a.t (terms a.f.words.now a.f.coefs.now) a.s.now c.loop-k.s c.loop-k.k c.loop-k.invariant c.loop-k-test.false
