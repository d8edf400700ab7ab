-- `block::places::put_places` meets its contract.
use Rattle.std.proofs.Common.{arith}
use Rattle.polynomial.proofs.TermLists.{length-terms}
use Rattle.block.proofs.ByteLaws.{put_as}
use Rattle.block.proofs.BlockLaws.{placed-none, placed-more, placed-all}
use Rattle.block.proofs.places.put_places.Goals as goal

pub loop-i-init : goal.loop-i-init
loop-i-init c = placed-none _ _ _

pub loop-i-preserved : goal.loop-i-preserved
loop-i-preserved c = let a = c.args in placed-more a.f.words.now a.f.coefs.now a.f.same_long a.s.now a.at _ c.loop-i.i c.loop-i.invariant c.loop-i-test.true _ _ c.put_number.ensures (put_as _ _ _ _ _ _ c.put_number-in-loop-i.ensures c.from.ensures)

pub shape_of-s : goal.shape_of-s
shape_of-s c = c.loop-i.invariant.long

pub returns : goal.returns
returns c = let a = c.args in placed-all _ _ _ _ _ c.loop-i.invariant (omega (arith, length-terms a.f.words.now a.f.coefs.now a.f.same_long))
