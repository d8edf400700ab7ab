-- `block::block::put_block` meets its contract.
use Rattle.std.proofs.Common.{sym, arith}
use Rattle.block.proofs.ByteLaws.{put_as}
use Rattle.block.proofs.BlockLaws.{block-put}
use Rattle.polynomial.proofs.TermLists.{length-terms}
use Rattle.block.proofs.block.put_block.Goals as goal

pub returns : goal.returns
returns c = let e = length-terms c.args.f.words.now c.args.f.coefs.now c.args.f.same_long in block-put _ _ _ _ _ _ _ _ _ _ _ _ (omega (arith, e, c.requires.0)) (sym e) c.requires.1 c.put.ensures c.put_places.ensures c.clear.ensures c.check_of-check.ensures (put_as _ _ _ _ _ _ c.put_number.ensures c.from.ensures)
