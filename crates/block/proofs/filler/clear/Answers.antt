-- `block::filler::clear` meets its contract.
use Rattle.block.proofs.BlockLaws.{cleared}
use Rattle.block.proofs.filler.clear.Goals as goal

pub returns : goal.returns
returns c = cleared _ _ _ _ c.requires (c.fill.ensures.after (λ y e. e))
