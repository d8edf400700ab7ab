-- `multiple::multiple::over` meets its contract: the sum is taken byte by byte.
use Rattle.multiple.proofs.HighestLaws.{over-sum}
use Rattle.multiple.proofs.multiple.over.Goals as goal

pub returns : goal.returns
returns c = over-sum _ _ c.requires.0 c.requires.1
