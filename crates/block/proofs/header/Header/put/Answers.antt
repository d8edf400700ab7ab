-- `block::header::Header::put` meets its contract.
use Rattle.block.proofs.ByteLaws.{put_as}
use Rattle.block.proofs.BlockLaws.{header-put}
use Rattle.block.proofs.header.Header.put.Goals as goal

pub returns : goal.returns
returns c =
    header-put _ _ _ _ _ _ _ _ _ _ (put_as _ _ _ _ _ _ c.put_number.ensures c.from.ensures) (put_as _ _ _ _ _ _ c.put_number-2.ensures c.from-2.ensures) (put_as _ _ _ _ _ _ c.put_number-3.ensures c.from-3.ensures) c.put_setting.ensures
