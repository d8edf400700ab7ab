-- `block::header::put_setting` meets its contract.
use Rattle.std.proofs.Common.{◌∙◌}
use Rattle.block.proofs.ByteLaws.{put_as}
use Rattle.block.proofs.BlockLaws.{setting-put}
use Rattle.block.proofs.header.put_setting.Goals as goal

pub returns : goal.returns
returns c =
    setting-put _ _ _ _ _ _ _ _ _ _ (c.from-5.ensures ∙ c.weight_number.ensures) (put_as _ _ _ _ _ _ c.put_number.ensures c.from.ensures) (put_as _ _ _ _ _ _ c.put_number-2.ensures c.from-2.ensures) (put_as _ _ _ _ _ _ c.put_number-3.ensures c.from-3.ensures) (put_as _ _ _ _ _ _ c.put_number-4.ensures c.from-4.ensures) c.put_number-5.ensures c.clear.ensures
