-- `listing_lines::put::put` meets its contract: what fits of the text is put as a part.
use Rattle.std.proofs.Common.{rules}
use Rattle.listing_lines.proofs.PutLaws.{put-part}
use Rattle.listing_lines.proofs.put.put.Goals as goal

pub returns : goal.returns
returns c = put-part c.args.text.now c.args.out.now c.args.at _ _ (search rules) (search rules) c.copy_from_slice.ensures.after
