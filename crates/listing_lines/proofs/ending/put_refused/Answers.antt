use Rattle.listing_lines.proofs.PutLaws.{put_both}
use Rattle.listing_lines.specs.Listing.{refused_text}
use Rattle.listing_lines.proofs.ending.put_refused.Goals as goal

pub returns : goal.returns
unfolding refused_text
returns c = put_both c.put-a.ensures (put_both (rw c.from.ensures at c.put_decimal-b.ensures) (put_both c.put-c.ensures (put_both c.put_decimal-d.ensures c.put_byte.ensures)))
