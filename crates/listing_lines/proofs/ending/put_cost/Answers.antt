use Rattle.listing_lines.proofs.PutLaws.{put_both, put_same}
use Rattle.listing_lines.specs.Listing.{cost_text}
use Rattle.text.specs.Numbers.{decimal}
use mathlib.Core.Path.{ap}
use Rattle.listing_lines.proofs.ending.put_cost.Goals as goal

pub returns : goal.returns
unfolding cost_text
returns c = put_both c.put-a.ensures (put_both c.put_decimal-b.ensures (put_both c.put-c.ensures (put_both (put_same (ap decimal c.cost_bound.ensures) c.put_decimal-d.ensures) c.put_byte.ensures)))
