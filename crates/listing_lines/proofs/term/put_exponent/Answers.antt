use Rattle.listing_lines.proofs.PlaceLaws.{put-dotted}
use Rattle.listing_lines.proofs.PutLaws.{put_same}
use Rattle.text.specs.Numbers.{decimal}
use mathlib.Core.Path.{ap, ◌∙◌}
use Rattle.listing_lines.proofs.term.put_exponent.Goals as goal

pub returns : goal.returns
returns c = put-dotted _ _ c.if-i-eq0.false c.put_byte-next.ensures (put_same (ap decimal (c.from-2.ensures ∙ c.exponent-e.ensures)) c.put_decimal-2.ensures)
