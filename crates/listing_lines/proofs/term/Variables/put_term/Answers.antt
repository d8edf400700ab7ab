use Rattle.listing_lines.proofs.PutLaws.{put_both}
use Rattle.listing_lines.proofs.term.Variables.put_term.Goals as goal

pub returns : goal.returns
returns c = put_both c.put_byte-from.ensures (put_both (rw c.from.ensures at c.put_decimal-colon.ensures) (put_both c.put_byte-exps.ensures c.put_exponents.ensures))
