-- `listing_lines::put::put_decimal` meets its contract.
use Rattle.listing_lines.proofs.PutLaws.{put-digit, put-digits}
use Rattle.listing_lines.proofs.put.+put_decimal.Goals as goal

pub returns-then-v-lt10 : goal.returns-then-v-lt10
returns-then-v-lt10 t c = put-digit c.args.v c.if-v-lt10.true c.put_byte.ensures

pub returns : goal.returns
returns t c = put-digits c.args.v c.if-v-lt10.false c.put_decimal-next.ensures c.put_byte-2.ensures
