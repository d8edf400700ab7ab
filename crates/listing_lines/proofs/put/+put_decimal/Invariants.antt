-- `listing_lines::put::put_decimal` ends: v falls.
use Rattle.listing_lines.proofs.put.+put_decimal.Given as goal

abbrev pub decreases-put_decimal : goal.decreases-put_decimal
decreases-put_decimal l = l.v
