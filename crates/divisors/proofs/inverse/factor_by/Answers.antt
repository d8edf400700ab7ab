-- `divisors::inverse::factor_by` meets its contract: for a small p the estimate, corrected, is the quotient of 2 ^ 32 products by p, whose two digits are the quotient of the product and the share of its remainder.
use Rattle.divisors.proofs.InverseLaws.{correct-asks, quotient_fits, factor-is}
use Rattle.divisors.proofs.inverse.factor_by.Goals as goal

pub correct-share-requires : goal.correct-share-requires
correct-share-requires c = rw (c.from.ensures, c.from-2.ensures, c.from-3.ensures) (correct-asks c.requires c.if-p-gt-SMALL.false)

pub overflow_sub-result : goal.overflow_sub-result
overflow_sub-result c = rw (c.from.ensures, c.from-4.ensures) (quotient_fits c.requires c.if-p-gt-SMALL.false (rw (c.from.ensures, c.from-3.ensures) at c.correct-share.ensures))

pub returns : goal.returns
returns c = rw (c.from.ensures, c.from-4.ensures) (factor-is c.requires c.if-p-gt-SMALL.false (rw (c.from.ensures, c.from-3.ensures) at c.correct-share.ensures))
