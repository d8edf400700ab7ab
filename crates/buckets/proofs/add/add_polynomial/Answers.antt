-- `buckets::add::add_polynomial` meets its contract.
use Rattle.buckets.proofs.WordLaws.{large-asks, large-done}
use Rattle.buckets.proofs.add.add_polynomial.Goals as goal

pub add_large-requires : goal.add_large-requires
add_large-requires c = let s = c.requires in large-asks s.0 s.1

pub returns-then-fw-gt-MOST_SMALL : goal.returns-then-fw-gt-MOST_SMALL
returns-then-fw-gt-MOST_SMALL c = let s = c.requires in let d = c.add_large.ensures in large-done s.0 s.1 d.1 c.if-fw-gt-MOST_SMALL.true d.0
