-- `divide_small` meets its contract: its table keeps the rule, which is computed.
use mathlib.Core.Path.{refl}
use lib.Dec.{lit≤}
use Rattle.trial_division.specs.Tables.{composite, between, gap, reached, gaps_hold, digits_from}
use Rattle.trial_division.proofs.small.divide_small.Goals as goal

pub divide-requires : goal.divide-requires
unfolding composite between gap reached gaps_hold digits_from
divide-requires c = (record { three = lit≤ tt; odd = refl; end = lit≤ tt; holds = refl }, c.requires)

pub returns : goal.returns
unfolding reached digits_from
returns c = c.divide.ensures
