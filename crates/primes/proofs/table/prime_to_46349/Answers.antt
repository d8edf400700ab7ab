-- `prime_to_46349` meets its contract: its table keeps the rule, which is computed.
use mathlib.Core.Path.{refl}
use lib.Dec.{lit≤}
use Rattle.trial_division.specs.Tables.{composite, between, gap, reached, gaps_hold, gaps_of, inverses_hold}
use Rattle.primes.proofs.table.prime_to_46349.Goals as goal

pub divide_exactly-requires : goal.divide_exactly-requires
unfolding composite between gap reached gaps_hold gaps_of inverses_hold
divide_exactly-requires c =
    (record { large = lit≤ tt; gaps = record { three = lit≤ tt; odd = refl; end = lit≤ tt; holds = refl }; holds = refl }, c.requires)

pub returns : goal.returns
unfolding reached gaps_of
returns c = c.divide_exactly.ensures
