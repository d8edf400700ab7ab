-- `merge_areas::rest::above` meets its contract: the keys from k on are below the last one.
use Rattle.place.specs.Numbers.{key_numbers}
use Rattle.merge_areas.proofs.Resting.{Scanned}
use Rattle.merge_areas.proofs.rest.above.Given as goal

abbrev pub invariant-loop-k : goal.invariant-loop-k
invariant-loop-k g l = Scanned (key_numbers g.K.Key.width l.ww) l.from l.end (g.K.Key.number l.last) l.k
