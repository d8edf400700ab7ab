-- `search::lead::find_lead` meets its contract.
use mathlib.Core.List.{◌++◌}
use Prim.Native.Nat.{compare}
use Rattle.geobucket.specs.Buckets.{held}
use Rattle.space.specs.Space.{buckets_in, Slices}
use Rattle.search.proofs.FindState.{Finds}
use Rattle.search.proofs.lead.find_lead.Given as goal

abbrev pub invariant-loop-i : goal.invariant-loop-i
invariant-loop-i l = Finds compare l.ring.p (buckets_in l.initial.b (l.ww ++ l.sw) (l.initial.wc ++ l.initial.sc)) (l.ww ++ l.sw) l.b l.n (l.wc ++ l.sc) × Slices l.ww l.wc l.sw l.sc

abbrev pub decreases-loop-i : goal.decreases-loop-i
decreases-loop-i l = held (buckets_in l.b (l.ww ++ l.sw) (l.wc ++ l.sc))
