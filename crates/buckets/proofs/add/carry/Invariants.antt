-- `buckets::add::carry` meets its contract.
use mathlib.Core.List.{◌++◌}
use mathlib.Core.List.{◌++◌}
use Prim.Native.Nat.{◌-◌, compare}
use lib.ListN.{length}
use Rattle.polynomial.specs.Terms as T
use Rattle.merge_common.specs.Lent.{part}
use Rattle.geobucket.specs.Buckets.{carry, carry_compared}
use Rattle.space.specs.Space.{capacity, list_from, bucket_at}
use Rattle.buckets.proofs.CarryState.{Carries}
use Rattle.buckets.proofs.add.carry.Given as goal

abbrev pub invariant-loop-l : goal.invariant-loop-l
invariant-loop-l l =
    let g = bucket_at l.initial.b (l.initial.ww ++ l.sw) (l.initial.wc ++ l.sc) in
    let f = T.terms (part l.first l.amount l.initial.ww) (part l.first l.amount l.initial.wc) in
    Carries l.p (list_from g 0 l.initial.l.bucket ++ carry compare l.p (capacity l.initial.l.bucket) f (list_from g l.initial.l.bucket (6 - l.initial.l.bucket)))
    (length (carry_compared compare l.p (capacity l.initial.l.bucket) f (list_from g l.initial.l.bucket (6 - l.initial.l.bucket)))) l.b l.l.bucket l.from l.len l.n l.ww l.wc l.sw l.sc

abbrev pub decreases-loop-l : goal.decreases-loop-l
decreases-loop-l l = 6 - l.l.bucket
