-- `buckets::sum::sum_areas` meets its contract.
use Rattle.buckets.proofs.SumLaws.{Sums}
use Rattle.buckets.proofs.sum.sum_areas.Given as goal

abbrev pub invariant-loop-i : goal.invariant-loop-i
invariant-loop-i l = Sums l.p l.b l.initial.ww l.initial.wc l.ww l.wc l.head l.len l.n l.i
