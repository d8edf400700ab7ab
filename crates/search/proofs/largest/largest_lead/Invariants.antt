-- `search::largest::largest_lead` meets its contract.
use mathlib.Core.List.{◌++◌}
use Rattle.search.proofs.LargestLaws.{Looks}
use Rattle.search.proofs.largest.largest_lead.Given as goal

abbrev pub invariant-loop-i : goal.invariant-loop-i
invariant-loop-i l = Looks l.b (l.ww ++ l.sw) l.t l.i
