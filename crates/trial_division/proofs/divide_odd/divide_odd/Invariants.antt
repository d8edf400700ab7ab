-- `divide_odd` meets its contract: no number below d divides p but 1 and p, and once d * d is above p no other number does.
use Prim.Native.Nat.{◌-◌}
use Rattle.trial_division.proofs.TableLaws.{AllOdd}
use Rattle.trial_division.proofs.divide_odd.divide_odd.Given as goal

abbrev pub invariant-loop-p : goal.invariant-loop-p
invariant-loop-p l = AllOdd l.p l.d

abbrev pub decreases-loop-p : goal.decreases-loop-p
decreases-loop-p l = 65537 - l.d
