-- `divide` meets its contract: no number below d divides p but 1 and p, and once d * d is above p no other number does.
use Prim.Native.Nat.{◌+◌, ◌*◌}
use Rattle.trial_division.proofs.TableLaws.{Dividing}
use Rattle.trial_division.proofs.divide.divide.Given as goal

abbrev pub invariant-loop-w : goal.invariant-loop-w
invariant-loop-w l = Dividing l.p l.from l.table l.d (16 * l.w-index)

abbrev pub invariant-loop-k : goal.invariant-loop-k
invariant-loop-k l = Dividing l.p l.from l.table l.d (16 * l.w-index + l.k)
