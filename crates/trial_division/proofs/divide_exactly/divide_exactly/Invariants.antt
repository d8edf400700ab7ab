-- `divide_exactly` meets its contract: as `divide` does, with the quotient by the inverse in place of the remainder.
use Rattle.trial_division.proofs.TableLaws.{Exact}
use Rattle.trial_division.proofs.divide_exactly.divide_exactly.Given as goal

abbrev pub invariant-loop-w : goal.invariant-loop-w
invariant-loop-w l = Exact l.p l.from l.table l.d l.w-index
