-- `multiple::multiple::highest` meets its contract: after i turns it has the highest exponents of the first i words.
use Rattle.multiple.proofs.HighestLaws.{Highest}
use Rattle.multiple.proofs.multiple.highest.Given as goal

abbrev pub invariant-loop-w : goal.invariant-loop-w
invariant-loop-w l = Highest l.words l.high l.w-index
