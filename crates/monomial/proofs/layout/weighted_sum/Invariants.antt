-- `monomial::layout::weighted_sum` meets its contract: after i turns it has the sum of the first i products.
use Rattle.monomial.proofs.CodeLaws.{Summing}
use Rattle.monomial.proofs.layout.weighted_sum.Given as goal

abbrev pub invariant-loop-i : goal.invariant-loop-i
invariant-loop-i l = Summing l.weights l.w l.sum l.i
