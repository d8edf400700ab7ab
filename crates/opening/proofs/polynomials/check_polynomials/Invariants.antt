-- `opening::polynomials::check_polynomials` meets its contract: after k turns no polynomial below k is refused.
use Rattle.opening.proofs.PolynomialLaws.{Checked}
use Rattle.opening.proofs.polynomials.check_polynomials.Given as goal

abbrev pub invariant-loop-k : goal.invariant-loop-k
invariant-loop-k l = Checked l.t l.ps.words.now l.ps.coefs.now l.ps.starts.now l.k
