-- `wide_monomial::two::over` meets its contract: the top bits of the sums.
use native.Mathlib.Omega.{arith}
use Rattle.wide_monomial.proofs.CodeLaws.{over-sums}
use Rattle.wide_monomial.proofs.two.over.Goals as goal

pub returns : goal.returns
returns c = let a = c.args in over-sums a.x.first a.x.second a.y.first a.y.second (omega arith) (omega arith) (omega arith) (omega arith) c.requires.0 c.requires.1
