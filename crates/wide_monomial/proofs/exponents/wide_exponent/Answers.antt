-- `wide_monomial::exponents::wide_exponent` meets its contract, word by word.
use native.Mathlib.Omega.{arith}
use Rattle.wide_monomial.proofs.ExponentLaws.{in-first, in-second}
use Rattle.wide_monomial.proofs.exponents.wide_exponent.Goals as goal

pub returns-then-i-lt6 : goal.returns-then-i-lt6
returns-then-i-lt6 c = let a = c.args in in-first a.order a.w.first a.w.second a.i (omega arith) (omega arith) _ c.if-i-lt6.true c.exponent.ensures

pub returns : goal.returns
returns c = let a = c.args in in-second a.order a.w.first a.w.second a.i (omega arith) (omega arith) _ c.if-i-lt6.false c.exponent-2.ensures
