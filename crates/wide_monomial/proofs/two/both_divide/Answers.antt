-- `wide_monomial::two::both_divide` meets its contract, word by word.
use mathlib.Core.Path.{◌∙◌}
use native.Mathlib.Omega.{arith}
use Rattle.wide_monomial.proofs.CodeLaws.{first-packed, second-packed, first-fails, second-decides}
use Rattle.wide_monomial.proofs.two.both_divide.Goals as goal

pub divides-requires : goal.divides-requires
divides-requires c = let a = c.args in (first-packed a.y.first a.y.second (omega arith) (omega arith) c.requires.0, first-packed a.x.first a.x.second (omega arith) (omega arith) c.requires.1)

pub divides-requires-then-divides : goal.divides-requires-then-divides
divides-requires-then-divides c = let a = c.args in (second-packed a.y.first a.y.second (omega arith) (omega arith) c.requires.0, second-packed a.x.first a.x.second (omega arith) (omega arith) c.requires.1)

pub returns-then-divides : goal.returns-then-divides
returns-then-divides c = let a = c.args in second-decides a.y.first a.y.second a.x.first a.x.second (omega arith) (omega arith) (omega arith) (omega arith) _ _ c.divides.ensures c.if-divides.true c.divides-then-divides.ensures

pub returns-else-divides : goal.returns-else-divides
returns-else-divides c = let a = c.args in c.if-divides.false ∙ first-fails a.y.first a.y.second a.x.first a.x.second (omega arith) (omega arith) (omega arith) (omega arith) _ c.divides.ensures c.if-divides.false
