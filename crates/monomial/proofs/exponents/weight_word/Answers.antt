-- `monomial::exponents::weight_word` meets its contract, order by order.
use Rattle.monomial.proofs.CodeLaws.{weights-down, weights-rev}
use Rattle.monomial.proofs.exponents.weight_word.Goals as goal

pub returns-in-Lex : goal.returns-in-Lex
returns-in-Lex c = weights-down _ c.requires _ _ c.in-Lex.is c.of_bytes.ensures

pub returns-in-DegRevLex : goal.returns-in-DegRevLex
returns-in-DegRevLex c = weights-rev _ c.requires _ _ c.in-DegRevLex.is c.of_bytes-in-DegRevLex.ensures
