-- `monomial::exponents::word_of` meets its contract: after i turns it has the word of the first i exponents.
use Rattle.monomial.specs.Layout.{fields}
use Rattle.monomial.proofs.CodeLaws.{Begun}
use Rattle.monomial.proofs.exponents.word_of.Given as goal

abbrev pub invariant-loop-i : goal.invariant-loop-i
invariant-loop-i l = Begun l.order (fields l.order l.weights) l.exps l.word l.i
