-- `blocks::terms::check_places` meets its contract: after j turns no term of the first j is bad, and the numbers are at hand.
use Rattle.monomial.specs.Layout.{fields}
use Rattle.monomial.specs.Words.{compare_words}
use Rattle.polynomial.specs.Opening.{term_refusal}
use Rattle.polynomial.proofs.CheckingLaws.{good, Looked}
use Rattle.blocks.specs.Reading.{terms_from}
use Rattle.blocks.proofs.terms.check_places.Given as goal

abbrev pub invariant-loop-j : goal.invariant-loop-j
invariant-loop-j l = Looked (term_refusal l.order l.t.n (fields l.order l.layout.weights) l.t.p) (compare_words l.order) (good l.initial.late l.initial.seen l.initial.last) (terms_from l.s l.at l.n) l.j l.late l.seen l.last
