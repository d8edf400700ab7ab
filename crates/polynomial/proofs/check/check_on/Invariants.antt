-- `polynomial::check::check_on` meets its contract: after i turns no term of the first i is bad, and the numbers are at hand.
use Rattle.monomial.specs.Layout.{fields}
use Rattle.monomial.specs.Words.{compare_words}
use Rattle.polynomial.specs.Terms.{terms}
use Rattle.polynomial.specs.Opening.{term_refusal}
use Rattle.polynomial.proofs.CheckingLaws.{good, Looked}
use Rattle.polynomial.proofs.check.check_on.Given as goal

abbrev pub invariant-loop-i : goal.invariant-loop-i
invariant-loop-i l = Looked (term_refusal l.order l.t.n (fields l.order l.layout.weights) l.t.p) (compare_words l.order) (good l.initial.late l.initial.seen l.initial.last) (terms l.f.words.now l.f.coefs.now) l.i l.late l.seen l.last
