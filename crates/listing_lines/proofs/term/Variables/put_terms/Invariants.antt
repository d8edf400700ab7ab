-- `listing_lines::term::Variables::put_terms` meets its contract, term by term.
use Rattle.listing_lines.proofs.AnswerLaws.{Putting}
use Rattle.listing_lines.proofs.term.Variables.put_terms.Given as goal

abbrev pub invariant-loop-read : goal.invariant-loop-read
invariant-loop-read l = Putting l.self.order l.self.n l.f.words.now l.f.coefs.now l.at l.initial.out l.out l.read l.to
