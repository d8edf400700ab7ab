-- `listing_lines::term::Variables::put_answers` meets its contract: the lines put so far, before those of what is left, are all lines.
use Prim.Native.Nat.{◌*◌}
use Rattle.listing_lines.proofs.AnswerLaws.{Answering}
use Rattle.listing_lines.proofs.term.Variables.put_answers.Given as goal

abbrev pub invariant-loop-code : goal.invariant-loop-code
invariant-loop-code l = Answering l.self.order l.self.n l.ops l.f.words.now l.f.coefs.now l.initial.out l.out l.words l.coefs l.at (2 * l.code-index)
