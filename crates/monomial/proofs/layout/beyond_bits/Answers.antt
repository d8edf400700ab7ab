-- `monomial::layout::beyond_bits` meets its contract, order by order.
use Rattle.monomial.proofs.CodeLaws.{beyond-down, beyond-rev}
use Rattle.monomial.proofs.layout.beyond_bits.Goals as goal

pub returns-in-Lex : goal.returns-in-Lex
returns-in-Lex c = beyond-down c.args.order c.args.n c.in-Lex.is c.requires

pub returns-in-DegRevLex : goal.returns-in-DegRevLex
returns-in-DegRevLex c = beyond-rev c.args.order c.args.n c.in-DegRevLex.is c.requires
