-- `monomial::word::divides` meets its contract: the difference is taken byte by byte.
use Rattle.monomial.proofs.CodeLaws.{no_borrow, divides-by}
use Rattle.monomial.proofs.word.divides.Goals as goal

pub overflow_sub-apart : goal.overflow_sub-apart
overflow_sub-apart c = no_borrow c.args.x c.args.y c.requires.1 c.requires.0

pub returns : goal.returns
returns c = divides-by c.args.x c.args.y c.requires.1 c.requires.0
