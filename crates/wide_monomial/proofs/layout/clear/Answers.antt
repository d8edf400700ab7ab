-- `wide_monomial::layout::clear` meets its contract.
use mathlib.Core.Path.{◌∙◌}
use borrow.Author.Tests.{ne_eqb}
use Rattle.wide_monomial.proofs.CodeLaws.{top_set, tops-unset}
use Rattle.wide_monomial.proofs.layout.clear.Goals as goal

pub returns-then-w-eq0 : goal.returns-then-w-eq0
returns-then-w-eq0 c o n few is = tops-unset o n few _ _ is c.if-w-eq0.true

pub returns-else-w-eq0 : goal.returns-else-w-eq0
returns-else-w-eq0 c o n few is = ne_eqb _ _ c.if-w-eq0.false ∙ top_set o n few _ _ is c.if-w-eq0.false
