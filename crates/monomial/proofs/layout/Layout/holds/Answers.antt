-- `monomial::layout::Layout::holds` meets its contract, refusal by refusal.
use Rattle.monomial.proofs.CodeLaws.{top-refused, beyond-refused, by-degree}
use Rattle.monomial.proofs.layout.Layout.holds.Goals as goal

pub returns-then-w-ne0 : goal.returns-then-w-ne0
returns-then-w-ne0 c o n few is = top-refused o n _ _ c.if-w-ne0.true

pub returns-then-w-self-ne0 : goal.returns-then-w-self-ne0
returns-then-w-self-ne0 c o n few is = beyond-refused o n _ _ few _ is c.if-w-ne0.false c.if-w-self-ne0.true

pub returns : goal.returns
returns c o n few is = by-degree o n _ _ few _ is c.if-w-ne0.false c.if-w-self-ne0.false _ c.weighted_sum.ensures
