-- `is_packed` is the test of its definition.
use mathlib.Core.Path.{◌∙◌}
use borrow.Author.Tests.{ne_eqb}
use Rattle.probe.proofs.Packing.{top_set, by-room}
use Rattle.probe.proofs.monomials.is_packed.Goals as goal

pub returns-then-w-eq0 : goal.returns-then-w-eq0
returns-then-w-eq0 c = by-room _ c.if-w-eq0.true

pub returns-else-w-eq0 : goal.returns-else-w-eq0
returns-else-w-eq0 c = ne_eqb _ 0 c.if-w-eq0.false ∙ top_set _ c.if-w-eq0.false
