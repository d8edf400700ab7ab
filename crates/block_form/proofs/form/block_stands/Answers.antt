-- `block_form::form::block_stands` meets its contract.
use Rattle.std.proofs.Common.{ap, ◌∙◌, not}
use Rattle.opening.proofs.Tests.{yes, no}
use Rattle.block_form.proofs.FormLaws.{no_header, by-filler}
use Rattle.block_form.proofs.form.block_stands.Goals as goal

pub returns-then-stands : goal.returns-then-stands
returns-then-stands c = let a = c.args in by-filler a.s.now a.k a.count a.total _ _ c.requires.0 c.get_setting.ensures c.here_of-here.ensures _ (yes c.stands.ensures (ap not c.if-stands.true)) c.is_clear.ensures

pub returns-else-stands : goal.returns-else-stands
returns-else-stands c = let a = c.args in c.if-stands.false ∙ no_header a.s.now a.k a.count a.total _ _ c.requires.0 c.get_setting.ensures c.here_of-here.ensures (no c.stands.ensures (ap not c.if-stands.false))
