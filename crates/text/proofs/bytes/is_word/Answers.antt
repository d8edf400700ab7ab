-- `text::bytes::is_word` meets its contract, by that of slices' `==`.
use mathlib.Core.Path.{◌∙◌}
use Rattle.text.proofs.ByteLaws.{same-code}
use Rattle.text.proofs.bytes.is_word.Goals as goal

pub returns : goal.returns
returns c = c.eq.ensures ∙ same-code c.args.w.now c.args.s.now
