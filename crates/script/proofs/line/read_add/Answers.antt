-- `script::line::read_add` meets its contract, return by return.
use mathlib.Core.Path.{refl}
use Rattle.script.proofs.LineLaws.{add-bad, add_done}
use Rattle.script.proofs.line.read_add.Goals as goal

pub returns-in_err-terms : goal.returns-in_err-terms
returns-in_err-terms c = rw c.from_residual.ensures (add-bad c.in_err-terms.ensures refl)

pub returns : goal.returns
returns c = add_done c.in_ok-terms.ensures refl c.put_pair.ensures
