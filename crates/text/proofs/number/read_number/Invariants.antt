-- `text::number::read_number` meets its contract: what is left of the text, read on, gives what the whole gives. Assumes nothing.
use mathlib.Core.Path.{◌≡◌}
use lib.ListN.{drop}
use Rattle.text.specs.Numbers.{with_digits, number_of}
use Rattle.text.proofs.number.read_number.Given as goal

abbrev pub invariant-loop-b : goal.invariant-loop-b
invariant-loop-b l = with_digits l.v (drop l.b-index l.rest) ≡ number_of l.s
