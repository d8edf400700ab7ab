use mathlib.Core.Path.{◌≡◌}
use lib.ListN.{length}
use Rattle.grammar.proofs.NumbersLaws.{Counting}
use Rattle.grammar.proofs.numbers.read_numbers.Given as goal

-- `grammar::numbers::read_numbers` meets its contract: the numbers of the parts read so far, before those of the others, give what the whole text gives. Assumes nothing.
abbrev pub invariant-loop-part : goal.invariant-loop-part
invariant-loop-part l = (l.count ≡ length l.yielded) × Counting l.fn.b l.s l.initial.bytes l.bytes l.count
