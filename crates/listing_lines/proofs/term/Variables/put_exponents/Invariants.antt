-- `listing_lines::term::Variables::put_exponents` meets its contract, exponent by exponent.
use mathlib.Core.List.{map}
use lib.ListN.{take}
use Rattle.monomial.specs.Layout.{fields}
use Rattle.text.specs.Bytes.{joined}
use Rattle.text.specs.Numbers.{decimal}
use Rattle.listing_lines.specs.Put.{Put}
use Rattle.listing_lines.proofs.term.Variables.put_exponents.Given as goal

abbrev pub invariant-loop-i : goal.invariant-loop-i
invariant-loop-i l = Put (joined 46 (map decimal (take l.i (fields l.self.order l.w)))) l.at l.initial.out l.out l.to
