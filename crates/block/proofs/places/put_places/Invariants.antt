-- `block::places::put_places` meets its contract.
use Rattle.polynomial.specs.Terms.{terms}
use Rattle.block.proofs.BlockLaws.{Placed}
use Rattle.block.proofs.places.put_places.Given as goal

abbrev pub invariant-loop-i : goal.invariant-loop-i
invariant-loop-i l = Placed (terms l.f.words.now l.f.coefs.now) l.initial.s l.at l.s l.i
