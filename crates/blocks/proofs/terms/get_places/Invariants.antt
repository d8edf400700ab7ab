-- `blocks::terms::get_places` meets its contract.
use Rattle.blocks.proofs.PlaceLaws.{Got}
use Rattle.blocks.proofs.terms.get_places.Given as goal

abbrev pub invariant-loop-j : goal.invariant-loop-j
invariant-loop-j l = Got l.s l.at l.initial.ow l.initial.oc l.ow l.oc l.j
