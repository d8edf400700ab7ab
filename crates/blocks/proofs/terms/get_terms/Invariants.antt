-- `blocks::terms::get_terms` meets its contract.
use Rattle.blocks.proofs.PlaceLaws.{Filled}
use Rattle.blocks.proofs.terms.get_terms.Given as goal

abbrev pub invariant-loop-k : goal.invariant-loop-k
invariant-loop-k l = Filled l.s l.total l.initial.ow l.initial.oc l.ow l.oc l.k
