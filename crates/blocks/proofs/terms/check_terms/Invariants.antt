-- `blocks::terms::check_terms` meets its contract.
use Rattle.blocks.proofs.PlaceLaws.{Passed}
use Rattle.blocks.proofs.terms.check_terms.Given as goal

abbrev pub invariant-loop-k : goal.invariant-loop-k
invariant-loop-k l = Passed l.s l.t l.total l.checking l.k
