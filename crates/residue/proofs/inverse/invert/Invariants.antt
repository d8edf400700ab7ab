-- `invert` meets its contract: between two steps `Going` holds, and the last coefficient is the inverse or its negative.
use Rattle.residue.proofs.Euclid.{Going}
use Rattle.residue.proofs.inverse.invert.Given as goal

abbrev pub invariant-loop-r1 : goal.invariant-loop-r1
invariant-loop-r1 l = Going l.a l.p l.r0 l.r1 l.u0 l.u1

abbrev pub decreases-loop-r1 : goal.decreases-loop-r1
decreases-loop-r1 l = l.r1
