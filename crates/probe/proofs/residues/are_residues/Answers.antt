-- `are_residues` is the test of its definition, part by part.
use native.Mathlib.Omega.{arith}
use Rattle.std.proofs.lemmas.Bool.Decides.{nat_tests}
use Rattle.probe.specs.Answers.{able}
use Rattle.probe.proofs.residues.are_residues.Goals as goal

pub returns-then-a-p : goal.returns-then-a-p
unfolding able
returns-then-a-p c = grind (arith, nat_tests)

pub returns-else-a-p : goal.returns-else-a-p
unfolding able
returns-else-a-p c = grind (arith, nat_tests)
