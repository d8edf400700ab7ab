-- `probe_multiply_residues` is `multiply` where the numbers are below the modulus.
use mathlib.Core.Path.{ap}
use mathlib.Core.Bool.{not}
use Rattle.probe.proofs.Answering.{held, failed, yes, no}
use Rattle.probe.proofs.Moduli.{able-parts}
use Rattle.probe.proofs.residues.probe_multiply_residues.Goals as goal

pub returns-then-not-are_residues : goal.returns-then-not-are_residues
returns-then-not-are_residues c = failed _ _ (no c.are_residues.ensures (ap not c.if-not-are_residues.true))

pub multiply-requires : goal.multiply-requires
multiply-requires c = able-parts _ _ _ (yes c.are_residues.ensures (ap not c.if-not-are_residues.false))

pub returns : goal.returns
returns c = held _ (yes c.are_residues.ensures (ap not c.if-not-are_residues.false)) c.multiply.ensures
