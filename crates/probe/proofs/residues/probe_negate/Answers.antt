-- `probe_negate` is `negate` where the number is below the modulus.
use mathlib.Core.Path.{ap}
use mathlib.Core.Bool.{not}
use Rattle.probe.proofs.Answering.{held, failed, yes, no}
use Rattle.probe.proofs.Moduli.{able-parts}
use Rattle.probe.proofs.residues.probe_negate.Goals as goal

pub returns-then-not-are_residues : goal.returns-then-not-are_residues
returns-then-not-are_residues c = failed _ _ (no c.are_residues.ensures (ap not c.if-not-are_residues.true))

pub negate-requires : goal.negate-requires
negate-requires c = let h = able-parts _ _ _ (yes c.are_residues.ensures (ap not c.if-not-are_residues.false)) in (h.0, h.1)

pub returns : goal.returns
returns c = held _ (yes c.are_residues.ensures (ap not c.if-not-are_residues.false)) c.negate.ensures
