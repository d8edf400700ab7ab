-- `probe_factor_times` is the factor's product where the numbers are below the modulus.
use mathlib.Core.Bool.{not}
use mathlib.Core.Path.{◌∙◌, ap}
use native.Mathlib.Omega.{arith}
use Rattle.residue.proofs.Shoup.{prepared, times-product}
use Rattle.probe.proofs.Answering.{held, failed, yes, no}
use Rattle.probe.proofs.Moduli.{able-parts}
use Rattle.probe.proofs.residues.probe_factor_times.Goals as goal

pub returns-then-not-are_residues : goal.returns-then-not-are_residues
returns-then-not-are_residues c = failed _ _ (no c.are_residues.ensures (ap not c.if-not-are_residues.true))

pub new-requires : goal.new-requires
new-requires c = let h = able-parts _ _ _ (yes c.are_residues.ensures (ap not c.if-not-are_residues.false)) in (h.0, h.1)

pub times-requires : goal.times-requires
times-requires c =
    let h = able-parts _ _ _ (yes c.are_residues.ensures (ap not c.if-not-are_residues.false)) in
    (prepared _ _ _ h.0 h.1 c.new.ensures, omega (arith, h.2, c.new.ensures.prime-is))

pub returns : goal.returns
returns c =
    held _ (yes c.are_residues.ensures (ap not c.if-not-are_residues.false)) (c.times.ensures ∙ times-product _ _ _ _ c.new.ensures)
