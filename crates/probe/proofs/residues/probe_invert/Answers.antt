-- `probe_invert` is `invert` where p is prime and the number from 1 to p - 1.
use mathlib.Core.Path.{ap}
use mathlib.Core.Bool.{not}
use native.Mathlib.Omega.{arith}
use lib.Dec.{ltb}
use Rattle.residue.specs.Prime.{is_prime}
use Rattle.residue.proofs.Primality.{true-prime}
use Rattle.probe.proofs.Answering.{held, failed, yes, no, first-fails, second-fails, third-fails, all_hold}
use Rattle.probe.proofs.Moduli.{able-parts, not-zero, is_zero}
use Rattle.probe.proofs.residues.probe_invert.Goals as goal

pub returns-then-not-are_residues : goal.returns-then-not-are_residues
returns-then-not-are_residues c =
    let a = c.args in
    failed _ _ (first-fails (ltb 0 a.a) (is_prime a.p) (no c.are_residues.ensures (ap not c.if-not-are_residues.true)))

pub returns-then-a-eq0 : goal.returns-then-a-eq0
returns-then-a-eq0 c = failed _ _ (second-fails _ (yes c.are_residues.ensures (ap not c.if-not-are_residues.false)) (is_zero _ c.if-a-eq0.true))

pub returns-then-not-is_prime : goal.returns-then-not-is_prime
returns-then-not-is_prime c =
    failed _ _
    (third-fails
    (yes c.are_residues.ensures (ap not c.if-not-are_residues.false))
    (not-zero _ c.if-a-eq0.false)
    (no c.is_prime.ensures (ap not c.if-not-is_prime.true)))

pub invert-requires : goal.invert-requires
invert-requires c =
    let h = able-parts _ _ _ (yes c.are_residues.ensures (ap not c.if-not-are_residues.false)) in
    (h.0, true-prime _ (yes c.is_prime.ensures (ap not c.if-not-is_prime.false)), omega (arith, c.if-a-eq0.false), h.1)

pub returns : goal.returns
returns c =
    held _
    (all_hold
    (yes c.are_residues.ensures (ap not c.if-not-are_residues.false))
    (not-zero _ c.if-a-eq0.false)
    (yes c.is_prime.ensures (ap not c.if-not-is_prime.false)))
    c.invert.ensures
