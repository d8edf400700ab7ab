-- `inverse_of` meets what `invert` requires: p is prime and a is not 0.
use Rattle.std.proofs.Common.{ap, not, arith}
use Rattle.samples.proofs.Tested.{tested-prime}
use Rattle.samples.proofs.residues.inverse_of.Goals as goal

pub invert-requires : goal.invert-requires
invert-requires c =
    let prime = tested-prime _ _ c.is_prime.ensures (ap not c.if-not-is_prime.false) in
    (c.requires.0, prime, omega (arith, c.if-a-eq0.false), c.requires.1)
