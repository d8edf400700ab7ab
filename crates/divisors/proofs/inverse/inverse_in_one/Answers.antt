-- `divisors::inverse::inverse_in_one` meets its contract: the inverse is below p.
use native.Mathlib.Omega.{arith}
use Rattle.residue.proofs.Inverses.{inverse-below}
use Rattle.divisors.proofs.inverse.inverse_in_one.Goals as goal

pub in_one-requires : goal.in_one-requires
in_one-requires c = (c.requires.0, omega (arith, c.invert.ensures, inverse-below _ c.args.c c.requires.1 c.requires.2 c.requires.3))
