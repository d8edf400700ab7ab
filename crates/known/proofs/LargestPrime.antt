-- The largest prime (document 02, "Larger primes."): "p may go up to 2,147,483,647." Refusal 1 has one condition in all entries, `GoodPrime`. Assumes nothing.
use mathlib.Core.Path.{◌≡◌, refl}
use mathlib.Core.Bool.{true}
use Prim.Native.Nat.{ℕ, ◌*◌, ◌<◌, ◌≤◌}
use native.Mathlib.Omega.{arith}
use lib.Dec.{lit≤}
use Rattle.residue.specs.Modular.{Modulus}
use Rattle.residue.specs.Prime.{Prime, no_divisor}
use Rattle.residue.proofs.Primality.{true-prime}
use Rattle.trial_division.specs.Tables.{prime_to}
use Rattle.trial_division.proofs.TrialDivision.{passed-prime}
use Rattle.opening.specs.Judgement.{GoodPrime}

-- none of the numbers up to its root divides it, which is computed
root-tried : prime_to 46349 2147483647 ≡ true
unfolding no_divisor
root-tried = refl

pub largest-good : GoodPrime 2147483647
largest-good = (true-prime 2147483647 (passed-prime 46349 2147483647 root-tried (let z : 2147483647 < 46349 * 46349 = omega arith in z)), lit≤ tt)

pub none-larger : (p : ℕ) → GoodPrime p → p ≤ 2147483647
none-larger p h = h.1

-- "Modular product and inverse must now promise their result for every such prime": what they ask of p holds
pub every-prime : (p : ℕ) → GoodPrime p → Modulus p × Prime p
every-prime p h = (record { two = h.0.above; limit = h.1 }, h.0)
