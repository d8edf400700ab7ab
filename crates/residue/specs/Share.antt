-- A factor that many numbers are multiplied by, with a number worked out beforehand that spares the divisions.
use Rattle.std.specs.Prelude.{ℕ, ◌*◌, ◌/◌, ◌<◌, ◌≡◌}
use Rattle.residue.specs.Modular.{Modulus}
use Rattle.residue.specs.declared.factor.Factor.{Factor}

-- what part of p the value is, in parts of 2 ^ 32, rounded down
abbrev pub share_of : (p value : ℕ) → ℕ
share_of p value = value * 4294967296 / p

-- f is the factor `value` modulo p
pub record FactorOf (p value : ℕ) (f : Factor) : Type 0 where
  pub value-is : f.value ≡ value
  pub share-is : f.share ≡ share_of p value
  pub prime-is : f.prime ≡ p

-- f has a modulus, a value below it, and its share
pub record Prepared (f : Factor) : Type 0 where
  pub modulus : Modulus f.prime
  pub below : f.value < f.prime
  pub share : f.share ≡ share_of f.prime f.value
