-- The test of a modulus and two numbers below it. Assumes nothing.
use mathlib.Core.Path.{◌≡◌}
use mathlib.Core.Bool.{true, false, ◌&&◌}
use Prim.Native.Nat.{ℕ, ◌<◌}
use native.Mathlib.Omega.{arith}
use lib.Dec.{leb, ltb}
use borrow.Author.Tests.{ltb-true, leb-true, lt-ltb, le-ltb}
use Rattle.monomial.proofs.Places.{and_both}
use Rattle.residue.specs.Modular.{Modulus}
use Rattle.probe.specs.Answers.{able}

module _ (p a b : ℕ) where
  pub able-parts : able p a b ≡ true → Modulus p × (a < p) × (b < p)
  unfolding able
  able-parts h =
      let s = and_both (leb 2 p) (leb p 2147483647 && (ltb a p && ltb b p)) h in
      let t = and_both (leb p 2147483647) (ltb a p && ltb b p) s.1 in
      let u = and_both (ltb a p) (ltb b p) t.1 in
      (record { two = leb-true 2 p s.0; limit = leb-true p 2147483647 t.0 }, ltb-true a p u.0, ltb-true b p u.1)

pub not-zero : (a : ℕ) → (a ≡ 0 → ⊥) → ltb 0 a ≡ true
not-zero a h = lt-ltb 0 a (omega arith)

pub is_zero : (a : ℕ) → a ≡ 0 → ltb 0 a ≡ false
is_zero a h = le-ltb 0 a (omega arith)
