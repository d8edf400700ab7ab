-- Sum, negative and product modulo p: each is below p, and how the code finds the negative.
use mathlib.Core.Path.{◌≡◌, sym, ap, ◌∙◌}
use Prim.Native.Nat.{ℕ, ◌+◌, ◌*◌, ◌-◌, ◌%◌, ◌<◌}
use native.Mathlib.Nat.{mod-lt, mod-eq_of_lt, add_comm, zero-mod, zero-add}
use native.Mathlib.Omega.{arith}
use Rattle.residue.specs.Modular.{sum, negative, product}
use Rattle.residue.proofs.Remainder.{sub_back}

module _ (p : ℕ) (pos : 0 < p) where
  -- a sum is below p
  pub sum_below : (a b : ℕ) → sum p a b < p
  sum_below a b = mod-lt (a + b) pos

  -- a negative is below p
  pub negative-below : (a : ℕ) → negative p a < p
  negative-below a = mod-lt (p - a % p) pos

  -- a product is below p
  pub product-below : (a b : ℕ) → product p a b < p
  product-below a b = mod-lt (a * b) pos

  -- a number and its negative make 0
  pub add-negative : (a : ℕ) → sum p a (negative p a) ≡ 0
  add-negative a =
      ap (λ (n : ℕ). n % p) (add_comm a (negative p a)) ∙ ((rw zero-add at (sub_back p pos 0 a)) ∙ zero-mod p)

module _ (p : ℕ) where
  -- another number's negative is what it lacks to p
  pub negative-rest : (a : ℕ) → 0 < a → a < p → p - a ≡ negative p a
  negative-rest a h l = sym (ap (λ (n : ℕ). (p - n) % p) (mod-eq_of_lt l) ∙ mod-eq_of_lt (let z : p - a < p = omega arith in z))
