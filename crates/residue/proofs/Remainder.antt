-- Laws of remainders: what may be done on both sides of an equation modulo p.
use mathlib.Core.Path.{◌≡◌, sym, ap, ◌∙◌}
use Prim.Native.Nat.{ℕ, ◌+◌, ◌*◌, ◌-◌, ◌/◌, ◌%◌, ◌<◌}
use native.Mathlib.Nat.{mod-add-div, mod-add-mod, add-mod, add-mul-mod_self_left, add-mul, mul_assoc, mod-lt, mul-add}
use native.Mathlib.Omega.{arith}

module _ (p : ℕ) where
  -- a factor may be reduced first
  pub mod-mul : (x c : ℕ) → x % p * c % p ≡ x * c % p
  mod-mul x c =
      let e : x * c ≡ x % p * c + p * (x / p * c) = omega (arith, ap (λ (n : ℕ). n * c) (mod-add-div x p), add-mul (x % p) (p * (x / p)) c, mul_assoc p (x / p) c) in
      sym (ap (λ (n : ℕ). n % p) e ∙ add-mul-mod_self_left (x % p * c) p (x / p * c))

  -- both sides times c
  pub mul-same : (x y c : ℕ) → x % p ≡ y % p → x * c % p ≡ y * c % p
  mul-same x y c h = sym (mod-mul x c) ∙ (ap (λ (n : ℕ). n * c % p) h ∙ mod-mul y c)

  -- both sides plus c
  pub add_same : (x y c : ℕ) → x % p ≡ y % p → (x + c) % p ≡ (y + c) % p
  add_same x y c h = sym (mod-add-mod x p c) ∙ (ap (λ (n : ℕ). (n + c) % p) h ∙ mod-add-mod y p c)

  -- the sum of two equations
  pub add-both : (x y z w : ℕ) → x % p ≡ y % p → z % p ≡ w % p → (x + z) % p ≡ (y + w) % p
  add-both x y z w h k = cc (add-mod x z p, add-mod y w p)

  -- with z comes what z lacks to the next multiple of p
  fill : 0 < p → (x z : ℕ) → (x + z + (p - z % p)) % p ≡ x % p
  fill pos x z =
      let e : x + z + (p - z % p) ≡ x + p * (z / p + 1) = omega (arith, mod-add-div z p, mod-lt z pos, mul-add p (z / p) 1) in
      ap (λ (n : ℕ). n % p) e ∙ add-mul-mod_self_left x p (z / p + 1)

  -- what is added to both sides may be left out
  pub cancel : 0 < p → (x y z : ℕ) → (x + z) % p ≡ (y + z) % p → x % p ≡ y % p
  cancel pos x y z h = sym (fill pos x z) ∙ (add_same (x + z) (y + z) (p - z % p) h ∙ fill pos y z)

  -- a difference modulo p, with no negative number
  pub sub_back : 0 < p → (x z : ℕ) → ((x + (p - z % p)) % p + z) % p ≡ x % p
  sub_back pos x z =
      mod-add-mod (x + (p - z % p)) p z
      ∙ (ap (λ (n : ℕ). n % p) (let e : x + (p - z % p) + z ≡ x + z + (p - z % p) = omega arith in e) ∙ fill pos x z)
