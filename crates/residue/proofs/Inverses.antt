-- The inverse modulo a prime: what it is, that there is no other, and that a product of numbers that are not 0 is not 0.
use mathlib.Core.Path.{◌≡◌, refl, sym, ap, ◌∙◌}
use mathlib.Core.Bool.{Bool, true, false}
use mathlib.Core.Logic.{◌⊎◌, inl, inr, ⊎_elim}
use Prim.Native.Nat.{ℕ, zero, suc, ◌*◌, ◌%◌, ◌≤◌, ◌<◌}
use native.Mathlib.Nat.{mod-lt, mod-eq_of_lt, mul_right_comm, one-mul, mul-zero, zero-mul, zero-mod, eq-zero-or-pos, eq-or-lt_of_le}
use native.Mathlib.Omega.{arith}
use borrow.Author.Tests.{eqb-true, eqb-false}
use lib.Dec.{eqb}
use Rattle.residue.specs.Prime.{Prime}
use Rattle.residue.specs.Modular.{inverse_below, inverse_of}
use Rattle.residue.proofs.Remainder.{mod-mul, mul-same}
use Rattle.residue.proofs.Euclid.{Inverts, exists}

-- two inverses of a are equal: x is x (a y), which is y (a x), and that is y
pub inverts-once : (p a x y : ℕ) → Inverts p a x → Inverts p a y → x ≡ y
inverts-once p a x y h k =
    let u : a * y * x % p ≡ x = via y x k h in
    let v : a * x * y % p ≡ y = via x y h k in
    let e : a * y * x ≡ a * x * y = mul_right_comm a y x in
    sym u ∙ (ap (λ (n : ℕ). n % p) e ∙ v)
  where
    via : (z w : ℕ) → Inverts p a z → Inverts p a w → a * z * w % p ≡ w
    via z w f g =
        sym (mod-mul p (a * z) w) ∙ (ap (λ (n : ℕ). n * w % p) f.one ∙ (ap (λ (n : ℕ). n % p) (one-mul w) ∙ mod-eq_of_lt g.below))

-- what holds of the two answers of a test holds of its answer
by-test : (b : Bool) (m n : ℕ) (P : ℕ → Type 0) → (b ≡ true → P m) → (b ≡ false → P n) → P (elim b [ true ↦ m | false ↦ n ])
by-test true m n P f g = f refl
by-test false m n P f g = g refl

-- the search finds an inverse where there is one below n
found : (n p a x : ℕ) → x < n → a * x % p ≡ 1 → (inverse_below n p a < n) × (a * inverse_below n p a % p ≡ 1)
unfolding inverse_below
found zero p a x l h = absurd (let z : ⊥ = omega arith in z)
found (suc n) p a x l h =
    by-test (eqb (a * n % p) 1) n (inverse_below n p a) (λ (y : ℕ). (y < suc n) × (a * y % p ≡ 1))
    (λ e. (omega arith, eqb-true (a * n % p) 1 e))
    (λ e.
    ⊎_elim
    (λ q. absurd (eqb-false (a * n % p) 1 e (rw (← q) h)))
    (λ q. let r = found n p a x q h in (omega (arith, r.0), r.1))
    (eq-or-lt_of_le (let z : x ≤ n = omega arith in z)))

-- a prime, and a number that it does not divide
module _ (p a : ℕ) (prime : Prime p) (pos : 0 < a) (below : a < p) where
  -- the inverse is one
  pub inverse-inverts : Inverts p a (inverse_of p a)
  unfolding inverse_of
  inverse-inverts =
      let e = exists a p prime pos below in
      let f = found p p a e.0 e.1.below e.1.one in
      record { below = f.0; one = f.1 }

  -- a times its inverse is 1
  pub inverse-product : a * inverse_of p a % p ≡ 1
  inverse-product = inverse-inverts.one

  -- the inverse is below p
  pub inverse-below : inverse_of p a < p
  inverse-below = inverse-inverts.below

  -- the inverse is not 0
  pub inverse-positive : 0 < inverse_of p a
  inverse-positive =
      ⊎_elim
      (λ e. let z : a * 0 % p ≡ 1 = rw e at inverse-product in omega (arith, ap (λ (n : ℕ). n % p) (mul-zero a), zero-mod p))
      (λ l. l)
      (eq-zero-or-pos (inverse_of p a))

  -- no other number below p is an inverse
  pub inverse-only : (x : ℕ) → x < p → a * x % p ≡ 1 → x ≡ inverse_of p a
  inverse-only x l e = inverts-once p a x (inverse_of p a) (record { below = l; one = e }) inverse-inverts

-- a product is 0 modulo a prime only if one of the two numbers is
pub zero-product : (p a b : ℕ) → Prime p → a * b % p ≡ 0 → (a % p ≡ 0) ⊎ (b % p ≡ 0)
zero-product p a b prime h = ⊎_elim (λ e. inl e) (λ l. inr (other l)) (eq-zero-or-pos (a % p)) where
  other : 0 < a % p → b % p ≡ 0
  other l =
      let k = a % p in
      let i = inverse_of p k in
      let low : a % p < p = mod-lt a (omega (arith, prime.above)) in
      let x : k * i * b % p ≡ 1 * b % p = mul-same p (k * i) 1 b (inverse-product p k prime l low ∙ sym (mod-eq_of_lt prime.above)) in
      let y : k * b * i % p ≡ 0 * i % p = mul-same p (k * b) 0 i (mod-mul p a b ∙ (h ∙ sym (zero-mod p))) in
      let e : k * i * b ≡ k * b * i = mul_right_comm k i b in
      ap (λ (n : ℕ). n % p) (sym (one-mul b)) ∙ (sym x ∙ (ap (λ (n : ℕ). n % p) e ∙ (y ∙ (ap (λ (n : ℕ). n % p) (zero-mul i) ∙ zero-mod p))))
