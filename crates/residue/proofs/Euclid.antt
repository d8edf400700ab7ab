-- Euclid's algorithm for an inverse modulo p, with coefficients that are natural numbers: their signs alternate.
use mathlib.Core.Path.{◌≡◌, sym, ap, ◌∙◌}
use mathlib.Core.Logic.{◌⊎◌, inl, inr, ⊎_elim}
use Prim.Native.Nat.{ℕ, zero, suc, ◌+◌, ◌*◌, ◌-◌, ◌/◌, ◌%◌, ◌≤◌, ◌<◌, ◌∣◌}
use native.Mathlib.Nat.{dvd-add, dvd-mul_left_of_dvd, dvd_refl, dvd-zero, le_of_dvd, mod-lt, mod-eq_of_lt, mod-eq-sub-div-mul, div-mul-le_self, mul_comm, add_comm, mul-add, add-mul, mul_assoc, mul_left_comm, le-mul_of_pos_right, mul-mod_right, mul-add-mod_self_left, mod_self, zero-mod, zero-mul, zero-add, one-mul, eq-zero-or-pos, eq-or-lt_of_le}
use native.Mathlib.Omega.{arith}
use Rattle.residue.specs.Prime.{Prime}
use Rattle.residue.proofs.Remainder.{mul-same, add-both, cancel}

-- x is an inverse of a modulo p
pub record Inverts (p a x : ℕ) : Type 0 where
  pub below : x < p
  pub one : a * x % p ≡ 1

-- r is u times a modulo p
abbrev pub Plus : (a p r u : ℕ) → Type 0
Plus a p r u = u * a % p ≡ r % p

-- r is the negative of u times a modulo p
abbrev pub Minus : (a p r u : ℕ) → Type 0
Minus a p r u = (u * a + r) % p ≡ 0

-- between two steps: r₀ and r₁ are the remainders, u₀ and u₁ their coefficients
pub record Going (a p r₀ r₁ u₀ u₁ : ℕ) : Type 0 where
  pub falls : r₁ < r₀
  pub high : r₀ ≤ p
  pub low : u₀ ≤ p
  pub whole : u₁ * r₀ + u₀ * r₁ ≡ p
  pub divides : (k : ℕ) → k ∣ r₀ → k ∣ r₁ → (k ∣ p) × (k ∣ a)
  pub signs : (Plus a p r₁ u₁ × Minus a p r₀ u₀) ⊎ (Plus a p r₀ u₀ × Minus a p r₁ u₁)

-- the first remainders are p and a
pub starts : (a p : ℕ) → a < p → Going a p p a 0 1
starts a p l = record {
  falls = l;
  high = omega arith;
  low = omega arith;
  whole = omega arith;
  divides = λ k x y. (x, y);
  signs = inl (rw one-mul, rw (zero-mul, zero-add, mod_self));
}

-- one step, with the quotient q and the next remainder r₂
module _ (a p r₀ r₁ u₀ u₁ q r₂ : ℕ) (pos : 0 < p) (split : r₀ ≡ q * r₁ + r₂) where
  minus-next : Plus a p r₁ u₁ → Minus a p r₀ u₀ → Minus a p r₂ (u₀ + q * u₁)
  minus-next is neg =
      let e : (u₀ + q * u₁) * a + r₂ + r₁ * q ≡ u₀ * a + r₀ + u₁ * a * q = omega (arith, split, add-mul u₀ (q * u₁) a, mul_assoc q u₁ a, mul_comm q (u₁ * a), mul_comm q r₁) in
      let s : (u₀ * a + r₀ + u₁ * a * q) % p ≡ (0 + r₁ * q) % p = add-both p (u₀ * a + r₀) 0 (u₁ * a * q) (r₁ * q) (neg ∙ sym (zero-mod p)) (mul-same p (u₁ * a) r₁ q is) in
      cancel p pos ((u₀ + q * u₁) * a + r₂) 0 (r₁ * q) (ap (λ (n : ℕ). n % p) e ∙ s) ∙ zero-mod p

  plus-next : Plus a p r₀ u₀ → Minus a p r₁ u₁ → Plus a p r₂ (u₀ + q * u₁)
  plus-next is neg =
      let e : (u₀ + q * u₁) * a + r₁ * q ≡ u₀ * a + (u₁ * a + r₁) * q = omega (arith, add-mul u₀ (q * u₁) a, mul_assoc q u₁ a, mul_comm q (u₁ * a), add-mul (u₁ * a) r₁ q) in
      let s : (u₀ * a + (u₁ * a + r₁) * q) % p ≡ (r₀ + 0 * q) % p = add-both p (u₀ * a) r₀ ((u₁ * a + r₁) * q) (0 * q) is (mul-same p (u₁ * a + r₁) 0 q (neg ∙ sym (zero-mod p))) in
      let f : r₀ + 0 * q ≡ r₂ + r₁ * q = omega (arith, split, zero-mul q, mul_comm q r₁) in
      cancel p pos ((u₀ + q * u₁) * a) r₂ (r₁ * q) (ap (λ (n : ℕ). n % p) e ∙ (s ∙ ap (λ (n : ℕ). n % p) f))

  -- the step keeps all of it
  next : r₂ < r₁ → Going a p r₀ r₁ u₀ u₁ → Going a p r₁ r₂ u₁ (u₀ + q * u₁)
  next l g = record {
    falls = l;
    high = omega (arith, g.falls, g.high);
    low = omega (arith, g.whole, le-mul_of_pos_right u₁ (let z : 0 < r₀ = omega (arith, g.falls) in z));
    whole = omega (arith, g.whole, add-mul u₀ (q * u₁) r₁, mul_assoc q u₁ r₁, mul_left_comm q u₁ r₁, mul-add u₁ (q * r₁) r₂, ap (λ (n : ℕ). u₁ * n) split);
    divides = λ k x y. g.divides k (rw split (dvd-add k (dvd-mul_left_of_dvd k x q) y)) x;
    signs = ⊎_elim (λ h. inr (h.0, minus-next h.0 h.1)) (λ h. inl (plus-next h.0 h.1, h.1)) g.signs;
  }

-- the code's step: the quotient by a division, the remainder by a difference
module _ (a p r₀ r₁ u₀ u₁ : ℕ) (g : Going a p r₀ r₁ u₀ u₁) (h : 0 < r₁) where
  -- the remainder falls
  pub rest-falls : r₀ - r₀ / r₁ * r₁ < r₁
  rest-falls = rw (← mod-eq-sub-div-mul r₀ r₁) (mod-lt r₀ h)

  -- what holds after it
  pub steps : Going a p r₁ (r₀ - r₀ / r₁ * r₁) u₁ (u₀ + r₀ / r₁ * u₁)
  steps =
      next a p r₀ r₁ u₀ u₁ (r₀ / r₁) (r₀ - r₀ / r₁ * r₁) (omega (arith, g.falls, g.high)) (omega (arith, div-mul-le_self r₀ r₁)) rest-falls g

-- the last remainder, and what its coefficient is
module _ (a p r₀ r₁ u₀ u₁ : ℕ) (prime : Prime p) (pos : 0 < a) (below : a < p) (z : r₁ ≡ 0) (g : Going a p r₀ r₁ u₀ u₁) where
  last_one : r₀ ≡ 1
  last_one =
      let both = g.divides r₀ (dvd_refl r₀) (rw z (dvd-zero r₀)) in
      let low : r₀ ≤ a = le_of_dvd pos both.1 in
      ⊎_elim (λ e. e) (λ e. omega arith) (prime.only r₀ both.0)

  -- it is the inverse of a, or its negative
  last-sign : (u₀ * a % p ≡ 1) ⊎ ((u₀ * a + 1) % p ≡ 0)
  last-sign =
      ⊎_elim
      (λ h. inr (ap (λ (n : ℕ). (u₀ * a + n) % p) (sym last_one) ∙ h.1))
      (λ h. inl (h.0 ∙ (ap (λ (n : ℕ). n % p) last_one ∙ mod-eq_of_lt prime.above)))
      g.signs

  -- it is below p
  pub last-below : u₀ < p
  last-below =
      ⊎_elim (λ e. absurd (⊎_elim (λ h. plus-p e h) (λ h. minus-p e h) last-sign)) (λ l. l) (eq-or-lt_of_le g.low)
    where
      plus-p : u₀ ≡ p → u₀ * a % p ≡ 1 → ⊥
      plus-p e h = let z : p * a % p ≡ 1 = rw e at h in omega (arith, mul-mod_right p a)

      minus-p : u₀ ≡ p → (u₀ * a + 1) % p ≡ 0 → ⊥
      minus-p e h = let z : (p * a + 1) % p ≡ 0 = rw e at h in omega (arith, mul-add-mod_self_left p a 1, mod-eq_of_lt prime.above)

  -- where its negative is the inverse, that is what it lacks to p
  minus-inverts : (u₀ * a + 1) % p ≡ 0 → Inverts p a (p - u₀)
  minus-inverts h = record { below = small; one = inverse } where
    unit : 1 % p ≡ 1
    unit = mod-eq_of_lt prime.above

    zero-out : u₀ ≡ 0 → ⊥
    zero-out e =
        let z : (0 * a + 1) % p ≡ 0 = rw e at h in
        let y : 1 % p ≡ 0 = ap (λ (n : ℕ). (n + 1) % p) (sym (zero-mul a)) ∙ z in
        omega (arith, unit)

    small : p - u₀ < p
    small = omega (arith, prime.above, zero-out)

    inverse : a * (p - u₀) % p ≡ 1
    inverse =
        let f : p - u₀ + u₀ ≡ p = omega (arith, g.low) in
        let e : a * (p - u₀) + u₀ * a ≡ p * a = omega (arith, mul_comm u₀ a, mul_comm p a, mul-add a (p - u₀) u₀, ap (λ (n : ℕ). a * n) f) in
        let s : (u₀ * a + 1) % p ≡ (1 + u₀ * a) % p = ap (λ (n : ℕ). n % p) (add_comm (u₀ * a) 1) in
        cancel p (omega arith) (a * (p - u₀)) 1 (u₀ * a) (ap (λ (n : ℕ). n % p) e ∙ (mul-mod_right p a ∙ (sym h ∙ s))) ∙ unit

  -- the code's two answers
  pub first-answer : u₀ * a % p ≡ 1 → Inverts p a u₀
  first-answer h = record { below = last-below; one = ap (λ (n : ℕ). n % p) (mul_comm a u₀) ∙ h }

  pub other-answer : (u₀ * a % p ≡ 1 → ⊥) → Inverts p a (p - u₀)
  other-answer h = ⊎_elim (λ k. absurd (h k)) minus-inverts last-sign

  -- one of them there is
  answer : (x : ℕ) × Inverts p a x
  answer = ⊎_elim (λ h. (u₀, first-answer h)) (λ h. (p - u₀, minus-inverts h)) last-sign

-- the algorithm ends, as r₁ falls: n is at least r₁
ends : (n a p r₀ r₁ u₀ u₁ : ℕ) → Prime p → 0 < a → a < p → r₁ ≤ n → Going a p r₀ r₁ u₀ u₁ → (x : ℕ) × Inverts p a x
ends zero a p r₀ r₁ u₀ u₁ prime pos below h g =
    answer a p r₀ r₁ u₀ u₁ prime pos below (omega arith) g
ends (suc n) a p r₀ r₁ u₀ u₁ prime pos below h g =
    ⊎_elim
    (λ z. answer a p r₀ r₁ u₀ u₁ prime pos below z g)
    (λ l. ends n a p r₁ (r₀ - r₀ / r₁ * r₁) u₁ (u₀ + r₀ / r₁ * u₁) prime pos below (omega (arith, rest-falls a p r₀ r₁ u₀ u₁ g l)) (steps a p r₀ r₁ u₀ u₁ g l))
    (eq-zero-or-pos r₁)

-- every number from 1 to p - 1 has an inverse modulo a prime p
pub exists : (a p : ℕ) → Prime p → 0 < a → a < p → (x : ℕ) × Inverts p a x
exists a p prime pos below = ends a a p p a 0 1 prime pos below (omega arith) (starts a p below)
