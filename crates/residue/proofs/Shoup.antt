-- Shoup's product by a fixed factor v: with the share s = v * B / p, for a B above x, and the quotient's estimate q = s * x / B, the multiple q * p is at most v * x, and less than 2 * p below it.
use mathlib.Core.Path.{◌≡◌, sym, ap, ◌∙◌}
use Prim.Native.Nat.{ℕ, ◌+◌, ◌*◌, ◌-◌, ◌/◌, ◌%◌, ◌^◌, ◌≤◌, ◌<◌}
use native.Mathlib.Nat.{mul_right_comm, mul_comm, add-mul, mul-le-mul_right, mul-le-mul_left, mul-lt-mul_of_pos_right, div-mul-le_self, lt-div-mul-add, le_of_mul-le-mul_right, lt_of_mul-lt-mul_right, le_of_lt, div-lt_iff_lt-mul}
use native.Mathlib.Omega.{arith}
use lib.Arith.{digits_mod}
use lib.Dec.{lit<}
use Rattle.residue.specs.declared.factor.Factor.{Factor}
use Rattle.residue.specs.Modular.{Modulus, product}
use Rattle.residue.specs.Share.{FactorOf, Prepared}

module _ (v x p B : ℕ) (pos : 0 < p) (above : 0 < B) (small : x ≤ B) where
  abbrev s : ℕ
  s = v * B / p

  abbrev q : ℕ
  q = s * x / B

  -- the estimate is not too large
  low : q * p ≤ v * x
  low =
      le_of_mul-le-mul_right
      (let h : q * p * B ≤ v * x * B = omega (
        arith,
        mul_right_comm q p B,
        mul_right_comm s x p,
        mul_right_comm v B x,
        mul-le-mul_right p (div-mul-le_self (s * x) B),
        mul-le-mul_right x (div-mul-le_self (v * B) p),
      ) in h)
      above

  -- it is at most one too small
  high : v * x < q * p + p + p
  high =
      lt_of_mul-lt-mul_right B
      (let h : v * x * B < (q * p + p + p) * B = omega (
        arith,
        mul_right_comm v x B,
        mul-le-mul_right x (le_of_lt (lt-div-mul-add {a = v * B} {b = p} pos)),
        add-mul (s * p) p x,
        mul_right_comm s p x,
        mul-lt-mul_of_pos_right (lt-div-mul-add {a = s * x} {b = B} above) pos,
        add-mul (q * B) B p,
        mul_right_comm q B p,
        mul-le-mul_left p small,
        mul_comm p B,
        add-mul (q * p + p) p B,
        add-mul (q * p) p B,
      ) in h)

  -- the estimate is right
  exact : v * x - q * p < p → v * x - q * p ≡ v * x % p
  exact h = let e : v * x ≡ q * p + (v * x - q * p) = omega (arith, low) in sym (ap (λ (n : ℕ). n % p) e ∙ digits_mod q h)

  -- the estimate is one too small
  short : p ≤ v * x - q * p → v * x - q * p - p ≡ v * x % p
  short h =
      let e : v * x ≡ (q + 1) * p + (v * x - q * p - p) = omega (arith, low, add-mul q 1 p) in
      let l : v * x - q * p - p < p = omega (arith, high) in
      sym (ap (λ (n : ℕ). n % p) e ∙ digits_mod (q + 1) l)

-- the estimate, for any value and any B above x
pub estimate : (v x p B : ℕ) → 0 < p → 0 < B → x ≤ B → (v * B / p * x / B * p ≤ v * x) × (v * x < v * B / p * x / B * p + p + p)
estimate v x p B pos above small = (low v x p B pos above small, high v x p B pos above small)

-- a share is below B
pub share-below : (v p B : ℕ) → v < p → 0 < B → v * B / p < B
share-below v p B h above =
    (div-lt_iff_lt-mul (let z : 0 < p = omega arith in z)).1 (let e : v * B < B * p = omega (arith, mul-lt-mul_of_pos_right h above, mul_comm p B) in e)

-- what the estimate leaves of the product
abbrev pub rest : (f : Factor) (x : ℕ) → ℕ
rest f x = f.value * x - f.share * x / 4294967296 * f.prime

-- a factor that is prepared, and a number below its modulus, as the code has them
module _ (f : Factor) (x : ℕ) (h : Prepared f) (l : x < f.prime) where
  -- what is left fits in 32 bits
  pub rest-fits : rest f x < 2 ^ 32
  rest-fits =
      let z : f.value * x < f.share * x / 4294967296 * f.prime + f.prime + f.prime = rw h.share (high f.value x f.prime 4294967296 (omega arith) (lit< tt) (omega (arith, h.modulus.limit))) in
      omega (arith, z, h.modulus.limit)

  -- the estimated multiple of the modulus is at most the product
  pub at_most : f.share * x / 4294967296 * f.prime ≤ f.value * x
  at_most = rw h.share (low f.value x f.prime 4294967296 (omega arith) (lit< tt) (omega (arith, h.modulus.limit)))

  -- what is left is the remainder where it is below the modulus
  pub small-rest : rest f x < f.prime → rest f x ≡ product f.prime f.value x
  small-rest = rw h.share (exact f.value x f.prime 4294967296 (omega arith) (lit< tt) (omega (arith, h.modulus.limit)))

  -- and less the modulus where it is not
  pub large-rest : f.prime ≤ rest f x → rest f x - f.prime ≡ product f.prime f.value x
  large-rest = rw h.share (short f.value x f.prime 4294967296 (omega arith) (lit< tt) (omega (arith, h.modulus.limit)))

-- what `Factor::new` makes is prepared
pub prepared : (p value : ℕ) (f : Factor) → Modulus p → value < p → FactorOf p value f → Prepared f
prepared p value f m l k = record {
  modulus = rw k.prime-is m;
  below = rw (k.prime-is, k.value-is) l;
  share = rw (k.prime-is, k.value-is) k.share-is;
}

-- and its products are those of the value modulo p
pub times-product : (p value x : ℕ) (f : Factor) → FactorOf p value f → product f.prime f.value x ≡ product p value x
times-product p value x f k = rw (k.prime-is, k.value-is)
