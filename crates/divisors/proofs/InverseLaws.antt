-- The inverses of the divisors' lead coefficients, each in one number with its share, and the factors that they make. Assumes nothing.
use mathlib.Core.Path.{◌≡◌, refl, sym, ap, ◌∙◌, subst}
use Prim.Native.Nat.{ℕ, ◌+◌, ◌-◌, ◌*◌, ◌/◌, ◌%◌, ◌<◌, ◌≤◌}
use native.Mathlib.Nat.{add-mul, mul_comm, mul_right_comm, add-mul-div_right, div-add-mod', mod-lt}
use native.Mathlib.Decide.{dec_le}
use native.Mathlib.Omega.{arith}
use borrow.Author.Tests.{le-leb, lt-leb}
use lib.Arith.{digits_mod, digits_div}
use lib.Dec.{lit<}
use Rattle.residue.specs.Modular.{Modulus, product}
use Rattle.residue.specs.Share.{share_of, FactorOf}
use Rattle.residue.proofs.Shoup.{estimate, share-below}
use Rattle.divisors.specs.Divisors.{low_part, in_one, inverse_in, Multiplying}

-- ---- a number in one with its share
pub low-16 : (p : ℕ) → p ≤ 65536 → low_part p ≡ 65536
low-16 p s = rw (le-leb p 65536 s)

pub low-32 : (p : ℕ) → 65536 < p → low_part p ≡ 4294967296
low-32 p s = rw (lt-leb p 65536 s)

pub one-16 : (p v : ℕ) → p ≤ 65536 → v * 281474976710656 / p * 65536 + v ≡ in_one p v
one-16 p v s = ap (λ (b : ℕ). v * (18446744073709551616 / b) / p * b + v) (sym (low-16 p s))

pub multiplying : {p v x y : ℕ} → Modulus p → v < p → x < p → y ≡ in_one p v → Multiplying p x y × (inverse_in p y ≡ v)
multiplying {p} {v} {x} {y} m l h e = (record { modulus = m; small = h; below = omega (arith, back); kept-is = e ∙ ap (in_one p) (sym back) }, back) where
  fits : Dec (p ≤ 65536) → v < low_part p
  fits (yes s) = omega (arith, low-16 p s)
  fits (no s) = omega (arith, low-32 p (omega arith), m.limit)

  back : inverse_in p y ≡ v
  back = ap (λ (z : ℕ). z % low_part p) e ∙ digits_mod (v * (18446744073709551616 / low_part p) / p) (fits (dec_le p 65536))

-- ---- the product of x with it, for a p of at most 2 ^ 16
module _ {p x y : ℕ} (a : Multiplying p x y) (s : p ≤ 65536) where
  pos : 0 < p
  pos = omega (arith, a.modulus.two)

  same-16 : inverse_in p y ≡ y % 65536
  same-16 = ap (λ (b : ℕ). y % b) (low-16 p s)

  kept-16 : y / 65536 ≡ y % 65536 * 281474976710656 / p
  kept-16 =
      ap (λ (z : ℕ). z / 65536) (a.kept-is ∙ (ap (in_one p) same-16 ∙ sym (one-16 p (y % 65536) s)))
      ∙ digits_div (y % 65536 * 281474976710656 / p) (mod-lt y (lit< tt))

  estimated : (y / 65536 * x / 65536 * p ≤ y % 65536 * 4294967296 * x) × (y % 65536 * 4294967296 * x < y / 65536 * x / 65536 * p + p + p)
  estimated =
      subst (λ (r : ℕ). (r * x / 65536 * p ≤ y % 65536 * 4294967296 * x) × (y % 65536 * 4294967296 * x < r * x / 65536 * p + p + p))
      (ap (λ (z : ℕ). z / p) (let z : y % 65536 * 4294967296 * 65536 ≡ y % 65536 * 281474976710656 = omega arith in z) ∙ sym kept-16)
      (estimate (y % 65536 * 4294967296) x p 65536 pos (omega arith) (omega (arith, a.small, s)))

  turned : y % 65536 * 4294967296 * x ≡ x * (y % 65536) * 4294967296
  turned = mul_right_comm (y % 65536) 4294967296 x ∙ ap (λ (z : ℕ). z * 4294967296) (mul_comm (y % 65536) x)

  pub correct-asks : (y / 65536 * x / 65536 * p ≤ x * (y % 65536) * 4294967296) × (x * (y % 65536) * 4294967296 < y / 65536 * x / 65536 * p + p + p) × (0 < p)
  correct-asks = (omega (arith, estimated.0, turned), omega (arith, estimated.1, turned), pos)

  -- ---- its quotient and remainder by p
  abbrev whole : ℕ
  whole = x * (y % 65536)

  split : whole * 4294967296 / p ≡ whole / p * 4294967296 + whole % p * 4294967296 / p
  split =
      ap (λ (z : ℕ). z / p)
      (let e : whole * 4294967296 ≡ whole % p * 4294967296 + whole / p * 4294967296 * p = omega (arith, ap (λ (z : ℕ). z * 4294967296) (sym (div-add-mod' whole p)), add-mul (whole / p * p) (whole % p) 4294967296, mul_right_comm (whole / p) p 4294967296) in e)
      ∙ (add-mul-div_right (whole % p * 4294967296) (whole / p * 4294967296) pos ∙ (let z : whole % p * 4294967296 / p + whole / p * 4294967296 ≡ whole / p * 4294967296 + whole % p * 4294967296 / p = omega arith in z))

  small-share : whole % p * 4294967296 / p < 4294967296
  small-share = share-below (whole % p) p 4294967296 (mod-lt whole pos) (lit< tt)

  module _ {q : ℕ} (e : q ≡ whole * 4294967296 / p) where
    quotient_is : q / 4294967296 ≡ whole / p
    quotient_is = ap (λ (z : ℕ). z / 4294967296) (e ∙ split) ∙ digits_div (whole / p) small-share

    share-is : q % 4294967296 ≡ share_of p (whole % p)
    share-is = ap (λ (z : ℕ). z % 4294967296) (e ∙ split) ∙ digits_mod (whole / p) small-share

    pub quotient_fits : q / 4294967296 * p ≤ whole
    quotient_fits = omega (arith, ap (λ (z : ℕ). z * p) quotient_is, div-add-mod' whole p)

    value-is : whole - q / 4294967296 * p ≡ whole % p
    value-is = omega (arith, ap (λ (z : ℕ). z * p) quotient_is, div-add-mod' whole p)

    pub factor-is : FactorOf p (product p x (inverse_in p y)) (record { value = whole - q / 4294967296 * p; share = q % 4294967296; prime = p })
    factor-is = record { value-is = value-is ∙ same; share-is = share-is ∙ ap (share_of p) same; prime-is = refl } where
      same : whole % p ≡ product p x (inverse_in p y)
      same = ap (λ (z : ℕ). x * z % p) (sym same-16)
