-- Comparison of natural numbers: its three outcomes, and what a comparison of digits is. Assumes nothing.
use mathlib.Core.Path.{◌≡◌, refl, sym, ap, ◌∙◌}
use Prim.Native.Nat.{ℕ, zero, suc, ◌+◌, ◌*◌, ◌<◌, zero-le, suc-le-suc, compare, Ordering}
use Prim.Native.Nat.compare
use native.Mathlib.Nat.{mul-le-mul_right}
use native.Mathlib.Omega.{arith}
use Rattle.monomial.specs.Exponents.{or_else}

-- each outcome with its fact
pub data Tri (a b : ℕ) : Type 0 where
  less : a < b → compare a b ≡ Ordering.lt → Tri a b
  same : a ≡ b → compare a b ≡ Ordering.eq → Tri a b
  more : b < a → compare a b ≡ Ordering.gt → Tri a b

next : {a b : ℕ} → Tri a b → Tri (suc a) (suc b)
next {a} {b} (less h e) = less (suc-le-suc h) (compare.suc-suc a b ∙ e)
next {a} {b} (same h e) = same (ap suc h) (compare.suc-suc a b ∙ e)
next {a} {b} (more h e) = more (suc-le-suc h) (compare.suc-suc a b ∙ e)

pub tri : (a b : ℕ) → Tri a b
tri zero zero = same refl compare.zero-zero
tri zero (suc b) = less (suc-le-suc zero-le) (compare.zero-suc b)
tri (suc a) zero = more (suc-le-suc zero-le) (compare.suc-zero a)
tri (suc a) (suc b) = next (tri a b)

-- ---- the outcome from the fact
pub lt-compare : {a b : ℕ} → a < b → compare a b ≡ Ordering.lt
lt-compare {a} {b} h = go (tri a b)
  where
    go : Tri a b → compare a b ≡ Ordering.lt
    go (less k e) = e
    go (same k e) = absurd (omega arith)
    go (more k e) = absurd (omega arith)

pub eq-compare : {a b : ℕ} → a ≡ b → compare a b ≡ Ordering.eq
eq-compare {a} {b} h = go (tri a b)
  where
    go : Tri a b → compare a b ≡ Ordering.eq
    go (less k e) = absurd (omega arith)
    go (same k e) = e
    go (more k e) = absurd (omega arith)

pub gt-compare : {a b : ℕ} → b < a → compare a b ≡ Ordering.gt
gt-compare {a} {b} h = go (tri a b)
  where
    go : Tri a b → compare a b ≡ Ordering.gt
    go (less k e) = absurd (omega arith)
    go (same k e) = absurd (omega arith)
    go (more k e) = e

-- the fact from the outcome "equal"
pub compare_same : (a b : ℕ) → compare a b ≡ Ordering.eq → a ≡ b
compare_same a b h = go (tri a b)
  where
    go : Tri a b → a ≡ b
    go (less k e) = let z : ◌≡◌ {A = ℕ} 0 1 = cc in omega arith
    go (same k e) = k
    go (more k e) = let z : ◌≡◌ {A = ℕ} 0 1 = cc in omega arith

-- and from "larger"
pub compare-larger : (a b : ℕ) → compare a b ≡ Ordering.gt → b < a
compare-larger a b h = go (tri a b)
  where
    go : Tri a b → b < a
    go (less k e) = let z : ◌≡◌ {A = ℕ} 0 1 = cc in omega arith
    go (same k e) = let z : ◌≡◌ {A = ℕ} 0 1 = cc in omega arith
    go (more k e) = k

-- x and y stand to each other as a and b do
pub carried : (a b x y : ℕ) → (a < b → x < y) → (a ≡ b → x ≡ y) → (b < a → y < x) → compare x y ≡ compare a b
carried a b x y f g h = go (tri a b)
  where
    go : Tri a b → compare x y ≡ compare a b
    go (less k e) = lt-compare (f k) ∙ sym e
    go (same k e) = eq-compare (g k) ∙ sym e
    go (more k e) = gt-compare (h k) ∙ sym e

-- the same number added to both
pub compare-add : (k a b : ℕ) → compare (k + a) (k + b) ≡ compare a b
compare-add k a b = carried a b (k + a) (k + b) (λ h. omega arith) (λ h. omega arith) (λ h. omega arith)

-- two digits: the high ones decide first
pub compare-digits : (B a b r s : ℕ) → r < B → s < B → compare (a * B + r) (b * B + s) ≡ or_else (compare a b) (compare r s)
compare-digits B a b r s hr hs = go (tri a b)
  where
    go : Tri a b → compare (a * B + r) (b * B + s) ≡ or_else (compare a b) (compare r s)
    go (less k e) = lt-compare (omega (arith, mul-le-mul_right B k)) ∙ sym (ap (λ (o : Ordering). or_else o (compare r s)) e)
    go (same k e) = ap (λ (n : ℕ). compare (n * B + r) (b * B + s)) k ∙ (compare-add (b * B) r s ∙ sym (ap (λ (o : Ordering). or_else o (compare r s)) e))
    go (more k e) = gt-compare (omega (arith, mul-le-mul_right B k)) ∙ sym (ap (λ (o : Ordering). or_else o (compare r s)) e)
