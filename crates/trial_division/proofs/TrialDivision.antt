-- Trial division by numbers that leave out none but composite ones finds a divisor where there is one. Assumes nothing.
use mathlib.Core.Path.{◌≡◌, refl, ap, ◌∙◌}
use mathlib.Core.Bool.{Bool, true, false, ◌&&◌, ◌||◌, and-false}
use mathlib.Core.List.{List, [], ◌∷◌}
use Prim.Native.Nat.{ℕ, zero, suc, ◌+◌, ◌-◌, ◌*◌, ◌/◌, ◌%◌, ◌≤◌, ◌<◌, min}
use native.Mathlib.Nat.{eq-or-lt_of_le, mul_comm, mul-le-mul_left, mul-le-mul_right, mul-mod_left, div-add-mod', lt_of_mul-lt-mul_right, lt_of_not-le, dvd_of_mod-eq-zero, mod-eq-zero_of_dvd, dvd_trans}
use native.Mathlib.Omega.{arith}
use mathlib.Core.Logic.{⊎_elim}
use borrow.Author.Tests.{leb-true, ltb-true, eqb-true, le-leb}
use lib.Dec.{leb, ltb, eqb}
use Rattle.residue.specs.Prime.{Prime, no_divisor, is_prime}
use Rattle.residue.proofs.Primality.{none-divides, one-divides, clash, none-prime, prime-none, prime-true, true-prime}
use Rattle.trial_division.specs.Tables.{prime_to, proper, composite, small_primes, between, gap}

-- no number from 2 on, below n and below p, divides p
abbrev pub None : (n p : ℕ) → Type 0
None n p = (k : ℕ) → k < n → k < p → 2 ≤ k → p % k ≡ 0 → ⊥

pub both : (a b : Bool) → (a && b) ≡ true → (a ≡ true) × (b ≡ true)
both true b h = (refl, h)
both false b h = absurd (clash false h refl)

-- ---- the test as far as n

pub none_below : (n p : ℕ) → prime_to n p ≡ true → None n p
none_below n p h k l m two e = clash (no_divisor (min n p - 2) p) (both (leb 2 p) (no_divisor (min n p - 2) p) h).1 (one-divides (min n p - 2) p k two (omega arith) e)

pub above-one : (n p : ℕ) → prime_to n p ≡ true → 2 ≤ p
above-one n p h = leb-true 2 p (both (leb 2 p) (no_divisor (min n p - 2) p) h).0

pub none_true : (n p : ℕ) → 2 ≤ p → None n p → prime_to n p ≡ true
none_true n p h none = simp (le-leb 2 p h, none-divides (min n p - 2) p (λ k l two. none k (omega arith) (omega arith) two))

pub one-false : (n p k : ℕ) → 2 ≤ k → k < n → k < p → p % k ≡ 0 → prime_to n p ≡ false
one-false n p k two l m e = simp (one-divides (min n p - 2) p k two (omega arith) e, and-false)

-- below 4 the primes are the numbers above 1
pub few-primes : (p : ℕ) → p < 4 → ltb 1 p ≡ prime_to 317 p
unfolding no_divisor
few-primes zero h = refl
few-primes (suc zero) h = refl
few-primes (suc (suc zero)) h = refl
few-primes (suc (suc (suc zero))) h = refl
few-primes (suc (suc (suc (suc p)))) h = absurd (let z : ⊥ = omega arith in z)

-- 2 is the one number below 3 to try
pub odd-true : (p : ℕ) → 4 ≤ p → (p % 2 ≡ 0 → ⊥) → prime_to 3 p ≡ true
odd-true p h odd = none_true 3 p (omega arith) (λ k l m two e. let q : k ≡ 2 = omega arith in odd (rw (← q) e))

-- once the square of d is above p, no number but 1 and p divides p: of two factors one is below d
root-prime : (d p : ℕ) → 2 ≤ p → None d p → p < d * d → Prime p
root-prime d p h none over = none-prime p h (λ k m two e. none k (lt_of_not-le (λ q. other k q m e)) m two e) where
  other : (k : ℕ) → d ≤ k → k < p → p % k ≡ 0 → ⊥
  other k l m e =
      let w : p ≡ p / k * k = omega (arith, div-add-mod' p k, e) in
      let low : p / k < d = lt_of_mul-lt-mul_right d (let z : p / k * d < d * d = omega (arith, mul-le-mul_left (p / k) l, w, over) in z) in
      let big : 2 ≤ p / k = lt_of_not-le (λ q. let z : ⊥ = omega (arith, mul-le-mul_right k q, w) in z) in
      let less : p / k < p = omega (arith, mul-le-mul_left (p / k) (let z : 2 ≤ k = omega (arith, l, low, big) in z), w, big) in
      none (p / k) low less big (ap (λ (n : ℕ). n % (p / k)) (w ∙ mul_comm (p / k) k) ∙ mul-mod_left k (p / k))

-- so that nothing more is to be tried
pub at-root : (d p : ℕ) → 2 ≤ p → None d p → p < d * d → is_prime p ≡ true
at-root d p h none over = prime-true p (root-prime d p h none over)

pub past-root : (n d p : ℕ) → 2 ≤ p → None d p → p < d * d → prime_to n p ≡ true
past-root n d p h none over = none_true n p h (λ k l m two e. prime-none p (root-prime d p h none over) k m two e)

-- a number that fails as far as n is not prime
pub not-prime : (n p : ℕ) → prime_to n p ≡ false → is_prime p ≡ false
not-prime n p h = go (is_prime p) refl where
  go : (b : Bool) → is_prime p ≡ b → is_prime p ≡ false
  go false e = e
  go true e =
      let q = true-prime p e in
      absurd (clash (prime_to n p) (none_true n p q.above (λ k l. prime-none p q k)) h)

-- one that has passed as far as n is prime where n is above its root
pub passed-prime : (n p : ℕ) → prime_to n p ≡ true → p < n * n → is_prime p ≡ true
passed-prime n p h = at-root n p (above-one n p h) (none_below n p h)

-- ---- from one number to the next

-- k has a divisor that is neither 1 nor k
divisor-of : (k : ℕ) (fs : List ℕ) → composite k fs ≡ true → ((f : ℕ) → 2 ≤ f → f < k → k % f ≡ 0 → ⊥) → ⊥
unfolding composite
divisor-of k [] h none = clash false h refl
divisor-of k (f ∷ fs) h none = go (proper f k) refl (λ q. divisor-of k fs q none) h where
  go : (b : Bool) → proper f k ≡ b → (composite k fs ≡ true → ⊥) → (b || composite k fs) ≡ true → ⊥
  go true e r q =
      let one = both (leb 2 f) (ltb f k && eqb (k % f) 0) e in
      let two = both (ltb f k) (eqb (k % f) 0) one.1 in
      none f (leb-true 2 f one.0) (ltb-true f k two.0) (eqb-true (k % f) 0 two.1)
  go false e r q = r q

-- a multiple of m divides p only if m does
multiple : (m k p : ℕ) → p % k ≡ 0 → k % m ≡ 0 → p % m ≡ 0
multiple m k p e d = mod-eq-zero_of_dvd m (dvd_trans m (dvd_of_mod-eq-zero m d) (dvd_of_mod-eq-zero k e))

-- an odd d that does not divide p, and d + 1, which is even
pub next : (d p : ℕ) → 3 ≤ d → d % 2 ≡ 1 → None d p → (d < p → p % d ≡ 0 → ⊥) → None (d + 2) p
next d p three odd none here k l m two e = ⊎_elim at_least before (eq-or-lt_of_le (let z : k ≤ d + 1 = omega arith in z)) where
  before : k < d + 1 → ⊥
  before q = ⊎_elim (λ r. here (omega (arith, r, m)) (rw (← r) e)) (λ r. none k r m two e) (eq-or-lt_of_le (let z : k ≤ d = omega arith in z))

  at_least : k ≡ d + 1 → ⊥
  at_least q = none 2 (omega arith) (omega (arith, q, m)) (omega arith) (multiple 2 k p e (omega (arith, q, odd)))

-- a composite d divides p only if a smaller number does
skipped : (d p : ℕ) → 3 ≤ d → d % 2 ≡ 1 → None d p → composite d small_primes ≡ true → None (d + 2) p
skipped d p three odd none c = next d p three odd none (λ m e. divisor-of d small_primes c (λ f two l q. none f l (omega (arith, l, m)) two (multiple f d p e q)))

over-between : (m d p : ℕ) → 3 ≤ d → d % 2 ≡ 1 → None (d + 2) p → between m d ≡ true → None (d + 2 * suc m) p
unfolding between
over-between zero d p three odd none h = λ k l. none k (omega arith)
over-between (suc m) d p three odd none h =
    let b = both (composite (d + 2) small_primes) (between m (d + 2)) h in
    let rest = over-between m (d + 2) p (omega arith) (omega (arith, odd)) (skipped (d + 2) p (omega arith) (omega (arith, odd)) none b.0) b.1 in
    λ k l. rest k (omega arith)

-- a d that does not divide p, and the gap after it
pub over-gap : (g d p : ℕ) → 3 ≤ d → d % 2 ≡ 1 → None d p → (p % d ≡ 0 → ⊥) → gap g d ≡ true → None (d + 2 * g) p
unfolding gap
over-gap zero d p three odd none here h = absurd (clash false h refl)
over-gap (suc m) d p three odd none here h = over-between m d p three odd (next d p three odd none (λ l. here)) h

pub gap-some : (g d : ℕ) → gap g d ≡ true → 1 ≤ g
unfolding gap
gap-some zero d h = absurd (clash false h refl)
gap-some (suc m) d h = omega arith
