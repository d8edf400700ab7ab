-- The integers modulo p, each named by its number below p.
use Rattle.std.specs.Prelude.{ℕ, zero, suc, ◌+◌, ◌-◌, ◌*◌, ◌%◌, ◌≤◌, true, false, eqb}

-- the moduli that the functions take: from 2 up to the largest number below 2 ^ 31
pub record Modulus (p : ℕ) : Type 0 where
  pub two : 2 ≤ p
  pub limit : p ≤ 2147483647

-- a + b modulo p
abbrev pub sum : (p a b : ℕ) → ℕ
sum p a b = (a + b) % p

-- the number that makes 0 with a modulo p
abbrev pub negative : (p a : ℕ) → ℕ
negative p a = (p - a % p) % p

-- a times b modulo p
abbrev pub product : (p a b : ℕ) → ℕ
product p a b = a * b % p

-- the largest x below n with a * x ≡ 1 modulo p, and 0 where there is none
unfoldable pub inverse_below : (n p a : ℕ) → ℕ
inverse_below zero p a = 0
inverse_below (suc x) p a = elim (eqb (a * x % p) 1) [ true ↦ x | false ↦ inverse_below x p a ]

-- the inverse of a modulo p: the x below p with a * x ≡ 1 modulo p, and 0 where there is none
unfoldable pub inverse_of : (p a : ℕ) → ℕ
inverse_of p a = inverse_below p p a
