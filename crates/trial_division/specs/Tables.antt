-- Trial division by tables of primes: how far a number has been tested, and what a table must keep so that no prime is left out. Assumes nothing.
use Rattle.std.specs.Prelude.{ℕ, zero, suc, ◌+◌, ◌-◌, ◌*◌, ◌/◌, ◌%◌, ◌^◌, ◌≤◌, min, ◌≡◌, Bool, true, false, ◌&&◌, ◌||◌, List, [], ◌∷◌, leb, ltb, eqb, length, get_or}
use Rattle.residue.specs.Prime.{no_divisor}

-- p is above 1, and no number from 2 on, below n and below p, divides it
abbrev pub prime_to : (n p : ℕ) → Bool
prime_to n p = leb 2 p && no_divisor (min n p - 2) p

-- f divides k, and is neither 1 nor k
abbrev pub proper : (f k : ℕ) → Bool
proper f k = leb 2 f && (ltb f k && eqb (k % f) 0)

-- one of these divides k, and is neither 1 nor k
unfoldable pub composite : ℕ → List ℕ → Bool
composite k [] = false
composite k (f ∷ fs) = proper f k || composite k fs

-- the odd primes below 256
abbrev pub small_primes : List ℕ
small_primes = 3 ∷ 5 ∷ 7 ∷ 11 ∷ 13 ∷ 17 ∷ 19 ∷ 23 ∷ 29 ∷ 31 ∷ 37 ∷ 41 ∷ 43 ∷ 47 ∷ 53 ∷ 59 ∷ 61 ∷ 67 ∷ 71 ∷ 73 ∷ 79 ∷ 83 ∷ 89 ∷ 97 ∷ 101 ∷ 103 ∷ 107 ∷ 109 ∷ 113 ∷ 127 ∷ 131 ∷ 137 ∷ 139 ∷ 149 ∷ 151 ∷ 157 ∷ 163 ∷ 167 ∷ 173 ∷ 179 ∷ 181 ∷ 191 ∷ 193 ∷ 197 ∷ 199 ∷ 211 ∷ 223 ∷ 227 ∷ 229 ∷ 233 ∷ 239 ∷ 241 ∷ 251 ∷ []

-- each of the m odd numbers after d has a proper divisor in that list
unfoldable pub between : (m d : ℕ) → Bool
between zero d = true
between (suc m) d = composite (d + 2) small_primes && between m (d + 2)

-- from d, by half the gap g, to the next number to try: what lies between is composite
unfoldable pub gap : (g d : ℕ) → Bool
gap zero d = false
gap (suc m) d = between m d

-- a number to begin with: odd, from 3 on, and at most one past the root of every number of 32 bits
pub record Odd (from : ℕ) : Type 0 where
  pub three : 3 ≤ from
  pub odd : from % 2 ≡ 1
  pub small : from ≤ 65537

-- ---- a table of half gaps

-- the number that the half gaps lead to from d
unfoldable pub reached : (d : ℕ) → List ℕ → ℕ
reached d [] = d
reached d (g ∷ gs) = reached (d + 2 * g) gs

-- each of them leaves out composite numbers only
unfoldable pub gaps_hold : (d : ℕ) → List ℕ → Bool
gaps_hold d [] = true
gaps_hold d (g ∷ gs) = gap g d && gaps_hold (d + 2 * g) gs

-- the digits of numbers to the base 16, 16 of each, from the lowest up: digit k of them all, the n from digit k on, and all
abbrev pub digit_at : (k : ℕ) → List ℕ → ℕ
digit_at k ws = get_or ws (k / 16) 0 / 2 ^ (4 * (k % 16)) % 16

unfoldable pub digits_from : (n k : ℕ) → List ℕ → List ℕ
digits_from zero k ws = []
digits_from (suc n) k ws = digit_at k ws ∷ digits_from n (k + 1) ws

abbrev pub digits : List ℕ → List ℕ
digits ws = digits_from (16 * length ws) 0 ws

-- what a table of half gaps keeps, from the number `from` on
pub record Gaps (from : ℕ) (gaps : List ℕ) : Type 0 where
  pub three : 3 ≤ from
  pub odd : from % 2 ≡ 1
  pub end : reached from gaps ≤ 65537
  pub holds : gaps_hold from gaps ≡ true

-- ---- a table of half gaps and inverses: for each number that is tried its inverse modulo 2 ^ 26, plus 2 ^ 26 times half the gap to the next

unfoldable pub gaps_of : List ℕ → List ℕ
gaps_of [] = []
gaps_of (w ∷ ws) = w / 67108864 ∷ gaps_of ws

-- each entry has the inverse of its number
unfoldable pub inverses_hold : (d : ℕ) → List ℕ → Bool
inverses_hold d [] = true
inverses_hold d (w ∷ ws) = eqb (d * w % 67108864) 1 && inverses_hold (d + 2 * (w / 67108864)) ws

-- what such a table keeps, from the number `from` on; it is at least 2 ^ 6, so that every quotient of a number of 32 bits is below 2 ^ 26
pub record Inverses (from : ℕ) (table : List ℕ) : Type 0 where
  pub large : 64 ≤ from
  pub gaps : Gaps from (gaps_of table)
  pub holds : inverses_hold from table ≡ true
