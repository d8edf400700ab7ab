-- A monomial as one 64-bit word (document 01, "Terms"): the word of given exponents, the exponents of a word, and which words are of the layout. Assumes nothing.
use Rattle.std.specs.Prelude.{ℕ, zero, suc, ◌+◌, ◌-◌, ◌*◌, ◌/◌, ◌%◌, ◌^◌, ◌<◌, ◌≤◌, ◌≡◌, Bool, true, ◌&&◌, List, [], ◌∷◌, ◌++◌, reverse, ltb, eqb, length, take, drop, replicate}
use Rattle.monomial.specs.declared.order.Order.{Order}
use Rattle.monomial.specs.declared.order.Order.TheVariants.{Lex, DegLex, DegRevLex}
use Rattle.monomial.specs.Exponents.{weighted}

-- the k lowest bytes of w, from the lowest up
unfoldable pub bytes : ℕ → ℕ → List ℕ
bytes zero w = []
bytes (suc k) w = w % 256 ∷ bytes k (w / 256)

-- the number that has these bytes, from the lowest up
abbrev pub of_bytes : List ℕ → ℕ
of_bytes [] = 0
of_bytes (b ∷ bs) = b + 256 * of_bytes bs

-- Fields of variables beyond n are 0.
abbrev pub six : List ℕ → List ℕ
six α = α ++ replicate (6 - length α) 0

-- The six fields from x1's on as they lie from bit 0 up, and back. "Orders 1 and 2 put x1 in bits 40 to 47, x2 in 32 to 39, and so on down. Order 3 puts x1 in bits 0 to 7, x2 in 8 to 15, and so on up."
abbrev pub upward : Order → List ℕ → List ℕ
upward Lex fs = reverse fs
upward DegLex fs = reverse fs
upward DegRevLex fs = fs

-- the lowest bit of the field of variable i, from 0, in the same words
abbrev pub low_bit : Order → ℕ → ℕ
low_bit Lex i = 40 - 8 * i
low_bit DegLex i = 40 - 8 * i
low_bit DegRevLex i = 8 * i

-- "Bits 48 to 63 hold the degree, the sum of the exponents. Six 8-bit fields lie below.", and of document 02 "the degree field holds the weighted sum"
unfoldable pub word_of : Order → (weights : List ℕ) → List ℕ → ℕ
word_of o vs α = weighted vs α * 2 ^ 48 + of_bytes (upward o (six α))

-- the six fields of a word, that of x1 first
unfoldable pub fields : Order → ℕ → List ℕ
fields o w = upward o (bytes 6 w)

-- the exponents of a word in n variables
abbrev pub exponents : Order → ℕ → ℕ → List ℕ
exponents o n w = take n (fields o w)

-- each number is below k: as a statement, and as a test
abbrev pub Below : ℕ → List ℕ → Type 0
Below k [] = Unit {0}
Below k (a ∷ α) = (a < k) × Below k α

abbrev pub below : ℕ → List ℕ → Bool
below k [] = true
below k (a ∷ α) = ltb a k && below k α

-- w is of the layout, in order o and n variables with these weights
pub record Layout (o : Order) (n : ℕ) (weights : List ℕ) (w : ℕ) : Type 0 where
  -- bits 48 to 63 hold the weighted degree
  pub degree-is : w / 2 ^ 48 ≡ weighted weights (exponents o n w)
  -- "The top bit of each field is 0"
  pub tops : Below 128 (fields o w)
  -- "fields of variables beyond n are 0"
  pub beyond : Below 1 (drop n (fields o w))

-- the same as a test: refusal 5 where it is false
unfoldable pub in_layout : Order → (n : ℕ) (weights : List ℕ) (w : ℕ) → Bool
in_layout o n vs w = below 128 (fields o w) && (below 1 (drop n (fields o w)) && eqb (w / 2 ^ 48) (weighted vs (exponents o n w)))

-- weights that a word of weights holds: six, each a byte
pub record WeightsFit (weights : List ℕ) : Type 0 where
  pub six-are : length weights ≡ 6
  pub bytes-are : Below 256 weights

-- the bits of the fields of variables beyond n: under orders 1 and 2 they lie below the others, under order 3 above
abbrev pub beyond_bits : Order → (n : ℕ) → ℕ
beyond_bits Lex n = 2 ^ (48 - 8 * n) - 1
beyond_bits DegLex n = 2 ^ (48 - 8 * n) - 1
beyond_bits DegRevLex n = 2 ^ 48 - 2 ^ (8 * n)

-- r is whether w is of the layout, for each order, number of variables and weights that have these bits beyond and this word of weights
abbrev pub TestsLayout : (beyond v w : ℕ) (r : Bool) → Type 0
TestsLayout beyond v w r = (o : Order) (n : ℕ) → n ≤ 6 → beyond ≡ beyond_bits o n → r ≡ in_layout o n (fields o v) w
