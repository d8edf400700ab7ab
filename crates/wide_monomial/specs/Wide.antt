-- A monomial of two words: up to twelve exponents. The first word has x1 to x6 and the degree over all, the second x7 to x12. As a number it is first + 2 ^ 64 * second. Assumes nothing.
use Rattle.std.specs.Prelude.{ℕ, ◌+◌, ◌-◌, ◌*◌, ◌/◌, ◌^◌, ◌<◌, ◌≤◌, min, ◌≡◌, Bool, ◌&&◌, List, ◌++◌, ltb, eqb, length, take, drop}
use Rattle.monomial.specs.declared.order.Order.{Order}
use Rattle.monomial.specs.Exponents.{weighted}
use Rattle.monomial.specs.Layout.{of_bytes, six, upward, fields, Below, below, beyond_bits}
use Rattle.monomial.specs.Words.{degree_in, first_in, second_in}

-- the number that two words are
abbrev pub paired : (first second : ℕ) → ℕ
paired first second = first + 2 ^ 64 * second

-- The monomial with these exponents: the first word as one word is, with the degree over all twelve; the second with x7 in the place of x1, and so on, and no degree.
unfoldable pub wide_of : Order → (weights : List ℕ) → List ℕ → ℕ
wide_of o vs α = paired (weighted vs α * 2 ^ 48 + of_bytes (upward o (six (take 6 α)))) (of_bytes (upward o (six (drop 6 α))))

-- the twelve fields, that of x1 first
abbrev pub wide_fields : Order → ℕ → List ℕ
wide_fields o x = fields o (first_in x) ++ fields o (second_in x)

-- the exponents in n variables
abbrev pub wide_exponents : Order → ℕ → ℕ → List ℕ
wide_exponents o n x = take n (wide_fields o x)

-- x is of the layout, in order o and n variables with these weights
pub record WideLayout (o : Order) (n : ℕ) (weights : List ℕ) (x : ℕ) : Type 0 where
  -- bits 48 to 63 of the first word hold the weighted degree over all variables
  pub degree-is : degree_in x ≡ weighted weights (wide_exponents o n x)
  -- the top bit of each field is 0
  pub tops : Below 128 (wide_fields o x)
  -- fields of variables beyond n are 0
  pub beyond : Below 1 (drop n (wide_fields o x))
  -- the top 16 bits of the second word are 0, and above it lies nothing
  pub second-small : x / 2 ^ 64 < 2 ^ 48

-- the same as a test
unfoldable pub in_wide : Order → (n : ℕ) (weights : List ℕ) (x : ℕ) → Bool
in_wide o n vs x = below 128 (wide_fields o x) && (below 1 (drop n (wide_fields o x)) && (ltb (x / 2 ^ 64) (2 ^ 48) && eqb (degree_in x) (weighted vs (wide_exponents o n x))))

-- weights that two words of weights hold: twelve, each a byte
pub record WideWeights (weights : List ℕ) : Type 0 where
  pub twelve-are : length weights ≡ 12
  pub bytes-are : Below 256 weights

-- how many of n variables are in the first word, and in the second
abbrev pub in_first : ℕ → ℕ
in_first n = min n 6

abbrev pub in_second : ℕ → ℕ
in_second n = n - 6

-- r is whether the fields of the word w have their top bits 0 and those beyond n are 0, for each order and number of variables that has these bits beyond
abbrev pub TestsClear : (b w : ℕ) (r : Bool) → Type 0
TestsClear b w r = (o : Order) (n : ℕ) → n ≤ 6 → b ≡ beyond_bits o n → r ≡ (below 128 (fields o w) && below 1 (drop n (fields o w)))

-- r is whether x is of the layout, for each order, number of variables and weights that have these bits beyond, b in the first word and c in the second, and these words of weights
abbrev pub TestsWide : (b c u v x : ℕ) (r : Bool) → Type 0
TestsWide b c u v x r = (o : Order) (n : ℕ) → n ≤ 12 → b ≡ beyond_bits o (in_first n) → c ≡ beyond_bits o (in_second n) → r ≡ in_wide o n (fields o u ++ fields o v) x
