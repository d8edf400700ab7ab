-- What is done with words: comparison and divisibility, as operations on numbers. The theorems of `proofs/` say that on words of the layout they are those on exponents. Assumes nothing.
use Prim.Native.Nat.{ℕ, ◌+◌, ◌-◌, ◌*◌, ◌/◌, ◌%◌, ◌^◌, ◌<◌, min, compare, Ordering}
use Rattle.std.specs.Prelude.{Bool}
use Rattle.std.specs.declared.cmp.Ordering as cmp
use Rattle.std.specs.declared.cmp.Ordering.TheVariants.{Less, Equal, Greater}
use Rattle.monomial.specs.declared.order.Order.{Order}
use Rattle.monomial.specs.declared.order.Order.TheVariants.{Lex, DegLex, DegRevLex}
use Rattle.monomial.specs.Exponents.{or_else, divides}
use Rattle.monomial.specs.Layout.{bytes, Below}

-- the six fields, and the degree above them
abbrev pub low : ℕ → ℕ
low w = w % 2 ^ 48

abbrev pub high : ℕ → ℕ
high w = w / 2 ^ 48

-- The parts of a monomial of one word or two. One word is the number itself; two words are first + 2 ^ 64 * second, which is one word where the second is 0. Above two words lies nothing of a monomial.
abbrev pub degree_in : ℕ → ℕ
degree_in x = x / 2 ^ 48 % 2 ^ 16

abbrev pub first_in : ℕ → ℕ
first_in x = x % 2 ^ 64

abbrev pub second_in : ℕ → ℕ
second_in x = x / 2 ^ 64 % 2 ^ 64

abbrev pub over_in : ℕ → ℕ
over_in x = x / 2 ^ 64 / 2 ^ 64

-- How the monomial x stands to y. lp goes by the fields of the first word, then the second word: where both are alike, so is the degree of a monomial of the layout. Dp goes by the first word, then the second. dp goes by the degree, then the second word and then the fields of the first, both the other way round.
abbrev pub compare_two : Order → ℕ → ℕ → Ordering
compare_two Lex x y = or_else (compare (low x) (low y)) (or_else (compare (second_in x) (second_in y)) (compare (degree_in x) (degree_in y)))
compare_two DegLex x y = or_else (compare (first_in x) (first_in y)) (compare (second_in x) (second_in y))
compare_two DegRevLex x y = or_else (compare (degree_in x) (degree_in y)) (or_else (compare (second_in y) (second_in x)) (compare (low y) (low x)))

-- The same as a total order on all numbers. Comparing first what no monomial has leaves room at the top of each order, for numbers over the largest key.
abbrev pub compare_words : Order → ℕ → ℕ → Ordering
compare_words Lex x y = or_else (compare (over_in x) (over_in y)) (compare_two Lex x y)
compare_words DegLex x y = or_else (compare (over_in x) (over_in y)) (compare_two DegLex x y)
compare_words DegRevLex x y = or_else (compare (over_in x) (over_in y)) (compare_two DegRevLex x y)

-- The same on one word (theorem `one_word`). lp goes by the fields and then the degree, Dp by the degree and then the fields, dp by the degree and then the fields the other way round.
abbrev pub compare_one : Order → ℕ → ℕ → Ordering
compare_one Lex x y = or_else (compare (low x) (low y)) (compare (high x) (high y))
compare_one DegLex x y = compare x y
compare_one DegRevLex x y = or_else (compare (high x) (high y)) (compare (low y) (low x))

-- The number by which the code compares a word: for lp its fields above its degree, for Dp the word itself, for dp the word with its 48 low bits inverted. Each is one-to-one on all 64-bit words (theorem `key-one-to-one`).
abbrev pub key_of : Order → ℕ → ℕ
key_of Lex w = low w * 2 ^ 16 + high w
key_of DegLex w = w
key_of DegRevLex w = high w * 2 ^ 48 + (2 ^ 48 - 1 - low w)

-- the word that has a key
abbrev pub unkey : Order → ℕ → ℕ
unkey Lex k = k % 2 ^ 16 * 2 ^ 48 + k / 2 ^ 16
unkey DegLex k = k
unkey DegRevLex k = high k * 2 ^ 48 + (2 ^ 48 - 1 - low k)

-- The same (theorem `word-of-key`) in a way that keeps the order of any numbers, not only of those of 64 bits (theorem `from-key-compare`): what is over the largest key goes above two words.
abbrev pub from_key : Order → ℕ → ℕ
from_key o k = unkey o (min k (2 ^ 64 - 1)) + 2 ^ 64 * (2 ^ 64 * (k - min k (2 ^ 64 - 1)))

-- the comparison as std's `Ordering`, which the code answers
abbrev pub answer : Ordering → cmp.Ordering
answer Ordering.lt = Less
answer Ordering.eq = Equal
answer Ordering.gt = Greater

-- What the word arithmetic below asks of a word: the top bit of each field is 0, and so is bit 63. Every word of the layout is so (theorem `layout-packed`).
pub record Packed (w : ℕ) : Type 0 where
  pub tops : Below 128 (bytes 6 w)
  pub room : w < 2 ^ 63

-- the word y divides the word x: no field of y is above that of x
abbrev pub divides_word : ℕ → ℕ → Bool
divides_word y x = divides (bytes 6 y) (bytes 6 x)
