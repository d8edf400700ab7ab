-- The numbers by which monomials of two words are compared: two keys, the first above the second. Assumes nothing.
use Rattle.std.specs.Prelude.{ℕ, ◌+◌, ◌-◌, ◌*◌, ◌/◌, ◌%◌, ◌^◌, min}
use Rattle.monomial.specs.declared.order.Order.{Order}
use Rattle.monomial.specs.declared.order.Order.TheVariants.{Lex, DegLex, DegRevLex}
use Rattle.monomial.specs.Words.{low, high, first_in, second_in}
use Rattle.wide_monomial.specs.Wide.{paired}

-- a word, or the low 48 bits of one, the other way round
abbrev pub turned_word : ℕ → ℕ
turned_word w = 2 ^ 64 - 1 - w

abbrev pub turned_fields : ℕ → ℕ
turned_fields w = 2 ^ 48 - 1 - low w

-- The keys of the words a and b. lp: the fields of the first word, the second word, the degree. Dp: the words. dp: the degree, the second word the other way round, the fields of the first the other way round.
abbrev pub first_key : Order → (a b : ℕ) → ℕ
first_key Lex a b = low a * 2 ^ 16 + high b
first_key DegLex a b = a
first_key DegRevLex a b = high a * 2 ^ 48 + turned_word b / 2 ^ 16

abbrev pub second_key : Order → (a b : ℕ) → ℕ
second_key Lex a b = low b * 2 ^ 16 + high a
second_key DegLex a b = b
second_key DegRevLex a b = turned_word b % 2 ^ 16 * 2 ^ 48 + turned_fields a

-- the words that have the keys a and b
abbrev pub first_word : Order → (a b : ℕ) → ℕ
first_word Lex a b = b % 2 ^ 16 * 2 ^ 48 + a / 2 ^ 16
first_word DegLex a b = a
first_word DegRevLex a b = high a * 2 ^ 48 + turned_fields b

abbrev pub second_word : Order → (a b : ℕ) → ℕ
second_word Lex a b = a % 2 ^ 16 * 2 ^ 48 + b / 2 ^ 16
second_word DegLex a b = b
second_word DegRevLex a b = turned_word (low a * 2 ^ 16 + high b)

-- The key of a monomial of two words. Comparing keys is comparing monomials (theorem `wide-key-compare`); each is one-to-one on all pairs of 64-bit words (theorem `wide-key-one-to-one`).
abbrev pub wide_key_of : Order → ℕ → ℕ
wide_key_of o x = first_key o (first_in x) (second_in x) * 2 ^ 64 + second_key o (first_in x) (second_in x)

-- the monomial that has a key
abbrev pub wide_unkey : Order → ℕ → ℕ
wide_unkey o k = paired (first_word o (k / 2 ^ 64) (k % 2 ^ 64)) (second_word o (k / 2 ^ 64) (k % 2 ^ 64))

-- The same (theorem `wide-of-key`) in a way that keeps the order of any numbers (theorem `from-wide-key-compare`): what is over the largest key goes above two words, as for one word.
abbrev pub from_wide_key : Order → ℕ → ℕ
from_wide_key o k = wide_unkey o (min k (2 ^ 128 - 1)) + 2 ^ 64 * (2 ^ 64 * (k - min k (2 ^ 128 - 1)))
