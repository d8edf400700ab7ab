-- The monomials of a slice, as a list of numbers: with one word to a place they are the words, with two a place is the number that its two words are, or that its two keys stand for. Assumes nothing.
use Rattle.std.specs.Prelude.{ℕ, ◌+◌, ◌*◌, ◌^◌, ◌≡◌, List, [], ◌∷◌, length}
use Rattle.monomial.specs.declared.order.Order.{Order}
use Rattle.monomial.specs.Words.{key_of, from_key}
use Rattle.wide_monomial.specs.declared.width.Width.{Width}
use Rattle.wide_monomial.specs.declared.width.Width.TheVariants.{One, Two}
use Rattle.wide_monomial.specs.Widths.{words_each}
use Rattle.wide_monomial.specs.Wide.{paired}
use Rattle.wide_monomial.specs.WideKeys.{wide_key_of, from_wide_key}

-- two numbers to a place, put together by f; a last number alone is no place
unfoldable pub pairs_by : (ℕ → ℕ → ℕ) → List ℕ → List ℕ
pairs_by f [] = []
pairs_by f (a ∷ []) = []
pairs_by f (a ∷ (b ∷ ws)) = f a b ∷ pairs_by f ws

-- the number that two keys stand for: the first is above the second
abbrev pub keyed : (first second : ℕ) → ℕ
keyed first second = first * 2 ^ 64 + second

-- the monomials of words, and the keys of keys
abbrev pub word_pairs : List ℕ → List ℕ
word_pairs ws = pairs_by paired ws

abbrev pub key_pairs : List ℕ → List ℕ
key_pairs ks = pairs_by keyed ks

-- the same by width: with one word to a place it is the list itself
abbrev pub numbers_by : (ℕ → ℕ → ℕ) → Width → List ℕ → List ℕ
numbers_by f One ws = ws
numbers_by f Two ws = pairs_by f ws

abbrev pub word_numbers : Width → List ℕ → List ℕ
word_numbers w ws = numbers_by paired w ws

abbrev pub key_numbers : Width → List ℕ → List ℕ
key_numbers w ks = numbers_by keyed w ks

-- there are whole places alone
abbrev pub Whole : Width → List ℕ → Type 0
Whole w ws = length ws ≡ words_each w * length (key_numbers w ws)

-- the key of a monomial, and the monomial of a key, by width
abbrev pub key_by : Width → Order → ℕ → ℕ
key_by One o x = key_of o x
key_by Two o x = wide_key_of o x

abbrev pub from_key_by : Width → Order → ℕ → ℕ
from_key_by One o k = from_key o k
from_key_by Two o k = from_wide_key o k
