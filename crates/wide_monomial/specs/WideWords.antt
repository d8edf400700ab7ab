-- What is done with monomials of two words, as operations on numbers; the product is the sum, the quotient the difference. The theorems of `proofs/` say that on monomials of the layout they are those on exponents. Assumes nothing.
use Rattle.std.specs.Prelude.{ℕ, ◌/◌, ◌^◌, ◌<◌, Bool, not, List, ◌++◌}
use Rattle.monomial.specs.Exponents.{product, divides}
use Rattle.monomial.specs.Layout.{bytes, Below, below}
use Rattle.monomial.specs.Words.{first_in, second_in}

-- the twelve fields as they lie, those of the first word first
abbrev pub wide_bytes : ℕ → List ℕ
wide_bytes x = bytes 6 (first_in x) ++ bytes 6 (second_in x)

-- What the arithmetic below asks of a monomial: the top bit of each field is 0, and so are bit 63 of the first word and the 16 top bits of the second. Every monomial of the layout is so (theorem `wide-packed`).
pub record WidePacked (x : ℕ) : Type 0 where
  pub tops : Below 128 (wide_bytes x)
  pub room : first_in x < 2 ^ 63
  pub second-small : x / 2 ^ 64 < 2 ^ 48

-- y divides x: no field of y is above that of x, in either word
abbrev pub divides_wide : ℕ → ℕ → Bool
divides_wide y x = divides (wide_bytes y) (wide_bytes x)

-- the product of x and y has an exponent over 127, in either word
abbrev pub over_wide : ℕ → ℕ → Bool
over_wide x y = not (below 128 (product (wide_bytes x) (wide_bytes y)))
