-- The answers as numbers, and the tests before a call. Assumes nothing.
use Rattle.std.specs.Prelude.{ℕ, ◌+◌, ◌^◌, Bool, ◌&&◌, List, leb, ltb, eqb, length}
use Rattle.limits.specs.Limits.{weight_count}
use Rattle.std.specs.declared.cmp.Ordering.{Ordering}
use Rattle.std.specs.declared.cmp.Ordering.TheVariants.{Less, Equal, Greater}
use Rattle.monomial.specs.Layout.{bytes, below}

abbrev pub comparison_number : Ordering → ℕ
comparison_number Less = 0
comparison_number Equal = 1
comparison_number Greater = 2

-- fit for word arithmetic: no field's top bit is set, and bit 63 is not
unfoldable pub packed : ℕ → Bool
packed w = below 128 (bytes 6 w) && ltb w (2 ^ 63)

-- six weights, each at most `most`
unfoldable pub weights_fit : (most : ℕ) (weights : List ℕ) → Bool
weights_fit most vs = eqb (length vs) weight_count && below (most + 1) vs

-- p is a modulus, and a and b are below it
unfoldable pub able : (p a b : ℕ) → Bool
able p a b = leb 2 p && (leb p 2147483647 && (ltb a p && ltb b p))
