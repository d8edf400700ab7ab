-- Words, layout and orders as document 01 has them, without weights. Theorems `unit-word`, `unit-layout` and `unit-compare` say that weights of 1 give these; no code has them. Assumes nothing.
use Prim.Native.Nat.{ℕ, ◌+◌, ◌*◌, ◌/◌, ◌^◌, compare, Ordering}
use Rattle.std.specs.Prelude.{◌≡◌, List, drop}
use Rattle.monomial.specs.declared.order.Order.{Order}
use Rattle.monomial.specs.declared.order.Order.TheVariants.{Lex, DegLex, DegRevLex}
use Rattle.monomial.specs.Exponents.{degree, or_else, lex, rev_lex}
use Rattle.monomial.specs.Layout.{of_bytes, six, upward, fields, exponents, Below}

-- lp: Lex. Dp: the degree, then Lex. dp: the degree, then RevLex
abbrev pub compare_by_degree : Order → List ℕ → List ℕ → Ordering
compare_by_degree Lex α β = lex α β
compare_by_degree DegLex α β = or_else (compare (degree α) (degree β)) (lex α β)
compare_by_degree DegRevLex α β = or_else (compare (degree α) (degree β)) (rev_lex α β)

-- "Bits 48 to 63 hold the degree, the sum of the exponents. Six 8-bit fields lie below."
abbrev pub word_by_degree : Order → List ℕ → ℕ
word_by_degree o α = degree α * 2 ^ 48 + of_bytes (upward o (six α))

pub record LayoutByDegree (o : Order) (n w : ℕ) : Type 0 where
  pub degree-is : w / 2 ^ 48 ≡ degree (exponents o n w)
  pub tops : Below 128 (fields o w)
  pub beyond : Below 1 (drop n (fields o w))
