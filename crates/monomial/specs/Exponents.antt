-- Monomials by their exponents: a list of n numbers, that of x1 first. Degree and weighted degree, product, quotient, divisibility and the three orders (document 000, section 2.1), on exponents alone. Assumes nothing.
use Prim.Native.Nat.{ℕ, ◌+◌, ◌-◌, ◌*◌, ◌<◌, compare, Ordering}
use Rattle.std.specs.Prelude.{◌≡◌, Bool, true, false, ◌&&◌, List, [], ◌∷◌, leb, eqb, length, get_or, replicate}
use Rattle.monomial.specs.declared.order.Order.{Order}
use Rattle.monomial.specs.declared.order.Order.TheVariants.{Lex, DegLex, DegRevLex}

-- the sum of the exponents
abbrev pub degree : List ℕ → ℕ
degree [] = 0
degree (a ∷ α) = a + degree α

-- the weighted degree: the sum of the exponents, each times the weight of its variable (weights of x1, x2, .. in turn)
abbrev pub weighted : (weights α : List ℕ) → ℕ
weighted [] α = 0
weighted (v ∷ vs) [] = 0
weighted (v ∷ vs) (a ∷ α) = v * a + weighted vs α

-- six weights of 1: "Known results in 01 are read with weights of 1."
abbrev pub ones : List ℕ
ones = replicate 6 1

-- each weight is at least 1
abbrev pub Positive : (weights : List ℕ) → Type 0
Positive [] = Unit {0}
Positive (v ∷ vs) = (0 < v) × Positive vs

-- f of the two exponents of each variable
abbrev pub each : (ℕ → ℕ → ℕ) → List ℕ → List ℕ → List ℕ
each f [] β = []
each f (a ∷ α) [] = []
each f (a ∷ α) (b ∷ β) = f a b ∷ each f α β

-- the monomial 1 in n variables
abbrev pub one : ℕ → List ℕ
one n = replicate n 0

abbrev pub product : List ℕ → List ℕ → List ℕ
product α β = each (λ a b. a + b) α β

-- α divided by β
abbrev pub quotient : List ℕ → List ℕ → List ℕ
quotient α β = each (λ a b. a - b) α β

-- β divides α: no exponent of β is above that of α
abbrev pub divides : List ℕ → List ℕ → Bool
divides [] α = true
divides (b ∷ β) [] = false
divides (b ∷ β) (a ∷ α) = leb b a && divides β α

-- ---- the orders: `compare_in o vs α β` is how α stands to β with the weights vs

-- the first answer that is not "equal"
abbrev pub or_else : Ordering → Ordering → Ordering
or_else Ordering.lt t = Ordering.lt
or_else Ordering.eq t = t
or_else Ordering.gt t = Ordering.gt

-- Lex: the first variable with different exponents decides; the larger exponent makes the larger monomial
abbrev pub lex : List ℕ → List ℕ → Ordering
lex [] [] = Ordering.eq
lex [] (b ∷ β) = Ordering.lt
lex (a ∷ α) [] = Ordering.gt
lex (a ∷ α) (b ∷ β) = or_else (compare a b) (lex α β)

-- RevLex, as document 01 corrects it: the last variable with different exponents decides; the smaller exponent makes the larger monomial
abbrev pub rev_lex : List ℕ → List ℕ → Ordering
rev_lex [] [] = Ordering.eq
rev_lex [] (b ∷ β) = Ordering.lt
rev_lex (a ∷ α) [] = Ordering.gt
rev_lex (a ∷ α) (b ∷ β) = or_else (rev_lex α β) (compare b a)

-- Document 000 in its own words, for exponents of the same variables: Lex(α, β) = 1 where the exponents before some i are equal and that at i is larger in α
pub record LexLarger (α β : List ℕ) : Type 0 where
  pub at : ℕ
  pub within : at < length α
  pub before : (j : ℕ) → j < at → get_or α j 0 ≡ get_or β j 0
  pub larger : get_or β at 0 < get_or α at 0

-- RevLex(α, β) = 1 where the exponents after some i are equal and that at i is smaller in α (theorems `lex-larger` and `rev_lex-larger`)
pub record RevLexLarger (α β : List ℕ) : Type 0 where
  pub at : ℕ
  pub within : at < length α
  pub after : (j : ℕ) → at < j → j < length α → get_or α j 0 ≡ get_or β j 0
  pub smaller : get_or α at 0 < get_or β at 0

-- lp: Lex. Dp: the weighted degree, then Lex. dp: the weighted degree, then RevLex
abbrev pub compare_in : Order → (weights : List ℕ) → List ℕ → List ℕ → Ordering
compare_in Lex vs α β = lex α β
compare_in DegLex vs α β = or_else (compare (weighted vs α) (weighted vs β)) (lex α β)
compare_in DegRevLex vs α β = or_else (compare (weighted vs α) (weighted vs β)) (rev_lex α β)

-- document 01, "Terms": the orders are 1 = lp, 2 = Dp, 3 = dp (any other number is refused before it is read so)
abbrev pub order_by : (is_lp is_dp : Bool) → Order
order_by true t = Lex
order_by false true = DegLex
order_by false false = DegRevLex

abbrev pub order_of : ℕ → Order
order_of number = order_by (eqb number 1) (eqb number 2)

-- and the number of an order
abbrev pub order_number : Order → ℕ
order_number Lex = 1
order_number DegLex = 2
order_number DegRevLex = 3
