-- Decimal numbers without leading zeros, of at most 4,294,967,295 where they are read. Assumes nothing.
use Rattle.std.specs.Prelude.{ℕ, zero, suc, ◌+◌, ◌-◌, ◌*◌, ◌/◌, ◌%◌, Bool, true, false, ◌&&◌, List, [], ◌∷◌, ◌++◌, leb, ltb}
use Rattle.std.specs.Prelude.{Some, None, Option as Answered}
use Rattle.std.proofs.Math.Option.{Option, none, some}

-- the decimal digits of v, in at most so many steps more
unfoldable pub decimal_in : (steps v : ℕ) → List ℕ
decimal_in zero v = (48 + v) ∷ []
decimal_in (suc k) v = elim (ltb v 10) [ true ↦ (48 + v) ∷ [] | false ↦ decimal_in k (v / 10) ++ ((48 + v % 10) ∷ []) ]

-- "decimal without leading zeros"
abbrev pub decimal : ℕ → List ℕ
decimal v = decimal_in v v

-- ---- reading

-- f of a value, where there is one
unfoldable pub and_then : {A B : Type 0} → Option A → (A → Option B) → Option B
and_then none f = none
and_then (some a) f = f a

-- a value on a condition
abbrev pub only_if : {A : Type 0} → Bool → A → Option A
only_if true a = some a
only_if false a = none

abbrev pub is_digit : ℕ → Bool
is_digit b = leb 48 b && ltb b 58

-- One more digit behind v. None follows a 0, which would be a leading zero, and "a number over 4,294,967,295 gives 17".
unfoldable pub with_digit : (v byte : ℕ) → Option ℕ
with_digit v b = only_if (ltb 0 v && (is_digit b && leb (v * 10 + (b - 48)) 4294967295)) (v * 10 + (b - 48))

unfoldable pub with_digits : (v : ℕ) → List ℕ → Option ℕ
with_digits v [] = some v
with_digits v (b ∷ bs) = and_then (with_digit v b) (λ w. with_digits w bs)

-- the number that a text is
unfoldable pub number_of : List ℕ → Option ℕ
number_of [] = none
number_of (b ∷ bs) = and_then (only_if (is_digit b) (b - 48)) (λ v. with_digits v bs)

-- the same as an `Option` of the code, which is what it hands back
abbrev pub found : {A : Type 0} → Option A → Answered A
found none = None
found (some v) = Some v
