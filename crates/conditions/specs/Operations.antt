-- The operations of a run (document 01, "Runs", and "Refusals by cause", 9): pairs of numbers. Assumes nothing.
use Rattle.std.specs.Prelude.{ℕ, ◌<◌, ◌≡◌, Bool, true, false, ◌&&◌, ◌||◌, List, [], ◌∷◌, ◌⊎◌, ltb, eqb}
use Rattle.conditions.specs.declared.operations.Operation.{Operation}
use Rattle.conditions.specs.declared.operations.Operation.TheVariants.{Add, Lead, Sum}

-- "(1, k) adds polynomial k; (2, 0) takes the lead; (3, 0) gives the full sum."
abbrev pub operation_by : (adds : Bool) → (code k polynomials : ℕ) → Bool
operation_by true code k polynomials = ltb k polynomials
operation_by false code k polynomials = eqb k 0 && (eqb code 2 || eqb code 3)

unfoldable pub operation_good : (code k polynomials : ℕ) → Bool
operation_good code k polynomials = operation_by (eqb code 1) code k polynomials

-- 9: "operation unknown, polynomial k absent, or second number not 0 in codes 2 and 3", over the pairs
unfoldable pub operations_good : List ℕ → (polynomials : ℕ) → Bool
operations_good [] polynomials = true
operations_good (code ∷ []) polynomials = false
operations_good (code ∷ (k ∷ ops)) polynomials = operation_good code k polynomials && operations_good ops polynomials

-- ---- an operation as a value

-- its numbers: (1, k), (2, 0) or (3, 0)
abbrev pub code_of : Operation → ℕ
code_of (Add k) = 1
code_of Lead = 2
code_of Sum = 3

abbrev pub index_of : Operation → ℕ
index_of (Add k) = k
index_of Lead = 0
index_of Sum = 0

abbrev pub pair_of : Operation → List ℕ
pair_of o = code_of o ∷ (index_of o ∷ [])

-- the operation of a pair, by whether its code is 1 or 2; other codes than 1 to 3 are refused beforehand (theorem `pair-back`: it has the numbers of a good pair)
abbrev pub operation_from : (one two : Bool) → (k : ℕ) → Operation
operation_from true two k = Add k
operation_from false true k = Lead
operation_from false false k = Sum

abbrev pub operation : (code k : ℕ) → Operation
operation code k = operation_from (eqb code 1) (eqb code 2) k

-- ---- the same as statements

-- "9: operation unknown, polynomial k absent, or second number not 0 in codes 2 and 3."
abbrev pub GoodOperation : (code k polynomials : ℕ) → Type 0
GoodOperation code k polynomials = ((code ≡ 1) × (k < polynomials)) ⊎ ((k ≡ 0) × ((code ≡ 2) ⊎ (code ≡ 3)))

abbrev pub GoodOperations : List ℕ → (polynomials : ℕ) → Type 0
GoodOperations [] polynomials = Unit {0}
GoodOperations (code ∷ []) polynomials = ⊥
GoodOperations (code ∷ (k ∷ ops)) polynomials = GoodOperation code k polynomials × GoodOperations ops polynomials
