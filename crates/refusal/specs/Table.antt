-- The refusals by cause, with the numbers of document 01 ("Refusals by cause") and of document 02. Assumes nothing.
use Rattle.std.specs.Prelude.{ℕ, Bool, true, false, ◌&&◌, ◌||◌, List, [], ◌∷◌, Result, Ok, Err, eqb, ltb}
use Rattle.refusal.specs.declared.Refusal.{Refusal}
use Rattle.refusal.specs.declared.Refusal.TheVariants.{NotPrime, BadOrder, BadVariables, BadCoefficient, BadLayout, NotFalling, ZeroDivisor, BadShape, BadOperation, NoOutput, TooManyTerms, ExponentOver, StepLimit, NotBlocks, BadCheck, BadBlock, BadScript, BadWeight}

-- the table: each cause with its number
abbrev pub number_of : Refusal → ℕ
number_of NotPrime = 1
number_of BadOrder = 2
number_of BadVariables = 3
number_of BadCoefficient = 4
number_of BadLayout = 5
number_of NotFalling = 6
number_of ZeroDivisor = 7
number_of BadShape = 8
number_of BadOperation = 9
number_of NoOutput = 10
number_of TooManyTerms = 11
number_of ExponentOver = 12
number_of StepLimit = 13
number_of NotBlocks = 14
number_of BadCheck = 15
number_of BadBlock = 16
number_of BadScript = 17
number_of BadWeight = 24

-- the number of the refusal that a check gives, 0 where it gives none
abbrev pub refusal_in : {A : Type 0} → Result A Refusal → ℕ
refusal_in (Ok _) = 0
refusal_in (Err r) = number_of r

-- all causes, from the largest number down (theorems `table-falls` and `cause-found`: the numbers fall, and each cause is there)
abbrev pub causes : List Refusal
causes = BadWeight ∷ BadScript ∷ BadBlock ∷ BadCheck ∷ NotBlocks ∷ StepLimit ∷ ExponentOver ∷ TooManyTerms ∷ NoOutput ∷ BadOperation ∷ BadShape ∷ ZeroDivisor ∷ NotFalling ∷ BadLayout ∷ BadCoefficient ∷ BadVariables ∷ BadOrder ∷ NotPrime ∷ []

-- n is the number of one of these causes
abbrev pub among : ℕ → List Refusal → Bool
among n [] = false
among n (r ∷ rs) = eqb n (number_of r) || among n rs

-- n is the number of a refusal
unfoldable pub listed : ℕ → Bool
listed n = among n causes

-- the numbers of the causes fall
abbrev pub fall : List Refusal → Bool
fall [] = true
fall (r ∷ []) = true
fall (r ∷ (s ∷ rs)) = ltb (number_of s) (number_of r) && fall (s ∷ rs)

-- the first of these causes that has the number n
abbrev pub found : ℕ → List Refusal → Refusal
found n [] = NotPrime
found n (r ∷ rs) = elim (eqb n (number_of r)) [ true ↦ r | false ↦ found n rs ]
