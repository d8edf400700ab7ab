-- The table of refusals: what its one computed test says of each row. Assumes nothing.
use mathlib.Core.Path.{◌≡◌, refl, sym, ap, ◌∙◌}
use mathlib.Core.Bool.{Bool, true, false, ◌||◌}
use mathlib.Core.List.{List, [], ◌∷◌}
use Prim.Native.Nat.{ℕ}
use native.Mathlib.Omega.{arith}
use borrow.Author.Tests.{eqb-true}
use lib.Dec.{eqb}
use Rattle.refusal.specs.declared.Refusal.{Refusal}
use Rattle.refusal.specs.declared.Refusal.TheVariants.{NotPrime, BadOrder, BadVariables, BadCoefficient, BadLayout, NotFalling, ZeroDivisor, BadShape, BadOperation, NoOutput, TooManyTerms, ExponentOver, StepLimit, NotBlocks, BadCheck, BadBlock, BadScript, BadWeight}
use Rattle.refusal.specs.Table.{number_of, causes, among, listed, fall, found}

-- n is none of the numbers of these causes
abbrev pub NoneOf : List Refusal → ℕ → Type 0
NoneOf [] n = Unit {0}
NoneOf (r ∷ rs) n = NoneOf rs n × (n ≡ number_of r → ⊥)

none-among : (n : ℕ) (rs : List Refusal) → NoneOf rs n → among n rs ≡ true → ⊥
none-among n [] h e = let z : ◌≡◌ {A = ℕ} 0 1 = ap (λ (b : Bool). elim b [ true ↦ 1 | false ↦ 0 ]) e in let q : ⊥ = omega arith in q
none-among n (r ∷ rs) h e = by (eqb n (number_of r)) refl e (none-among n rs h.0)
  where
    by : (b : Bool) → eqb n (number_of r) ≡ b → (b || among n rs) ≡ true → (among n rs ≡ true → ⊥) → ⊥
    by true q z f = h.1 (eqb-true n (number_of r) q)
    by false q z f = f z

-- a number of the table that is none of the later rows' is the first one's
pub is-first : (n : ℕ) (r : Refusal) (rs : List Refusal) → NoneOf rs n → among n (r ∷ rs) ≡ true → number_of r ≡ n
is-first n r rs h e = by (eqb n (number_of r)) refl e
  where
    by : (b : Bool) → eqb n (number_of r) ≡ b → (b || among n rs) ≡ true → number_of r ≡ n
    by true q z = sym (eqb-true n (number_of r) q)
    by false q z = absurd (none-among n rs h z)

-- the one computed test: the numbers of the table fall
pub table-falls : fall causes ≡ true
table-falls = refl

-- each cause has a row, which its number finds: no two have one number
pub cause-found : (r : Refusal) → found (number_of r) causes ≡ r
cause-found NotPrime = refl
cause-found BadOrder = refl
cause-found BadVariables = refl
cause-found BadCoefficient = refl
cause-found BadLayout = refl
cause-found NotFalling = refl
cause-found ZeroDivisor = refl
cause-found BadShape = refl
cause-found BadOperation = refl
cause-found NoOutput = refl
cause-found TooManyTerms = refl
cause-found ExponentOver = refl
cause-found StepLimit = refl
cause-found NotBlocks = refl
cause-found BadCheck = refl
cause-found BadBlock = refl
cause-found BadScript = refl
cause-found BadWeight = refl

pub number-once : (r s : Refusal) → number_of r ≡ number_of s → r ≡ s
number-once r s e = sym (cause-found r) ∙ (ap (λ (n : ℕ). found n causes) e ∙ cause-found s)

-- no number is 0
pub number-some : (r : Refusal) → number_of r ≡ 0 → ⊥
number-some r e = let z : r ≡ NotPrime = sym (cause-found r) ∙ ap (λ (n : ℕ). found n causes) e in let q : ⊥ = omega (arith, ap number_of z, e) in q

abbrev pub behind : List Refusal → List Refusal
behind [] = []
behind (r ∷ rs) = rs

-- a number of the table that is none of the others' is the largest
pub largest : (n : ℕ) → NoneOf (behind causes) n → listed n ≡ true → number_of BadWeight ≡ n
unfolding listed
largest n h e = is-first n BadWeight (behind causes) h e
