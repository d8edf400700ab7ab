-- The list of operations: its test, pair by pair. Assumes nothing.
use mathlib.Core.Path.{◌≡◌, refl, sym, ap, ap₂, ◌∙◌}
use mathlib.Core.Bool.{Bool, true, false, ◌&&◌, and-false}
use mathlib.Core.List.{List, [], ◌∷◌}
use Prim.Native.Nat.{ℕ, zero, suc, ◌+◌, ◌*◌, ◌/◌, ◌<◌, ◌≤◌}
use native.Mathlib.Omega.{arith}
use lib.ListN.{length, get_or}
use Rattle.std.specs.List.{list_all}
use Rattle.std.specs.Simd.{first_chunks}
use borrow.Author.Tests.{eqb-true}
use lib.Dec.{eqb}
use Rattle.conditions.specs.declared.operations.Operation.{Operation}
use Rattle.conditions.specs.Operations.{operation_good, operations_good, code_of, index_of, operation_from, operation}

-- a list of whole pairs is good where each pair is
pub pairs-good : (k : ℕ) (ops : List ℕ) (m : ℕ) → length ops ≡ 2 * k → list_all (λ (pair : List ℕ). operation_good (get_or pair 0 0) (get_or pair 1 0) m) (first_chunks 2 k ops) ≡ operations_good ops m
unfolding operations_good
pairs-good zero [] m h = refl
pairs-good zero (a ∷ ops) m h = absurd (let z : ⊥ = omega arith in z)
pairs-good (suc k) [] m h = absurd (let z : ⊥ = omega arith in z)
pairs-good (suc k) (a ∷ []) m h = absurd (let z : ⊥ = omega arith in z)
pairs-good (suc k) (a ∷ (b ∷ ops)) m h = ap (λ (r : Bool). operation_good a b m && r) (pairs-good k ops m (omega arith))

-- one with a number left over is not
pub left-over : (k : ℕ) (ops : List ℕ) (m : ℕ) → length ops ≡ 2 * k + 1 → false ≡ operations_good ops m
unfolding operations_good
left-over k [] m h = absurd (let z : ⊥ = omega arith in z)
left-over k (a ∷ []) m h = refl
left-over zero (a ∷ (b ∷ ops)) m h = absurd (let z : ⊥ = omega arith in z)
left-over (suc k) (a ∷ (b ∷ ops)) m h = sym (and-false (operation_good a b m)) ∙ ap (λ (r : Bool). operation_good a b m && r) (left-over k ops m (omega arith))

-- one that is read as an addition has code 1, and adds polynomial k
pub adds-pair : (code k : ℕ) → code_of (operation code k) ≡ 1 → (code ≡ 1) × (index_of (operation code k) ≡ k)
adds-pair code k = by (eqb code 1) (eqb code 2) refl
  where
    by : (one two : Bool) → eqb code 1 ≡ one → code_of (operation_from one two k) ≡ 1 → (code ≡ 1) × (index_of (operation_from one two k) ≡ k)
    by true two f e = (eqb-true code 1 f, refl)
    by false true f e = absurd (let z : ⊥ = omega (arith, e) in z)
    by false false f e = absurd (let z : ⊥ = omega (arith, e) in z)

-- pair j of a list, whose last element may have no pair
pair-at : (k j : ℕ) (ops : List ℕ) → j < k → 2 * k ≤ length ops → (get_or (get_or (first_chunks 2 k ops) j []) 0 0 ≡ get_or ops (2 * j) 0) × (get_or (get_or (first_chunks 2 k ops) j []) 1 0 ≡ get_or ops (2 * j + 1) 0)
pair-at zero j ops h e = absurd (let z : ⊥ = omega arith in z)
pair-at (suc k) j [] h e = absurd (let z : ⊥ = omega arith in z)
pair-at (suc k) j (a ∷ []) h e = absurd (let z : ⊥ = omega arith in z)
pair-at (suc k) zero (a ∷ (b ∷ ops)) h e = (refl, refl)
pair-at (suc k) (suc j) (a ∷ (b ∷ ops)) h e =
    let r = pair-at k j ops (omega arith) (omega arith) in
    (r.0 ∙ ap (λ (n : ℕ). get_or (a ∷ (b ∷ ops)) n 0) (let z : suc (suc (2 * j)) ≡ 2 * suc j = omega arith in z), r.1 ∙ ap (λ (n : ℕ). get_or (a ∷ (b ∷ ops)) n 0) (let z : suc (suc (2 * j + 1)) ≡ 2 * suc j + 1 = omega arith in z))

-- the operation of pair j is that of the two numbers at its places
pub asked-at : {q : Operation} {ps : List (List ℕ)} (ops : List ℕ) (j : ℕ) → ps ≡ first_chunks 2 (length ops / 2) ops → j < length ops / 2 → q ≡ operation (get_or (get_or ps j []) 0 0) (get_or (get_or ps j []) 1 0) → q ≡ operation (get_or ops (2 * j) 0) (get_or ops (2 * j + 1) 0)
asked-at ops j front h is =
    let r = pair-at (length ops / 2) j ops h (omega arith) in
    is ∙ (ap (λ (ps : List (List ℕ)). operation (get_or (get_or ps j []) 0 0) (get_or (get_or ps j []) 1 0)) front ∙ ap₂ operation r.0 r.1)
