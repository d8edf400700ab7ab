-- The test of the operations is the statement on them. Assumes nothing.
use mathlib.Core.Path.{◌≡◌, refl, sym, ap, ap₂, ◌∙◌}
use mathlib.Core.Bool.{Bool, true, false, ◌||◌}
use mathlib.Core.List.{List, [], ◌∷◌}
use mathlib.Core.Logic.{◌⊎◌, inl, inr, ⊎_elim}
use Prim.Native.Nat.{ℕ}
use native.Mathlib.Omega.{arith}
use borrow.Author.Tests.{lt-ltb, ltb-true, eq-eqb, ne_eqb, eqb-true}
use lib.Dec.{eqb}
use Rattle.monomial.proofs.Places.{and_both}
use Rattle.conditions.specs.Operations.{operation_by, operation_good, operations_good, GoodOperation, GoodOperations, pair_of, operation}
use Rattle.conditions.proofs.Tests.{both, clash}

operation-good : (code k n : ℕ) → operation_good code k n ≡ true → GoodOperation code k n
unfolding operation_good
operation-good code k n e = by (eqb code 1) refl
  where
    or : (b : Bool) → eqb code 2 ≡ b → (b || eqb code 3) ≡ true → (code ≡ 2) ⊎ (code ≡ 3)
    or true f q = inl (eqb-true code 2 f)
    or false f q = inr (eqb-true code 3 q)

    by : (b : Bool) → eqb code 1 ≡ b → GoodOperation code k n
    by true f = inl (eqb-true code 1 f, ltb-true k n (sym (ap (λ (b : Bool). operation_by b code k n) f) ∙ e))
    by false f =
        let a = and_both (eqb k 0) (eqb code 2 || eqb code 3) (sym (ap (λ (b : Bool). operation_by b code k n) f) ∙ e) in
        inr (eqb-true k 0 a.0, or (eqb code 2) refl a.1)

good-operation : (code k n : ℕ) → GoodOperation code k n → operation_good code k n ≡ true
unfolding operation_good
good-operation code k n g =
    ⊎_elim (λ a. ap (λ (b : Bool). operation_by b code k n) (eq-eqb code 1 a.0) ∙ lt-ltb k n a.1)
    (λ a.
    ⊎_elim (λ c. ap (λ (b : Bool). operation_by b code k n) (ne_eqb code 1 (λ z. let q : ⊥ = omega arith in q)) ∙ both (eqb k 0) (eqb code 2 || eqb code 3) (eq-eqb k 0 a.0) (ap (λ (b : Bool). b || eqb code 3) (eq-eqb code 2 c)))
    (λ c. ap (λ (b : Bool). operation_by b code k n) (ne_eqb code 1 (λ z. let q : ⊥ = omega arith in q)) ∙ both (eqb k 0) (eqb code 2 || eqb code 3) (eq-eqb k 0 a.0) (ap₂ (λ (x y : Bool). x || y) (ne_eqb code 2 (λ z. let q : ⊥ = omega arith in q)) (eq-eqb code 3 c))) a.1) g

pub operations-good : (ops : List ℕ) (n : ℕ) → operations_good ops n ≡ true → GoodOperations ops n
unfolding operations_good
operations-good [] n e = tt
operations-good (code ∷ []) n e = clash refl e
operations-good (code ∷ (k ∷ ops)) n e = let a = and_both (operation_good code k n) (operations_good ops n) e in (operation-good code k n a.0, operations-good ops n a.1)

pub good-operations : (ops : List ℕ) (n : ℕ) → GoodOperations ops n → operations_good ops n ≡ true
unfolding operations_good
good-operations [] n g = refl
good-operations (code ∷ []) n g = absurd g
good-operations (code ∷ (k ∷ ops)) n g = both (operation_good code k n) (operations_good ops n) (good-operation code k n g.0) (good-operations ops n g.1)

-- a good pair has the numbers of its operation
pub pair-back : (code k n : ℕ) → operation_good code k n ≡ true → pair_of (operation code k) ≡ code ∷ (k ∷ [])
pair-back code k n e = ⊎_elim (λ a. at 1 k a.0 refl refl) (λ a. ⊎_elim (λ two. at 2 0 two a.0 refl) (λ three. at 3 0 three a.0 refl) a.1) (operation-good code k n e)
  where
    at : (c j : ℕ) → code ≡ c → k ≡ j → pair_of (operation c j) ≡ c ∷ (j ∷ []) → pair_of (operation code k) ≡ code ∷ (k ∷ [])
    at c j f g h = rw (f, g) h
