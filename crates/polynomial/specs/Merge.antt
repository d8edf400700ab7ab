-- The published merge (document 01, "Buckets") over a comparison: "while neither list is used up, one comparison puts the larger lead into the result, or, for like terms, their sum unless it is 0. The list that still has terms then gives its rest, as a part of itself." Assumes nothing.
use Prim.Native.Nat.{ℕ, zero, suc, ◌+◌, ◌%◌, Ordering}
use mathlib.Core.List.{List, [], ◌∷◌}
use Rattle.std.specs.Prelude.{length}
use Rattle.polynomial.specs.Terms.{Term, term}

-- a term in front of a list, unless its coefficient is 0
unfoldable pub keep : {A : Type 0} → A → ℕ → List (Term A) → List (Term A)
keep m zero ts = ts
keep m (suc c) ts = term m (suc c) ∷ ts

module _ {A : Type 0} (cmp : A → A → Ordering) (p : ℕ) where
  -- the merge of x ∷ xs with a list, where `rest` merges xs with any list
  unfoldable pub into : Term A → List (Term A) → (List (Term A) → List (Term A)) → List (Term A) → List (Term A)
  into x xs rest [] = x ∷ xs
  into x xs rest (y ∷ ys) =
      elim (cmp x.mono y.mono) [
        | Ordering.lt ↦ y ∷ into x xs rest ys
        | Ordering.eq ↦ keep x.mono ((x.coef + y.coef) % p) (rest ys)
        | Ordering.gt ↦ x ∷ rest (y ∷ ys)
      ]

  unfoldable pub merge : List (Term A) → List (Term A) → List (Term A)
  unfolding into
  merge [] ys = ys
  merge (x ∷ xs) ys = into x xs (λ zs. merge xs zs) ys

module _ {A : Type 0} (cmp : A → A → Ordering) where
  -- the pairs of monomials that the merge compares, one by one
  unfoldable pub compared_into : Term A → (List (Term A) → List (A × A)) → List (Term A) → List (A × A)
  compared_into x rest [] = []
  compared_into x rest (y ∷ ys) =
      (x.mono, y.mono) ∷ elim (cmp x.mono y.mono) [
        | Ordering.lt ↦ compared_into x rest ys
        | Ordering.eq ↦ rest ys
        | Ordering.gt ↦ rest (y ∷ ys)
      ]

  unfoldable pub compared : List (Term A) → List (Term A) → List (A × A)
  unfolding compared_into
  compared [] ys = []
  compared (x ∷ xs) ys = compared_into x (λ zs. compared xs zs) ys

  -- how many comparisons the merge makes
  abbrev pub merge_count : List (Term A) → List (Term A) → ℕ
  merge_count xs ys = length (compared xs ys)
