-- The choice of a divisor by the lead monomial: what a choice must meet, and document 01's rule. Assumes nothing.
use Rattle.std.specs.Prelude.{ℕ, suc, ◌≡◌, Bool, true, false, List, [], ◌∷◌}
use Rattle.polynomial.specs.Terms.{Term}
use Rattle.division.specs.Divisors.{Numbered, Undivided}

-- no divisor fits, or one does: its number in the list of divisors, from 1 on, its lead and its tail
pub data Fit (A : Type 0) : Type 0 where
  unfit : Fit A
  fits : (number : ℕ) → (lead : Term A) → (tail : List (Term A)) → Fit A

-- what a choice among the divisors gs must meet
pub record Choice {A : Type 0} (divides : A → A → Bool) (gs : List (List (Term A))) (choose : A → Fit A) : Type 0 where
  -- the divisor taken stands in the list under its number, and its lead monomial divides α
  pub taken : (α : A) (k : ℕ) (g : Term A) (tail : List (Term A)) → choose α ≡ fits k g tail → Numbered 1 k (g ∷ tail) gs × (divides g.mono α ≡ true)
  -- none is taken only where none divides
  pub none : (α : A) → choose α ≡ unfit → Undivided divides gs α

module _ {A : Type 0} (divides : A → A → Bool) where
  -- the first divisor that fits, where j is the number of the first in the list: a zero divisor has no lead and fits nowhere, but is counted
  unfoldable pub first_from : (j : ℕ) → A → List (List (Term A)) → Fit A
  first_from j α [] = unfit
  first_from j α ([] ∷ gs) = first_from (suc j) α gs
  first_from j α ((g ∷ tail) ∷ gs) = elim (divides g.mono α) [ true ↦ fits j g tail | false ↦ first_from (suc j) α gs ]

  -- "The first divisor in the list whose lead monomial divides α"
  unfoldable pub chosen : List (List (Term A)) → A → Fit A
  chosen gs α = first_from 1 α gs
