-- A polynomial and its remainder, apart from the steps of a division: some divided terms are taken off, and what they are replaced by is put there. Polynomials are given by their coefficients, a number for each monomial. Assumes nothing.
use Prim.Native.Nat.{ℕ, ◌+◌, ◌*◌, ◌%◌, Ordering}
use Rattle.std.specs.Prelude.{◌≡◌, List, [], ◌∷◌}
use Rattle.polynomial.specs.Terms.{Term, term, All, total, Canonical}
use Rattle.division.specs.Choice.{Fit, unfit, fits}
use Rattle.division.specs.Division.{tail_multiple}

-- `share α m` is the coefficient of m in what 1·α is replaced by; what the terms are replaced by has this coefficient at m
unfoldable pub moved : {A : Type 0} → (share : A → A → ℕ) → A → List (Term A) → ℕ
moved share m [] = 0
moved share m (t ∷ ts) = t.coef * share t.mono m + moved share m ts

-- f without some divided terms, and with what they are replaced by, is r
pub record Rewrites {A : Type 0} (cmp : A → A → Ordering) (p : ℕ) (Divided : A → Type 0) (share : A → A → ℕ) (f r : A → ℕ) : Type 0 where
  pub terms : List (Term A)
  pub canonical : Canonical cmp p terms
  pub divided : All (λ t. Divided t.mono) terms
  pub sums : (m : A) → (f m + moved share m terms) % p ≡ (r m + total cmp m terms) % p

-- no divided monomial has a coefficient in r
abbrev pub Irreducible : {A : Type 0} → (p : ℕ) (Divided : A → Type 0) → (r : A → ℕ) → Type 0
Irreducible {A} p Divided r = (α : A) → Divided α → r α % p ≡ 0

module _ {A : Type 0} (cmp : A → A → Ordering) (quotient ◌·◌ : A → A → A) (p : ℕ) where
  -- what a division replaces 1·α by: the multiple of the tail of the divisor that is taken
  abbrev pub share_by : Fit A → A → A → ℕ
  share_by unfit α m = 0
  share_by (fits k g tail) α m = total cmp m (tail_multiple quotient ◌·◌ p (term α 1) g tail)

  abbrev pub share_of : (choose : A → Fit A) → A → A → ℕ
  share_of choose α m = share_by (choose α) α m

-- α is a monomial that is meant, and a divisor is taken for it
pub record Divided {A : Type 0} (Is : A → Type 0) (choose : A → Fit A) (α : A) : Type 0 where
  pub is : Is α
  pub number : ℕ
  pub lead : Term A
  pub tail : List (Term A)
  pub taken : choose α ≡ fits number lead tail
