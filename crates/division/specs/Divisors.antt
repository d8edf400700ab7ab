-- Polynomials that pass the opening checks, divisors in a list, and monomials that none of them divides. Assumes nothing.
use Prim.Native.Nat.{ℕ, suc, Ordering}
use Rattle.std.specs.Prelude.{◌≡◌, Bool, false, List, [], ◌∷◌, ◌⊎◌}
use Rattle.polynomial.specs.Terms.{Term, All, Canonical}

-- a polynomial as the opening checks leave it, where `Is` says which monomials are meant
pub record Valid {A : Type 0} (cmp : A → A → Ordering) (p : ℕ) (Is : A → Type 0) (f : List (Term A)) : Type 0 where
  pub canonical : Canonical cmp p f
  pub are : All (λ t. Is t.mono) f

-- Q holds of each divisor
unfoldable pub AllOf : {A : Type 0} → (Q : List (Term A) → Type 0) → List (List (Term A)) → Type 0
AllOf Q [] = Unit {0}
AllOf Q (g ∷ gs) = Q g × AllOf Q gs

-- g is one of the divisors
unfoldable pub Among : {A : Type 0} → List (Term A) → List (List (Term A)) → Type 0
Among g [] = ⊥
Among g (h ∷ hs) = (g ≡ h) ⊎ Among g hs

-- g is the divisor number k, where the first in the list has the number j
unfoldable pub Numbered : {A : Type 0} → (j k : ℕ) → List (Term A) → List (List (Term A)) → Type 0
Numbered j k g [] = ⊥
Numbered j k g (h ∷ hs) = ((k ≡ j) × (g ≡ h)) ⊎ Numbered (suc j) k g hs

module _ {A : Type 0} (divides : A → A → Bool) where
  -- the lead monomial of g does not divide α
  abbrev pub NotBy : A → List (Term A) → Type 0
  NotBy α [] = Unit {0}
  NotBy α (g ∷ tail) = divides g.mono α ≡ false

  -- no divisor's lead monomial divides α
  abbrev pub Undivided : List (List (Term A)) → A → Type 0
  Undivided gs α = AllOf (NotBy α) gs
