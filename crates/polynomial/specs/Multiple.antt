-- The multiple of a polynomial by a term, over any multiplication of monomials. Assumes nothing.
use Rattle.std.specs.Prelude.{ℕ, ◌*◌, ◌%◌, List, map}
use Rattle.polynomial.specs.Terms.{Term, term}

module _ {A : Type 0} (◌·◌ : A → A → A) (p : ℕ) where
  -- each term times c·m, modulo p
  abbrev pub multiple : ℕ → A → List (Term A) → List (Term A)
  multiple c m f = map (λ t. term (◌·◌ m t.mono) (c * t.coef % p)) f
