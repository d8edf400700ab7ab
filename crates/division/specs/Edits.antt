-- What somebody does to a polynomial who edits one term of it, over any type of monomials with a comparison. Assumes nothing.
use Prim.Native.Nat.{ℕ, ◌+◌, ◌%◌, ◌<◌, Ordering}
use Rattle.std.specs.Prelude.{◌≡◌, List, map}
use Rattle.residue.specs.Modular.{product}
use Rattle.polynomial.specs.Terms.{Term, term, coef_at}

module _ {A : Type 0} (cmp : A → A → Ordering) (p : ℕ) where
  -- g is f with one coefficient changed: at the monomial α, by δ modulo p
  pub record Edited (α : A) (δ : ℕ) (f g : List (Term A)) : Type 0 where
    pub some : 0 < δ
    pub small : δ < p
    pub there : coef_at cmp p α g ≡ (coef_at cmp p α f + δ) % p
    pub elsewhere : (m : A) → (m ≡ α → ⊥) → coef_at cmp p m g ≡ coef_at cmp p m f

  -- f and g have the same coefficient at each monomial above α
  abbrev pub SameAbove : A → (f g : List (Term A)) → Type 0
  SameAbove α f g = (m : A) → cmp m α ≡ Ordering.gt → coef_at cmp p m f ≡ coef_at cmp p m g

-- c times f, modulo p
abbrev pub scaled : {A : Type 0} → (p c : ℕ) → List (Term A) → List (Term A)
scaled p c f = map (λ t. term t.mono (product p c t.coef)) f
