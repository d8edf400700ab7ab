-- What the operations on monomials must meet, for the theorems on division, where `Is` says which monomials are meant. Assumes nothing.
use Prim.Native.Nat.{Ordering}
use Rattle.std.specs.Prelude.{◌≡◌, Bool, true, false}

pub record Operations (A : Type 0) (cmp : A → A → Ordering) (divides : A → A → Bool) (quotient ◌·◌ : A → A → A) (too_large : A → A → Bool) (Is : A → Type 0) : Type 0 where
  -- the quotient by a monomial that divides is one, and its product with that monomial gives back what was divided
  pub quotient_is : (a b : A) → Is a → Is b → divides b a ≡ true → Is (quotient a b)
  pub back : (a b : A) → Is a → Is b → divides b a ≡ true → ◌·◌ (quotient a b) b ≡ a
  pub back_fits : (a b : A) → Is a → Is b → divides b a ≡ true → too_large (quotient a b) b ≡ false
  -- a product that is not too large is one, and multiplying keeps the order
  pub product_is : (a b : A) → Is a → Is b → too_large a b ≡ false → Is (◌·◌ a b)
  pub keeps : (m a b : A) → Is m → Is a → Is b → too_large m a ≡ false → too_large m b ≡ false → cmp (◌·◌ m a) (◌·◌ m b) ≡ cmp a b
