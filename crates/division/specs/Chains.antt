-- Falling chains of monomials that end. Assumes nothing.
use Prim.Native.Nat.{Ordering}
use Rattle.std.specs.Prelude.{◌≡◌}

-- every chain of monomials that falls from a on ends, among those that are meant
pub data Ends {A : Type 0} (Is : A → Type 0) (cmp : A → A → Ordering) : A → Type 0 where
  ends : (a : A) → ((b : A) → Is b → cmp a b ≡ Ordering.gt → Ends Is cmp b) → Ends Is cmp a
