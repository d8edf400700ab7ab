-- What a comparison must meet to be a total order, for any type of monomials. Merge and search rest on these laws alone. Assumes nothing.
use Prim.Native.Nat.{Ordering}
use Rattle.std.specs.Prelude.{◌≡◌}

-- the comparison seen from the other side
abbrev pub turned : Ordering → Ordering
turned Ordering.lt = Ordering.gt
turned Ordering.eq = Ordering.eq
turned Ordering.gt = Ordering.lt

pub record TotalOrder (A : Type 0) (cmp : A → A → Ordering) : Type 0 where
  pub like : (a : A) → cmp a a ≡ Ordering.eq
  pub same : (a b : A) → cmp a b ≡ Ordering.eq → a ≡ b
  pub turn : (a b : A) → cmp b a ≡ turned (cmp a b)
  pub falls : (a b c : A) → cmp a b ≡ Ordering.gt → cmp b c ≡ Ordering.gt → cmp a c ≡ Ordering.gt
