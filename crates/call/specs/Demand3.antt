-- Demand 3 as "a single claim about the whole list of a run or reduction": about the tally, the terms given out, and the terms in the bucket space at return. Assumes nothing.
use Prim.Native.Nat.{ℕ, ◌≤◌, Ordering}
use Rattle.std.specs.Prelude.{◌≡◌, List, ◌++◌, length}
use Rattle.polynomial.specs.Terms.{Term, coef_at}
use Rattle.call.specs.declared.answer.Tally.{Tally}

-- `pairs` are the comparisons of the published merge and search, one by one; `given` are the terms that the geobucket gave out, and `written` those that the tally counts as given out, which are the same in a run, and in a reduction the remainder
pub record Demand3 (cmp : ℕ → ℕ → Ordering) (p : ℕ) (pairs : List (ℕ × ℕ)) (brought given written held : List (Term ℕ)) (allowed : ℕ) (tally : Tally) : Type 0 where
  pub comparisons-are : tally.comparisons ≡ length pairs
  pub at_most : tally.comparisons ≤ allowed
  pub brought-are : tally.brought ≡ length brought
  pub given-are : tally.given ≡ length written
  pub held-are : tally.held ≡ length held
  pub conserved : (m : ℕ) → coef_at cmp p m (given ++ held) ≡ coef_at cmp p m brought
