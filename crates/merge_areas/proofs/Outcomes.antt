-- A wrong program that no edit of an operand makes, and a call on which it differs from what `merge_areas` ensures. Assumes nothing.
use mathlib.Core.Path.{◌≡◌, refl}
use mathlib.Core.List.{[], ◌∷◌}
use Prim.Native.Nat.{compare}
use Rattle.polynomial.specs.Terms.{term}
use Rattle.polynomial.specs.Merge.{compared, merge_count}

-- a merge that counts like terms twice answers 2 here
pub like-once : merge_count compare (term 0 2 ∷ []) (term 0 3 ∷ []) ≡ 1
unfolding compared
like-once = refl
