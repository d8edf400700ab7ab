-- What a turn of a merge makes of a term of each list. Assumes nothing.
use Prim.Native.Nat.{Ordering}
use Prim.Native.Nat.{ℕ, ◌+◌, ◌%◌, compare}
use Rattle.std.specs.Prelude.{Bool, true, false, not, eqb}
use Rattle.merge_common.specs.Lent.{flag}
use Rattle.merge_common.specs.declared.merging.Joined.{Joined}

-- the term with its key as the number that it stands for
abbrev pub numbered : {K : Type 0} → (K → ℕ) → Joined K → Joined ℕ
numbered number t = record { key = number t.key; coef = t.coef; left = t.left; right = t.right; kept = t.kept }

-- a term made of so many of the left list and of the right one, which is kept unless its coefficient is 0
abbrev pub made : (key coef left right : ℕ) → Joined ℕ
made key coef left right = record { key = key; coef = coef; left = left; right = right; kept = flag (not (eqb coef 0)) }

-- at the front: the larger one, or the sum of like terms
unfoldable pub joined : (x c y d p : ℕ) → Joined ℕ
joined x c y d p = elim (compare x y) [ Ordering.lt ↦ made y d 0 1 | Ordering.eq ↦ made x ((c + d) % p) 1 1 | Ordering.gt ↦ made x c 1 0 ]

-- at the end: the smaller one, or the sum of like terms
unfoldable pub joined_last : (x c y d p : ℕ) → Joined ℕ
joined_last x c y d p = elim (compare x y) [ Ordering.lt ↦ made x c 1 0 | Ordering.eq ↦ made x ((c + d) % p) 1 1 | Ordering.gt ↦ made y d 0 1 ]

-- at the end, or else at the front
abbrev pub joined_by : (last : Bool) → (x c y d p : ℕ) → Joined ℕ
joined_by true = joined_last
joined_by false = joined
