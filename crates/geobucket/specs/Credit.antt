-- How the bound comes about: with M levels in use, a term in bucket i has 6M - 1 - 5i comparisons of credit, i from 1 up. Assumes nothing.
use Rattle.std.specs.Prelude.{ℕ, suc, ◌+◌, ◌-◌, ◌*◌, ◌<◌, ◌≤◌, List, [], ◌∷◌, length}
use Rattle.polynomial.specs.Terms.{Term}

-- the credit of the buckets from level i on
unfoldable pub credit : {A : Type 0} → (M i : ℕ) → List (List (Term A)) → ℕ
credit M i [] = 0
credit M i (b ∷ bs) = length b * (6 * M - 1 - 5 * i) + credit M (suc i) bs

-- each bucket that is not empty has a level up to M
unfoldable pub Low : {A : Type 0} → (M i : ℕ) → List (List (Term A)) → Type 0
Low M i [] = Unit {0}
Low M i (b ∷ bs) = (0 < length b → i ≤ M) × Low M (suc i) bs
