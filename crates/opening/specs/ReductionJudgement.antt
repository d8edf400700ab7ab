-- The conditions of a reduction's opening refusals, as documents 01 and 02 say them, in their order. Assumes nothing.
use Rattle.std.specs.Prelude.{ℕ, ◌-◌, ◌<◌, ◌≤◌, ◌≡◌, List, [], ◌∷◌, ◌++◌, length}
use Rattle.limits.specs.Limits.{most_steps}
use Rattle.refusal.specs.Judgement.{Condition, condition}
use Rattle.conditions.specs.Lengths.{GoodLent}
use Rattle.polynomial.specs.declared.setting.Setting.{Setting}
use Rattle.polynomial.specs.Terms.{terms}
use Rattle.polynomial.specs.Opening.{part_of}
use Rattle.opening.specs.Judgement.{GoodStarts, setting_conditions, polynomials_conditions}

-- 8, with "starts missing or not as above", "a step limit over 8,796,093,022,208, or a reduction without polynomial 0"; a polynomial has two starts
pub record GoodReductionShape (weights words coefs : ℕ) (ss : List ℕ) (limit bw bc ww wc ow oc : ℕ) : Type 0 where
  pub lent : GoodLent weights words coefs bw bc ww wc ow oc
  pub starts : GoodStarts ss words
  pub some : 1 < length ss
  pub few-steps : limit ≤ most_steps

-- "7: a divisor is zero"; the divisors are the polynomials from 1 on
abbrev pub GoodDivisors : (words coefs ss : List ℕ) → Type 0
GoodDivisors words coefs ss = (k : ℕ) → 1 ≤ k → k < length ss - 1 → terms (part_of ss k words) (part_of ss k coefs) ≡ [] → ⊥

-- "Opening order: 1, 2, 3, 8, 9; then polynomial by polynomial, the first place with 4 or 5 (4 first at one place), then 6; then 7": a reduction has no operations, so no 9; of document 02, 24 "after 3"
abbrev pub reduction_conditions : Setting → (words coefs ss : List ℕ) (limit bw bc ww wc ow oc : ℕ) → List Condition
reduction_conditions t words coefs ss limit bw bc ww wc ow oc =
    setting_conditions t ++
    (condition 8 (GoodReductionShape (length t.weights) (length words) (length coefs) ss limit bw bc ww wc ow oc) ∷
    (polynomials_conditions t words coefs ss ++
    (condition 7 (GoodDivisors words coefs ss) ∷ [])))
