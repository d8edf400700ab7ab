-- The conditions of a run's opening refusals, as documents 01 and 02 say them, in their order. Assumes nothing.
use Prim.Native.Nat.{ℕ, zero, suc, ◌+◌, ◌-◌, ◌<◌, ◌≤◌, Ordering}
use Rattle.std.specs.Prelude.{◌≡◌, List, [], ◌∷◌, ◌++◌, ◌⊎◌, length, get_or}
use Rattle.limits.specs.Limits.{largest_prime, largest_weight, most_variables}
use Rattle.refusal.specs.Judgement.{Condition, condition}
use Rattle.conditions.specs.Lengths.{GoodLent, GoodPairs}
use Rattle.conditions.specs.Operations.{GoodOperations}
use Rattle.residue.specs.Prime.{Prime}
use Rattle.monomial.specs.declared.order.Order.{Order}
use Rattle.monomial.specs.Exponents.{compare_in, order_of}
use Rattle.monomial.specs.Layout.{Layout, exponents}
use Rattle.polynomial.specs.declared.setting.Setting.{Setting}
use Rattle.polynomial.specs.Terms.{Term, term, terms, Falling}
use Rattle.polynomial.specs.Opening.{part_of}

-- ---- the setting: "1: p is not a prime from 2 to 65,521. 2: order not 1 to 3. 3: n not 1 to 6.", and of document 02 "Refusal 1 has the new limit."
abbrev pub GoodPrime : ℕ → Type 0
GoodPrime p = Prime p × (p ≤ largest_prime)

abbrev pub Between : (low high x : ℕ) → Type 0
Between low high x = (low ≤ x) × (x ≤ high)

-- "24, a weight outside its range (beyond n, not 1)", over the weights that are there
pub record GoodWeights (n : ℕ) (weights : List ℕ) : Type 0 where
  pub in-range : (i : ℕ) → i < length weights → i < n → Between 1 largest_weight (get_or weights i 0)
  pub beyond-one : (i : ℕ) → i < length weights → n ≤ i → get_or weights i 0 ≡ 1

-- with 24 "after 3"
abbrev pub setting_conditions : Setting → List Condition
setting_conditions t = condition 1 (GoodPrime t.p) ∷ (condition 2 (Between 1 3 t.order) ∷ (condition 3 (Between 1 most_variables t.n) ∷ (condition 24 (GoodWeights t.n t.weights) ∷ [])))

-- ---- 8: the sizes of what is lent

-- "The first start is 0, the last is the length, none falls."
pub record GoodStarts (ss : List ℕ) (len : ℕ) : Type 0 where
  pub some : 0 < length ss
  pub first-is : get_or ss 0 0 ≡ 0
  pub last-is : get_or ss (length ss - 1) 0 ≡ len
  pub none-falls : (k : ℕ) → k + 1 < length ss → get_or ss k 0 ≤ get_or ss (k + 1) 0

-- with "starts missing or not as above, operations not whole pairs or over 16,777,216 of them"
pub record GoodShape (weights words coefs ss ops : List ℕ) (bw bc ww wc ow oc : ℕ) : Type 0 where
  pub lent : GoodLent (length weights) (length words) (length coefs) bw bc ww wc ow oc
  pub starts : GoodStarts ss (length words)
  pub pairs : GoodPairs (length ops)

-- ---- a polynomial: "the first place with 4 or 5 (4 first at one place), then 6"

-- how two words stand to each other by their exponents, in n variables with these weights
abbrev pub by_exponents : Order → (n : ℕ) (weights : List ℕ) → ℕ → ℕ → Ordering
by_exponents o n vs x y = compare_in o vs (exponents o n x) (exponents o n y)

module _ (t : Setting) where
  -- "4: coefficient 0 or ≥ p."
  abbrev pub GoodCoef : Term ℕ → Type 0
  GoodCoef u = (0 < u.coef) × (u.coef < t.p)

  -- "5: word not of the layout above."
  abbrev pub GoodWord : Term ℕ → Type 0
  GoodWord u = Layout (order_of t.order) t.n t.weights u.mono

  -- "6: terms do not fall strictly.", under the chosen order
  abbrev pub GoodOrder : List (Term ℕ) → Type 0
  GoodOrder us = Falling (by_exponents (order_of t.order) t.n t.weights) us

  -- 4 and 5, place by place
  abbrev pub places_conditions : List (Term ℕ) → List Condition
  places_conditions [] = []
  places_conditions (u ∷ us) = condition 4 (GoodCoef u) ∷ (condition 5 (GoodWord u) ∷ places_conditions us)

  abbrev pub polynomial_conditions : List (Term ℕ) → List Condition
  polynomial_conditions us = places_conditions us ++ (condition 6 (GoodOrder us) ∷ [])

  -- the same by places: place `at` is the first with a bad coefficient or word, and r says which (theorems `bad-place` and `place-bad`)
  abbrev pub place_of : List (Term ℕ) → ℕ → Term ℕ
  place_of us i = get_or us i (term 0 0)

  pub record BadPlace (us : List (Term ℕ)) (r : ℕ) : Type 0 where
    pub at : ℕ
    pub there : at < length us
    pub before : (j : ℕ) → j < at → GoodCoef (place_of us j) × GoodWord (place_of us j)
    pub is : ((r ≡ 4) × (GoodCoef (place_of us at) → ⊥)) ⊎ ((r ≡ 5) × (GoodCoef (place_of us at) × (GoodWord (place_of us at) → ⊥)))

  -- all places are good, and the terms do not fall (theorems `bad-order` and `order-bad`)
  pub record BadOrder (us : List (Term ℕ)) : Type 0 where
    pub places : (j : ℕ) → j < length us → GoodCoef (place_of us j) × GoodWord (place_of us j)
    pub not-falling : GoodOrder us → ⊥

  module _ (words coefs ss : List ℕ) where
    -- those of the first k polynomials, one polynomial after the other
    abbrev pub conditions_below : (k : ℕ) → List Condition
    conditions_below zero = []
    conditions_below (suc k) = conditions_below k ++ polynomial_conditions (terms (part_of ss k words) (part_of ss k coefs))

    -- "polynomial by polynomial": there is one less than there are starts
    abbrev pub polynomials_conditions : List Condition
    polynomials_conditions = conditions_below (length ss - 1)

-- "Opening order: 1, 2, 3, 8, 9; then polynomial by polynomial", with 24 "after 3"
abbrev pub run_conditions : Setting → (words coefs ss ops : List ℕ) (bw bc ww wc ow oc : ℕ) → List Condition
run_conditions t words coefs ss ops bw bc ww wc ow oc =
    setting_conditions t ++
    (condition 8 (GoodShape t.weights words coefs ss ops bw bc ww wc ow oc) ∷
    (condition 9 (GoodOperations ops (length ss - 1)) ∷
    polynomials_conditions t words coefs ss))
