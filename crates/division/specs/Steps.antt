-- The published reduction on a geobucket (document 01, "Reductions"). Assumes nothing.
use Prim.Native.Nat.{ℕ, zero, suc, ◌+◌, ◌-◌, Ordering}
use Rattle.std.specs.Prelude.{Bool, true, false, ◌||◌, not, List, [], ◌∷◌, ◌++◌, leb, ltb, length}
use Rattle.limits.specs.Limits.{most_terms}
use Rattle.monomial.specs.declared.order.Order.{Order}
use Rattle.monomial.specs.Exponents.{product}
use Rattle.monomial.specs.Layout.{bytes, below}
use Rattle.monomial.specs.Words.{compare_words, divides_word}
use Rattle.polynomial.specs.Terms.{Term}
use Rattle.geobucket.specs.Buckets.{held}
use Rattle.geobucket.specs.Search.{none, lead, search}
use Rattle.geobucket.specs.Events.{Work, start, added, removed, left}
use Rattle.division.specs.Choice.{Fit, unfit, fits, chosen}
use Rattle.division.specs.Division.{tail_multiple}

-- What a reduction comes to: the refusal that stopped it, 0 for none, the leads removed, the remainder's terms so far, and what was done with the geobucket.
pub record Reduction (A : Type 0) : Type 0 where
  pub stop : ℕ
  pub leads : ℕ
  pub remainder : List (Term A)
  pub work : Work A

-- a monomial of the list has a product with q that is too large
unfoldable pub any_too_large : {A : Type 0} → (too_large : A → A → Bool) → (q : A) → List (Term A) → Bool
any_too_large too_large q [] = false
any_too_large too_large q (t ∷ ts) = too_large q t.mono || any_too_large too_large q ts

module _ {A : Type 0} (cmp : A → A → Ordering) (p : ℕ) where
  -- "A stopped step leaves its lead in the bucket, like terms combined and that search counted"; a search that finds zero leaves empty buckets, and counts too
  abbrev pub stopped_by : ℕ → (leads : ℕ) → List (Term A) → Work A → Reduction A
  stopped_by refusal leads r w = record { stop = refusal; leads = leads; remainder = r; work = left cmp p w }

module _ {A : Type 0} (cmp : A → A → Ordering) (quotient ◌·◌ : A → A → A) (too_large : A → A → Bool) (p : ℕ) where
  -- the multiple of a tail is added, once the lead is removed: "12, then 11, if a divisor fits"; "in a reduction the lead is not counted as held"
  unfoldable pub dividing : Term A → Term A → List (Term A) → (leads : ℕ) → List (Term A) → Work A → (Work A → Reduction A) → Reduction A
  dividing t g tail leads r w onward =
      elim (any_too_large too_large (quotient t.mono g.mono) tail) [
        | true ↦ stopped_by cmp p 12 leads r w
        | false ↦ elim (leb (held (removed cmp p w).buckets + length tail) most_terms) [
          | true ↦ onward (added cmp p (tail_multiple quotient ◌·◌ p t g tail) (removed cmp p w))
          | false ↦ stopped_by cmp p 11 leads r w
        ]
      ]

module _ {A : Type 0} (cmp : A → A → Ordering) (p places : ℕ) where
  -- the lead goes to the remainder, "else 10"
  unfoldable pub keeping : Term A → (leads : ℕ) → List (Term A) → Work A → (List (Term A) → Work A → Reduction A) → Reduction A
  keeping t leads r w onward = elim (ltb (length r) places) [ true ↦ onward (r ++ t ∷ []) (removed cmp p w) | false ↦ stopped_by cmp p 10 leads r w ]

module _ {A : Type 0} (cmp : A → A → Ordering) (choose : A → Fit A) (quotient ◌·◌ : A → A → A) (too_large : A → A → Bool) (p places : ℕ) where
  -- "Each step finds the lead c·α": with so many steps left, so many leads removed and the remainder r so far
  unfoldable pub steps_from : (more leads : ℕ) → List (Term A) → Work A → Reduction A
  steps_from zero leads r w = elim (search cmp p w.buckets).answer [ none ↦ stopped_by cmp p 0 leads r w | lead at t ↦ stopped_by cmp p 13 leads r w ]
  steps_from (suc more) leads r w =
      elim (search cmp p w.buckets).answer [
        | none ↦ stopped_by cmp p 0 leads r w
        | lead at t ↦ elim (choose t.mono) [
          | unfit ↦ keeping cmp p places t leads r w (λ s v. steps_from more (suc leads) s v)
          | fits k g tail ↦ dividing cmp quotient ◌·◌ too_large p t g tail leads r w (λ v. steps_from more (suc leads) r v)
        ]
      ]

  -- "Polynomial 0 is added first"; "polynomial 0 itself is tested before the first step, leaving buckets, work space and tally all 0"
  unfoldable pub reduction : (limit : ℕ) → List (Term A) → Reduction A
  reduction limit f = elim (leb (length f) most_terms) [ true ↦ steps_from limit 0 [] (added cmp p f start) | false ↦ record { stop = 11; leads = 0; remainder = []; work = start } ]

-- ---- words

-- the product of two words has an exponent over 127
abbrev pub over_word : ℕ → ℕ → Bool
over_word x y = not (below 128 (product (bytes 6 x) (bytes 6 y)))

-- the reduction of words; on words of the layout the quotient is the difference, and the product the sum
abbrev pub reduction_of_words : Order → (p : ℕ) → (gs : List (List (Term ℕ))) → (places limit : ℕ) → List (Term ℕ) → Reduction ℕ
reduction_of_words o p gs places limit f = reduction (compare_words o) (chosen divides_word gs) ◌-◌ ◌+◌ over_word p places limit f
