-- A list of what is done with a geobucket, in a form that serves runs and reductions alike, and what it makes of an empty one. Assumes nothing.
use Prim.Native.Nat.{ℕ, zero, suc, ◌+◌, ◌*◌, ◌^◌, Ordering}
use Rattle.std.specs.Prelude.{true, false, List, [], ◌∷◌, ◌++◌, leb, length}
use Rattle.limits.specs.Limits.{most_terms}
use Rattle.polynomial.specs.Terms.{Term, Canonical}
use Rattle.geobucket.specs.Buckets.{empty, held, add, add_compared, full_sum, sum_compared, emptied}
use Rattle.geobucket.specs.Search.{Lead, none, lead, search, with_lead}

-- a polynomial is added; a lead is found and removed; the full sum is given out; a lead is found and left, which ends the list
pub data Event (A : Type 0) : Type 0 where
  addition : List (Term A) → Event A
  removal : Event A
  summation : Event A
  finding : Event A

-- the buckets, all pairs compared so far, the terms that accepted additions brought in, and those given out
pub record Work (A : Type 0) : Type 0 where
  pub buckets : List (List (Term A))
  pub pairs : List (A × A)
  pub brought : List (Term A)
  pub given : List (Term A)

abbrev pub start : {A : Type 0} → Work A
start = record { buckets = empty; pairs = []; brought = []; given = [] }

abbrev pub lead_terms : {A : Type 0} → Lead A → List (Term A)
lead_terms none = []
lead_terms (lead at t) = t ∷ []

module _ {A : Type 0} (cmp : A → A → Ordering) (p : ℕ) where
  abbrev pub added : List (Term A) → Work A → Work A
  added f w = record { buckets = add cmp p f w.buckets; pairs = w.pairs ++ add_compared cmp p f w.buckets; brought = w.brought ++ f; given = w.given }

  abbrev pub removed : Work A → Work A
  removed w = let s = search cmp p w.buckets in record { buckets = s.buckets; pairs = w.pairs ++ s.pairs; brought = w.brought; given = w.given ++ lead_terms s.answer }

  abbrev pub summed : Work A → Work A
  summed w = record { buckets = emptied w.buckets; pairs = w.pairs ++ sum_compared cmp p [] w.buckets; brought = w.brought; given = w.given ++ full_sum cmp p w.buckets }

  abbrev pub left : Work A → Work A
  left w = let s = search cmp p w.buckets in record { buckets = with_lead s.answer s.buckets; pairs = w.pairs ++ s.pairs; brought = w.brought; given = w.given }

  -- "11: terms held + terms to add > 4,096": such an addition is refused, and ends the list
  unfoldable pub perform : List (Event A) → Work A → Work A
  perform [] w = w
  perform (addition f ∷ es) w = elim (leb (held w.buckets + length f) most_terms) [ true ↦ perform es (added f w) | false ↦ w ]
  perform (removal ∷ es) w = perform es (removed w)
  perform (summation ∷ es) w = perform es (summed w)
  perform (finding ∷ es) w = left w

-- each polynomial that is to be added is canonical
unfoldable pub Polynomials : {A : Type 0} → (A → A → Ordering) → (p : ℕ) → List (Event A) → Type 0
Polynomials cmp p [] = Unit {0}
Polynomials cmp p (addition f ∷ es) = Canonical cmp p f × Polynomials cmp p es
Polynomials cmp p (removal ∷ es) = Polynomials cmp p es
Polynomials cmp p (summation ∷ es) = Polynomials cmp p es
Polynomials cmp p (finding ∷ es) = Polynomials cmp p es

-- the least level from i up whose power of 4 reaches n, but no more than `more` levels above i
unfoldable pub level_from : (more i n : ℕ) → ℕ
level_from zero i n = i
level_from (suc more) i n = elim (leb n (4 ^ i)) [ true ↦ i | false ↦ level_from more (suc i) n ]

-- demand 3: "M is the smaller of 6 and the least whole number from 1 up with 4 to the power M at least N"
abbrev pub levels : ℕ → ℕ
levels n = level_from 5 1 n

abbrev pub bound : ℕ → ℕ
bound n = 6 * n * levels n
