-- The published search for the lead (document 01, "Buckets"): "go through the non-empty buckets upward, keeping a candidate. A larger lead replaces it. A like lead is removed from the higher bucket, its coefficient added to the candidate. A candidate of coefficient 0 is removed when replaced or when the search ends. If it is 0 at the end, search again. One comparison per non-empty bucket after the first." Assumes nothing.
use Prim.Native.Nat.{ℕ, zero, suc, ◌+◌, ◌%◌, Ordering}
use mathlib.Core.List.{List, [], ◌∷◌, ◌++◌}
use Rattle.polynomial.specs.Terms.{Term, term}
use Rattle.polynomial.specs.Merge.{keep}
use Rattle.geobucket.specs.Buckets.{held}

-- ---- one pass upward

-- What a pass that begins with a candidate ends with: the last candidate, the first one's own bucket and those above, without the last candidate, and the pairs compared. `at` says where the last candidate is the lead: 0 for the first one's own bucket, and so on upward.
pub record Pass (A : Type 0) : Type 0 where
  pub lead : Term A
  pub at : ℕ
  pub own : List (Term A)
  pub above : List (List (Term A))
  pub pairs : List (A × A)

-- the candidate is replaced: its bucket is left as b, and the pass goes on with another
abbrev pub replaced : {A : Type 0} → List (Term A) → A × A → Pass A → Pass A
replaced b q s = record { lead = s.lead; at = suc s.at; own = b; above = s.own ∷ s.above; pairs = q ∷ s.pairs }

-- the next bucket is passed by, and left as b
abbrev pub passed : ℕ → ℕ
passed zero = zero
passed (suc at) = suc (suc at)

abbrev pub passing : {A : Type 0} → List (Term A) → List (A × A) → Pass A → Pass A
passing b qs s = record { lead = s.lead; at = passed s.at; own = s.own; above = b ∷ s.above; pairs = qs ++ s.pairs }

module _ {A : Type 0} (cmp : A → A → Ordering) (p : ℕ) where
  -- the candidate x is the lead of its bucket, whose other terms are xs, and bs are the buckets above
  unfoldable pub seek : Term A → List (Term A) → List (List (Term A)) → Pass A
  seek x xs [] = record { lead = x; at = 0; own = xs; above = []; pairs = [] }
  seek x xs ([] ∷ bs) = passing [] [] (seek x xs bs)
  seek x xs ((y ∷ ys) ∷ bs) =
      elim (cmp x.mono y.mono) [
        | Ordering.lt ↦ replaced (keep x.mono x.coef xs) (x.mono, y.mono) (seek y ys bs)
        | Ordering.eq ↦ passing ys ((x.mono, y.mono) ∷ []) (seek (term x.mono ((x.coef + y.coef) % p)) xs bs)
        | Ordering.gt ↦ passing (y ∷ ys) ((x.mono, y.mono) ∷ []) (seek x xs bs)
      ]

-- ---- the search

-- the lead, in bucket `at` from 0, or zero
pub data Lead (A : Type 0) : Type 0 where
  none : Lead A
  lead : (at : ℕ) → Term A → Lead A

-- What a search ends with: the lead, like terms combined, the buckets without it, and the pairs compared.
pub record Searched (A : Type 0) : Type 0 where
  pub answer : Lead A
  pub buckets : List (List (Term A))
  pub pairs : List (A × A)

-- the same lead, seen from one bucket lower
abbrev pub higher : {A : Type 0} → Lead A → Lead A
higher none = none
higher (lead at t) = lead (suc at) t

module _ {A : Type 0} (cmp : A → A → Ordering) (p : ℕ) where
  -- a pass over all buckets: the first that is not empty gives the first candidate
  unfoldable pub pass : List (List (Term A)) → Searched A
  unfolding seek
  pass [] = record { answer = none; buckets = []; pairs = [] }
  pass ([] ∷ bs) = let s = pass bs in record { answer = higher s.answer; buckets = [] ∷ s.buckets; pairs = s.pairs }
  pass ((x ∷ xs) ∷ bs) = let s = seek cmp p x xs bs in record { answer = lead s.at s.lead; buckets = s.own ∷ s.above; pairs = s.pairs }

  -- the pairs of an earlier pass come first
  abbrev pub after : List (A × A) → Searched A → Searched A
  after qs s = record { answer = s.answer; buckets = s.buckets; pairs = qs ++ s.pairs }

  -- what follows a pass whose candidate has the coefficient c: where it is 0, the search goes on, and `again` searches the buckets
  unfoldable pub onward : (c : ℕ) → Searched A → (List (List (Term A)) → Searched A) → Searched A
  onward zero s again = after s.pairs (again s.buckets)
  onward (suc c) s again = s

  unfoldable pub ended : Lead A → Searched A → (List (List (Term A)) → Searched A) → Searched A
  unfolding onward
  ended none s again = s
  ended (lead at t) s again = onward t.coef s again

  -- at most n passes
  unfoldable pub search_in : ℕ → List (List (Term A)) → Searched A
  unfolding pass ended
  search_in zero bs = record { answer = none; buckets = bs; pairs = [] }
  search_in (suc n) bs = let s = pass bs in ended s.answer s (λ cs. search_in n cs)

  -- each pass that is not the last removes a term, so there are enough passes
  abbrev pub search : List (List (Term A)) → Searched A
  search bs = search_in (suc (held bs)) bs

-- a lead that is left is put back in front of its bucket
unfoldable pub put_back : {A : Type 0} → ℕ → Term A → List (List (Term A)) → List (List (Term A))
put_back at t [] = []
put_back zero t (b ∷ bs) = (t ∷ b) ∷ bs
put_back (suc at) t (b ∷ bs) = b ∷ put_back at t bs

abbrev pub with_lead : {A : Type 0} → Lead A → List (List (Term A)) → List (List (Term A))
with_lead none bs = bs
with_lead (lead at t) bs = put_back at t bs
