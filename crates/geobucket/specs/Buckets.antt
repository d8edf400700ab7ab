-- The published geobucket (document 01, "Buckets"): a list of buckets, the first of capacity 4 and each of four times the capacity of the one before. An addition and a full sum, each with the pairs of monomials that it compares. Assumes nothing.
use Prim.Native.Nat.{ℕ, ◌+◌, ◌*◌, ◌≤◌, max, Ordering}
use Rattle.std.specs.Prelude.{true, false, List, [], ◌∷◌, ◌++◌, leb, length}
use Rattle.polynomial.specs.Terms.{Term, total, Canonical}
use Rattle.polynomial.specs.Merge.{merge, compared}

-- six empty buckets
abbrev pub empty : {A : Type 0} → List (List (Term A))
empty = [] ∷ ([] ∷ ([] ∷ ([] ∷ ([] ∷ ([] ∷ [])))))

-- the terms held
unfoldable pub held : {A : Type 0} → List (List (Term A)) → ℕ
held [] = 0
held (b ∷ bs) = length b + held bs

-- each bucket is canonical and within its capacity, the first of capacity cap
unfoldable pub Good : {A : Type 0} → (A → A → Ordering) → (p cap : ℕ) → List (List (Term A)) → Type 0
Good cmp p cap [] = Unit {0}
Good cmp p cap (b ∷ bs) = (Canonical cmp p b × (length b ≤ cap)) × Good cmp p (4 * cap) bs

-- each bucket is canonical, whatever its length
unfoldable pub Canon : {A : Type 0} → (A → A → Ordering) → (p : ℕ) → List (List (Term A)) → Type 0
Canon cmp p [] = Unit {0}
Canon cmp p (b ∷ bs) = Canonical cmp p b × Canon cmp p bs

-- each bucket is within its capacity, the first of capacity cap
unfoldable pub Fit : {A : Type 0} → (cap : ℕ) → List (List A) → Type 0
Fit cap [] = Unit {0}
Fit cap (b ∷ bs) = (length b ≤ cap) × Fit (4 * cap) bs

-- the largest capacity, the first bucket's being cap
unfoldable pub room : {A : Type 0} → (cap : ℕ) → List (List (Term A)) → ℕ
room cap [] = 0
room cap (b ∷ bs) = max cap (room (4 * cap) bs)

module _ {A : Type 0} (cmp : A → A → Ordering) where
  -- the coefficients of m in all buckets, added up
  unfoldable pub total_in : A → List (List (Term A)) → ℕ
  total_in m [] = 0
  total_in m (b ∷ bs) = total cmp m b + total_in m bs

module _ {A : Type 0} (cmp : A → A → Ordering) (p : ℕ) where
  -- "Merge f with bucket i. While the result is larger than 4^i, empty bucket i, go to i+1 and merge with that. Put the result in bucket i."
  unfoldable pub carry : ℕ → List (Term A) → List (List (Term A)) → List (List (Term A))
  carry cap f [] = []
  carry cap f (b ∷ bs) =
      let m = merge cmp p f b in
      elim (leb (length m) cap) [ true ↦ m ∷ bs | false ↦ [] ∷ carry (4 * cap) m bs ]

  unfoldable pub carry_compared : ℕ → List (Term A) → List (List (Term A)) → List (A × A)
  carry_compared cap f [] = []
  carry_compared cap f (b ∷ bs) =
      let m = merge cmp p f b in
      compared cmp f b ++ elim (leb (length m) cap) [ true ↦ [] | false ↦ carry_compared (4 * cap) m bs ]

  -- "i is the least number from 1 up with 4^i ≥ terms of f"
  unfoldable pub place : ℕ → List (Term A) → List (List (Term A)) → List (List (Term A))
  place cap f [] = []
  place cap f (b ∷ bs) = elim (leb (length f) cap) [ true ↦ carry cap f (b ∷ bs) | false ↦ b ∷ place (4 * cap) f bs ]

  unfoldable pub place_compared : ℕ → List (Term A) → List (List (Term A)) → List (A × A)
  place_compared cap f [] = []
  place_compared cap f (b ∷ bs) = elim (leb (length f) cap) [ true ↦ carry_compared cap f (b ∷ bs) | false ↦ place_compared (4 * cap) f bs ]

  -- "A zero f changes nothing and costs nothing."
  unfoldable pub add : List (Term A) → List (List (Term A)) → List (List (Term A))
  add [] bs = bs
  add (t ∷ ts) bs = place 4 (t ∷ ts) bs

  unfoldable pub add_compared : List (Term A) → List (List (Term A)) → List (A × A)
  add_compared [] bs = []
  add_compared (t ∷ ts) bs = place_compared 4 (t ∷ ts) bs

  -- "Full sum: merge buckets 1, 2, .. 6 in turn, starting from zero; all buckets are then empty."
  unfoldable pub sum_from : List (Term A) → List (List (Term A)) → List (Term A)
  sum_from f [] = f
  sum_from f (b ∷ bs) = sum_from (merge cmp p f b) bs

  unfoldable pub sum_compared : List (Term A) → List (List (Term A)) → List (A × A)
  sum_compared f [] = []
  sum_compared f (b ∷ bs) = compared cmp f b ++ sum_compared (merge cmp p f b) bs

  abbrev pub full_sum : List (List (Term A)) → List (Term A)
  full_sum bs = sum_from [] bs

-- the same buckets, empty
unfoldable pub emptied : {A : Type 0} → List (List (Term A)) → List (List (Term A))
emptied [] = []
emptied (b ∷ bs) = [] ∷ emptied bs
