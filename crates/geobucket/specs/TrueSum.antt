-- The true sum of the buckets and its lead, apart from how they are found; and what an addition and a search have to do with it. Assumes nothing.
use Rattle.std.specs.Prelude.{◌≡◌, List, length}
use Prim.Native.Nat.{ℕ, ◌+◌, ◌%◌, ◌<◌, ◌≤◌, Ordering}
use Rattle.polynomial.specs.Terms.{Term, total}
use Rattle.geobucket.specs.Buckets.{held, Good, total_in}
use Rattle.geobucket.specs.Search.{Lead, none, lead}

module _ {A : Type 0} (cmp : A → A → Ordering) (p : ℕ) (bs : List (List (Term A))) where
  -- the coefficient of m in the sum of all buckets, modulo p
  abbrev pub sum_at : A → ℕ
  sum_at m = total_in cmp m bs % p

  pub record IsZero : Type 0 where
    pub zero-at : (m : A) → sum_at m ≡ 0

  -- t is the largest term of the sum
  pub record IsLead (t : Term A) : Type 0 where
    pub coef-is : sum_at t.mono ≡ t.coef
    pub not-zero : 0 < t.coef
    pub largest : (m : A) → cmp m t.mono ≡ Ordering.gt → sum_at m ≡ 0

module _ {A : Type 0} (cmp : A → A → Ordering) (p : ℕ) where
  -- the answer of a search is the lead of the true sum, or none where that is zero
  abbrev pub Right : List (List (Term A)) → Lead A → Type 0
  Right bs none = IsZero cmp p bs
  Right bs (lead at t) = IsLead cmp p bs t

  -- an addition of f makes cs of bs, the first of capacity cap: as polynomials, cs = f + bs
  pub record Adds (cap : ℕ) (f : List (Term A)) (bs cs : List (List (Term A))) : Type 0 where
    pub sums : (m : A) → total_in cmp m cs % p ≡ (total cmp m f + total_in cmp m bs) % p
    pub good : Good cmp p cap cs
    pub size : held cs ≤ length f + held bs
    pub count : length cs ≡ length bs
