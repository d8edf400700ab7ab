-- A search that only looks at the leads. Assumes nothing.
use Prim.Native.Nat.{Ordering}
use Prim.Native.Nat.{ℕ, zero, suc, ◌+◌, ◌-◌, ◌≤◌, compare}
use Rattle.std.specs.Prelude.{◌≡◌, List, get_or}
use Rattle.polynomial.specs.Terms.{term}
use Rattle.geobucket.specs.Search.{lead}
use Rattle.space.specs.Space.{Buckets, head_at, len_at, buckets_in, Stands}
use Rattle.search.specs.declared.candidate.Candidate.{Candidate}
use Rattle.search.specs.declared.largest.Largest.{Largest}
use Rattle.search.specs.Searching.{FindDone}

-- no lead was looked at
abbrev pub unseen : Largest
unseen = record { bucket = 0; key = 0; held = 0; like = 0 }

-- with the lead of one more bucket
unfoldable pub met : Largest → (bucket key : ℕ) → Largest
met t bucket key =
    elim (compare key t.key) [
      | Ordering.lt ↦ record { bucket = t.bucket; key = t.key; held = t.held + 1; like = t.like }
      | Ordering.eq ↦ record { bucket = t.bucket; key = t.key; held = t.held + 1; like = t.like + 1 }
      | Ordering.gt ↦ record { bucket = bucket; key = key; held = t.held + 1; like = t.like }
    ]

-- an empty bucket has no lead
abbrev pub met_by : (len : ℕ) → Largest → (bucket key : ℕ) → Largest
met_by zero t bucket key = t
met_by (suc n) t bucket key = met t bucket key

-- after the leads of the buckets below i
unfoldable pub largest_of : (b : Buckets) (keys : List ℕ) (i : ℕ) → Largest
largest_of b keys zero = unseen
largest_of b keys (suc i) = met_by (len_at b i) (largest_of b keys i) i (get_or keys (head_at b i) 0)

-- one comparison for each bucket that is not empty after the first
abbrev pub as_candidate : Largest → (coef : ℕ) → Candidate
as_candidate t coef = record { bucket = t.bucket; key = t.key; coef = coef; count = t.held - 1 }

-- where no lead was like the largest one before it, that is what the search finds, and it leaves the buckets as they are
abbrev pub Looked : (b : Buckets) (keys : List ℕ) → Largest → Type 0
Looked b keys t = (p : ℕ) (coefs : List ℕ) → Stands compare p b keys coefs → t.like ≡ 0 → 1 ≤ t.held → FindDone compare p (buckets_in b keys coefs) b keys coefs (lead t.bucket (term t.key (get_or coefs (head_at b t.bucket) 0))) (t.held - 1)
