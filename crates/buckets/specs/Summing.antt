-- What a full sum asks and leaves. Assumes nothing.
use Prim.Native.Nat.{ℕ, ◌+◌, ◌<◌, ◌≤◌, compare}
use Rattle.std.specs.Prelude.{◌≡◌, List, [], ◌++◌, length}
use Rattle.limits.specs.Limits.{bucket_places, most_terms, work_places}
use Rattle.residue.specs.Modular.{Modulus}
use Rattle.polynomial.specs.Terms.{terms, Canonical}
use Rattle.merge_common.specs.Lent.{part}
use Rattle.geobucket.specs.Buckets.{held, sum_from, full_sum, sum_compared}
use Rattle.space.specs.Space.{Buckets, list_from, bucket_at, buckets_in, Laid, Stands, Slices, no_buckets}
use Rattle.merge_common.specs.declared.merging.Placed.{Placed}

pub record Summation (p : ℕ) (b : Buckets) (ww wc sw sc : List ℕ) : Type 0 where
  pub stands : Stands compare p b (ww ++ sw) (wc ++ sc)
  pub room : held (buckets_in b (ww ++ sw) (wc ++ sc)) ≤ most_terms
  pub slices : Slices ww wc sw sc

-- buckets 0 to 4 in the work space
pub record Areas (p : ℕ) (b : Buckets) (ww wc : List ℕ) : Type 0 where
  pub modulus : Modulus p
  pub laid : Laid b
  pub canonical : (j : ℕ) → j < 5 → Canonical compare p (bucket_at b ww wc j)
  pub work-words : length ww ≡ work_places
  pub work-coefs : length wc ≡ work_places

-- their sum lies in the work space, with its comparisons
pub record AreasSummed (p : ℕ) (b : Buckets) (ww wc ww' wc' : List ℕ) (r : Placed) : Type 0 where
  pub in-places : r.head + r.len ≤ work_places
  pub sum_is : terms (part r.head r.len ww') (part r.head r.len wc') ≡ sum_from compare p [] (list_from (bucket_at b ww wc) 0 5)
  pub count-is : r.comparisons ≡ length (sum_compared compare p [] (list_from (bucket_at b ww wc) 0 5))
  pub few : r.comparisons ≤ 40000

-- the sum in the bucket space is the published one, with its comparisons, and the buckets are empty
pub record SumDone (p : ℕ) (b : Buckets) (sw sc : List ℕ) (b' : Buckets) (sw' sc' : List ℕ) (r : Placed) : Type 0 where
  pub in-space : r.head + r.len ≤ bucket_places
  pub sum_is : terms (part r.head r.len sw') (part r.head r.len sc') ≡ full_sum compare p (buckets_in b sw sc)
  pub len_is : r.len ≡ length (full_sum compare p (buckets_in b sw sc))
  pub count-is : r.comparisons ≡ length (sum_compared compare p [] (buckets_in b sw sc))
  pub few : r.comparisons ≤ 50000
  pub none : b' ≡ no_buckets
