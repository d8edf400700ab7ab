-- What a merge into the last bucket, in place, asks and leaves. Assumes nothing.
use Prim.Native.Nat.{ℕ, ◌+◌, ◌-◌, ◌≤◌, compare}
use Rattle.std.specs.Prelude.{◌≡◌, List, length}
use Rattle.limits.specs.Limits.{bucket_places, most_terms, work_places}
use Rattle.residue.specs.Modular.{Modulus}
use Rattle.monomial.specs.declared.order.Order.{Order}
use Rattle.polynomial.specs.Terms.{Term, terms, Reduced, Canonical}
use Rattle.polynomial.specs.Merge.{merge, merge_count}
use Rattle.merge_common.specs.Lent.{Poly, part}
use Rattle.space.specs.Space.{Buckets, head_at, len_at, start, Laid, moved}

-- the terms of the last bucket, in the slices of the bucket space
abbrev pub last_at : Buckets → (sw sc : List ℕ) → List (Term ℕ)
last_at b sw sc = terms (part (head_at b 5 - work_places) (len_at b 5) sw) (part (head_at b 5 - work_places) (len_at b 5) sc)

-- a polynomial f, and no more terms with those of the last bucket than it takes
pub record MergeLast (p : ℕ) (b : Buckets) (fw fc sw sc : List ℕ) : Type 0 where
  pub modulus : Modulus p
  pub laid : Laid b
  pub lent : Poly p fw fc
  pub there : Canonical compare p (last_at b sw sc)
  pub room : length fw + len_at b 5 ≤ most_terms
  pub words_long : length sw ≡ bucket_places
  pub coefs-long : length sc ≡ bucket_places

-- the last bucket holds f merged with g, and the other buckets stand as they stood
pub record LastMerged (p : ℕ) (b : Buckets) (f g : List (Term ℕ)) (sw' sc' : List ℕ) (b' : Buckets) (comparisons : ℕ) : Type 0 where
  pub head : ℕ
  pub len : ℕ
  pub moved-is : b' ≡ moved b 5 head len
  pub laid : Laid b'
  pub here : last_at b' sw' sc' ≡ merge compare p f g
  pub words_long : length sw' ≡ bucket_places
  pub coefs-long : length sc' ≡ bucket_places
  pub count-is : comparisons ≡ merge_count compare f g

-- n terms at place h of the last bucket's place, and room in it for so many more
pub record Roomy (h n more : ℕ) (sw sc : List ℕ) : Type 0 where
  pub low : start 5 ≤ h
  pub ends : h + n ≤ bucket_places
  pub room : more + n ≤ most_terms
  pub words_long : length sw ≡ bucket_places
  pub coefs-long : length sc ≡ bucket_places

-- they lie at r, and in front of them is room for so many more
pub record Shifted (h n more : ℕ) (sw sc sw' sc' : List ℕ) (r : ℕ) : Type 0 where
  pub low : start 5 + more ≤ r
  pub ends : r + n ≤ bucket_places
  pub words_are : part r n sw' ≡ part h n sw
  pub coefs-are : part r n sc' ≡ part h n sc
  pub words_long : length sw' ≡ bucket_places
  pub coefs-long : length sc' ≡ bucket_places

-- a polynomial of words that the last bucket takes
pub record Large (o : Order) (p : ℕ) (b : Buckets) (fw fc sw sc : List ℕ) : Type 0 where
  pub modulus : Modulus p
  pub laid : Laid b
  pub long : length fc ≡ length fw
  pub reduced : Reduced p (terms fw fc)
  pub there : Canonical compare p (last_at b sw sc)
  pub room : length fw + len_at b 5 ≤ most_terms
  pub words_long : length sw ≡ bucket_places
  pub coefs-long : length sc ≡ bucket_places
