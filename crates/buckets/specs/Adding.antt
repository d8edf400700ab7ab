-- What an addition and its parts ask and leave. Assumes nothing.
use Prim.Native.Nat.{ℕ, ◌+◌, ◌-◌, ◌*◌, ◌<◌, ◌≤◌, Ordering, compare}
use Rattle.std.specs.Prelude.{◌≡◌, List, ◌++◌, ◌⊎◌, length}
use Rattle.limits.specs.Limits.{most_terms, work_places}
use Rattle.residue.specs.Modular.{Modulus}
use Rattle.monomial.specs.declared.order.Order.{Order}
use Rattle.monomial.specs.Words.{compare_words}
use Rattle.polynomial.specs.Terms.{Term, terms, Canonical}
use Rattle.merge_common.specs.Lent.{part}
use Rattle.geobucket.specs.Buckets.{held, carry, carry_compared, add, add_compared}
use Rattle.space.specs.Space.{Buckets, capacity, start, list_from, bucket_at, buckets_in, Laid, Stands, Slices, Spaces, words_in, Standing}

-- the buckets, in words, are those of the published addition of f, with its comparisons
pub record Added (o : Order) (p : ℕ) (x : Spaces) (f : List (Term ℕ)) (x' : Spaces) (comparisons : ℕ) : Type 0 where
  pub lists-are : words_in o x' ≡ add (compare_words o) p f (words_in o x)
  pub count-is : comparisons ≡ length (add_compared (compare_words o) p f (words_in o x))
  pub few : comparisons ≤ 50000
  pub stands : Standing p x'

-- a polynomial of words to be added, and no more terms in all than the geobucket takes
pub record WordAddition (o : Order) (p : ℕ) (x : Spaces) (fw fc : List ℕ) : Type 0 where
  pub stands : Standing p x
  pub long : length fc ≡ length fw
  pub canonical : Canonical (compare_words o) p (terms fw fc)
  pub room : length fw + held (words_in o x) ≤ most_terms

-- ---- by keys

-- past the areas, the work space has room for a polynomial that one of buckets 0 to 4 takes
abbrev pub free : ℕ
free = 5456

abbrev pub most_small : ℕ
most_small = 1024

-- a polynomial f to be added, and no more terms in all than the geobucket takes; sw and sc are all places
pub record Addition (cmp : ℕ → ℕ → Ordering) (p : ℕ) (b : Buckets) (f : List (Term ℕ)) (sw sc : List ℕ) : Type 0 where
  pub stands : Stands cmp p b sw sc
  pub canonical : Canonical cmp p f
  pub room : length f + held (buckets_in b sw sc) ≤ most_terms

-- the buckets are those of the published addition, with its comparisons
pub record AddDone (cmp : ℕ → ℕ → Ordering) (p : ℕ) (b : Buckets) (f : List (Term ℕ)) (sw sc sw' sc' : List ℕ) (b' : Buckets) (comparisons : ℕ) : Type 0 where
  pub lists-are : buckets_in b' sw' sc' ≡ add cmp p f (buckets_in b sw sc)
  pub count-is : comparisons ≡ length (add_compared cmp p f (buckets_in b sw sc))
  pub few : comparisons ≤ 50000
  pub stands : Stands cmp p b' sw' sc'

-- the len terms at `from` in the work space are to be merged with bucket i and those above it
pub record Carry (p : ℕ) (b : Buckets) (i : ℕ) (from len : ℕ) (ww wc sw sc : List ℕ) : Type 0 where
  pub stands : Stands compare p b (ww ++ sw) (wc ++ sc)
  pub slices : Slices ww wc sw sc
  pub within : i < 6
  pub some : 0 < len
  pub canonical : Canonical compare p (terms (part from len ww) (part from len wc))
  pub fits : len ≤ capacity i
  pub in-work : from + len ≤ work_places
  pub apart : (from + len ≤ 4 * start i) ⊎ (free ≤ from)
  pub room : len + held (list_from (bucket_at b (ww ++ sw) (wc ++ sc)) i (6 - i)) ≤ most_terms

-- the buckets are those of the published carry, with its comparisons
pub record CarryDone (p : ℕ) (b : Buckets) (i : ℕ) (f : List (Term ℕ)) (sw sc : List ℕ) (b' : Buckets) (sw' sc' : List ℕ) (r : ℕ) : Type 0 where
  pub lists-are : buckets_in b' sw' sc' ≡ list_from (bucket_at b sw sc) 0 i ++ carry compare p (capacity i) f (list_from (bucket_at b sw sc) i (6 - i))
  pub count-is : r ≡ length (carry_compared compare p (capacity i) f (list_from (bucket_at b sw sc) i (6 - i)))
  pub few : r ≤ 50000
  pub stands : Stands compare p b' sw' sc'

-- the len terms at `from` are to be merged with those of bucket i, one of buckets 0 to 4, to its free area
pub record MergeUp (p : ℕ) (b : Buckets) (i : ℕ) (from len : ℕ) (ww wc : List ℕ) : Type 0 where
  pub modulus : Modulus p
  pub laid : Laid b
  pub within : i < 5
  pub some : 0 < len
  pub canonical : Canonical compare p (terms (part from len ww) (part from len wc))
  pub there : Canonical compare p (bucket_at b ww wc i)
  pub fits : len ≤ capacity i
  pub in-work : from + len ≤ work_places
  pub apart : (from + len ≤ 4 * start i) ⊎ (free ≤ from)
  pub work-words : length ww ≡ work_places
  pub work-coefs : length wc ≡ work_places
