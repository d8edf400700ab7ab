-- The lent bucket space (document 01, "Buckets"): "The bucket space has 5,460 places for words and for coefficients; bucket i starts at place (4^i − 4)/3." Buckets are numbered from 0 here, so that document 01's bucket i is bucket i - 1. Assumes nothing.
use Prim.Native.Nat.{ℕ, zero, suc, ◌+◌, ◌-◌, ◌*◌, ◌/◌, ◌^◌, ◌≤◌, ◌<◌, compare, Ordering}
use Rattle.std.specs.Prelude.{◌≡◌, true, false, ◌⊎◌, List, [], ◌∷◌, ◌++◌, map, ltb, length, get_or, set, replicate}
use Rattle.limits.specs.Limits.{bucket_places, work_places}
use Rattle.residue.specs.Modular.{Modulus}
use Rattle.monomial.specs.declared.order.Order.{Order}
use Rattle.monomial.specs.Words.{from_key}
use Rattle.wide_monomial.specs.declared.width.Width.{Width}
use Rattle.place.specs.Numbers.{from_key_by}
use Rattle.polynomial.specs.Terms.{Term, terms, words, coefs, renamed}
use Rattle.merge_common.specs.Lent.{part, Apart}
use Rattle.geobucket.specs.Buckets.{Good}

-- "buckets 1 to 6 of capacity 4, 16, 64, 256, 1,024 and 4,096"
unfoldable pub capacity : ℕ → ℕ
capacity i = 4 * 4 ^ i

-- each bucket starts where the one before it ends (theorem `starts-are`: at (4^i − 4)/3)
unfoldable pub start : ℕ → ℕ
unfolding capacity
start zero = 0
start (suc i) = start i + capacity i

-- f of i, of i + 1, and so on, k in all
unfoldable pub list_from : {A : Type 0} → (ℕ → A) → (i k : ℕ) → List A
list_from f i zero = []
list_from f i (suc k) = f i ∷ list_from f (suc i) k

-- ---- where the buckets lie while a call runs

-- The keys of all buckets, and so their coefficients, are seen as one list: the work space, and past it the bucket space. Buckets 0 to 4 lie in the work space, where each has two areas of twice its capacity, one after the other: a merge goes from one to the other. Bucket 5 lies in its own place of the bucket space.
abbrev pub all_places : ℕ
all_places = work_places + bucket_places

-- where the areas of bucket i begin and end; for bucket 5 its place
unfoldable pub zone : ℕ → ℕ
zone i = elim (ltb i 5) [ true ↦ 4 * start i | false ↦ work_places + start i ]

unfoldable pub zone_end : ℕ → ℕ
zone_end i = elim (ltb i 5) [ true ↦ 4 * start (suc i) | false ↦ work_places + start (suc i) ]

-- eighteen numbers: the place of each bucket's lead, each bucket's terms, and where the free area of each of buckets 0 to 4 begins
abbrev pub Buckets : Type 0
Buckets = List ℕ

abbrev pub head_at : Buckets → ℕ → ℕ
head_at b i = get_or b i 0

abbrev pub len_at : Buckets → ℕ → ℕ
len_at b i = get_or b (6 + i) 0

abbrev pub side_at : Buckets → ℕ → ℕ
side_at b i = get_or b (12 + i) 0

-- the numbers of bucket i in the list of all places
abbrev pub row_at : Buckets → List ℕ → ℕ → List ℕ
row_at b s i = part (head_at b i) (len_at b i) s

-- the terms of bucket i
abbrev pub bucket_at : Buckets → List ℕ → List ℕ → ℕ → List (Term ℕ)
bucket_at b sw sc i = terms (row_at b sw i) (row_at b sc i)

-- the six buckets
abbrev pub buckets_in : Buckets → List ℕ → List ℕ → List (List (Term ℕ))
buckets_in b sw sc = list_from (bucket_at b sw sc) 0 6

-- the terms of six buckets, by their lengths (theorem `held-lens`: the terms held)
abbrev pub held_in : Buckets → ℕ
held_in b = len_at b 0 + len_at b 1 + len_at b 2 + len_at b 3 + len_at b 4 + len_at b 5

-- each bucket's terms lie in its zone, and apart from its free area
pub record Laid (b : Buckets) : Type 0 where
  pub eighteen : length b ≡ 18
  pub low : (i : ℕ) → i < 6 → zone i ≤ head_at b i
  pub high : (i : ℕ) → i < 6 → head_at b i + len_at b i ≤ zone_end i
  pub short : (i : ℕ) → i < 6 → len_at b i ≤ capacity i
  pub side-is : (i : ℕ) → i < 5 → (side_at b i ≡ zone i) ⊎ (side_at b i ≡ zone i + 2 * capacity i)
  pub side-apart : (i : ℕ) → i < 5 → Apart (head_at b i) (len_at b i) (side_at b i) (2 * capacity i)

-- good buckets lie in the spaces: sw and sc are all places
pub record Stands (cmp : ℕ → ℕ → Ordering) (p : ℕ) (b : Buckets) (sw sc : List ℕ) : Type 0 where
  pub modulus : Modulus p
  pub words_long : length sw ≡ all_places
  pub coefs-long : length sc ≡ all_places
  pub laid : Laid b
  pub good : Good cmp p 4 (buckets_in b sw sc)

-- the slices of the work space and of the bucket space
pub record Slices (ww wc sw sc : List ℕ) : Type 0 where
  pub work-words : length ww ≡ work_places
  pub work-coefs : length wc ≡ work_places
  pub words_long : length sw ≡ bucket_places
  pub coefs-long : length sc ≡ bucket_places

-- the spaces that buckets lie in: where each lies, and all places for keys and for coefficients
pub record Spaces : Type 0 where
  pub places : Buckets
  pub keys : List ℕ
  pub coefs : List ℕ

abbrev pub spaces : Buckets → (ww wc sw sc : List ℕ) → Spaces
spaces b ww wc sw sc = record { places = b; keys = ww ++ sw; coefs = wc ++ sc }

-- terms of keys, as terms of words
abbrev pub in_words : Order → List (Term ℕ) → List (Term ℕ)
in_words o ts = renamed (from_key o) ts

-- the six buckets as polynomials of words: in the spaces lie keys, which are compared as numbers
abbrev pub words_in : Order → Spaces → List (List (Term ℕ))
words_in o x = map (in_words o) (buckets_in x.places x.keys x.coefs)

-- the same by width, where monomials have one word or two
abbrev pub words_by : Width → Order → Spaces → List (List (Term ℕ))
words_by w o x = map (renamed (from_key_by w o)) (buckets_in x.places x.keys x.coefs)

-- good buckets of keys lie in the spaces
abbrev pub Standing : (p : ℕ) → Spaces → Type 0
Standing p x = Stands compare p x.places x.keys x.coefs

-- bucket i has its head at h and n terms
abbrev pub moved : Buckets → (i h n : ℕ) → Buckets
moved b i h n = set (set b i h) (6 + i) n

-- bucket i without its lead: nothing is shifted
abbrev pub dropped : Buckets → ℕ → Buckets
dropped b i = moved b i (head_at b i + 1) (len_at b i - 1)

-- bucket i has its head at h and n terms, and its free area at s
abbrev pub turned : Buckets → (i h n s : ℕ) → Buckets
turned b i h n s = set (moved b i h n) (12 + i) s

-- six empty buckets: each of buckets 0 to 4 in its first area, with its second one free, and bucket 5 at the end of its place
abbrev pub no_buckets : Buckets
no_buckets = 0 ∷ 16 ∷ 80 ∷ 336 ∷ 1360 ∷ 13652 ∷ 0 ∷ 0 ∷ 0 ∷ 0 ∷ 0 ∷ 0 ∷ 8 ∷ 48 ∷ 208 ∷ 848 ∷ 3408 ∷ 0 ∷ []

-- each row from its start on, the first of capacity cap, and 0 past it: "Places past a bucket's terms are 0 at return."
unfoldable pub laid_out : ℕ → List (List ℕ) → List ℕ
laid_out cap [] = []
laid_out cap (l ∷ ls) = l ++ (replicate (cap - length l) 0 ++ laid_out (4 * cap) ls)

-- where document 01's bucket i, from 1 up, starts: "bucket i starts at place (4^i − 4)/3"
abbrev pub place_of : ℕ → ℕ
place_of i = (4 ^ i - 4) / 3

-- a row, and 0 past it, n places in all
abbrev pub padded : ℕ → List ℕ → List ℕ
padded n row = row ++ replicate (n - length row) 0

-- Six rows lie in a slice of the bucket space: document 01's bucket i from its start on, and 0 past it up to the next one's start.
pub record LiesIn (rows : List (List ℕ)) (s : List ℕ) : Type 0 where
  pub long : length s ≡ bucket_places
  pub row_is : (i : ℕ) → 1 ≤ i → i ≤ 6 → part (place_of i) (place_of (suc i) - place_of i) s ≡ padded (place_of (suc i) - place_of i) (get_or rows (i - 1) [])

-- a slice of the bucket space at return, each number read through f
abbrev pub settled : (f : ℕ → ℕ) → Buckets → List ℕ → List ℕ
settled f b s = laid_out 4 (list_from (λ i. map f (row_at b s i)) 0 6)

-- the spaces at return: the buckets as laid out, and "The work space, 8,192 places for each, is all 0 at return."
pub record AtReturn (bs : List (List (Term ℕ))) (sw sc ww wc : List ℕ) : Type 0 where
  pub words_are : sw ≡ laid_out 4 (map words bs)
  pub coefs-are : sc ≡ laid_out 4 (map coefs bs)
  pub work-words : ww ≡ replicate work_places 0
  pub work-coefs : wc ≡ replicate work_places 0
