-- What the search and its parts ask and leave. Assumes nothing.
use Prim.Native.Nat.{ℕ, suc, ◌+◌, ◌-◌, ◌<◌, ◌≤◌, Ordering}
use Rattle.std.specs.Prelude.{◌≡◌, List, ◌∷◌, ◌++◌, length, get_or, Some}
use Rattle.residue.specs.Modular.{Modulus}
use Rattle.monomial.specs.declared.order.Order.{Order}
use Rattle.monomial.specs.Words.{compare_words}
use Rattle.polynomial.specs.Terms.{Term, term, Canonical}
use Rattle.geobucket.specs.Search.{Pass, Lead, seek, search, put_back, with_lead}
use Rattle.space.specs.Space.{Buckets, all_places, head_at, len_at, list_from, bucket_at, buckets_in, Laid, Stands, Spaces, words_in, Standing, dropped}
use Rattle.search.specs.declared.candidate.Candidate.{Candidate}
use Rattle.search.specs.declared.candidate.Lead.{Lead as FoundLead}
use Rattle.search.specs.declared.candidate.LeadSearch.{LeadSearch}
use Rattle.search.specs.Candidates.{search_of}

-- a bucket that has a lead
pub record Removal (b : Buckets) (i : ℕ) : Type 0 where
  pub laid : Laid b
  pub within : i < 6
  pub some : 0 < len_at b i

-- the lead, as a word, is that of the published search, with the search's comparisons, and is removed from its bucket
pub record Taken (o : Order) (p : ℕ) (x x' : Spaces) (c : LeadSearch) : Type 0 where
  pub search-is : c ≡ search_of (search (compare_words o) p (words_in o x)).answer (length (search (compare_words o) p (words_in o x)).pairs)
  pub few : c.count ≤ 50000
  pub lists-are : words_in o x' ≡ (search (compare_words o) p (words_in o x)).buckets
  pub stands : Standing p x'

-- the spaces without the lead of bucket i
abbrev pub without : ℕ → Spaces → Spaces
without i x = record { places = dropped x.places i; keys = x.keys; coefs = x.coefs }

-- the same, with the lead left in its bucket, like terms combined; a lead that was found may be removed
pub record Found (o : Order) (p : ℕ) (x x' : Spaces) (c : LeadSearch) : Type 0 where
  pub search-is : c ≡ search_of (search (compare_words o) p (words_in o x)).answer (length (search (compare_words o) p (words_in o x)).pairs)
  pub few : c.count ≤ 50000
  pub lists-are : words_in o x' ≡ with_lead (search (compare_words o) p (words_in o x)).answer (search (compare_words o) p (words_in o x)).buckets
  pub stands : Standing p x'
  pub removal : (l : FoundLead) → c.lead ≡ Some l → Removal x'.places l.bucket
  pub removed : (l : FoundLead) → c.lead ≡ Some l → Taken o p x (without l.bucket x') c

-- by keys: the answer is that of the published search, the lead left in its bucket with like terms combined, with the search's n comparisons
pub record FindDone (cmp : ℕ → ℕ → Ordering) (p : ℕ) (bs : List (List (Term ℕ))) (b : Buckets) (sw sc : List ℕ) (a : Lead ℕ) (n : ℕ) : Type 0 where
  pub answer-is : a ≡ (search cmp p bs).answer
  pub count-is : n ≡ length (search cmp p bs).pairs
  pub few : n ≤ 50000
  pub lists-are : buckets_in b sw sc ≡ with_lead (search cmp p bs).answer (search cmp p bs).buckets
  pub stands : Stands cmp p b sw sc

-- the same, with the lead removed
pub record TakeDone (cmp : ℕ → ℕ → Ordering) (p : ℕ) (bs : List (List (Term ℕ))) (b : Buckets) (sw sc : List ℕ) (a : Lead ℕ) (n : ℕ) : Type 0 where
  pub answer-is : a ≡ (search cmp p bs).answer
  pub count-is : n ≡ length (search cmp p bs).pairs
  pub few : n ≤ 50000
  pub lists-are : buckets_in b sw sc ≡ (search cmp p bs).buckets
  pub stands : Stands cmp p b sw sc

pub record FirstHeld (b : Buckets) (i : ℕ) : Type 0 where
  pub most : i ≤ 6
  pub below : (j : ℕ) → j < i → len_at b j ≡ 0
  pub held : i < 6 → 0 < len_at b i

-- the candidate is the lead of its bucket
pub record Seek (cmp : ℕ → ℕ → Ordering) (p : ℕ) (b : Buckets) (c : Candidate) (sw sc : List ℕ) : Type 0 where
  pub modulus : Modulus p
  pub words_long : length sw ≡ all_places
  pub coefs-long : length sc ≡ all_places
  pub laid : Laid b
  pub canonical : (j : ℕ) → j < 6 → Canonical cmp p (bucket_at b sw sc j)
  pub within : c.bucket < 6
  pub some : 0 < len_at b c.bucket
  pub key-is : c.key ≡ get_or sw (head_at b c.bucket) 0
  pub coef-is : c.coef ≡ get_or sc (head_at b c.bucket) 0
  pub few : c.count ≤ 100000

-- the published pass from the candidate on, over the buckets above its own
abbrev pub pass_from : (cmp : ℕ → ℕ → Ordering) (p : ℕ) (b : Buckets) (c : Candidate) (sw sc : List ℕ) → Pass ℕ
pass_from cmp p b c sw sc = seek cmp p (term c.key c.coef) (bucket_at (dropped b c.bucket) sw sc c.bucket) (list_from (bucket_at b sw sc) (suc c.bucket) (5 - c.bucket))

-- the pass's last candidate, with its comparisons, stands in front of its bucket
pub record SeekDone (cmp : ℕ → ℕ → Ordering) (p : ℕ) (b : Buckets) (c : Candidate) (sw sc sc' : List ℕ) (b' : Buckets) (d : Candidate) : Type 0 where
  pub laid : Laid b'
  pub coefs-long : length sc' ≡ all_places
  pub bucket-is : d.bucket ≡ c.bucket + (pass_from cmp p b c sw sc).at
  pub term_is : term d.key d.coef ≡ (pass_from cmp p b c sw sc).lead
  pub count-is : d.count ≡ c.count + length (pass_from cmp p b c sw sc).pairs
  pub lists-are :
      buckets_in b' sw sc'
      ≡ list_from (bucket_at b sw sc) 0 c.bucket ++ put_back (pass_from cmp p b c sw sc).at (pass_from cmp p b c sw sc).lead ((pass_from cmp p b c sw sc).own ∷ (pass_from cmp p b c sw sc).above)
