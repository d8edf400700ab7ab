-- The buckets in words: what holds of the keys in the spaces holds of the words that they are keys of, one word or two to a key. Assumes nothing.
use mathlib.Core.Path.{◌≡◌, ap, ◌∙◌}
use mathlib.Core.List.{List, ◌++◌, map}
use Prim.Native.Nat.{ℕ, compare}
use lib.ListN.{length, length-map}
use Rattle.monomial.specs.declared.order.Order.{Order}
use Rattle.monomial.specs.Words.{compare_words}
use Rattle.monomial.proofs.KeyLaws.{from-key-compare}
use Rattle.wide_monomial.specs.declared.width.Width.{Width}
use Rattle.wide_monomial.specs.declared.width.Width.TheVariants.{One, Two}
use Rattle.wide_monomial.proofs.WideKeyLaws.{from-wide-key-compare}
use Rattle.place.specs.Numbers.{from_key_by}
use Rattle.polynomial.specs.Terms.{Term, Canonical, renamed}
use Rattle.polynomial.proofs.Renaming.{canonical-renamed}
use Rattle.geobucket.specs.Buckets.{empty, held, Good}
use Rattle.geobucket.proofs.Renaming.{renamed-held, renamed-good}
use Rattle.space.specs.Space.{bucket_at, buckets_in, held_in, no_buckets, Spaces, spaces, in_words, words_in, words_by, Standing}
use Rattle.space.proofs.SpaceLaws.{from-long, held-lens, lists-none}

from-key-compare-by : (w : Width) (o : Order) (j k : ℕ) → compare_words o (from_key_by w o j) (from_key_by w o k) ≡ compare j k
from-key-compare-by One o j k = from-key-compare o j k
from-key-compare-by Two o j k = from-wide-key-compare o j k

-- ---- by width
module _ (w : Width) (o : Order) where
  -- a list of keys is canonical where that of its words is
  pub canonical-by : (p : ℕ) (ts : List (Term ℕ)) → Canonical (compare_words o) p (renamed (from_key_by w o) ts) → Canonical compare p ts
  canonical-by p ts c = canonical-renamed compare (compare_words o) (from_key_by w o) (from-key-compare-by w o) p ts c

  pub held-by : (x : Spaces) → held (words_by w o x) ≡ held (buckets_in x.places x.keys x.coefs)
  held-by x = renamed-held (from_key_by w o) (buckets_in x.places x.keys x.coefs)

  pub six-by : (x : Spaces) → length (words_by w o x) ≡ 6
  six-by x = length-map (buckets_in x.places x.keys x.coefs) (renamed (from_key_by w o)) ∙ from-long (bucket_at x.places x.keys x.coefs) 0 6

  module _ {p : ℕ} {x : Spaces} (s : Standing p x) where
    pub good-by : Good (compare_words o) p 4 (words_by w o x)
    good-by = renamed-good compare (compare_words o) (from_key_by w o) (from-key-compare-by w o) p 4 (buckets_in x.places x.keys x.coefs) s.good

    -- the terms held, by the lengths of the buckets
    pub held-is-by : held (words_by w o x) ≡ held_in x.places
    held-is-by = held-by x ∙ held-lens x.places s.laid x.keys x.coefs s.words_long s.coefs-long

  -- six empty buckets
  pub none-by : (ww wc sw sc : List ℕ) → words_by w o (spaces no_buckets ww wc sw sc) ≡ empty
  none-by ww wc sw sc = ap (map (renamed (from_key_by w o))) (lists-none (ww ++ sw) (wc ++ sc))

-- ---- where monomials have one word
pub canonical-keys : (o : Order) (p : ℕ) (ts : List (Term ℕ)) → Canonical (compare_words o) p (in_words o ts) → Canonical compare p ts
canonical-keys o p ts c = canonical-by One o p ts c

pub held-words : (o : Order) (x : Spaces) → held (words_in o x) ≡ held (buckets_in x.places x.keys x.coefs)
held-words o x = held-by One o x

pub six-words : (o : Order) (x : Spaces) → length (words_in o x) ≡ 6
six-words o x = six-by One o x

module _ (o : Order) {p : ℕ} {x : Spaces} (s : Standing p x) where
  pub good-words : Good (compare_words o) p 4 (words_in o x)
  good-words = good-by One o s

  pub held-is : held (words_in o x) ≡ held_in x.places
  held-is = held-is-by One o s

pub words-none : (o : Order) (ww wc sw sc : List ℕ) → words_in o (spaces no_buckets ww wc sw sc) ≡ empty
words-none o ww wc sw sc = none-by One o ww wc sw sc
