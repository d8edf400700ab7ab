-- Additions and full sums in words, from those by keys. Assumes nothing.
use mathlib.Core.Path.{◌≡◌, sym, ap, ap₂, ◌∙◌, subst}
use mathlib.Core.List.{List, ◌++◌, map}
use mathlib.Core.Logic.{inl}
use Prim.Native.Nat.{ℕ, ◌+◌, ◌<◌, ◌≤◌, compare}
use native.Mathlib.Decide.{dec_le}
use native.Mathlib.Omega.{arith}
use lib.ListN.{length, length-map}
use lib.Seq.{sets, length-sets}
use Rattle.monomial.specs.declared.order.Order.{Order}
use Rattle.monomial.specs.Words.{compare_words, key_of, from_key}
use Rattle.monomial.proofs.KeyLaws.{from-key-compare}
use Rattle.polynomial.specs.Terms.{Term, terms, Canonical}
use Rattle.polynomial.proofs.Renaming.{renamed-terms}
use Rattle.polynomial.proofs.TermLists.{length-terms}
use Rattle.merge_common.specs.Lent.{part}
use Rattle.geobucket.specs.Buckets.{held, add, add_compared}
use Rattle.geobucket.proofs.Renaming.{renamed-add, renamed-add-count}
use Rattle.space.specs.Space.{Buckets, head_at, len_at, bucket_at, buckets_in, Stands, Slices, spaces, in_words, words_in}
use Rattle.space.proofs.SpaceLaws.{part-put, part-frame, from-same, held-lens}
use Rattle.space.proofs.InWords.{held-words, canonical-keys}
use Rattle.buckets.specs.Adding.{Added, WordAddition, Addition, AddDone, free, most_small}
use Rattle.buckets.specs.Last.{MergeLast, LastMerged, Large, last_at}
use Rattle.buckets.proofs.UpLaws.{areas-end}
use Rattle.buckets.proofs.AddLaws.{last-room, last_done}
use Rattle.buckets.proofs.PlaceLaws.{in-work, in-space, all-long, stands_of, canon-of}

-- ---- what is put past the areas of the work space is in no bucket
module _ {p : ℕ} {b : Buckets} {ww wc sw sc : List ℕ} (s : Stands compare p b (ww ++ sw) (wc ++ sc)) (q : Slices ww wc sw sc) (ws cs : List ℕ) where
  abbrev W : List ℕ
  W = sets ww free ws

  abbrev C : List ℕ
  C = sets wc free cs

  slices-put : Slices W C sw sc
  slices-put = record { work-words = length-sets ww free ws ∙ q.work-words; work-coefs = length-sets wc free cs ∙ q.work-coefs; words_long = q.words_long; coefs-long = q.coefs-long }

  same-bucket : (j : ℕ) → j < 6 → bucket_at b (W ++ sw) (C ++ sc) j ≡ bucket_at b (ww ++ sw) (wc ++ sc) j
  same-bucket j h = by (dec_le 5 j)
    where
      by : Dec (5 ≤ j) → bucket_at b (W ++ sw) (C ++ sc) j ≡ bucket_at b (ww ++ sw) (wc ++ sc) j
      by (yes u) = subst (λ (k : ℕ). bucket_at b (W ++ sw) (C ++ sc) k ≡ bucket_at b (ww ++ sw) (wc ++ sc) k) (let e : 5 ≡ j = omega arith in e) (in-space b s.laid slices-put ∙ sym (in-space b s.laid q))
      by (no u) =
          let k : j < 5 = omega arith in
          let e : head_at b j + len_at b j ≤ free = omega (arith, s.laid.high j h, areas-end j k) in
          in-work b s.laid j k slices-put
          ∙ (ap₂ terms (part-frame ww free ws (head_at b j) (len_at b j) (inl e)) (part-frame wc free cs (head_at b j) (len_at b j) (inl e))
          ∙ sym (in-work b s.laid j k q))

  same-buckets : buckets_in b (W ++ sw) (C ++ sc) ≡ buckets_in b (ww ++ sw) (wc ++ sc)
  same-buckets = from-same (bucket_at b (W ++ sw) (C ++ sc)) (bucket_at b (ww ++ sw) (wc ++ sc)) 0 6 (λ j u w. same-bucket j (omega arith))

  stands-put : Stands compare p b (W ++ sw) (C ++ sc)
  stands-put = let a = all-long slices-put in stands_of s.modulus a.0 a.1 s.laid (λ j h. subst (Canonical compare p) (sym (same-bucket j h)) (canon-of s j h))

-- ---- an addition by keys, in words
added-words : (o : Order) {p : ℕ} {b : Buckets} {f : List (Term ℕ)} {sw sc sw' sc' : List ℕ} {b' : Buckets} {n : ℕ} → AddDone compare p b f sw sc sw' sc' b' n → Added o p (record { places = b; keys = sw; coefs = sc }) (in_words o f) (record { places = b'; keys = sw'; coefs = sc' }) n
added-words o {p} {b} {f} {sw} {sc} d = record {
  lists-are = ap (map (in_words o)) d.lists-are ∙ sym (renamed-add compare (compare_words o) (from_key o) (from-key-compare o) p f (buckets_in b sw sc));
  count-is = d.count-is ∙ sym (renamed-add-count compare (compare_words o) (from_key o) (from-key-compare o) p f (buckets_in b sw sc));
  few = d.few;
  stands = d.stands;
}

pub large-asks : {o : Order} {p : ℕ} {b : Buckets} {ww wc sw sc fw fc : List ℕ} → WordAddition o p (spaces b ww wc sw sc) fw fc → Slices ww wc sw sc → Large o p b fw fc sw sc
large-asks {o} {p} {b} {ww} {wc} {sw} {sc} a q =
    let l = all-long q in
    record {
      modulus = a.stands.modulus;
      laid = a.stands.laid;
      long = a.long;
      reduced = a.canonical.reduced;
      there = subst (Canonical compare p) (in-space b a.stands.laid q) (canon-of a.stands 5 (omega arith));
      room = omega (arith, a.room, held-words o (spaces b ww wc sw sc), held-lens b a.stands.laid (ww ++ sw) (wc ++ sc) l.0 l.1);
      words_long = q.words_long;
      coefs-long = q.coefs-long;
    }

-- a polynomial of words fw and coefficients fc
module _ {o : Order} {p : ℕ} {b : Buckets} {ww wc sw sc fw fc : List ℕ} (a : WordAddition o p (spaces b ww wc sw sc) fw fc) (q : Slices ww wc sw sc) (back : map (from_key o) (map (key_of o) fw) ≡ fw) where
  keys-long : length (map (key_of o) fw) ≡ length fw
  keys-long = length-map fw (key_of o)

  -- its keys, as words
  as-words : in_words o (terms (map (key_of o) fw) fc) ≡ terms fw fc
  as-words = renamed-terms (from_key o) (map (key_of o) fw) fc ∙ ap (λ (l : List ℕ). terms l fc) back

  keys-canonical : Canonical compare p (terms (map (key_of o) fw) fc)
  keys-canonical = canonical-keys o p (terms (map (key_of o) fw) fc) (subst (Canonical (compare_words o) p) (sym as-words) a.canonical)

  f-long : length (terms (map (key_of o) fw) fc) ≡ length fw
  f-long = length-terms (map (key_of o) fw) fc (a.long ∙ sym keys-long) ∙ keys-long

  held-is : held (words_in o (spaces b ww wc sw sc)) ≡ held (buckets_in b (ww ++ sw) (wc ++ sc))
  held-is = held-words o (spaces b ww wc sw sc)

  -- ---- small: the keys are put past the areas
  module _ {ww' wc' : List ℕ} (ew : ww' ≡ sets ww free (map (key_of o) fw)) (ec : wc' ≡ sets wc free fc) {n : ℕ} (en : n ≡ length fw) (few : n ≤ most_small) where
    keys-part : part free n ww' ≡ map (key_of o) fw
    keys-part = ap₂ (λ (m : ℕ) (s : List ℕ). part free m s) (en ∙ sym keys-long) ew ∙ part-put ww free (map (key_of o) fw) (omega (arith, few, en, keys-long, q.work-words))

    coefs-part : part free n wc' ≡ fc
    coefs-part = ap₂ (λ (m : ℕ) (s : List ℕ). part free m s) (en ∙ sym a.long) ec ∙ part-put wc free fc (omega (arith, few, en, a.long, q.work-coefs))

    there : terms (part free n ww') (part free n wc') ≡ terms (map (key_of o) fw) fc
    there = ap₂ terms keys-part coefs-part

    lists : buckets_in b (ww' ++ sw) (wc' ++ sc) ≡ buckets_in b (ww ++ sw) (wc ++ sc)
    lists = ap₂ (λ (x y : List ℕ). buckets_in b (x ++ sw) (y ++ sc)) ew ec ∙ same-buckets a.stands q (map (key_of o) fw) fc

    pub small-asks : Addition compare p b (terms (part free n ww') (part free n wc')) (ww' ++ sw) (wc' ++ sc) × Slices ww' wc' sw sc × (n ≤ most_small)
    small-asks = (
      record {
        stands = rw (ew, ec) (stands-put a.stands q (map (key_of o) fw) fc);
        canonical = subst (Canonical compare p) (sym there) keys-canonical;
        room = omega (arith, ap length there, f-long, ap held lists, held-is, a.room);
      },
      rw (ew, ec) (slices-put a.stands q (map (key_of o) fw) fc),
      few,
    )

    pub small-done : {sw' sc' : List ℕ} {b' : Buckets} {r : ℕ} → AddDone compare p b (terms (part free n ww') (part free n wc')) (ww' ++ sw) (wc' ++ sc) sw' sc' b' r → Added o p (spaces b ww wc sw sc) (terms fw fc) (record { places = b'; keys = sw'; coefs = sc' }) r
    small-done {sw'} {sc'} {b'} {r} d =
        subst (λ (f : List (Term ℕ)). Added o p (spaces b ww wc sw sc) f (record { places = b'; keys = sw'; coefs = sc' }) r) (ap (in_words o) there ∙ as-words)
        (let e = added-words o d in
        record {
          lists-are = e.lists-are ∙ ap (λ (l : List (List (Term ℕ))). add (compare_words o) p (in_words o (terms (part free n ww') (part free n wc'))) (map (in_words o) l)) lists;
          count-is = e.count-is ∙ ap (λ (l : List (List (Term ℕ))). length (add_compared (compare_words o) p (in_words o (terms (part free n ww') (part free n wc'))) (map (in_words o) l))) lists;
          few = e.few;
          stands = e.stands;
        })

  -- ---- large: the keys are lent to the last bucket
  abbrev F : List (Term ℕ)
  F = terms (map (key_of o) fw) fc

  addition : Addition compare p b F (ww ++ sw) (wc ++ sc)
  addition = record { stands = a.stands; canonical = keys-canonical; room = omega (arith, f-long, held-is, a.room) }

  pub last-asks : most_small < length fw → MergeLast p b (map (key_of o) fw) fc sw sc
  last-asks large = record {
    modulus = a.stands.modulus;
    laid = a.stands.laid;
    lent = record { long = a.long ∙ sym keys-long; reduced = keys-canonical.reduced };
    there = subst (Canonical compare p) (in-space b a.stands.laid q) (canon-of a.stands 5 (omega arith));
    room = omega (arith, last-room F addition q (omega (arith, large, f-long)), f-long, keys-long);
    words_long = q.words_long;
    coefs-long = q.coefs-long;
  }

  pub large-done : most_small < length fw → {sw' sc' : List ℕ} {b' : Buckets} {r : ℕ} → LastMerged p b F (last_at b sw sc) sw' sc' b' r → Added o p (spaces b ww wc sw sc) (terms fw fc) (spaces b' ww wc sw' sc') r
  large-done large {sw'} {sc'} {b'} {r} d = subst (λ (f : List (Term ℕ)). Added o p (spaces b ww wc sw sc) f (spaces b' ww wc sw' sc') r) as-words (added-words o (last_done F addition q (omega (arith, large, f-long)) d))
