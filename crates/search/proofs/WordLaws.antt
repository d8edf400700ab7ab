-- The search by keys, said in words: it is the published search of the words. Assumes nothing.
use mathlib.Core.Path.{◌≡◌, refl, sym, ap, ap₂, ◌∙◌, subst}
use mathlib.Core.List.{List, map}
use Prim.Native.Nat.{ℕ, ◌≤◌, compare}
use lib.ListN.{length}
use Rattle.std.proofs.lemmas.Option.{none-some, same_Some}
use Rattle.monomial.specs.declared.order.Order.{Order}
use Rattle.monomial.specs.Words.{compare_words, from_key}
use Rattle.monomial.proofs.OrderLaws.{numbers-order}
use Rattle.monomial.proofs.KeyLaws.{from-key-compare}
use Rattle.polynomial.specs.Terms.{Term}
use Rattle.geobucket.specs.Search.{Lead, none, lead, search, with_lead}
use Rattle.geobucket.proofs.Renaming.{renamed_lead, renamed-with_lead, search-answer, search-buckets, search-count}
use Rattle.space.specs.Space.{Buckets, bucket_at, buckets_in, Stands, Spaces, in_words, words_in}
use Rattle.space.proofs.SpaceLaws.{from-long}
use Rattle.search.specs.declared.candidate.Lead.{Lead as FoundLead}
use Rattle.search.specs.declared.candidate.LeadSearch.{LeadSearch}
use Rattle.search.specs.Candidates.{search_of}
use Rattle.search.specs.Searching.{Removal, FindDone, TakeDone, Found, Taken, without}
use Rattle.search.proofs.FindState.{stands-canon}
use Rattle.search.proofs.TakeLaws.{removal-asks, take-lead}

-- the buckets in all places: `spaces b ww wc sw sc` is `lying b (ww ++ sw) (wc ++ sc)`
abbrev pub lying : Buckets → (ks cs : List ℕ) → Spaces
lying b ks cs = record { places = b; keys = ks; coefs = cs }

module _ (o : Order) {p : ℕ} {b : Buckets} {ks cs : List ℕ} (s : Stands compare p b ks cs) where
  abbrev bs : List (List (Term ℕ))
  bs = buckets_in b ks cs

  abbrev ws : List (List (Term ℕ))
  ws = map (in_words o) bs

  six : length bs ≡ 6
  six = from-long (bucket_at b ks cs) 0 6

  -- an answer by keys, said in words, with its comparisons
  abbrev pub worded : Lead ℕ → ℕ → LeadSearch
  worded a n = search_of (renamed_lead (from_key o) a) n

  said-is : {a : Lead ℕ} {n : ℕ} → a ≡ (search compare p bs).answer → n ≡ length (search compare p bs).pairs → worded a n ≡ search_of (search (compare_words o) p ws).answer (length (search (compare_words o) p ws).pairs)
  said-is ea en = ap₂ worded ea en ∙ sym (ap₂ search_of (search-answer compare (compare_words o) (from_key o) (from-key-compare o) p bs) (search-count compare (compare_words o) (from_key o) (from-key-compare o) p bs))

  few-of : (a : Lead ℕ) (n : ℕ) → n ≤ 50000 → (worded a n).count ≤ 50000
  few-of none n h = h
  few-of (lead at t) n h = h

  module _ {b' : Buckets} {cs' : List ℕ} {n : ℕ} where
    pub taken-words : {a : Lead ℕ} → TakeDone compare p bs b' ks cs' a n → Taken o p (lying b ks cs) (lying b' ks cs') (worded a n)
    taken-words {a} d = record {
      search-is = said-is d.answer-is d.count-is;
      few = few-of a n d.few;
      lists-are = ap (map (in_words o)) d.lists-are ∙ sym (search-buckets compare (compare_words o) (from_key o) (from-key-compare o) p bs);
      stands = d.stands;
    }

  module _ {b' : Buckets} {cs' : List ℕ} {n : ℕ} where
    found-lists : {a : Lead ℕ} → FindDone compare p bs b' ks cs' a n → words_in o (lying b' ks cs') ≡ with_lead (search (compare_words o) p ws).answer (search (compare_words o) p ws).buckets
    found-lists d =
        ap (map (in_words o)) d.lists-are
        ∙ (sym (renamed-with_lead (from_key o) (search compare p bs).answer (search compare p bs).buckets)
        ∙ sym (ap₂ with_lead (search-answer compare (compare_words o) (from_key o) (from-key-compare o) p bs) (search-buckets compare (compare_words o) (from_key o) (from-key-compare o) p bs)))

    -- zero was found
    pub found_none : FindDone compare p bs b' ks cs' none n → Found o p (lying b ks cs) (lying b' ks cs') (worded none n)
    found_none d = record {
      search-is = said-is d.answer-is d.count-is;
      few = d.few;
      lists-are = found-lists d;
      stands = d.stands;
      removal = λ l e. absurd (none-some l e);
      removed = λ l e. absurd (none-some l e);
    }

    pub found-lead : {at : ℕ} {t : Term ℕ} → FindDone compare p bs b' ks cs' (lead at t) n → Found o p (lying b ks cs) (lying b' ks cs') (worded (lead at t) n)
    found-lead {at} {t} d = record {
      search-is = said-is d.answer-is d.count-is;
      few = d.few;
      lists-are = found-lists d;
      stands = d.stands;
      removal = λ l e. subst (λ (x : FoundLead). Removal b' x.bucket) (same_Some (record { bucket = at; word = from_key o t.mono; coef = t.coef }) l e) (removal-asks numbers-order (stands-canon s) six d);
      removed = λ l e. subst (λ (x : FoundLead). Taken o p (lying b ks cs) (without x.bucket (lying b' ks cs')) (worded (lead at t) n)) (same_Some (record { bucket = at; word = from_key o t.mono; coef = t.coef }) l e) (taken-words {a = lead at t} (take-lead numbers-order (stands-canon s) six d refl));
    }
