-- A search under way in the spaces: what each turn of the loop asks and leaves. Assumes nothing.
use mathlib.Core.Path.{◌≡◌, refl, sym, ap, ap₂, ◌∙◌, subst}
use mathlib.Core.List.{List, [], ◌∷◌, ◌++◌}
use Prim.Native.Nat.{ℕ, suc, ◌+◌, ◌-◌, ◌<◌, ◌≤◌, Ordering}
use native.Mathlib.Nat.{zero-add}
use native.Mathlib.Omega.{arith}
use lib.ListN.{length, get_or}
use Rattle.std.specs.Prelude.{Option, Some, None, MatchOption}
use Rattle.residue.specs.Modular.{Modulus}
use Rattle.monomial.specs.TotalOrder.{TotalOrder}
use Rattle.polynomial.specs.Terms.{Term, term}
use Rattle.geobucket.specs.Buckets.{held, Good, Canon}
use Rattle.geobucket.specs.Search.{Pass, none, lead, Searched, pass, search, put_back, with_lead}
use Rattle.geobucket.proofs.EventLaws.{good-canon}
use Rattle.space.specs.Space.{Buckets, all_places, head_at, len_at, list_from, bucket_at, buckets_in, Laid, Stands, dropped}
use Rattle.space.proofs.Starts.{cap-zero, six}
use Rattle.space.proofs.SpaceLaws.{from-long, canon-at, good-from, held-short, bucket-short, bucket-none, bucket-lead, dropped-laid, dropped-other, some_of, drop_here}
use Rattle.search.specs.declared.candidate.Candidate.{Candidate}
use Rattle.search.specs.Searching.{Seek, SeekDone, pass_from, FirstHeld, Removal, FindDone}
use Rattle.search.proofs.FindLaws.{pass-first, pass-none, put-append, Fronted, fronted, seek-few, Finding, finding-start, pass-long, last-answer, last-buckets, last-count, whole-none, whole-lead, lead-in, fewer, lead-canon, finding-on}

pub record Finds (cmp : ℕ → ℕ → Ordering) (p : ℕ) (bs : List (List (Term ℕ))) (sw : List ℕ) (b : Buckets) (n : ℕ) (sc : List ℕ) : Type 0 where
  pub modulus : Modulus p
  pub words_long : length sw ≡ all_places
  pub coefs-long : length sc ≡ all_places
  pub laid : Laid b
  pub state : Finding cmp p (search cmp p bs) (buckets_in b sw sc) n

-- good buckets are canonical
pub stands-canon : {cmp : ℕ → ℕ → Ordering} {p : ℕ} {b : Buckets} {sw sc : List ℕ} → Stands cmp p b sw sc → Canon cmp p (buckets_in b sw sc)
stands-canon {cmp} {p} {b} {sw} {sc} s = good-canon cmp p 4 (buckets_in b sw sc) s.good

-- the lowest bucket that is not empty, from a look at each in turn
pub held_first : (b : Buckets) (r : Option ℕ) → MatchOption r ((k : ℕ) → 0 ≤ k → k < 6 → len_at b k ≡ 0) (λ i. (0 ≤ i) × (i < 6) × (0 < len_at b i) × ((k : ℕ) → 0 ≤ k → k < i → len_at b k ≡ 0)) → MatchOption r (FirstHeld b 6) (λ i. FirstHeld b i × (i < 6))
held_first b None h = record { most = omega arith; below = λ j u. h j (omega arith) u; held = λ u. absurd (let z : ⊥ = omega arith in z) }
held_first b (Some i) h = (record { most = omega (arith, h.1); below = λ j u. h.3 j (omega arith) u; held = λ u. h.2 }, h.1)

-- ---- the start
pub finds-start : {cmp : ℕ → ℕ → Ordering} {p : ℕ} {b : Buckets} {sw sc : List ℕ} → Stands cmp p b sw sc → Finds cmp p (buckets_in b sw sc) sw b 0 sc
finds-start {cmp} {p} {b} {sw} {sc} s = record {
  modulus = s.modulus;
  words_long = s.words_long;
  coefs-long = s.coefs-long;
  laid = s.laid;
  state =
      finding-start cmp p (buckets_in b sw sc) (stands-canon s)
      (let e = held-short (bucket_at b sw sc) 6 0 (λ j u w. bucket-short b s.laid sw sc s.words_long s.coefs-long j (omega arith)) in omega (arith, e, six));
}

-- buckets that are canonical and lie in the spaces are good
pub stands_by : {cmp : ℕ → ℕ → Ordering} {p : ℕ} {b : Buckets} {sw sc : List ℕ} → Modulus p → length sw ≡ all_places → length sc ≡ all_places → Laid b → Canon cmp p (buckets_in b sw sc) → Stands cmp p b sw sc
stands_by {cmp} {p} {b} {sw} {sc} m hw hc l c = record {
  modulus = m;
  words_long = hw;
  coefs-long = hc;
  laid = l;
  good = subst (λ (q : ℕ). Good cmp p q (buckets_in b sw sc)) cap-zero (good-from cmp p (bucket_at b sw sc) 6 0 c (λ j u w. bucket-short b l sw sc hw hc j (omega arith)));
}

module _ {cmp : ℕ → ℕ → Ordering} {p : ℕ} {bs : List (List (Term ℕ))} {sw : List ℕ} {b : Buckets} {n : ℕ} {sc : List ℕ} {i : ℕ} (v : Finds cmp p bs sw b n sc) (first : FirstHeld b i) (O : TotalOrder ℕ cmp) where
  pos : 0 < p
  pos = omega (arith, v.modulus.two)

  empty-below : (j : ℕ) → j < i → bucket_at b sw sc j ≡ []
  empty-below j h = bucket-none b j v.laid (omega (arith, first.most)) sw sc (first.below j h)

  -- ---- the end: all buckets are empty
  module _ (h : 6 ≤ i) where
    all_none : pass cmp p (buckets_in b sw sc) ≡ record { answer = none; buckets = buckets_in b sw sc; pairs = [] }
    all_none = pass-none cmp p (bucket_at b sw sc) 6 0 (λ j l. ap (bucket_at b sw sc) (zero-add j) ∙ empty-below j (omega arith))

    pub find_none : FindDone cmp p bs b sw sc none n
    find_none =
        let P : Searched ℕ = record { answer = none; buckets = buckets_in b sw sc; pairs = [] } in
        let w = whole-none O pos v.state P all_none refl in
        let a = last-answer O pos v.state P all_none w in
        let k : length (search cmp p bs).pairs ≡ n = last-count O pos v.state P all_none w ∙ (let z : n + 0 ≡ n = omega arith in z) in
        record {
          answer-is = sym a;
          count-is = sym k;
          few = omega (arith, v.state.few);
          lists-are = sym (ap₂ with_lead a (last-buckets O pos v.state P all_none w));
          stands = stands_by v.modulus v.words_long v.coefs-long v.laid v.state.canon;
        }

  -- ---- a turn
  module _ (h : i < 6) {key coef : ℕ} (ek : key ≡ get_or sw (head_at b i) 0) (ec : coef ≡ get_or sc (head_at b i) 0) where
    abbrev begun : Candidate
    begun = record { bucket = i; key = key; coef = coef; count = n }

    pub seek-asks : Seek cmp p b begun sw sc
    seek-asks = record {
      modulus = v.modulus;
      words_long = v.words_long;
      coefs-long = v.coefs-long;
      laid = v.laid;
      canonical = λ j l. canon-at cmp p (bucket_at b sw sc) 6 0 v.state.canon j (omega arith) (omega arith);
      within = h;
      some = first.held h;
      key-is = ek;
      coef-is = ec;
      few = omega (arith, v.state.few);
    }

    module _ {sc' : List ℕ} {b' : Buckets} {c : Candidate} (d : SeekDone cmp p b begun sw sc sc' b' c) where
      abbrev S : Pass ℕ
      S = pass_from cmp p b begun sw sc

      abbrev P : Searched ℕ
      P = record { answer = lead (i + S.at) S.lead; buckets = list_from (bucket_at b sw sc) 0 i ++ (S.own ∷ S.above); pairs = S.pairs }

      is-pass : pass cmp p (buckets_in b sw sc) ≡ P
      is-pass =
          let e : i + suc (5 - i) ≡ 6 = omega arith in
          let z : 0 + i ≡ i = omega arith in
          let own = bucket-lead b i v.laid h (first.held h) sw sc v.words_long v.coefs-long ∙ ap₂ (λ (w x : ℕ). term w x ∷ bucket_at (dropped b i) sw sc i) (sym ek) (sym ec) in
          let r = pass-first cmp p (bucket_at b sw sc) i 0 (5 - i) (λ j l. ap (bucket_at b sw sc) (zero-add j) ∙ empty-below j l) (term begun.key begun.coef) (bucket_at (dropped b i) sw sc i) (ap (bucket_at b sw sc) z ∙ own) in
          rw (z, e) at r

      lists : buckets_in b' sw sc' ≡ put_back (i + S.at) S.lead P.buckets
      lists = d.lists-are ∙ (put-append (list_from (bucket_at b sw sc) 0 i) (S.own ∷ S.above) S.at S.lead ∙ ap (λ (m : ℕ). put_back (m + S.at) S.lead P.buckets) (from-long (bucket_at b sw sc) 0 i))

      coef-is : S.lead.coef ≡ c.coef
      coef-is = ap (λ (t : Term ℕ). t.coef) (sym d.term_is)

      in-six : i + S.at < 6
      in-six = omega (arith, lead-in O pos v.state P is-pass (i + S.at) S.lead refl, from-long (bucket_at b sw sc) 0 6)

      pub bucket-six : c.bucket < 6
      bucket-six = omega (arith, in-six, d.bucket-is)

      few : length S.pairs ≤ 5
      few = omega (arith, seek-few cmp p (list_from (bucket_at b sw sc) (suc i) (5 - i)) (term begun.key begun.coef) (bucket_at (dropped b i) sw sc i), from-long (bucket_at b sw sc) (suc i) (5 - i))

      -- the lead is found
      pub find-lead : (c.coef ≡ 0 → ⊥) → FindDone cmp p bs b' sw sc' (lead c.bucket (term c.key c.coef)) c.count
      find-lead ne =
          let ne' : S.lead.coef ≡ 0 → ⊥ = λ e. ne (sym coef-is ∙ e) in
          let w = whole-lead O pos v.state P is-pass (i + S.at) S.lead refl ne' in
          let a = last-answer O pos v.state P is-pass w in
          record {
            answer-is = ap₂ lead d.bucket-is d.term_is ∙ sym a;
            count-is = d.count-is ∙ sym (last-count O pos v.state P is-pass w);
            few = omega (arith, v.state.few, d.count-is, few);
            lists-are = lists ∙ sym (ap₂ with_lead a (last-buckets O pos v.state P is-pass w));
            stands = stands_by v.modulus v.words_long d.coefs-long d.laid (subst (Canon cmp p) (sym lists) (lead-canon O pos v.state P is-pass (i + S.at) S.lead refl ne'));
          }

      at_front : Fronted (bucket_at b' sw sc') 0 6 (i + S.at) S.lead P.buckets
      at_front = fronted (bucket_at b' sw sc') 6 0 (i + S.at) S.lead P.buckets lists in-six (pass-long O pos v.state P is-pass ∙ from-long (bucket_at b sw sc) 0 6)

      own : bucket_at b' sw sc' c.bucket ≡ S.lead ∷ at_front.rest
      own = ap (bucket_at b' sw sc') (d.bucket-is ∙ sym (zero-add (i + S.at))) ∙ at_front.front

      pub removal : Removal b' c.bucket
      removal = record { laid = d.laid; within = bucket-six; some = some_of b' c.bucket d.laid bucket-six sw sc' v.words_long d.coefs-long S.lead at_front.rest own }

      -- without a candidate of coefficient 0
      removed : buckets_in (dropped b' c.bucket) sw sc' ≡ P.buckets
      removed =
          at_front.back (bucket_at (dropped b' c.bucket) sw sc')
          (ap (bucket_at (dropped b' c.bucket) sw sc') (zero-add (i + S.at) ∙ sym d.bucket-is) ∙ drop_here b' c.bucket d.laid bucket-six sw sc' v.words_long d.coefs-long S.lead at_front.rest own)
          (λ m u w ne. dropped-other b' c.bucket d.laid bucket-six removal.some sw sc' v.words_long d.coefs-long m (omega arith) (λ q. ne (q ∙ (d.bucket-is ∙ sym (zero-add (i + S.at))))))

      module _ {b'' : Buckets} (e : b'' ≡ dropped b' c.bucket) where
        pub fewer-held : held (buckets_in b'' sw sc') < held (buckets_in b sw sc)
        fewer-held = omega (arith, ap (λ (x : Buckets). held (buckets_in x sw sc')) e, ap held removed, fewer O pos v.state P is-pass (i + S.at) S.lead refl)

        pub find-again : c.coef ≡ 0 → Finds cmp p bs sw b'' c.count sc'
        find-again z = record {
          modulus = v.modulus;
          words_long = v.words_long;
          coefs-long = d.coefs-long;
          laid = subst Laid (sym e) (dropped-laid b' c.bucket d.laid bucket-six removal.some);
          state =
              subst (λ (l : List (List (Term ℕ))). Finding cmp p (search cmp p bs) l c.count) (sym (ap (λ (x : Buckets). buckets_in x sw sc') e ∙ removed))
              (subst (Finding cmp p (search cmp p bs) P.buckets) (sym d.count-is) (finding-on O pos v.state P is-pass (i + S.at) S.lead refl (coef-is ∙ z) few));
        }
