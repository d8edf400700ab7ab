-- A carry under way: what each turn of its loop asks and leaves. Assumes nothing.
use mathlib.Core.Path.{◌≡◌, refl, sym, ap, ap₂, ◌∙◌, subst}
use mathlib.Core.List.{List, [], ◌∷◌, ◌++◌, append_assoc}
use mathlib.Core.Logic.{◌⊎◌, inl, inr, ⊎_elim}
use Prim.Native.Nat.{ℕ, suc, ◌+◌, ◌-◌, ◌*◌, ◌<◌, ◌≤◌, compare}
use native.Mathlib.Omega.{arith}
use lib.ListN.{length}
use Rattle.limits.specs.Limits.{most_terms, work_places}
use Rattle.residue.specs.Modular.{Modulus}
use Rattle.monomial.proofs.OrderLaws.{numbers-order}
use Rattle.polynomial.specs.Terms.{Term, terms, Canonical}
use Rattle.polynomial.specs.Merge.{merge, merge_count}
use Rattle.polynomial.proofs.MergeLaws.{merge-size, merge-canonical, count-size}
use Rattle.polynomial.proofs.TermLists.{length-terms, terms-of}
use Rattle.merge_common.specs.Lent.{part}
use Rattle.merge_common.specs.declared.merging.Placed.{Placed}
use Rattle.merge_common.proofs.Lists.{length_part}
use Rattle.merge_common.specs.Placing.{PlacedIn}
use Rattle.geobucket.specs.Buckets.{held, carry, carry_compared}
use Rattle.space.specs.Space.{Buckets, head_at, len_at, side_at, capacity, start, zone, zone_end, all_places, list_from, bucket_at, buckets_in, Laid, Stands, Slices, moved, turned}
use Rattle.space.proofs.Starts.{next-capacity, zone-work, end-work, zone-areas, end-in-work}
use Rattle.space.proofs.Joined.{SameBut, same-wider, same_left}
use Rattle.space.proofs.SpaceLaws.{from-same, from_last, from_at, bucket-long, bucket-none, held_cons, moved-len, laid-moved, bucket-else, turned-head, turned-len, laid-turned, bucket-else-turned, side-low, side-high}
use Rattle.buckets.specs.Adding.{Carry, MergeUp, free}
use Rattle.buckets.specs.Last.{MergeLast, LastMerged, last_at}
use Rattle.buckets.proofs.CarryLaws.{carry-stays, count-stays, carry-goes, count-goes}
use Rattle.buckets.proofs.PlaceLaws.{in-work, in-space, all-long, stands_of, canon-of, from-here, each-by}
use Rattle.buckets.proofs.UpLaws.{both-fit, side-end}
use Rattle.buckets.proofs.LastLaws.{last-merged}

-- The len terms at `from` are merged with bucket i next; in the end the buckets are R, and the comparisons N, of which n are made.
pub record Carries (p : ℕ) (R : List (List (Term ℕ))) (N : ℕ) (b : Buckets) (i from len n : ℕ) (ww wc sw sc : List ℕ) : Type 0 where
  pub modulus : Modulus p
  pub laid : Laid b
  pub slices : Slices ww wc sw sc
  pub within : i < 6
  pub some : 0 < len
  pub canon : (j : ℕ) → j < 6 → Canonical compare p (bucket_at b (ww ++ sw) (wc ++ sc) j)
  pub canonical : Canonical compare p (terms (part from len ww) (part from len wc))
  pub fits : len ≤ capacity i
  pub in-places : from + len ≤ work_places
  pub apart : (from + len ≤ 4 * start i) ⊎ (free ≤ from)
  pub room : len + held (list_from (bucket_at b (ww ++ sw) (wc ++ sc)) i (6 - i)) ≤ most_terms
  pub lists : list_from (bucket_at b (ww ++ sw) (wc ++ sc)) 0 i ++ carry compare p (capacity i) (terms (part from len ww) (part from len wc)) (list_from (bucket_at b (ww ++ sw) (wc ++ sc)) i (6 - i)) ≡ R
  pub count : n + length (carry_compared compare p (capacity i) (terms (part from len ww) (part from len wc)) (list_from (bucket_at b (ww ++ sw) (wc ++ sc)) i (6 - i))) ≡ N
  pub few : n ≤ most_terms * i

pub carries-start : {p : ℕ} {b : Buckets} {i from len : ℕ} {ww wc sw sc : List ℕ} → Carry p b i from len ww wc sw sc
    → Carries p (list_from (bucket_at b (ww ++ sw) (wc ++ sc)) 0 i ++ carry compare p (capacity i) (terms (part from len ww) (part from len wc)) (list_from (bucket_at b (ww ++ sw) (wc ++ sc)) i (6 - i)))
    (length (carry_compared compare p (capacity i) (terms (part from len ww) (part from len wc)) (list_from (bucket_at b (ww ++ sw) (wc ++ sc)) i (6 - i)))) b i from len 0 ww wc sw sc
carries-start a = record {
  modulus = a.stands.modulus;
  laid = a.stands.laid;
  slices = a.slices;
  within = a.within;
  some = a.some;
  canon = canon-of a.stands;
  canonical = a.canonical;
  fits = a.fits;
  in-places = a.in-work;
  apart = a.apart;
  room = a.room;
  lists = refl;
  count = omega arith;
  few = omega arith;
}

module _ {p : ℕ} {R : List (List (Term ℕ))} {N : ℕ} {b : Buckets} {i from len n : ℕ} {ww wc sw sc : List ℕ} (v : Carries p R N b i from len n ww wc sw sc) where
  abbrev g : ℕ → List (Term ℕ)
  g = bucket_at b (ww ++ sw) (wc ++ sc)

  abbrev F : List (Term ℕ)
  F = terms (part from len ww) (part from len wc)

  lw : length (part from len ww) ≡ len
  lw = length_part from len ww (omega (arith, v.in-places, v.slices.work-words))

  lc : length (part from len wc) ≡ len
  lc = length_part from len wc (omega (arith, v.in-places, v.slices.work-coefs))

  F-long : length F ≡ len
  F-long = length-terms (part from len ww) (part from len wc) (lc ∙ sym lw) ∙ lw

  pos : 0 < p
  pos = omega (arith, v.modulus.two)

  g-long : length (g i) ≡ len_at b i
  g-long = let q = all-long v.slices in bucket-long b v.laid i v.within (ww ++ sw) (wc ++ sc) q.0 q.1

  -- the terms held from here on are those of bucket i and those above it
  parted : held (list_from g i (6 - i)) ≡ len_at b i + held (list_from g (suc i) (6 - suc i))
  parted = ap held (from-here g i v.within) ∙ (held_cons (g i) (list_from g (suc i) (6 - suc i)) ∙ ap (λ (k : ℕ). k + held (list_from g (suc i) (6 - suc i))) g-long)

  M-size : length (merge compare p F (g i)) ≤ len + len_at b i
  M-size = omega (arith, merge-size compare p F (g i), F-long, g-long)

  M-canonical : Canonical compare p (merge compare p F (g i))
  M-canonical = merge-canonical compare numbers-order p pos F (g i) v.canonical (v.canon i v.within)

  M-count : merge_count compare F (g i) ≤ most_terms
  M-count = omega (arith, count-size compare p F (g i), F-long, g-long, parted, v.room)

  -- ---- one of buckets 0 to 4
  module _ (h : i < 5) where
    here : g i ≡ bucket_at b ww wc i
    here = in-work b v.laid i h v.slices

    pub up-asks : MergeUp p b i from len ww wc
    up-asks = record {
      modulus = v.modulus;
      laid = v.laid;
      within = h;
      some = v.some;
      canonical = v.canonical;
      there = subst (Canonical compare p) here (v.canon i v.within);
      fits = v.fits;
      in-work = v.in-places;
      apart = v.apart;
      work-words = v.slices.work-words;
      work-coefs = v.slices.work-coefs;
    }

    pub other-asks : {s : ℕ} → s ≡ side_at b i → (i < 5) × (4 * start i ≤ s) × (s ≤ 4 * start i + 2 * capacity i)
    other-asks {s} es =
        let z : 4 * start i ≡ zone i = sym (zone-work i h) in
        (h, omega (arith, es, z, side-low v.laid i h), omega (arith, es, z, side-high v.laid i h, zone-areas i h))

    module _ {ww' wc' : List ℕ} {r : Placed} (d : PlacedIn compare p F (bucket_at b ww wc i) (side_at b i) (side_at b i + (len + len_at b i)) ww wc ww' wc' r) (kw : length ww' ≡ length ww) (kc : length wc' ≡ length wc) where
      abbrev M : List (Term ℕ)
      M = merge compare p F (g i)

      len_is : r.len ≡ length M
      len_is = d.len_is ∙ ap (λ (x : List (Term ℕ)). length (merge compare p F x)) (sym here)

      count-is : r.comparisons ≡ merge_count compare F (g i)
      count-is = d.count-is ∙ ap (merge_count compare F) (sym here)

      slices' : Slices ww' wc' sw sc
      slices' = let s = v.slices in record { work-words = kw ∙ s.work-words; work-coefs = kc ∙ s.work-coefs; words_long = s.words_long; coefs-long = s.coefs-long }

      -- what the merge made, read from the work space
      pub made : terms (part r.head r.len ww') (part r.head r.len wc') ≡ M
      made = ap₂ terms d.words_are d.coefs-are ∙ (terms-of (merge compare p F (bucket_at b ww wc i)) ∙ ap (merge compare p F) (sym here))

      low : zone i ≤ r.head
      low = omega (arith, d.from_low, side-low v.laid i h)

      high : r.head + r.len ≤ zone_end i
      high = omega (arith, d.to_end, side-end up-asks)

      pub in-places' : r.head + r.len ≤ work_places
      in-places' = omega (arith, high, end-in-work i h)

      same-words : SameBut (zone i) (zone_end i) (ww ++ sw) (ww' ++ sw)
      same-words = same_left ww ww' sw kw (same-wider ww ww' (zone i) (zone_end i) (side-low v.laid i h) (side-end up-asks) d.words-else)

      same-coefs : SameBut (zone i) (zone_end i) (wc ++ sc) (wc' ++ sc)
      same-coefs = same_left wc wc' sc kc (same-wider wc wc' (zone i) (zone_end i) (side-low v.laid i h) (side-end up-asks) d.coefs-else)

      all : (length (ww ++ sw) ≡ all_places) × (length (wc ++ sc) ≡ all_places)
      all = all-long v.slices

      all' : (length (ww' ++ sw) ≡ all_places) × (length (wc' ++ sc) ≡ all_places)
      all' = all-long slices'

      pub short-count : n + r.comparisons ≤ most_terms * (i + 1)
      short-count = omega (arith, count-is, M-count, v.few)

      -- ---- it is not larger than the bucket, and stays there
      module _ (fits-is : r.len ≤ capacity i) {s : ℕ} (es : s ≡ 4 * start i + (4 * start i + 2 * capacity i - side_at b i)) {b' : Buckets} (eb : b' ≡ turned b i r.head r.len s) where
        zone-is : 4 * start i ≡ zone i
        zone-is = sym (zone-work i h)

        abbrev B : Buckets
        B = turned b i r.head r.len s

        laid' : Laid B
        laid' =
            let bf = both-fit up-asks in
            ⊎_elim
            (λ (e : side_at b i ≡ zone i). laid-turned b i r.head r.len s v.laid h low high fits-is (inr (omega (arith, es, zone-is, e))) (inl (omega (arith, d.to_end, es, zone-is, e, bf))))
            (λ (e : side_at b i ≡ zone i + 2 * capacity i). laid-turned b i r.head r.len s v.laid h low high fits-is (inl (omega (arith, es, zone-is, e))) (inr (omega (arith, d.from_low, es, zone-is, e))))
            (v.laid.side-is i h)

        own : bucket_at B (ww' ++ sw) (wc' ++ sc) i ≡ M
        own =
            in-work B laid' i h slices'
            ∙ (ap₂ (λ (x y : ℕ). terms (part x y ww') (part x y wc')) (turned-head b i r.head r.len s v.laid h) (turned-len b i r.head r.len s v.laid h) ∙ made)

        other : (j : ℕ) → j < 6 → (j ≡ i → ⊥) → bucket_at B (ww' ++ sw) (wc' ++ sc) j ≡ g j
        other j k ne = bucket-else-turned b i r.head r.len s v.laid h (ww ++ sw) (wc ++ sc) (ww' ++ sw) (wc' ++ sc) (all'.0 ∙ sym all.0) (all'.1 ∙ sym all.1) same-words same-coefs j k ne

        lists' : buckets_in B (ww' ++ sw) (wc' ++ sc) ≡ R
        lists' =
            from_at (bucket_at B (ww' ++ sw) (wc' ++ sc)) i v.within
            ∙ (ap₂ (λ (x y : List (List (Term ℕ))). x ++ y)
            (from-same (bucket_at B (ww' ++ sw) (wc' ++ sc)) g 0 i (λ j u w. other j (omega (arith, h)) (λ e. let z : ⊥ = omega arith in z)))
            (ap₂ (λ (x : List (Term ℕ)) (y : List (List (Term ℕ))). x ∷ y) own
            (from-same (bucket_at B (ww' ++ sw) (wc' ++ sc)) g (suc i) (5 - i) (λ j u w. other j (omega (arith, h)) (λ e. let z : ⊥ = omega arith in z)) ∙ ap (list_from g (suc i)) (let e : 5 - i ≡ 6 - suc i = omega arith in e))
            ∙ sym (ap (carry compare p (capacity i) F) (from-here g i v.within) ∙ carry-stays compare p (capacity i) F (g i) (list_from g (suc i) (6 - suc i)) (omega (arith, len_is, fits-is))))
            ∙ v.lists)

        canon' : (j : ℕ) → j < 6 → Canonical compare p (bucket_at B (ww' ++ sw) (wc' ++ sc) j)
        canon' = each-by (λ j. Canonical compare p (bucket_at B (ww' ++ sw) (wc' ++ sc) j)) i (subst (Canonical compare p) (sym own) M-canonical) (λ j k ne. subst (Canonical compare p) (sym (other j k ne)) (v.canon j k))

        -- the comparisons are all made
        all_made : n + r.comparisons ≡ N
        all_made = omega (arith, count-is, v.count, ap length (ap (carry_compared compare p (capacity i) F) (from-here g i v.within)) ∙ count-stays compare p (capacity i) F (g i) (list_from g (suc i) (6 - suc i)) (omega (arith, len_is, fits-is)))

        pub stays : (buckets_in b' (ww' ++ sw) (wc' ++ sc) ≡ R) × (n + r.comparisons ≡ N) × (n + r.comparisons ≤ 50000) × Stands compare p b' (ww' ++ sw) (wc' ++ sc)
        stays = subst (λ (x : Buckets). (buckets_in x (ww' ++ sw) (wc' ++ sc) ≡ R) × (n + r.comparisons ≡ N) × (n + r.comparisons ≤ 50000) × Stands compare p x (ww' ++ sw) (wc' ++ sc)) (sym eb) (lists', all_made, omega (arith, short-count, h), stands_of v.modulus all'.0 all'.1 laid' canon')

      -- ---- it is larger: the bucket is emptied, and the next one comes
      module _ (large : capacity i < r.len) {h₀ : ℕ} (eh : h₀ ≡ head_at b i) {b' : Buckets} (eb : b' ≡ moved b i h₀ 0) {i' : ℕ} (el : i' ≡ suc i) where
        abbrev E : Buckets
        E = moved b i h₀ 0

        emptied-laid : Laid E
        emptied-laid =
            laid-moved b i h₀ 0 v.laid v.within (omega (arith, eh, v.laid.low i v.within)) (omega (arith, eh, v.laid.high i v.within)) (omega arith)
            (λ k. ⊎_elim (λ u. inl (omega (arith, eh, u))) (λ u. inr (omega (arith, eh, u))) (v.laid.side-apart i k))

        emptied-own : bucket_at E (ww' ++ sw) (wc' ++ sc) i ≡ []
        emptied-own = bucket-none E i emptied-laid v.within (ww' ++ sw) (wc' ++ sc) (moved-len b i h₀ 0 v.laid v.within)

        emptied-other : (j : ℕ) → j < 6 → (j ≡ i → ⊥) → bucket_at E (ww' ++ sw) (wc' ++ sc) j ≡ g j
        emptied-other j k ne = bucket-else b i h₀ 0 v.laid v.within (ww ++ sw) (wc ++ sc) (ww' ++ sw) (wc' ++ sc) (all'.0 ∙ sym all.0) (all'.1 ∙ sym all.1) same-words same-coefs j k ne

        abbrev g' : ℕ → List (Term ℕ)
        g' = bucket_at E (ww' ++ sw) (wc' ++ sc)

        above : list_from g' (suc i) (6 - suc i) ≡ list_from g (suc i) (6 - suc i)
        above = from-same g' g (suc i) (6 - suc i) (λ j u w. emptied-other j (omega (arith, h)) (λ e. let z : ⊥ = omega arith in z))

        below : list_from g' 0 (suc i) ≡ list_from g 0 i ++ ([] ∷ [])
        below =
            from_last g' 0 i
            ∙ ap₂ (λ (x : List (List (Term ℕ))) (y : List (Term ℕ)). x ++ (y ∷ []))
            (from-same g' g 0 i (λ j u w. emptied-other j (omega (arith, h)) (λ e. let z : ⊥ = omega arith in z)))
            (ap g' (let e : 0 + i ≡ i = omega arith in e) ∙ emptied-own)

        over : capacity i < length M
        over = omega (arith, large, len_is)

        cap-next : capacity (suc i) ≡ 4 * capacity i
        cap-next = next-capacity i

        lists-on : list_from g' 0 (suc i) ++ carry compare p (capacity (suc i)) M (list_from g' (suc i) (6 - suc i)) ≡ R
        lists-on =
            ap₂ (λ (x y : List (List (Term ℕ))). x ++ y) below (ap₂ (λ (c : ℕ) (x : List (List (Term ℕ))). carry compare p c M x) cap-next above)
            ∙ (append_assoc (list_from g 0 i) ([] ∷ []) (carry compare p (4 * capacity i) M (list_from g (suc i) (6 - suc i)))
            ∙ (ap (λ (x : List (List (Term ℕ))). list_from g 0 i ++ x) (sym (ap (carry compare p (capacity i) F) (from-here g i v.within) ∙ carry-goes compare p (capacity i) F (g i) (list_from g (suc i) (6 - suc i)) over))
            ∙ v.lists))

        count-on : (n + r.comparisons) + length (carry_compared compare p (capacity (suc i)) M (list_from g' (suc i) (6 - suc i))) ≡ N
        count-on =
            omega (
              arith,
              count-is,
              v.count,
              ap length (ap (carry_compared compare p (capacity i) F) (from-here g i v.within)) ∙ count-goes compare p (capacity i) F (g i) (list_from g (suc i) (6 - suc i)) over,
              ap length (ap₂ (λ (c : ℕ) (x : List (List (Term ℕ))). carry_compared compare p c M x) cap-next above),
            )

        canon-on : (j : ℕ) → j < 6 → Canonical compare p (g' j)
        canon-on = each-by (λ j. Canonical compare p (g' j)) i (subst (Canonical compare p) (sym emptied-own) (record { falling = tt; reduced = tt })) (λ j k ne. subst (Canonical compare p) (sym (emptied-other j k ne)) (v.canon j k))

        on-next : Carries p R N E (suc i) r.head r.len (n + r.comparisons) ww' wc' sw sc
        on-next = record {
          modulus = v.modulus;
          laid = emptied-laid;
          slices = slices';
          within = omega (arith, h);
          some = omega (arith, large);
          canon = canon-on;
          canonical = subst (Canonical compare p) (sym made) M-canonical;
          fits = omega (arith, len_is, M-size, both-fit up-asks, cap-next);
          in-places = in-places';
          apart = inl (omega (arith, high, end-work i h));
          room = omega (arith, len_is, M-size, parted, v.room, ap held above);
          lists = ap (λ (x : List (Term ℕ)). list_from g' 0 (suc i) ++ carry compare p (capacity (suc i)) x (list_from g' (suc i) (6 - suc i))) made ∙ lists-on;
          count = ap (λ (x : List (Term ℕ)). (n + r.comparisons) + length (carry_compared compare p (capacity (suc i)) x (list_from g' (suc i) (6 - suc i)))) made ∙ count-on;
          few = omega (arith, short-count);
        }

        pub goes : Carries p R N b' i' r.head r.len (n + r.comparisons) ww' wc' sw sc
        goes = subst (λ (x : Buckets). Carries p R N x i' r.head r.len (n + r.comparisons) ww' wc' sw sc) (sym eb) (subst (λ (x : ℕ). Carries p R N E x r.head r.len (n + r.comparisons) ww' wc' sw sc) (sym el) on-next)

  -- ---- the last bucket takes what comes
  module _ (h : 5 ≤ i) where
    last : i ≡ 5
    last = omega (arith, v.within)

    pub last-asks : MergeLast p b (part from len ww) (part from len wc) sw sc
    last-asks = record {
      modulus = v.modulus;
      laid = v.laid;
      lent = record { long = lc ∙ sym lw; reduced = v.canonical.reduced };
      there = subst (Canonical compare p) (in-space b v.laid v.slices) (v.canon 5 (omega arith));
      room = let k = ap (len_at b) last in omega (arith, lw, parted, v.room, k);
      words_long = v.slices.words_long;
      coefs-long = v.slices.coefs-long;
    }

    pub ends : {sw' sc' : List ℕ} {b' : Buckets} {r : ℕ} → LastMerged p b F (last_at b sw sc) sw' sc' b' r → (buckets_in b' (ww ++ sw') (wc ++ sc') ≡ R) × (n + r ≡ N) × (n + r ≤ 50000) × Stands compare p b' (ww ++ sw') (wc ++ sc')
    ends d =
        let k : len + len_at b 5 ≤ most_terms = let e = ap (len_at b) last in omega (arith, parted, v.room, e) in
        let m = last-merged v.modulus v.laid v.slices v.canon F v.canonical (omega (arith, F-long, k)) d in
        let c = ap (λ (x : ℕ). length (carry_compared compare p (capacity x) F (list_from g x (6 - x)))) last in (
          m.0 ∙ (ap (λ (x : ℕ). list_from g 0 x ++ carry compare p (capacity x) F (list_from g x (6 - x))) (sym last) ∙ v.lists),
          omega (arith, m.1, c, v.count),
          omega (arith, m.2, v.few, last),
          m.3,
        )
