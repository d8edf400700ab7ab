-- The full sum: buckets 0 to 4 in turn in the work space, and then the last one in its place. Assumes nothing.
use mathlib.Core.Path.{◌≡◌, refl, sym, ap, ap₂, ◌∙◌, subst}
use mathlib.Core.List.{List, [], ◌∷◌, ◌++◌}
use mathlib.Core.Logic.{inl}
use Prim.Native.Nat.{ℕ, zero, suc, ◌+◌, ◌-◌, ◌*◌, ◌<◌, ◌≤◌, Ordering, compare}
use native.Mathlib.Numerals.{add-one}
use native.Mathlib.Omega.{arith}
use lib.ListN.{length, take, drop, length-append}
use Rattle.limits.specs.Limits.{bucket_places, most_terms, work_places}
use Rattle.monomial.proofs.OrderLaws.{numbers-order}
use Rattle.polynomial.specs.Terms.{Term, terms, Canonical}
use Rattle.polynomial.specs.Merge.{merge, compared, merge_count}
use Rattle.polynomial.proofs.MergeLaws.{merge-size, merge-canonical, merge-nil, count_left, count-right, count-size}
use Rattle.polynomial.proofs.TermLists.{length-terms, terms-of}
use Rattle.merge_common.specs.Lent.{part}
use Rattle.merge_common.specs.declared.merging.Placed.{Placed}
use Rattle.merge_common.proofs.Lists.{length_part}
use Rattle.merge_common.specs.Placing.{PlacedIn}
use Rattle.merge_areas.specs.Areas as merging
use Rattle.geobucket.specs.Buckets.{held, sum_from, sum_compared, full_sum}
use Rattle.geobucket.proofs.SumLaws.{sum-canonical, sum-size}
use Rattle.space.specs.Space.{Buckets, head_at, len_at, side_at, capacity, start, zone, zone_end, list_from, bucket_at, buckets_in, Laid, no_buckets}
use Rattle.space.proofs.Starts.{next_start, next-capacity, start_up, five, end-work, end-in-work, zone-five, end-five}
use Rattle.space.proofs.Joined.{same-wider}
use Rattle.space.proofs.SpaceLaws.{ButFor, from-same, from_next, from-none, from_last, part-to, bucket-but, bucket-none, bucket-long, canon-from, held-append, held_cons, side-low}
use Rattle.buckets.specs.Adding.{MergeUp}
use Rattle.buckets.specs.Last.{MergeLast, LastMerged, last_at}
use Rattle.buckets.specs.Summing.{Summation, SumDone, Areas, AreasSummed}
use Rattle.buckets.proofs.PlaceLaws.{in-work, in-space, all-long, canon-of}
use Rattle.buckets.proofs.UpLaws.{areas, merged, side-end}

-- ---- over lists
module _ (cmp : ℕ → ℕ → Ordering) (p : ℕ) where
  sum-cons : (f c : List (Term ℕ)) (bs : List (List (Term ℕ))) → (sum_from cmp p f (c ∷ bs) ≡ sum_from cmp p (merge cmp p f c) bs) × (length (sum_compared cmp p f (c ∷ bs)) ≡ merge_count cmp f c + length (sum_compared cmp p (merge cmp p f c) bs))
  unfolding sum_from sum_compared
  sum-cons f c bs = (refl, length-append (compared cmp f c) (sum_compared cmp p (merge cmp p f c) bs))

  sum-nil : (f : List (Term ℕ)) → (sum_from cmp p f [] ≡ f) × (length (sum_compared cmp p f []) ≡ 0)
  unfolding sum_from sum_compared
  sum-nil f = (refl, refl)

  -- the last list is merged with the sum of the others
  sum-last : (f c : List (Term ℕ)) (bs : List (List (Term ℕ))) → (sum_from cmp p f (bs ++ (c ∷ [])) ≡ merge cmp p (sum_from cmp p f bs) c) × (length (sum_compared cmp p f (bs ++ (c ∷ []))) ≡ length (sum_compared cmp p f bs) + merge_count cmp (sum_from cmp p f bs) c)
  sum-last f c [] =
      let e = sum-cons f c [] in
      let n = sum-nil f in
      let m = sum-nil (merge cmp p f c) in (
        e.0 ∙ (m.0 ∙ ap (λ (x : List (Term ℕ)). merge cmp p x c) (sym n.0)),
        omega (arith, e.1, m.1, n.1, ap (λ (x : List (Term ℕ)). merge_count cmp x c) n.0),
      )
  sum-last f c (d ∷ bs) =
      let e = sum-cons f d (bs ++ (c ∷ [])) in
      let n = sum-cons f d bs in
      let r = sum-last (merge cmp p f d) c bs in (
        e.0 ∙ (r.0 ∙ ap (λ (x : List (Term ℕ)). merge cmp p x c) (sym n.0)),
        omega (arith, e.1, r.1, n.1, ap (λ (x : List (Term ℕ)). merge_count cmp x c) n.0),
      )

merge-left : (cmp : ℕ → ℕ → Ordering) (p : ℕ) (f : List (Term ℕ)) → merge cmp p [] f ≡ f
unfolding merge
merge-left cmp p f = refl

-- all terms of lower buckets are no more than a bucket takes
start_fits : (i : ℕ) → start i ≤ capacity i
unfolding start
start_fits zero = omega arith
start_fits (suc i) = omega (arith, start_fits i, next_start i, next-capacity i)

-- ---- buckets 0 to 4: the len terms at `from` are the sum of those below i, and n comparisons are made
pub record Sums (p : ℕ) (b : Buckets) (ww₀ wc₀ ww wc : List ℕ) (from len n i : ℕ) : Type 0 where
  pub most : i ≤ 5
  pub work-words : length ww ≡ work_places
  pub work-coefs : length wc ≡ work_places
  pub left : (j : ℕ) → i ≤ j → j < 5 → bucket_at b ww wc j ≡ bucket_at b ww₀ wc₀ j
  pub sum_is : sum_from compare p (terms (part from len ww) (part from len wc)) (list_from (bucket_at b ww₀ wc₀) i (5 - i)) ≡ sum_from compare p [] (list_from (bucket_at b ww₀ wc₀) 0 5)
  pub count-is : n + length (sum_compared compare p (terms (part from len ww) (part from len wc)) (list_from (bucket_at b ww₀ wc₀) i (5 - i))) ≡ length (sum_compared compare p [] (list_from (bucket_at b ww₀ wc₀) 0 5))
  pub canonical : Canonical compare p (terms (part from len ww) (part from len wc))
  pub below : from + len ≤ 4 * start i
  pub short : len ≤ start i
  pub few : n ≤ most_terms * i

module _ {p : ℕ} {b : Buckets} {ww₀ wc₀ : List ℕ} (a : Areas p b ww₀ wc₀) where
  abbrev g : ℕ → List (Term ℕ)
  g = bucket_at b ww₀ wc₀

  pub sums-start : Sums p b ww₀ wc₀ ww₀ wc₀ 0 0 0 0
  sums-start = record {
    most = omega arith;
    work-words = a.work-words;
    work-coefs = a.work-coefs;
    left = λ j u w. refl;
    sum_is = refl;
    count-is = omega arith;
    canonical = record { falling = tt; reduced = tt };
    below = omega arith;
    short = omega arith;
    few = omega arith;
  }

  module _ {ww wc : List ℕ} {from len n i : ℕ} (v : Sums p b ww₀ wc₀ ww wc from len n i) where
    abbrev F : List (Term ℕ)
    F = terms (part from len ww) (part from len wc)

    pub in-places : from + len ≤ work_places
    in-places = omega (arith, v.below, start_up i 5 v.most, five)

    lw : length (part from len ww) ≡ len
    lw = length_part from len ww (omega (arith, in-places, v.work-words))

    lc : length (part from len wc) ≡ len
    lc = length_part from len wc (omega (arith, in-places, v.work-coefs))

    F-long : length F ≡ len
    F-long = length-terms (part from len ww) (part from len wc) (lc ∙ sym lw) ∙ lw

    module _ (h : i < 5) where
      in-six : i < 6
      in-six = omega arith

      ahead : list_from g i (5 - i) ≡ g i ∷ list_from g (suc i) (5 - suc i)
      ahead = ap (list_from g i) (let e : 5 - i ≡ suc (5 - suc i) = omega arith in e) ∙ from_next g i (5 - suc i)

      here : bucket_at b ww wc i ≡ g i
      here = v.left i (omega arith) h

      row : (s : List ℕ) → length s ≡ work_places → length (part (head_at b i) (len_at b i) s) ≡ len_at b i
      row s e = length_part (head_at b i) (len_at b i) s (omega (arith, a.laid.high i in-six, end-in-work i h, e))

      g-long : length (g i) ≡ len_at b i
      g-long = length-terms (part (head_at b i) (len_at b i) ww₀) (part (head_at b i) (len_at b i) wc₀) (row wc₀ a.work-coefs ∙ sym (row ww₀ a.work-words)) ∙ row ww₀ a.work-words

      M-size : length (merge compare p F (g i)) ≤ len + len_at b i
      M-size = omega (arith, merge-size compare p F (g i), F-long, g-long)

      M-count : n + merge_count compare F (g i) ≤ most_terms * (i + 1)
      M-count = omega (arith, v.few, count-size compare p F (g i), F-long, g-long, v.short, a.laid.short i in-six, next_start i, start_up (suc i) 5 h, five)

      -- F merged with bucket i lies at from', and the buckets above i are as they were
      next : {ww' wc' : List ℕ} {from' len' n' : ℕ} → length ww' ≡ work_places → length wc' ≡ work_places → ((j : ℕ) → i < j → j < 5 → bucket_at b ww' wc' j ≡ g j)
          → terms (part from' len' ww') (part from' len' wc') ≡ merge compare p F (g i) → n' ≡ n + merge_count compare F (g i) → from' + len' ≤ zone_end i → len' ≤ len + len_at b i
          → Sums p b ww₀ wc₀ ww' wc' from' len' n' (i + 1)
      next {ww'} {wc'} {from'} {len'} {n'} hw hc rest made count end size =
          let bs = list_from g (suc i) (5 - suc i) in
          let e = sum-cons compare p F (g i) bs in
          let s : Sums p b ww₀ wc₀ ww' wc' from' len' n' (suc i) = record {
            most = omega (arith, h);
            work-words = hw;
            work-coefs = hc;
            left = λ j u w. rest j (omega arith) w;
            sum_is = ap (λ (x : List (Term ℕ)). sum_from compare p x bs) made ∙ (sym e.0 ∙ (ap (sum_from compare p F) (sym ahead) ∙ v.sum_is));
            count-is = omega (arith, count, ap (λ (x : List (Term ℕ)). length (sum_compared compare p x bs)) made, e.1, ap (λ (l : List (List (Term ℕ))). length (sum_compared compare p F l)) ahead, v.count-is);
            canonical = subst (Canonical compare p) (sym made) (merge-canonical compare numbers-order p (omega (arith, a.modulus.two)) F (g i) v.canonical (a.canonical i h));
            below = omega (arith, end, end-work i h);
            short = omega (arith, size, v.short, a.laid.short i in-six, next_start i);
            few = omega (arith, count, M-count);
          } in
          rw (add-one i) s

      above : (j : ℕ) → i < j → j < 5 → bucket_at b ww wc j ≡ g j
      above j u w = v.left j (omega arith) w

      -- an empty bucket
      pub sum-none : len_at b i ≡ 0 → Sums p b ww₀ wc₀ ww wc from len n (i + 1)
      sum-none e =
          let z : g i ≡ [] = bucket-none b i a.laid in-six ww₀ wc₀ e in
          next v.work-words v.work-coefs above (sym (ap (merge compare p F) z ∙ merge-nil compare p F)) (omega (arith, ap (merge_count compare F) z, count-right compare F)) (omega (arith, v.below, end-work i h, next_start i)) (omega arith)

      -- the first one that is not
      pub sum_first : {at m : ℕ} → at ≡ head_at b i → m ≡ len_at b i → len ≡ 0 → Sums p b ww₀ wc₀ ww wc at m n (i + 1)
      sum_first {at} {m} ea em e =
          let z : F ≡ [] = ap (λ (k : ℕ). terms (part from k ww) (part from k wc)) e in
          next v.work-words v.work-coefs above (ap₂ (λ (x y : ℕ). terms (part x y ww) (part x y wc)) ea em ∙ (here ∙ sym (ap (λ (x : List (Term ℕ)). merge compare p x (g i)) z ∙ merge-left compare p (g i)))) (omega (arith, ap (λ (x : List (Term ℕ)). merge_count compare x (g i)) z, count_left compare (g i))) (omega (arith, ea, em, a.laid.high i in-six)) (omega (arith, em))

      -- ---- any other: a merge to its free area
      module _ (some : len ≡ 0 → ⊥) {at m s : ℕ} (ea : at ≡ head_at b i) (em : m ≡ len_at b i) (es : s ≡ side_at b i) where
        up : MergeUp p b i from len ww wc
        up = record {
          modulus = a.modulus;
          laid = a.laid;
          within = h;
          some = omega (arith, some);
          canonical = v.canonical;
          there = subst (Canonical compare p) (sym here) (a.canonical i h);
          fits = omega (arith, v.short, start_fits i);
          in-work = in-places;
          apart = inl v.below;
          work-words = v.work-words;
          work-coefs = v.work-coefs;
        }

        pub sum-asks : (m ≡ 0 → ⊥) → merging.Areas p ww wc from len at m s
        sum-asks ne = areas up ea em es ne

        module _ {ww' wc' : List ℕ} {r : Placed} (d₀ : PlacedIn compare p F (terms (part at m ww) (part at m wc)) s (s + (len + m)) ww wc ww' wc' r) where
          d : PlacedIn compare p F (bucket_at b ww wc i) (side_at b i) (side_at b i + (len + len_at b i)) ww wc ww' wc' r
          d = merged up ea em es d₀

          count : r.comparisons ≡ merge_count compare F (g i)
          count = d.count-is ∙ ap (merge_count compare F) here

          pub sum-count : n + r.comparisons ≤ most_terms * (i + 1)
          sum-count = omega (arith, count, M-count)

          pub sum-next : length ww' ≡ length ww → length wc' ≡ length wc → Sums p b ww₀ wc₀ ww' wc' r.head r.len (n + r.comparisons) (i + 1)
          sum-next kw kc =
              let same : ButFor b b i = record { as_long = refl; heads = λ j k ne. refl; lens = λ j k ne. refl; sides = λ j k ne. refl } in
              next (kw ∙ v.work-words) (kc ∙ v.work-coefs)
              (λ j u w.
              bucket-but b b i a.laid same ww wc ww' wc' kw kc
              (same-wider ww ww' (zone i) (zone_end i) (side-low a.laid i h) (side-end up) d.words-else)
              (same-wider wc wc' (zone i) (zone_end i) (side-low a.laid i h) (side-end up) d.coefs-else)
              j (omega arith) (λ e. let z : ⊥ = omega arith in z)
              ∙ above j u w)
              (ap₂ terms d.words_are d.coefs-are ∙ (terms-of (merge compare p F (bucket_at b ww wc i)) ∙ ap (merge compare p F) here))
              (omega (arith, count))
              (omega (arith, d.to_end, side-end up))
              (omega (arith, d.len_is, ap (λ (x : List (Term ℕ)). length (merge compare p F x)) here, M-size))

    pub sums-end : 5 ≤ i → AreasSummed p b ww₀ wc₀ ww wc (record { head = from; len = len; comparisons = n })
    sums-end h =
        let none : list_from g i (5 - i) ≡ [] = ap (list_from g i) (let z : 5 - i ≡ 0 = omega arith in z) ∙ from-none g i in
        let e = sum-nil compare p F in
        record {
          in-places = in-places;
          sum_is = sym e.0 ∙ (ap (sum_from compare p F) (sym none) ∙ v.sum_is);
          count-is = omega (arith, v.count-is, ap (λ (l : List (List (Term ℕ))). length (sum_compared compare p F l)) none, e.1);
          few = omega (arith, v.few, v.most);
        }

-- ---- all six
held_none : held {A = ℕ} [] ≡ 0
unfolding held
held_none = refl

module _ {p : ℕ} {b : Buckets} {ww wc sw sc : List ℕ} (s : Summation p b ww wc sw sc) where
  abbrev G : ℕ → List (Term ℕ)
  G = bucket_at b (ww ++ sw) (wc ++ sc)

  laid : Laid b
  laid = s.stands.laid

  pub areas-asks : Areas p b ww wc
  areas-asks = record {
    modulus = s.stands.modulus;
    laid = laid;
    canonical = λ j h. subst (Canonical compare p) (in-work b laid j h s.slices) (canon-of s.stands j (omega arith));
    work-words = s.slices.work-words;
    work-coefs = s.slices.work-coefs;
  }

  -- the six are the five, and the last
  parted : buckets_in b (ww ++ sw) (wc ++ sc) ≡ list_from (bucket_at b ww wc) 0 5 ++ (last_at b sw sc ∷ [])
  parted =
      from_last G 0 5
      ∙ ap₂ (λ (x : List (List (Term ℕ))) (y : List (Term ℕ)). x ++ (y ∷ [])) (from-same G (bucket_at b ww wc) 0 5 (λ j u w. in-work b laid j (omega arith) s.slices)) (in-space b laid s.slices)

  last-long : length (last_at b sw sc) ≡ len_at b 5
  last-long = let q = all-long s.slices in ap length (sym (in-space b laid s.slices)) ∙ bucket-long b laid 5 (omega arith) (ww ++ sw) (wc ++ sc) q.0 q.1

  abbrev Five : List (List (Term ℕ))
  Five = list_from (bucket_at b ww wc) 0 5

  -- the sum of the five
  abbrev Low : List (Term ℕ)
  Low = sum_from compare p [] Five

  held-is : held (buckets_in b (ww ++ sw) (wc ++ sc)) ≡ held Five + len_at b 5
  held-is = omega (arith, ap held parted, held-append Five (last_at b sw sc ∷ []), held_cons (last_at b sw sc) [], held_none, last-long)

  low-room : length Low + len_at b 5 ≤ most_terms
  low-room = omega (arith, sum-size compare p [] Five, held-is, s.room)

  low-canonical : Canonical compare p Low
  low-canonical = sum-canonical compare p numbers-order (omega (arith, s.stands.modulus.two)) [] Five (record { falling = tt; reduced = tt }) (canon-from compare p (bucket_at b ww wc) 5 0 (λ j u w. areas-asks.canonical j (omega arith)))

  module _ {ww' wc' : List ℕ} {low : Placed} (d : AreasSummed p b ww wc ww' wc' low) (kw : length ww' ≡ length ww) (kc : length wc' ≡ length wc) where
    -- the part that is lent
    abbrev lent : List ℕ → List ℕ
    lent l = take (low.head + low.len - low.head) (drop low.head l)

    pub lent-words : low.head + low.len ≤ length ww'
    lent-words = omega (arith, kw, s.slices.work-words, d.in-places)

    pub lent-coefs : low.head + low.len ≤ length wc'
    lent-coefs = omega (arith, kc, s.slices.work-coefs, d.in-places)

    words_long : length (lent ww') ≡ low.len
    words_long = ap length (part-to low.head low.len ww') ∙ length_part low.head low.len ww' lent-words

    coefs-long : length (lent wc') ≡ low.len
    coefs-long = ap length (part-to low.head low.len wc') ∙ length_part low.head low.len wc' lent-coefs

    lent_is : terms (lent ww') (lent wc') ≡ Low
    lent_is = ap₂ terms (part-to low.head low.len ww') (part-to low.head low.len wc') ∙ d.sum_is

    low-long : length Low ≡ length (lent ww')
    low-long = ap length (sym lent_is) ∙ length-terms (lent ww') (lent wc') (coefs-long ∙ sym words_long)

    pub last-asks : MergeLast p b (lent ww') (lent wc') sw sc
    last-asks = record {
      modulus = s.stands.modulus;
      laid = laid;
      lent = record { long = coefs-long ∙ sym words_long; reduced = rw lent_is low-canonical.reduced };
      there = subst (Canonical compare p) (in-space b laid s.slices) (canon-of s.stands 5 (omega arith));
      room = omega (arith, low-room, low-long);
      words_long = s.slices.words_long;
      coefs-long = s.slices.coefs-long;
    }

    module _ {sw' sc' : List ℕ} {b' : Buckets} {r : ℕ} (m : LastMerged p b (terms (lent ww') (lent wc')) (last_at b sw sc) sw' sc' b' r) where
      r-is : r ≡ merge_count compare Low (last_at b sw sc)
      r-is = m.count-is ∙ ap (λ (x : List (Term ℕ)). merge_count compare x (last_at b sw sc)) lent_is

      pub all-few : low.comparisons + r ≤ 50000
      all-few = omega (arith, d.few, r-is, count-size compare p Low (last_at b sw sc), last-long, low-room)

      pub sum_past : {h : ℕ} → h ≡ head_at b' 5 → work_places ≤ h
      sum_past eh = omega (arith, eh, m.laid.low 5 (omega arith), zone-five)

      module _ {h n : ℕ} (eh : h ≡ head_at b' 5) (en : n ≡ len_at b' 5) where
        end : h - work_places + n ≤ bucket_places
        end = omega (arith, eh, en, sum_past eh, m.laid.high 5 (omega arith), end-five)

        six : full_sum compare p (buckets_in b (ww ++ sw) (wc ++ sc)) ≡ merge compare p Low (last_at b sw sc)
        six = ap (full_sum compare p) parted ∙ (sum-last compare p [] (last_at b sw sc) Five).0

        read : terms (part (h - work_places) n sw') (part (h - work_places) n sc') ≡ full_sum compare p (buckets_in b (ww ++ sw) (wc ++ sc))
        read =
            ap₂ (λ (x y : ℕ). terms (part (x - work_places) y sw') (part (x - work_places) y sc')) eh en
            ∙ (m.here ∙ (ap (λ (x : List (Term ℕ)). merge compare p x (last_at b sw sc)) lent_is ∙ sym six))

        nw : length (part (h - work_places) n sw') ≡ n
        nw = length_part (h - work_places) n sw' (omega (arith, end, m.words_long))

        nc : length (part (h - work_places) n sc') ≡ n
        nc = length_part (h - work_places) n sc' (omega (arith, end, m.coefs-long))

        pub sum_done : {b'' : Buckets} → b'' ≡ no_buckets → SumDone p b (ww ++ sw) (wc ++ sc) b'' sw' sc' (record { head = h - work_places; len = n; comparisons = low.comparisons + r })
        sum_done e = record {
          in-space = end;
          sum_is = read;
          len_is = sym (length-terms (part (h - work_places) n sw') (part (h - work_places) n sc') (nc ∙ sym nw) ∙ nw) ∙ ap length read;
          count-is = omega (arith, d.count-is, r-is, ap (λ (l : List (List (Term ℕ))). length (sum_compared compare p [] l)) parted, (sum-last compare p [] (last_at b sw sc) Five).1);
          few = all-few;
          none = e;
        }
