-- The merge into the last bucket: room is made in front of its terms, and the merge goes there. Assumes nothing.
use mathlib.Core.Path.{◌≡◌, refl, sym, ap, ap₂, ◌∙◌, subst}
use mathlib.Core.List.{List}
use Prim.Native.Nat.{ℕ, ◌+◌, ◌-◌, ◌≤◌, compare}
use native.Mathlib.Omega.{arith}
use lib.ListN.{length}
use lib.Seq.{sets, length-sets}
use Rattle.limits.specs.Limits.{bucket_places, most_terms, work_places}
use Rattle.polynomial.specs.Terms.{terms}
use Rattle.polynomial.specs.Merge.{merge, merge_count}
use Rattle.polynomial.proofs.MergeLaws.{merge-size}
use Rattle.polynomial.proofs.TermLists.{length-terms, terms-of}
use Rattle.merge_common.specs.Lent.{part}
use Rattle.merge_common.proofs.Lists.{length_part}
use Rattle.merge_common.specs.declared.merging.Placed.{Placed}
use Rattle.merge_common.specs.Placing.{PlacedIn}
use Rattle.merge_in.specs.Placing.{Into}
use Rattle.space.specs.Space.{Buckets, head_at, len_at, all_places, Laid, moved}
use Rattle.space.proofs.Starts.{five, cap-last, zone-five, end-five}
use Rattle.space.proofs.SpaceLaws.{part-put, part-to, row-past, moved-head, moved-len, laid-moved}
use Rattle.buckets.specs.Last.{MergeLast, LastMerged, Roomy, Shifted, last_at}

-- ---- room in front of n terms at h
module _ {h n more : ℕ} {sw sc : List ℕ} (a : Roomy h n more sw sc) where
  pub stays-there : 1364 + more ≤ h → Shifted h n more sw sc sw sc h
  stays-there k = record {
    low = omega (arith, k, five);
    ends = a.ends;
    words_are = refl;
    coefs-are = refl;
    words_long = a.words_long;
    coefs-long = a.coefs-long;
  }

  -- a list in which they are moved to its end
  module _ {r : ℕ} (er : r ≡ h + (bucket_places - (h + n))) where
    place_is : r + n ≡ bucket_places
    place_is = omega (arith, er, a.ends)

    moved-part : (s : List ℕ) {s' : List ℕ} → length s ≡ bucket_places → s' ≡ sets s r (part h (h + n - h) s) → part r n s' ≡ part h n s
    moved-part s {s'} long e =
        let vs : List ℕ = part h (h + n - h) s in
        let p : vs ≡ part h n s = part-to h n s in
        let l : length vs ≡ n = ap length p ∙ length_part h n s (omega (arith, a.ends, long)) in
        ap₂ (λ (k : ℕ) (x : List ℕ). part r k x) (sym l) e ∙ (part-put s r vs (omega (arith, l, place_is, long)) ∙ p)

    moved-long : (s : List ℕ) {s' : List ℕ} → length s ≡ bucket_places → s' ≡ sets s r (part h (h + n - h) s) → length s' ≡ bucket_places
    moved-long s {s'} long e = ap length e ∙ (length-sets s r (part h (h + n - h) s) ∙ long)

    pub shifts : {sw' sc' : List ℕ} → sw' ≡ sets sw r (part h (h + n - h) sw) → sc' ≡ sets sc r (part h (h + n - h) sc) → Shifted h n more sw sc sw' sc' r
    shifts ew ec = record {
      low = omega (arith, place_is, a.room, five);
      ends = omega (arith, place_is);
      words_are = moved-part sw a.words_long ew;
      coefs-are = moved-part sc a.coefs-long ec;
      words_long = moved-long sw a.words_long ew;
      coefs-long = moved-long sc a.coefs-long ec;
    }

-- ---- the merge
module _ {p : ℕ} {b : Buckets} {fw fc sw sc : List ℕ} (a : MergeLast p b fw fc sw sc) {h n : ℕ} (eh : h ≡ head_at b 5) (en : n ≡ len_at b 5) where
  pub past_work : work_places ≤ h
  past_work = omega (arith, eh, row-past b a.laid 5 (omega arith) (omega arith))

  low : work_places + 1364 ≤ h
  low = omega (arith, eh, a.laid.low 5 (omega arith), zone-five)

  end : h + n ≤ all_places
  end = omega (arith, eh, en, a.laid.high 5 (omega arith), end-five)

  pub room-asks : Roomy (h - work_places) n (length fw) sw sc
  room-asks = record {
    low = omega (arith, five, low);
    ends = omega (arith, end, past_work);
    room = omega (arith, en, a.room);
    words_long = a.words_long;
    coefs-long = a.coefs-long;
  }

  module _ {sw1 sc1 : List ℕ} {k : ℕ} (s : Shifted (h - work_places) n (length fw) sw sc sw1 sc1 k) where
    -- the terms of the last bucket, where they lie now
    there-is : terms (part k (k + n - k) sw1) (part k (k + n - k) sc1) ≡ last_at b sw sc
    there-is =
        ap₂ terms (part-to k n sw1 ∙ s.words_are) (part-to k n sc1 ∙ s.coefs-are)
        ∙ ap₂ (λ (x y : ℕ). terms (part (x - work_places) y sw) (part (x - work_places) y sc)) eh en

    lw : length (part k (k + n - k) sw1) ≡ n
    lw = ap length (part-to k n sw1) ∙ length_part k n sw1 (omega (arith, s.ends, s.words_long))

    lc : length (part k (k + n - k) sc1) ≡ n
    lc = ap length (part-to k n sc1) ∙ length_part k n sc1 (omega (arith, s.ends, s.coefs-long))

    pub into-asks : Into p fw fc sw1 sc1 k (k + n)
    into-asks = record {
      modulus = a.modulus;
      lent = a.lent;
      there = record { long = lc ∙ sym lw; reduced = rw there-is a.there.reduced };
      room = omega (arith, s.low);
      ends = omega arith;
      words-end = omega (arith, s.ends, s.words_long);
      coefs-end = omega (arith, s.ends, s.coefs-long);
    }

    module _ {sw2 sc2 : List ℕ} {m : Placed} (d : PlacedIn compare p (terms fw fc) (terms (part k (k + n - k) sw1) (part k (k + n - k) sc1)) (k - length fw) (k + n) sw1 sc1 sw2 sc2 m) where
      new-end : m.head + m.len ≤ bucket_places
      new-end = omega (arith, d.to_end, s.ends)

      last-long : length (last_at b sw sc) ≡ n
      last-long = ap length (sym there-is) ∙ (length-terms (part k (k + n - k) sw1) (part k (k + n - k) sc1) (lc ∙ sym lw) ∙ lw)

      fits : m.len ≤ most_terms
      fits = omega (arith, d.len_is, ap (λ x. length (merge compare p (terms fw fc) x)) there-is, merge-size compare p (terms fw fc) (last_at b sw sc), last-long, length-terms fw fc a.lent.long, en, a.room)

      abbrev B : Buckets
      B = moved b 5 (work_places + m.head) m.len

      laid' : Laid B
      laid' = laid-moved b 5 (work_places + m.head) m.len a.laid (omega arith) (omega (arith, zone-five, five, s.low, d.from_low)) (omega (arith, end-five, new-end)) (omega (arith, fits, cap-last)) (λ u. absurd (let z : ⊥ = omega arith in z))

      at_head : head_at B 5 - work_places ≡ m.head
      at_head = omega (arith, moved-head b 5 (work_places + m.head) m.len a.laid (omega arith))

      here : last_at B sw2 sc2 ≡ merge compare p (terms fw fc) (last_at b sw sc)
      here =
          ap₂ (λ (x y : ℕ). terms (part x y sw2) (part x y sc2)) at_head (moved-len b 5 (work_places + m.head) m.len a.laid (omega arith))
          ∙ (ap₂ terms d.words_are d.coefs-are
          ∙ (terms-of (merge compare p (terms fw fc) (terms (part k (k + n - k) sw1) (part k (k + n - k) sc1))) ∙ ap (merge compare p (terms fw fc)) there-is))

      pub last-is : length sw2 ≡ length sw1 → length sc2 ≡ length sc1 → {b' : Buckets} → b' ≡ moved b 5 (work_places + m.head) m.len → LastMerged p b (terms fw fc) (last_at b sw sc) sw2 sc2 b' m.comparisons
      last-is kw kc {b'} eb = record {
        head = work_places + m.head;
        len = m.len;
        moved-is = eb;
        laid = subst Laid (sym eb) laid';
        here = ap (λ (x : Buckets). last_at x sw2 sc2) eb ∙ here;
        words_long = kw ∙ s.words_long;
        coefs-long = kc ∙ s.coefs-long;
        count-is = d.count-is ∙ ap (merge_count compare (terms fw fc)) there-is;
      }
