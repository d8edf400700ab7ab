-- A merge of a polynomial in the work space with one of buckets 0 to 4, to the bucket's free area. Assumes nothing.
use mathlib.Core.Path.{◌≡◌, sym, ap, ap₂, ◌∙◌}
use mathlib.Core.List.{List, []}
use mathlib.Core.Logic.{inl, inr, ⊎_elim}
use Prim.Native.Nat.{ℕ, suc, ◌+◌, ◌*◌, ◌<◌, ◌≤◌, compare}
use native.Mathlib.Omega.{arith}
use lib.ListN.{length, get_or}
use lib.Seq.{sets}
use Rattle.limits.specs.Limits.{work_places}
use Rattle.polynomial.specs.Terms.{terms, words, coefs}
use Rattle.polynomial.specs.Merge.{merge, merge_count}
use Rattle.polynomial.proofs.MergeLaws.{merge-nil, count-right}
use Rattle.polynomial.proofs.TermLists.{length-terms, words-terms, coefs-terms}
use Rattle.merge_common.specs.Lent.{part, Apart}
use Rattle.merge_common.specs.declared.merging.Placed.{Placed}
use Rattle.merge_common.proofs.Lists.{length_part, get_d-sets-other}
use Rattle.merge_common.specs.Placing.{PlacedIn}
use Rattle.merge_areas.specs.Areas.{Areas}
use Rattle.space.specs.Space.{Buckets, head_at, len_at, side_at, capacity, zone_end, bucket_at}
use Rattle.space.proofs.Starts.{five, start_up, zone-work, end-work, end-in-work}
use Rattle.space.proofs.SpaceLaws.{bucket-none, part-put, side-low, side-high}
use Rattle.buckets.specs.Adding.{MergeUp, free}

-- the areas end before the free places
pub areas-end : (i : ℕ) → i < 5 → zone_end i ≤ free
areas-end i h = omega (arith, end-work i h, start_up (suc i) 5 (omega arith), five)

module _ {p : ℕ} {b : Buckets} {i from len : ℕ} {ww wc : List ℕ} (a : MergeUp p b i from len ww wc) where
  in-six : i < 6
  in-six = omega (arith, a.within)

  pub both-fit : len + len_at b i ≤ 2 * capacity i
  both-fit = omega (arith, a.fits, a.laid.short i in-six)

  pub side-end : side_at b i + (len + len_at b i) ≤ zone_end i
  side-end = omega (arith, both-fit, side-high a.laid i a.within)

  pub f-apart : (n : ℕ) → n ≤ 2 * capacity i → Apart from len (side_at b i) n
  f-apart n h =
      let lo = side-low a.laid i a.within in
      let hi = side-high a.laid i a.within in
      let z = zone-work i a.within in
      let e = areas-end i a.within in
      ⊎_elim (λ u. inl (omega arith)) (λ u. inr (omega arith)) a.apart

  pub f-long : length (part from len wc) ≡ length (part from len ww)
  f-long = length_part from len wc (omega (arith, a.in-work, a.work-coefs)) ∙ sym (length_part from len ww (omega (arith, a.in-work, a.work-words)))

  -- a bucket that holds terms
  pub areas : {h n s : ℕ} → h ≡ head_at b i → n ≡ len_at b i → s ≡ side_at b i → (n ≡ 0 → ⊥) → Areas p ww wc from len h n s
  areas {h} {n} {s} eh en es ne =
      let hi = a.laid.high i in-six in
      let w = end-in-work i a.within in
      record {
        modulus = a.modulus;
        left = a.canonical;
        right = rw (eh, en) a.there;
        left-some = a.some;
        right-some = omega (arith, ne);
        left_end = omega (arith, a.in-work, a.work-words);
        right_end = omega (arith, eh, en, hi, w, a.work-words);
        room = omega (arith, en, es, side-end, w, a.work-words);
        long = a.work-coefs ∙ sym a.work-words;
        left-apart = rw (es, en) (f-apart (len + len_at b i) both-fit);
        right-apart = rw (eh, es, en) (⊎_elim (λ u. inl u) (λ u. inr (omega (arith, both-fit, u))) (a.laid.side-apart i a.within));
      }

  pub merged : {h n s : ℕ} {ww' wc' : List ℕ} {r : Placed} → h ≡ head_at b i → n ≡ len_at b i → s ≡ side_at b i
      → PlacedIn compare p (terms (part from len ww) (part from len wc)) (terms (part h n ww) (part h n wc)) s (s + (len + n)) ww wc ww' wc' r
      → PlacedIn compare p (terms (part from len ww) (part from len wc)) (bucket_at b ww wc i) (side_at b i) (side_at b i + (len + len_at b i)) ww wc ww' wc' r
  merged eh en es m = rw (← eh, ← en, ← es) m

  -- an empty bucket: f is moved as it is
  module _ (none : len_at b i ≡ 0) where
    pub move_asks : {s : ℕ} (v : List ℕ) → length v ≡ work_places → s ≡ side_at b i → (from + len ≤ length v) × (s + len ≤ length v) × Apart from len s len
    move_asks {s} v e es = (
      omega (arith, e, a.in-work),
      omega (arith, e, es, side-end, end-in-work i a.within),
      rw es (f-apart len (omega (arith, both-fit))),
    )

    pub moved_up : {s : ℕ} {ww' wc' : List ℕ} → s ≡ side_at b i → ww' ≡ sets ww s (part from len ww) → wc' ≡ sets wc s (part from len wc)
        → PlacedIn compare p (terms (part from len ww) (part from len wc)) (bucket_at b ww wc i) (side_at b i) (side_at b i + (len + len_at b i)) ww wc ww' wc' (record { head = s; len = len; comparisons = 0 })
    moved_up {s} {ww'} {wc'} es ew ec =
        let f = terms (part from len ww) (part from len wc) in
        let lw : length (part from len ww) ≡ len = length_part from len ww (omega (arith, a.in-work, a.work-words)) in
        let lc : length (part from len wc) ≡ len = length_part from len wc (omega (arith, a.in-work, a.work-coefs)) in
        let g : bucket_at b ww wc i ≡ [] = bucket-none b i a.laid in-six ww wc none in
        let m : merge compare p f (bucket_at b ww wc i) ≡ f = ap (merge compare p f) g ∙ merge-nil compare p f in
        let n : merge_count compare f (bucket_at b ww wc i) ≡ 0 = ap (merge_count compare f) g ∙ count-right compare f in
        let hi = side-end in
        let wo = end-in-work i a.within in
        record {
          len_is = sym (ap length m ∙ (length-terms (part from len ww) (part from len wc) f-long ∙ lw));
          to_end = omega (arith, es, none);
          from_low = omega (arith, es);
          words_are = ap₂ (λ (k : ℕ) (v : List ℕ). part s k v) (sym lw) ew ∙ (part-put ww s (part from len ww) (omega (arith, lw, es, hi, wo, a.work-words)) ∙ sym (ap words m ∙ words-terms (part from len ww) (part from len wc) f-long));
          coefs-are = ap₂ (λ (k : ℕ) (v : List ℕ). part s k v) (sym lc) ec ∙ (part-put wc s (part from len wc) (omega (arith, lc, es, hi, wo, a.work-coefs)) ∙ sym (ap coefs m ∙ coefs-terms (part from len ww) (part from len wc) f-long));
          words-else = λ j u. ap (λ (v : List ℕ). get_or v j 0) ew ∙ get_d-sets-other ww s (part from len ww) j (⊎_elim (λ x. inl (omega (arith, es))) (λ x. inr (omega (arith, es, lw, none))) u);
          coefs-else = λ j u. ap (λ (v : List ℕ). get_or v j 0) ec ∙ get_d-sets-other wc s (part from len wc) j (⊎_elim (λ x. inl (omega (arith, es))) (λ x. inr (omega (arith, es, lc, none))) u);
          count-is = sym n;
        }
