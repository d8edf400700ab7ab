-- Terms of a merge that are moved as they stand. Assumes nothing.
use mathlib.Core.Path.{◌≡◌, refl, sym, ap, ap₂, ◌∙◌}
use mathlib.Core.List.{List, [], ◌++◌, append-nil}
use mathlib.Core.Logic.{◌⊎◌, inl, inr, ⊎_elim}
use Prim.Native.Nat.{ℕ, suc, ◌+◌, ◌-◌, ◌<◌, ◌≤◌, compare}
use native.Mathlib.Decide.{dec_le}
use native.Mathlib.Omega.{arith}
use lib.ListN.{length, take, drop, get_or, length-drop}
use lib.Seq.{sets, length-sets, length-take-le}
use Rattle.polynomial.specs.Terms.{Term, terms}
use Rattle.polynomial.specs.Merge.{merge}
use Rattle.polynomial.proofs.MergeLaws.{merge-nil}
use Rattle.monomial.proofs.OrderLaws.{numbers-order}
use Rattle.polynomial.proofs.TwoEnded.{alike, alike-above, above-nil}
use Rattle.merge_common.specs.Lent.{part, rest_of, Apart}
use Rattle.merge_common.proofs.Lists.{rest-left, rest-right, length_part, get_d-sets-other}
use Rattle.merge_common.proofs.ReadBack.{part-sets}
use Rattle.merge_areas.specs.declared.turns.Ends.{Ends}
use Rattle.merge_areas.specs.Ways.{between, left_of, right_of, size, Ready, MovedLeft, Source}
use Rattle.merge_areas.proofs.Windows.{between_none}

-- numbers that are moved
module _ (l o : List ℕ) (from to n : ℕ) (hf : from + n ≤ length l) (ht : to + n ≤ length l) (e : o ≡ sets l to (part from n l)) where
  pub moved-long : length o ≡ length l
  moved-long = ap length e ∙ length-sets l to (part from n l)

  pub moved-else : (t : ℕ) → (t < to) ⊎ (to + n ≤ t) → get_or o t 0 ≡ get_or l t 0
  moved-else t u =
      let q = length_part from n l hf in
      ap (λ (x : List ℕ). get_or x t 0) e ∙ get_d-sets-other l to (part from n l) t (⊎_elim (λ v. inl v) (λ v. inr (omega arith)) u)

  part_moved : part to n o ≡ part from n l
  part_moved =
      let q = length_part from n l hf in
      ap₂ (λ (m : ℕ) (x : List ℕ). part to m x) (sym q) e ∙ part-sets l to (part from n l) (omega arith)

-- terms that are moved
pub between-moved : (ww wc ww' wc' : List ℕ) (from to n : ℕ) → length wc ≡ length ww → from + n ≤ length ww → to + n ≤ length ww → ww' ≡ sets ww to (part from n ww) → wc' ≡ sets wc to (part from n wc) → between ww' wc' to (to + n) ≡ between ww wc from (from + n)
unfolding between
between-moved ww wc ww' wc' from to n long hf ht ew ec =
    let q : to + n - to ≡ n = omega arith in
    let r : from + n - from ≡ n = omega arith in
    ap (λ (m : ℕ). terms (part to m ww') (part to m wc')) q
    ∙ (ap₂ terms (part_moved ww ww' from to n hf ht ew) (part_moved wc wc' from to n (omega arith) (omega arith) ec)
    ∙ sym (ap (λ (m : ℕ). terms (part from m ww) (part from m wc)) r))

-- the terms from i on of the left list and from j on of the right one, of which one has none
module _ {ww wc : List ℕ} {s : Ends} (y : Ready ww wc s) (i j : ℕ) (i1 : s.i ≤ i) (i2 : i ≤ s.ie) (j1 : s.j ≤ j) (j2 : j ≤ s.je) (one : (s.ie ≤ i) ⊎ (s.je ≤ j)) where
  abbrev many : ℕ
  many = (s.ie - i) + (s.je - j)

  -- as many as the tail function gives
  pub rest-long : length (rest_of (drop i (take s.ie ww)) (drop j (take s.je ww))) ≡ many
  rest-long = go (dec_le (suc i) s.ie)
    where
      a : length (take s.ie ww) ≡ s.ie
      a = length-take-le s.ie ww y.left_end

      b : length (take s.je ww) ≡ s.je
      b = length-take-le s.je ww y.right_end

      go : Dec (suc i ≤ s.ie) → length (rest_of (drop i (take s.ie ww)) (drop j (take s.je ww))) ≡ many
      go (yes h) =
          let k : s.je ≤ j = ⊎_elim (λ u. omega arith) (λ u. u) one in
          ap length (rest-left (take s.ie ww) (drop j (take s.je ww)) i (omega (arith, a))) ∙ omega (arith, length-drop i (take s.ie ww), a)
      go (no h) =
          ap length (rest-right (take s.ie ww) (drop j (take s.je ww)) i (omega (arith, a))) ∙ omega (arith, length-drop j (take s.je ww), b)

  module _ {from : ℕ} (f : Source i s.ie j from) where
    -- they are the terms of the one list, or of the other
    source-at : ((from ≡ i) × (s.je ≤ j)) ⊎ ((from ≡ j) × (s.ie ≤ i))
    source-at = go (dec_le (suc i) s.ie)
      where
        go : Dec (suc i ≤ s.ie) → ((from ≡ i) × (s.je ≤ j)) ⊎ ((from ≡ j) × (s.ie ≤ i))
        go (yes h) = inl (f.0 h, ⊎_elim (λ u. omega arith) (λ u. u) one)
        go (no h) = let z : s.ie ≤ i = omega arith in inr (f.1 z, z)

    -- they lie apart from the free places
    pub source-apart : (from + many ≤ s.d) ⊎ (s.e ≤ from)
    source-apart =
        ⊎_elim (λ a. ⊎_elim (λ u. inl (omega arith)) (λ u. inr (omega arith)) y.left-apart)
        (λ a. ⊎_elim (λ u. inl (omega arith)) (λ u. inr (omega arith)) y.right-apart) source-at

    pub source-end : from + many ≤ length ww
    source-end = ⊎_elim (λ a. omega (arith, y.left_end)) (λ a. omega (arith, y.right_end)) source-at

    pub source_is : between ww wc from (from + many) ≡ between ww wc i s.ie ++ between ww wc j s.je
    source_is =
        ⊎_elim
        (λ a.
        let q : from + many ≡ s.ie = omega arith in
        ap₂ (between ww wc) a.0 q ∙ (sym (append-nil (between ww wc i s.ie)) ∙ ap (λ (x : List (Term ℕ)). between ww wc i s.ie ++ x) (sym (between_none ww wc j s.je a.1))))
        (λ a.
        let q : from + many ≡ s.je = omega arith in
        ap₂ (between ww wc) a.0 q ∙ ap (λ (x : List (Term ℕ)). x ++ between ww wc j s.je) (sym (between_none ww wc i s.ie a.1)))
        source-at

    -- they are moved to free places
    module _ {to n : ℕ} (en : n ≡ many) (low : s.d ≤ to) (high : to + n ≤ s.e) where
      pub move-apart : Apart from n to n
      move-apart = ⊎_elim (λ u. inl (omega arith)) (λ u. inr (omega arith)) source-apart

      pub move-ends : (from + n ≤ length ww) × (to + n ≤ length ww) × (from + n ≤ length wc) × (to + n ≤ length wc)
      move-ends = (omega (arith, source-end), omega (arith, y.place), omega (arith, source-end, y.long), omega (arith, y.place, y.long))

      module _ {ww' wc' : List ℕ} (ew : ww' ≡ sets ww to (part from n ww)) (ec : wc' ≡ sets wc to (part from n wc)) where
        pub source-moved : between ww' wc' to (to + n) ≡ between ww wc i s.ie ++ between ww wc j s.je
        source-moved =
            between-moved ww wc ww' wc' from to n y.long move-ends.0 move-ends.1 ew ec
            ∙ (ap (λ (m : ℕ). between ww wc from (from + m)) en ∙ source_is)

        pub words-stay : (t : ℕ) → (t < s.d) ⊎ (s.e ≤ t) → get_or ww' t 0 ≡ get_or ww t 0
        words-stay t u = moved-else ww ww' from to n move-ends.0 move-ends.1 ew t (⊎_elim (λ v. inl (omega arith)) (λ v. inr (omega arith)) u)

        pub coefs-stay : (t : ℕ) → (t < s.d) ⊎ (s.e ≤ t) → get_or wc' t 0 ≡ get_or wc t 0
        coefs-stay t u = moved-else wc wc' from to n move-ends.2 move-ends.3 ec t (⊎_elim (λ v. inl (omega arith)) (λ v. inr (omega arith)) u)

        pub words-kept : length ww' ≡ length ww
        words-kept = moved-long ww ww' from to n move-ends.0 move-ends.1 ew

        pub coefs-kept : length wc' ≡ length wc
        coefs-kept = moved-long wc wc' from to n move-ends.2 move-ends.3 ec

-- ---- what is left of one list, where the other is used up
pub nothing : (p : ℕ) (xs ys : List (Term ℕ)) → xs ≡ [] → ys ≡ [] → merge compare p xs ys ≡ []
unfolding merge
nothing p xs ys a b = ap₂ (λ (u v : List (Term ℕ)). merge compare p u v) a b

pub merge-one : (p : ℕ) (xs ys : List (Term ℕ)) → (xs ≡ []) ⊎ (ys ≡ []) → merge compare p xs ys ≡ xs ++ ys
unfolding merge
merge-one p xs ys (inl e) = ap (λ (u : List (Term ℕ)). merge compare p u ys) e ∙ ap (λ (u : List (Term ℕ)). u ++ ys) (sym e)
merge-one p xs ys (inr e) = ap (λ (u : List (Term ℕ)). merge compare p xs u) e ∙ (merge-nil compare p xs ∙ (sym (append-nil xs) ∙ ap (λ (u : List (Term ℕ)). xs ++ u) (sym e)))

alike-one : (xs ys : List (Term ℕ)) → (xs ≡ []) ⊎ (ys ≡ []) → alike compare xs ys ≡ 0
alike-one xs ys (inl e) = ap (λ (u : List (Term ℕ)). alike compare u ys) e
alike-one xs ys (inr e) = ap (λ (u : List (Term ℕ)). alike compare xs u) e ∙ alike-above compare numbers-order xs [] (above-nil compare xs)

module _ {ww wc : List ℕ} {s : Ends} (y : Ready ww wc s) (one : (s.ie ≤ s.i) ⊎ (s.je ≤ s.j)) where
  none : (left_of ww wc s ≡ []) ⊎ (right_of ww wc s ≡ [])
  none = ⊎_elim (λ u. inl (between_none ww wc s.i s.ie u)) (λ u. inr (between_none ww wc s.j s.je u)) one

  module _ {from : ℕ} (f : Source s.i s.ie s.j from) where
    fits : s.d + size s ≤ s.e
    fits = y.room

    pub left-moved : {ww' wc' : List ℕ} → ww' ≡ sets ww s.d (part from (size s) ww) → wc' ≡ sets wc s.d (part from (size s) wc)
        → MovedLeft ww wc s ww' wc' (record { i = s.ie; ie = s.ie; j = s.je; je = s.je; d = s.d + size s; e = s.e; turns = s.turns + size s })
    left-moved {ww'} {wc'} ew ec =
        let zl : between ww' wc' s.ie s.ie ≡ [] = between_none ww' wc' s.ie s.ie (omega arith) in
        let zr : between ww' wc' s.je s.je ≡ [] = between_none ww' wc' s.je s.je (omega arith) in
        let ze : between ww' wc' s.e s.e ≡ [] = between_none ww' wc' s.e s.e (omega arith) in
        let m = source-moved y s.i s.j (omega arith) y.left_in (omega arith) y.right-in one f {to = s.d} refl (omega arith) fits ew ec in
        record {
          goes = λ p. record {
            leads = record {
              whole =
                  merge-one p (left_of ww wc s) (right_of ww wc s) none
                  ∙ (sym m
                  ∙ (sym (append-nil (between ww' wc' s.d (s.d + size s)))
                  ∙ sym (ap₂ (λ (u v : List (Term ℕ)). between ww' wc' s.d (s.d + size s) ++ (u ++ v)) (nothing p (between ww' wc' s.ie s.ie) (between ww' wc' s.je s.je) zl zr) ze)));
              left-from = y.left_in;
              left-to = omega arith;
              left_in = omega arith;
              right-from = y.right-in;
              right-to = omega arith;
              right-in = omega arith;
              front = omega arith;
              back = omega arith;
              room = omega (arith, y.room);
              turns-room = omega arith;
              words-else = words-stay y s.i s.j (omega arith) y.left_in (omega arith) y.right-in one f {to = s.d} refl (omega arith) fits ew ec;
              coefs-else = coefs-stay y s.i s.j (omega arith) y.left_in (omega arith) y.right-in one f {to = s.d} refl (omega arith) fits ew ec;
              words_long = words-kept y s.i s.j (omega arith) y.left_in (omega arith) y.right-in one f {to = s.d} refl (omega arith) fits ew ec;
              coefs-long = coefs-kept y s.i s.j (omega arith) y.left_in (omega arith) y.right-in one f {to = s.d} refl (omega arith) fits ew ec;
            };
            counted = omega (arith, alike-one (left_of ww wc s) (right_of ww wc s) none, ap₂ (λ (u v : List (Term ℕ)). alike compare u v) zl zr);
          };
          left-used = refl;
          right-used = refl;
        }
