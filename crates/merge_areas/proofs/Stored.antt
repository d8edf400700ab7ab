-- A turn of a merge: a term is stored in front or at the back. Assumes nothing.
use mathlib.Core.Path.{◌≡◌, refl, sym, ap, ap₂, ◌∙◌, subst}
use mathlib.Core.List.{List, [], ◌∷◌, ◌++◌, append-nil}
use mathlib.Core.Logic.{◌⊎◌, inl, inr, ⊎_elim}
use Prim.Native.Nat.{ℕ, zero, suc, ◌+◌, ◌-◌, ◌%◌, ◌<◌, ◌≤◌, compare}
use native.Mathlib.Omega.{arith}
use lib.ListN.{length, set, get_or, length-set}
use lib.Seq.{get_or-set_same, get_or-set_other}
use Rattle.polynomial.specs.Terms.{Term, term, All, Falling}
use Rattle.polynomial.specs.Merge.{keep, merge}
use Rattle.polynomial.proofs.MergeLaws.{length-keep}
use Rattle.polynomial.proofs.TwoEnded.{alike, all_right}
use Rattle.merge_common.specs.Joining.{made, joined, joined_last}
use Rattle.merge_common.specs.declared.merging.Joined.{Joined}
use Rattle.merge_common.proofs.Joins as joins
use Rattle.merge_common.proofs.State.{kept-is}
use Rattle.merge_areas.specs.declared.turns.Ends.{Ends}
use Rattle.merge_areas.specs.Ways.{between, left_of, right_of, size, Ready, Reducing, Turned}
use Rattle.merge_areas.proofs.Windows.{length-between, between-one, at_front_lem, at_back_lem, between_none, between-like}
use Rattle.merge_areas.proofs.Cuts.{First, Last, first-less, first-same, first_more, last_less, last-same, last_more}

-- the stored term is read
module _ (ww wc : List ℕ) (long : length wc ≡ length ww) (w v : ℕ) (d : ℕ) (h : d < length ww) where
  one-stored : between (set ww d w) (set wc d v) d (d + 1) ≡ term w v ∷ []
  one-stored =
      between-one (set ww d w) (set wc d v) (length-set wc d v ∙ (long ∙ sym (length-set ww d w))) d (omega (arith, length-set ww d w))
      ∙ ap₂ (λ (a b : ℕ). term a b ∷ []) (get_or-set_same ww d w 0 h) (get_or-set_same wc d v 0 (omega arith))

-- or nothing is, for a coefficient 0
read-front : (ww wc : List ℕ) → length wc ≡ length ww → (w v d : ℕ) → d < length ww → between (set ww d w) (set wc d v) d (d + length (keep w v [])) ≡ keep w v []
unfolding keep
read-front ww wc long w zero d h = between_none (set ww d w) (set wc d zero) d (d + 0) (omega arith)
read-front ww wc long w (suc v) d h = one-stored ww wc long w (suc v) d h

read_back : (ww wc : List ℕ) → length wc ≡ length ww → (w v e : ℕ) → 0 < e → e ≤ length ww → between (set ww (e - 1) w) (set wc (e - 1) v) (e - length (keep w v [])) e ≡ keep w v []
unfolding keep
read_back ww wc long w zero e h k = between_none (set ww (e - 1) w) (set wc (e - 1) zero) (e - 0) e (omega arith)
read_back ww wc long w (suc v) e h k = let q : e ≡ e - 1 + 1 = omega arith in ap (between (set ww (e - 1) w) (set wc (e - 1) (suc v)) (e - 1)) q ∙ one-stored ww wc long w (suc v) (e - 1) (omega arith)

-- terms elsewhere stay
else-where : (ww wc : List ℕ) → length wc ≡ length ww → (w v k a b : ℕ) → b ≤ length ww → (b ≤ k) ⊎ (k < a) → between (set ww k w) (set wc k v) a b ≡ between ww wc a b
else-where ww wc long w v k a b h u =
    between-like ww wc (set ww k w) (set wc k v) a b long (length-set ww k w) (length-set wc k v) h
    (λ t g j. get_or-set_other ww k t w 0 (λ e. ⊎_elim (λ x. let z : ⊥ = omega arith in z) (λ x. let z : ⊥ = omega arith in z) u))
    (λ t g j. get_or-set_other wc k t v 0 (λ e. ⊎_elim (λ x. let z : ⊥ = omega arith in z) (λ x. let z : ⊥ = omega arith in z) u))

-- a turn at the back, of which l and r terms were used
back-size : (i ie j je l r : ℕ) → i + l ≤ ie → j + r ≤ je → (ie - l - i) + (je - r - j) + (l + r) ≡ (ie - i) + (je - j)
back-size i ie j je l r h k = omega arith

back-room : (d n m k e : ℕ) → d + n ≤ e → m + 1 ≤ n → k ≤ 1 → d + m ≤ e - k
back-room d n m k e h u o = omega arith

module _ {ww wc : List ℕ} {s : Ends} (y : Ready ww wc s) (p w v : ℕ) where
  abbrev k : ℕ
  k = length (keep w v [])

  one : k ≤ 1
  one = length-keep w v []

  -- l and r terms of the two were used
  module _ (l r : ℕ) (hl : l ≤ 1) (hr : r ≤ 1) (some : 1 ≤ l + r) (hi : s.i + l ≤ s.ie) (hj : s.j + r ≤ s.je) where
    abbrev fronted : Ends
    fronted = record { i = s.i + l; ie = s.ie; j = s.j + r; je = s.je; d = s.d + k; e = s.e; turns = s.turns + 1 }

    front-step : First p (left_of ww wc s) (right_of ww wc s) w v (left_of ww wc fronted) (right_of ww wc fronted) → Turned p ww wc s (set ww s.d w) (set wc s.d v) fronted
    front-step q =
        let ww' : List ℕ = set ww s.d w in
        let wc' : List ℕ = set wc s.d v in
        let free : s.d < s.e = omega (arith, y) in
        let el : left_of ww' wc' fronted ≡ left_of ww wc fronted = else-where ww wc y.long w v s.d (s.i + l) s.ie y.left_end (⊎_elim (λ u. inl u) (λ u. inr (omega arith)) y.left-apart) in
        let er : right_of ww' wc' fronted ≡ right_of ww wc fronted = else-where ww wc y.long w v s.d (s.j + r) s.je y.right_end (⊎_elim (λ u. inl u) (λ u. inr (omega arith)) y.right-apart) in
        let m : List (Term ℕ) = merge compare p (left_of ww wc fronted) (right_of ww wc fronted) in
        let i1 = length-between ww wc y.long s.i s.ie y.left_in y.left_end in
        let i2 = length-between ww wc y.long s.j s.je y.right-in y.right_end in
        let o1 = length-between ww wc y.long (s.i + l) s.ie hi y.left_end in
        let o2 = length-between ww wc y.long (s.j + r) s.je hj y.right_end in
        record {
          goes = record {
            leads = record {
              whole =
                  q.whole
                  ∙ sym (ap₂ (λ (u x : List (Term ℕ)). u ++ (x ++ between ww' wc' s.e s.e)) (read-front ww wc y.long w v s.d (omega (arith, y))) (ap₂ (λ (a b : List (Term ℕ)). merge compare p a b) el er)
                  ∙ ap (λ (x : List (Term ℕ)). keep w v [] ++ x) (ap (λ (x : List (Term ℕ)). m ++ x) (between_none ww' wc' s.e s.e (omega arith)) ∙ append-nil m));
              left-from = omega arith;
              left-to = omega arith;
              left_in = hi;
              right-from = omega arith;
              right-to = omega arith;
              right-in = hj;
              front = omega arith;
              back = omega arith;
              room = omega (arith, y, one);
              turns-room = omega arith;
              words-else = λ t u. get_or-set_other ww s.d t w 0 (λ e. ⊎_elim (λ x. let z : ⊥ = omega arith in z) (λ x. let z : ⊥ = omega arith in z) u);
              coefs-else = λ t u. get_or-set_other wc s.d t v 0 (λ e. ⊎_elim (λ x. let z : ⊥ = omega arith in z) (λ x. let z : ⊥ = omega arith in z) u);
              words_long = length-set ww s.d w;
              coefs-long = length-set wc s.d v;
            };
            counted = omega (arith, q.count, ap₂ (λ (a b : List (Term ℕ)). alike compare a b) el er, i1, i2, o1, o2);
          };
          less = omega arith;
          left_one = omega arith;
          right-one = omega arith;
        }

    abbrev backed : Ends
    backed = record { i = s.i; ie = s.ie - l; j = s.j; je = s.je - r; d = s.d; e = s.e - k; turns = s.turns + 1 }

    back_step : Last p (left_of ww wc s) (right_of ww wc s) w v (left_of ww wc backed) (right_of ww wc backed) → Turned p ww wc s (set ww (s.e - 1) w) (set wc (s.e - 1) v) backed
    back_step q =
        let f : ℕ = s.e - 1 in
        let ww' : List ℕ = set ww f w in
        let wc' : List ℕ = set wc f v in
        let free : s.d < s.e = omega (arith, y) in
        let hi' : s.i ≤ s.ie - l = omega arith in
        let hj' : s.j ≤ s.je - r = omega arith in
        let el : left_of ww' wc' backed ≡ left_of ww wc backed = else-where ww wc y.long w v f s.i (s.ie - l) (omega (arith, y)) (⊎_elim (λ u. inl (omega arith)) (λ u. inr (omega arith)) y.left-apart) in
        let er : right_of ww' wc' backed ≡ right_of ww wc backed = else-where ww wc y.long w v f s.j (s.je - r) (omega (arith, y)) (⊎_elim (λ u. inl (omega arith)) (λ u. inr (omega arith)) y.right-apart) in
        let n = back-size s.i s.ie s.j s.je l r hi hj in
        let i1 = length-between ww wc y.long s.i s.ie y.left_in y.left_end in
        let i2 = length-between ww wc y.long s.j s.je y.right-in y.right_end in
        let o1 = length-between ww wc y.long s.i (s.ie - l) hi' (omega (arith, y)) in
        let o2 = length-between ww wc y.long s.j (s.je - r) hj' (omega (arith, y)) in
        record {
          goes = record {
            leads = record {
              whole =
                  q.whole
                  ∙ sym (ap₂ (λ (u x : List (Term ℕ)). u ++ (x ++ between ww' wc' (s.e - k) s.e)) (between_none ww' wc' s.d s.d (omega arith)) (ap₂ (λ (a b : List (Term ℕ)). merge compare p a b) el er)
                  ∙ ap (λ (x : List (Term ℕ)). merge compare p (left_of ww wc backed) (right_of ww wc backed) ++ x) (read_back ww wc y.long w v s.e (omega arith) y.place));
              left-from = omega arith;
              left-to = omega arith;
              left_in = hi';
              right-from = omega arith;
              right-to = omega arith;
              right-in = hj';
              front = omega arith;
              back = omega arith;
              room = back-room s.d (size s) (size backed) k s.e y.room (omega (arith, n)) one;
              turns-room = omega arith;
              words-else = λ t u. get_or-set_other ww f t w 0 (λ e. ⊎_elim (λ x. let z : ⊥ = omega arith in z) (λ x. let z : ⊥ = omega arith in z) u);
              coefs-else = λ t u. get_or-set_other wc f t v 0 (λ e. ⊎_elim (λ x. let z : ⊥ = omega arith in z) (λ x. let z : ⊥ = omega arith in z) u);
              words_long = length-set ww f w;
              coefs-long = length-set wc f v;
            };
            counted = omega (arith, q.count, ap₂ (λ (a b : List (Term ℕ)). alike compare a b) el er, i1, i2, o1, o2);
          };
          less = omega arith;
          left_one = omega arith;
          right-one = omega arith;
        }

-- what holds of four lists holds of the same ones
four : (R : (xs ys us vs : List (Term ℕ)) → Type 0) {xs xs1 ys ys1 us us1 vs vs1 : List (Term ℕ)} → xs ≡ xs1 → ys ≡ ys1 → us ≡ us1 → vs ≡ vs1 → R xs1 ys1 us1 vs1 → R xs ys us vs
four R a b c d q = rw (a, b, c, d) q

-- a turn, by the comparison of the two terms
module _ {p : ℕ} {ww wc : List ℕ} {s : Ends} (y : Ready ww wc s) (g : Reducing p ww wc s) (hi : s.i < s.ie) (hj : s.j < s.je) where
  -- what a turn makes of the term that it stores
  abbrev After : (place : ℕ) → (Joined ℕ → Ends) → Joined ℕ → Type 0
  After place next t = Turned p ww wc s (set ww place t.key) (set wc place t.coef) (next t)

  abbrev at_front : Joined ℕ → Ends
  at_front t = record { i = s.i + t.left; ie = s.ie; j = s.j + t.right; je = s.je; d = s.d + t.kept; e = s.e; turns = s.turns + 1 }

  abbrev at_back : Joined ℕ → Ends
  at_back t = record { i = s.i; ie = s.ie - t.left; j = s.j; je = s.je - t.right; d = s.d; e = s.e - t.kept; turns = s.turns + 1 }

  abbrev P : Term ℕ → Type 0
  P t = (0 < t.coef) × (t.coef < p)

  -- ---- in front
  left-lead : left_of ww wc s ≡ term (get_or ww s.i 0) (get_or wc s.i 0) ∷ between ww wc (s.i + 1) s.ie
  left-lead = at_front_lem ww wc y.long s.i s.ie hi y.left_end

  right-lead : right_of ww wc s ≡ term (get_or ww s.j 0) (get_or wc s.j 0) ∷ between ww wc (s.j + 1) s.je
  right-lead = at_front_lem ww wc y.long s.j s.je hj y.right_end

  pub left-coef : (0 < get_or wc s.i 0) × (get_or wc s.i 0 < p)
  left-coef = (subst (λ (l : List (Term ℕ)). All P l) left-lead g.left-reduced).0

  pub right-coef : (0 < get_or wc s.j 0) × (get_or wc s.j 0 < p)
  right-coef = (subst (λ (l : List (Term ℕ)). All P l) right-lead g.right-reduced).0

  front_by : (w v l r : ℕ) → l ≤ 1 → r ≤ 1 → 1 ≤ l + r → First p (left_of ww wc s) (right_of ww wc s) w v (between ww wc (s.i + l) s.ie) (between ww wc (s.j + r) s.je) → After s.d at_front (made w v l r)
  front_by w v l r hl hr one q =
      subst (λ (n : ℕ). Turned p ww wc s (set ww s.d w) (set wc s.d v) (record { i = s.i + l; ie = s.ie; j = s.j + r; je = s.je; d = s.d + n; e = s.e; turns = s.turns + 1 })) (sym (kept-is w v))
      (front-step y p w v l r hl hr one (omega arith) (omega arith) q)

  pub front-turn : {t : Joined ℕ} → t ≡ joined (get_or ww s.i 0) (get_or wc s.i 0) (get_or ww s.j 0) (get_or wc s.j 0) p → After s.d at_front t
  front-turn {t} e =
      let a : ℕ = get_or ww s.i 0 in
      let b : ℕ = get_or ww s.j 0 in
      let c : ℕ = get_or wc s.i 0 in
      let d : ℕ = get_or wc s.j 0 in
      let xs : List (Term ℕ) = between ww wc (s.i + 1) s.ie in
      let ys : List (Term ℕ) = between ww wc (s.j + 1) s.je in
      let f : Falling compare (term a c ∷ xs) = subst (λ (l : List (Term ℕ)). Falling compare l) left-lead y.left-falls in
      let h : Falling compare (term b d ∷ ys) = subst (λ (l : List (Term ℕ)). Falling compare l) right-lead y.right-falls in
      joins.by_order compare a b
      (λ q.
      let z : s.i + 0 ≡ s.i = omega arith in
      subst (After s.d at_front) (sym (e ∙ joins.joined-less a c b d p q))
      (front_by b d 0 1 (omega arith) (omega arith) (omega arith) (four (λ k l m n. First p k l b d m n) left-lead right-lead (ap (λ (n : ℕ). between ww wc n s.ie) z ∙ left-lead) refl (first-less p a c b d left-coef.0 right-coef.0 xs ys f h q))))
      (λ q.
      subst (After s.d at_front) (sym (e ∙ joins.joined_same a c b d p q))
      (front_by a ((c + d) % p) 1 1 (omega arith) (omega arith) (omega arith) (four (λ k l m n. First p k l a ((c + d) % p) m n) left-lead right-lead refl refl (first-same p a c b d left-coef.0 right-coef.0 xs ys f h q))))
      (λ q.
      let z : s.j + 0 ≡ s.j = omega arith in
      subst (After s.d at_front) (sym (e ∙ joins.joined-more a c b d p q))
      (front_by a c 1 0 (omega arith) (omega arith) (omega arith) (four (λ k l m n. First p k l a c m n) left-lead right-lead refl (ap (λ (n : ℕ). between ww wc n s.je) z ∙ right-lead) (first_more p a c b d left-coef.0 right-coef.0 xs ys f h q))))

  -- ---- at the back
  left-last : left_of ww wc s ≡ between ww wc s.i (s.ie - 1) ++ term (get_or ww (s.ie - 1) 0) (get_or wc (s.ie - 1) 0) ∷ []
  left-last = at_back_lem ww wc y.long s.i s.ie hi y.left_end

  right-last : right_of ww wc s ≡ between ww wc s.j (s.je - 1) ++ term (get_or ww (s.je - 1) 0) (get_or wc (s.je - 1) 0) ∷ []
  right-last = at_back_lem ww wc y.long s.j s.je hj y.right_end

  pub left-last-coef : (0 < get_or wc (s.ie - 1) 0) × (get_or wc (s.ie - 1) 0 < p)
  left-last-coef = (all_right P (between ww wc s.i (s.ie - 1)) (term (get_or ww (s.ie - 1) 0) (get_or wc (s.ie - 1) 0) ∷ []) (subst (λ (l : List (Term ℕ)). All P l) left-last g.left-reduced)).0

  pub right-last-coef : (0 < get_or wc (s.je - 1) 0) × (get_or wc (s.je - 1) 0 < p)
  right-last-coef = (all_right P (between ww wc s.j (s.je - 1)) (term (get_or ww (s.je - 1) 0) (get_or wc (s.je - 1) 0) ∷ []) (subst (λ (l : List (Term ℕ)). All P l) right-last g.right-reduced)).0

  back_by : (w v l r : ℕ) → l ≤ 1 → r ≤ 1 → 1 ≤ l + r → Last p (left_of ww wc s) (right_of ww wc s) w v (between ww wc s.i (s.ie - l)) (between ww wc s.j (s.je - r)) → After (s.e - 1) at_back (made w v l r)
  back_by w v l r hl hr one q =
      subst (λ (n : ℕ). Turned p ww wc s (set ww (s.e - 1) w) (set wc (s.e - 1) v) (record { i = s.i; ie = s.ie - l; j = s.j; je = s.je - r; d = s.d; e = s.e - n; turns = s.turns + 1 })) (sym (kept-is w v))
      (back_step y p w v l r hl hr one (omega arith) (omega arith) q)

  pub back-turn : {t : Joined ℕ} → t ≡ joined_last (get_or ww (s.ie - 1) 0) (get_or wc (s.ie - 1) 0) (get_or ww (s.je - 1) 0) (get_or wc (s.je - 1) 0) p → After (s.e - 1) at_back t
  back-turn {t} e =
      let a : ℕ = get_or ww (s.ie - 1) 0 in
      let b : ℕ = get_or ww (s.je - 1) 0 in
      let c : ℕ = get_or wc (s.ie - 1) 0 in
      let d : ℕ = get_or wc (s.je - 1) 0 in
      let xs : List (Term ℕ) = between ww wc s.i (s.ie - 1) in
      let ys : List (Term ℕ) = between ww wc s.j (s.je - 1) in
      let f : Falling compare (xs ++ term a c ∷ []) = subst (λ (l : List (Term ℕ)). Falling compare l) left-last y.left-falls in
      let h : Falling compare (ys ++ term b d ∷ []) = subst (λ (l : List (Term ℕ)). Falling compare l) right-last y.right-falls in
      joins.by_order compare a b
      (λ q.
      let z : s.je - 0 ≡ s.je = omega arith in
      subst (After (s.e - 1) at_back) (sym (e ∙ joins.last_less a c b d p q))
      (back_by a c 1 0 (omega arith) (omega arith) (omega arith) (four (λ k l m n. Last p k l a c m n) left-last right-last refl (ap (between ww wc s.j) z ∙ right-last) (last_less p a c b d left-last-coef.0 right-last-coef.0 xs ys f h q))))
      (λ q.
      subst (After (s.e - 1) at_back) (sym (e ∙ joins.last-same a c b d p q))
      (back_by a ((c + d) % p) 1 1 (omega arith) (omega arith) (omega arith) (four (λ k l m n. Last p k l a ((c + d) % p) m n) left-last right-last refl refl (last-same p a c b d left-last-coef.0 right-last-coef.0 xs ys f h q))))
      (λ q.
      let z : s.ie - 0 ≡ s.ie = omega arith in
      subst (After (s.e - 1) at_back) (sym (e ∙ joins.last_more a c b d p q))
      (back_by b d 0 1 (omega arith) (omega arith) (omega arith) (four (λ k l m n. Last p k l b d m n) left-last right-last (ap (between ww wc s.i) z ∙ left-last) refl (last_more p a c b d left-last-coef.0 right-last-coef.0 xs ys f h q))))
