-- The rest of either list below the other one's last term. Assumes nothing.
use mathlib.Core.Path.{◌≡◌, refl, sym, ap, ap₂, ◌∙◌, subst}
use mathlib.Core.List.{List, [], ◌∷◌, ◌++◌, append-nil}
use mathlib.Core.Logic.{◌⊎◌, inl, inr, ⊎_elim}
use Prim.Native.Nat.{Ordering}
use Prim.Native.Nat.{ℕ, zero, suc, ◌+◌, ◌-◌, ◌<◌, ◌≤◌, compare}
use native.Mathlib.Decide.{dec_le}
use native.Mathlib.Omega.{arith}
use lib.ListN.{length, take, drop, get_or}
use lib.Seq.{sets}
use Rattle.monomial.proofs.Comparing.{Tri, tri, less, same, more, gt-compare, compare-larger}
use Rattle.monomial.proofs.OrderLaws.{numbers-order}
use Rattle.polynomial.specs.Terms.{Term, term, All, Under, Falling}
use Rattle.polynomial.specs.Merge.{merge, merge_count}
use Rattle.polynomial.proofs.TwoEnded.{NotOver, not-over-last, above-rest, merge-rest-left, merge-rest-right, alike, alike-append, alike-append-right, alike-above, alike-beneath, count-rest-left, count-rest-right, count-like}
use Rattle.merge_common.specs.Lent.{part, rest_of, Apart}
use Rattle.merge_areas.specs.declared.turns.Ends.{Ends}
use Rattle.merge_areas.specs.Ways.{between, left_of, right_of, Ready, Rested, Above, Source}
use Rattle.merge_areas.proofs.Windows.{length-between, split, at_front_lem, at_back_lem, between_none, between-like}
use Rattle.merge_areas.proofs.Cuts.{falling-left}
use Rattle.merge_areas.proofs.Moving.{rest-long, move-ends, move-apart, source-moved, words-stay, coefs-stay, words-kept, coefs-kept}

-- the scan from the end has come to k
pub record Scanned (ws : List ℕ) (from end last k : ℕ) : Type 0 where
  pub low : from ≤ k
  pub high : k ≤ end
  pub below : (t : ℕ) → k ≤ t → t < end → get_or ws t 0 < last

module _ {ws : List ℕ} {from end last k : ℕ} (s : Scanned ws from end last k) where
  pub scan-on : from < k → get_or ws (k - 1) 0 < last → Scanned ws from end last (k - 1)
  scan-on h l = record { low = omega arith; high = omega (arith, s); below = λ t a b. at t a b (dec_le k t) }
    where
      at : (t : ℕ) → k - 1 ≤ t → t < end → Dec (k ≤ t) → get_or ws t 0 < last
      at t a b (yes g) = s.below t g b
      at t a b (no g) = let e : k - 1 ≡ t = omega arith in subst (λ (n : ℕ). get_or ws n 0 < last) e l

  pub scanned : (k ≡ from) ⊎ (last ≤ get_or ws (k - 1) 0) → Above ws from end last k
  scanned stop = record { low = s.low; high = s.high; below = s.below; stop = stop }

  -- where it stops
  pub stopped : from < k → last ≤ get_or ws (k - 1) 0 → Above ws from end last (k - 1 + 1)
  stopped h l = let e : k ≡ k - 1 + 1 = omega arith in subst (λ (n : ℕ). Above ws from end last n) e (scanned (inr l))

-- two words u and v that compare as the last one does with a number z, which is x too
module _ (last x : ℕ) {u v z : ℕ} (ez : z ≡ x) (e : compare u v ≡ compare last z) where
  pub below_last : v < u → x < last
  below_last h = compare-larger last x (sym (e ∙ ap (compare last) ez) ∙ gt-compare h)

  pub not-below : u ≤ v → last ≤ x
  not-below h = go (dec_le last x)
    where
      go : Dec (last ≤ x) → last ≤ x
      go (yes k) = k
      go (no k) = let g : v < u = compare-larger u v (e ∙ ap (compare last) ez ∙ gt-compare (let m : x < last = omega arith in m)) in let z : ⊥ = omega arith in absurd z

-- ---- whether any are below, by the last one
module _ {ws : List ℕ} {from end last k : ℕ} (a : Above ws from end last k) (h : from < end) where
  none_below : last ≤ get_or ws (end - 1) 0 → end ≤ k
  none_below l = go (dec_le end k)
    where
      go : Dec (end ≤ k) → end ≤ k
      go (yes u) = u
      go (no u) = let z = a.below (end - 1) (omega arith) (omega arith) in omega arith

  some_below : get_or ws (end - 1) 0 < last → k < end
  some_below l = go (dec_le end k)
    where
      go : Dec (end ≤ k) → k < end
      go (yes u) = let q : k ≡ end = omega (arith, a) in let e = ap (λ (n : ℕ). get_or ws (n - 1) 0) q in ⊎_elim (λ v. omega arith) (λ v. omega arith) a.stop
      go (no u) = omega arith

-- ---- room for the rest
rest-room : (i ie j je i' j' n d e : ℕ) → i ≤ i' → j ≤ j' → n ≡ (ie - i') + (je - j') → d + ((ie - i) + (je - j)) ≤ e → d + n ≤ e
rest-room i ie j je i' j' n d e a b q r = omega arith

rest-size : (i ie j je i' j' n : ℕ) → i ≤ i' → i' ≤ ie → j ≤ j' → j' ≤ je → n ≡ (ie - i') + (je - j') → (i' - i) + (j' - j) + n ≡ (ie - i) + (je - j)
rest-size i ie j je i' j' n a a' b b' q = omega arith

under-end : (d k n m e : ℕ) → k + n ≡ m → d + m ≤ e → d + k ≤ e - n
under-end d k n m e q r = omega arith

rest-place : (i ie j je i' j' n d e : ℕ) → i ≤ i' → i' ≤ ie → j ≤ j' → j' ≤ je → n ≡ (ie - i') + (je - j') → d + ((ie - i) + (je - j)) ≤ e → d + ((i' - i) + (j' - j)) ≤ e - n
rest-place i ie j je i' j' n d e a a' b b' q r = under-end d ((i' - i) + (j' - j)) n ((ie - i) + (je - j)) e (rest-size i ie j je i' j' n a a' b b' q) r

-- ---- the terms that are below a key, and those that are not
all-between : (P : Term ℕ → Type 0) (ws cs : List ℕ) → length cs ≡ length ws → (n a e : ℕ) → e ≡ a + n → e ≤ length ws → ((t : ℕ) → a ≤ t → t < e → P (term (get_or ws t 0) (get_or cs t 0))) → All P (between ws cs a e)
all-between P ws cs long zero a e q h f = subst (λ (l : List (Term ℕ)). All P l) (sym (between_none ws cs a e (omega arith))) tt
all-between P ws cs long (suc n) a e q h f =
    subst (λ (l : List (Term ℕ)). All P l) (sym (at_front_lem ws cs long a e (omega arith) h))
    (f a (omega arith) (omega arith), all-between P ws cs long n (a + 1) e (omega arith) h (λ t u v. f t (omega arith) v))

module _ (ws cs : List ℕ) (long : length cs ≡ length ws) {from end last k : ℕ} (h : end ≤ length ws) (a : Above ws from end last k) where
  under_rest : Under compare last (between ws cs k end)
  under_rest = all-between (λ t. compare last t.mono ≡ Ordering.gt) ws cs long (end - k) k end (omega (arith, a)) h (λ t u v. gt-compare (a.below t u v))

  not-over : Falling compare (between ws cs from end) → NotOver compare last (between ws cs from k)
  not-over f = go (dec_le (suc from) k)
    where
      go : Dec (suc from ≤ k) → NotOver compare last (between ws cs from k)
      go (yes g) =
          let q = at_back_lem ws cs long from k g (omega (arith, a)) in
          let fall : Falling compare (between ws cs from k) = falling-left compare (between ws cs from k) (between ws cs k end) (subst (λ (l : List (Term ℕ)). Falling compare l) (split ws cs long from k end a.low a.high h) f) in
          subst (λ (l : List (Term ℕ)). NotOver compare last l) (sym q)
          (not-over-last compare numbers-order last (between ws cs from (k - 1)) (term (get_or ws (k - 1) 0) (get_or cs (k - 1) 0)) (subst (λ (l : List (Term ℕ)). Falling compare l) q fall)
          (λ e. let u : get_or ws (k - 1) 0 < last = compare-larger last (get_or ws (k - 1) 0) e in ⊎_elim (λ v. let z : ⊥ = omega arith in z) (λ v. let z : ⊥ = omega arith in z) a.stop))
      go (no g) = subst (λ (l : List (Term ℕ)). NotOver compare last l) (sym (between_none ws cs from k (omega arith))) tt

-- ---- the rest taken off: X and Y are left of F and G
record Off (F G X Y R : List (Term ℕ)) : Type 0 where
  pub whole : (p : ℕ) → merge compare p F G ≡ merge compare p X Y ++ R
  pub count : merge_count compare F G + alike compare X Y ≡ length X + length Y

off-is : {F F1 G G1 X X1 Y Y1 R R1 : List (Term ℕ)} → F ≡ F1 → G ≡ G1 → X ≡ X1 → Y ≡ Y1 → R ≡ R1 → Off F1 G1 X1 Y1 R1 → Off F G X Y R
off-is a b c d e q = rw (a, b, c, d, e) q

module _ (xs : List (Term ℕ)) (x : Term ℕ) (ys : List (Term ℕ)) (y : Term ℕ) where
  -- of the left list
  off-left : (us : List (Term ℕ)) → Falling compare (us ++ (xs ++ x ∷ [])) → Falling compare (ys ++ y ∷ []) → NotOver compare y.mono us → Under compare y.mono (xs ++ x ∷ [])
      → Off (us ++ (xs ++ x ∷ [])) (ys ++ y ∷ []) us (ys ++ y ∷ []) (xs ++ x ∷ [])
  off-left us f g n u =
      let G : List (Term ℕ) = ys ++ y ∷ [] in
      let R : List (Term ℕ) = xs ++ x ∷ [] in
      let ab = above-rest compare numbers-order ys y R g u in
      record {
        whole = λ p. merge-rest-left compare numbers-order p us R G ab;
        count = omega (arith, count-rest-left compare numbers-order us xs x ys y f g n u, alike-append compare numbers-order us R G, alike-beneath compare numbers-order R G ab);
      }

  -- of the right list
  off-right : (vs : List (Term ℕ)) → Falling compare (xs ++ x ∷ []) → Falling compare (vs ++ (ys ++ y ∷ [])) → NotOver compare x.mono vs → Under compare x.mono (ys ++ y ∷ [])
      → Off (xs ++ x ∷ []) (vs ++ (ys ++ y ∷ [])) (xs ++ x ∷ []) vs (ys ++ y ∷ [])
  off-right vs f g n u =
      let F : List (Term ℕ) = xs ++ x ∷ [] in
      let R : List (Term ℕ) = ys ++ y ∷ [] in
      let ab = above-rest compare numbers-order xs x R f u in
      record {
        whole = λ p. merge-rest-right compare numbers-order p F vs R ab;
        count = omega (arith, count-rest-right compare numbers-order xs x vs ys y f g n u, alike-append-right compare numbers-order F vs R, alike-above compare numbers-order F R ab);
      }

  -- of neither
  off-none : Falling compare (xs ++ x ∷ []) → Falling compare (ys ++ y ∷ []) → compare x.mono y.mono ≡ Ordering.eq → Off (xs ++ x ∷ []) (ys ++ y ∷ []) (xs ++ x ∷ []) (ys ++ y ∷ []) []
  off-none f g h = record {
    whole = λ p. sym (append-nil (merge compare p (xs ++ x ∷ []) (ys ++ y ∷ [])));
    count = count-like compare numbers-order xs x ys y f g h;
  }

module _ {ww wc : List ℕ} {s : Ends} (y : Ready ww wc s) (hi : s.i < s.ie) (hj : s.j < s.je) {i j : ℕ}
    (a : Above ww s.i s.ie (get_or ww (s.je - 1) 0) i) (b : Above ww s.j s.je (get_or ww (s.ie - 1) 0) j) where
  -- one of the two has no rest, by the keys of their lasts
  pub one-rest : (s.ie ≤ i) ⊎ (s.je ≤ j)
  one-rest = go (dec_le (get_or ww (s.ie - 1) 0) (get_or ww (s.je - 1) 0))
    where
      go : Dec (get_or ww (s.ie - 1) 0 ≤ get_or ww (s.je - 1) 0) → (s.ie ≤ i) ⊎ (s.je ≤ j)
      go (yes h) = inr (none_below b hj h)
      go (no h) = inl (none_below a hi (omega arith))

  -- what is left, and the rest
  abbrev X : List (Term ℕ)
  X = between ww wc s.i i

  abbrev Y : List (Term ℕ)
  Y = between ww wc s.j j

  abbrev R : List (Term ℕ)
  R = between ww wc i s.ie ++ between ww wc j s.je

  abbrev x : Term ℕ
  x = term (get_or ww (s.ie - 1) 0) (get_or wc (s.ie - 1) 0)

  abbrev z : Term ℕ
  z = term (get_or ww (s.je - 1) 0) (get_or wc (s.je - 1) 0)

  left-last : left_of ww wc s ≡ between ww wc s.i (s.ie - 1) ++ x ∷ []
  left-last = at_back_lem ww wc y.long s.i s.ie hi y.left_end

  right-last : right_of ww wc s ≡ between ww wc s.j (s.je - 1) ++ z ∷ []
  right-last = at_back_lem ww wc y.long s.j s.je hj y.right_end

  rest-off : Off (left_of ww wc s) (right_of ww wc s) X Y R
  rest-off = go (tri x.mono z.mono)
    where
      falls : (l k : List (Term ℕ)) → l ≡ k → Falling compare l → Falling compare k
      falls l k e f = subst (λ (l : List (Term ℕ)). Falling compare l) e f

      go : Tri x.mono z.mono → Off (left_of ww wc s) (right_of ww wc s) X Y R
      go (less h e) =
          let n = none_below b hj (omega arith) in
          let q : j ≡ s.je = omega (arith, b) in
          let k = some_below a hi h in
          let r = at_back_lem ww wc y.long i s.ie k y.left_end in
          let f : left_of ww wc s ≡ X ++ (between ww wc i (s.ie - 1) ++ x ∷ []) = split ww wc y.long s.i i s.ie a.low a.high y.left_end ∙ ap (λ (l : List (Term ℕ)). X ++ l) r in
          off-is f right-last refl (ap (between ww wc s.j) q ∙ right-last) (ap (λ (l : List (Term ℕ)). between ww wc i s.ie ++ l) (between_none ww wc j s.je n) ∙ (append-nil (between ww wc i s.ie) ∙ r))
          (off-left (between ww wc i (s.ie - 1)) x (between ww wc s.j (s.je - 1)) z X (falls (left_of ww wc s) (X ++ (between ww wc i (s.ie - 1) ++ x ∷ [])) f y.left-falls) (falls (right_of ww wc s) (between ww wc s.j (s.je - 1) ++ z ∷ []) right-last y.right-falls)
          (not-over ww wc y.long y.left_end a y.left-falls) (subst (λ (l : List (Term ℕ)). Under compare z.mono l) r (under_rest ww wc y.long y.left_end a)))
      go (same h e) =
          let n = none_below b hj (omega arith) in
          let m = none_below a hi (omega arith) in
          let q : j ≡ s.je = omega (arith, b) in
          let k : i ≡ s.ie = omega (arith, a) in
          off-is left-last right-last (ap (between ww wc s.i) k ∙ left-last) (ap (between ww wc s.j) q ∙ right-last) (ap₂ (λ (u v : List (Term ℕ)). u ++ v) (between_none ww wc i s.ie m) (between_none ww wc j s.je n))
          (off-none (between ww wc s.i (s.ie - 1)) x (between ww wc s.j (s.je - 1)) z (falls (left_of ww wc s) (between ww wc s.i (s.ie - 1) ++ x ∷ []) left-last y.left-falls) (falls (right_of ww wc s) (between ww wc s.j (s.je - 1) ++ z ∷ []) right-last y.right-falls) e)
      go (more h e) =
          let n = none_below a hi (omega arith) in
          let q : i ≡ s.ie = omega (arith, a) in
          let k = some_below b hj h in
          let r = at_back_lem ww wc y.long j s.je k y.right_end in
          let g : right_of ww wc s ≡ Y ++ (between ww wc j (s.je - 1) ++ z ∷ []) = split ww wc y.long s.j j s.je b.low b.high y.right_end ∙ ap (λ (l : List (Term ℕ)). Y ++ l) r in
          off-is left-last g (ap (between ww wc s.i) q ∙ left-last) refl (ap (λ (l : List (Term ℕ)). l ++ between ww wc j s.je) (between_none ww wc i s.ie n) ∙ r)
          (off-right (between ww wc s.i (s.ie - 1)) x (between ww wc j (s.je - 1)) z Y (falls (left_of ww wc s) (between ww wc s.i (s.ie - 1) ++ x ∷ []) left-last y.left-falls) (falls (right_of ww wc s) (Y ++ (between ww wc j (s.je - 1) ++ z ∷ [])) g y.right-falls)
          (not-over ww wc y.long y.right_end b y.right-falls) (subst (λ (l : List (Term ℕ)). Under compare x.mono l) r (under_rest ww wc y.long y.right_end b)))

  -- the rest is moved to the end of the free places
  module _ {from n : ℕ} (f : Source i s.ie j from) (en : n ≡ length (rest_of (drop i (take s.ie ww)) (drop j (take s.je ww)))) where
    many : n ≡ (s.ie - i) + (s.je - j)
    many = en ∙ rest-long y i j a.low a.high b.low b.high one-rest

    pub rest-fits : s.d + n ≤ s.e
    rest-fits = rest-room s.i s.ie s.j s.je i j n s.d s.e a.low b.low many y.room

    low : s.d ≤ s.e - n
    low = let r = rest-fits in omega arith

    high : s.e - n + n ≤ s.e
    high = let r = rest-fits in omega arith

    pub rest-ends : (from + n ≤ length ww) × (s.e - n + n ≤ length ww) × (from + n ≤ length wc) × (s.e - n + n ≤ length wc)
    rest-ends = move-ends y i j a.low a.high b.low b.high one-rest f many low high

    pub rest-apart : Apart from n (s.e - n) n
    rest-apart = move-apart y i j a.low a.high b.low b.high one-rest f many low high

    pub rest-moved : {ww' wc' : List ℕ} → ww' ≡ sets ww (s.e - n) (part from n ww) → wc' ≡ sets wc (s.e - n) (part from n wc)
        → Rested ww wc s ww' wc' (record { i = s.i; ie = i; j = s.j; je = j; d = s.d; e = s.e - n; turns = s.turns })
    rest-moved {ww'} {wc'} ew ec =
        let wl = words-kept y i j a.low a.high b.low b.high one-rest f many low high ew ec in
        let cl = coefs-kept y i j a.low a.high b.low b.high one-rest f many low high ew ec in
        let ws = words-stay y i j a.low a.high b.low b.high one-rest f many low high ew ec in
        let cs = coefs-stay y i j a.low a.high b.low b.high one-rest f many low high ew ec in
        let ends : s.e - n + n ≡ s.e = (let r = rest-fits in omega arith) in
        let m : between ww' wc' (s.e - n) s.e ≡ R = ap (between ww' wc' (s.e - n)) (sym ends) ∙ source-moved y i j a.low a.high b.low b.high one-rest f many low high ew ec in
        let el : between ww' wc' s.i i ≡ X = between-like ww wc ww' wc' s.i i y.long wl cl (omega (arith, a.high, y.left_end)) (λ t g k. ws t (stays-left t g k)) (λ t g k. cs t (stays-left t g k)) in
        let er : between ww' wc' s.j j ≡ Y = between-like ww wc ww' wc' s.j j y.long wl cl (omega (arith, b.high, y.right_end)) (λ t g k. ws t (stays-right t g k)) (λ t g k. cs t (stays-right t g k)) in
        let q = rest-off in
        let lx = length-between ww wc y.long s.i i a.low (omega (arith, a.high, y.left_end)) in
        let ly = length-between ww wc y.long s.j j b.low (omega (arith, b.high, y.right_end)) in
        record {
          leads = λ p. record {
            whole =
                q.whole p
                ∙ sym (ap₂ (λ (u v : List (Term ℕ)). u ++ (v ++ between ww' wc' (s.e - n) s.e)) (between_none ww' wc' s.d s.d (omega arith)) (ap₂ (λ (u v : List (Term ℕ)). merge compare p u v) el er)
                ∙ ap (λ (u : List (Term ℕ)). merge compare p X Y ++ u) m);
            left-from = omega arith;
            left-to = a.high;
            left_in = a.low;
            right-from = omega arith;
            right-to = b.high;
            right-in = b.low;
            front = omega arith;
            back = omega arith;
            room = rest-place s.i s.ie s.j s.je i j n s.d s.e a.low a.high b.low b.high many y.room;
            turns-room = omega (arith, a.high, b.high);
            words-else = ws;
            coefs-else = cs;
            words_long = wl;
            coefs-long = cl;
          };
          turns-stay = refl;
          count = omega (arith, q.count, ap₂ (λ (u v : List (Term ℕ)). alike compare u v) el er, lx, ly);
        }
      where
        stays-left : (t : ℕ) → s.i ≤ t → t < i → (t < s.d) ⊎ (s.e ≤ t)
        stays-left t g k = ⊎_elim (λ u. inl (omega (arith, a.high))) (λ u. inr (omega arith)) y.left-apart

        stays-right : (t : ℕ) → s.j ≤ t → t < j → (t < s.d) ⊎ (s.e ≤ t)
        stays-right t g k = ⊎_elim (λ u. inl (omega (arith, b.high))) (λ u. inr (omega arith)) y.right-apart
