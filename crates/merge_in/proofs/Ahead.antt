-- The loop that merges in place: the reading is ahead of the writing, so that the terms that are read stand as they stood. Assumes nothing.
use mathlib.Core.Path.{◌≡◌, refl, sym, ap, ap₂, ◌∙◌, subst}
use mathlib.Core.List.{List, [], ◌∷◌, ◌++◌, append-nil}
use mathlib.Core.Logic.{◌⊎◌, inr, ⊎_elim}
use Prim.Native.Nat.{ℕ, zero, suc, ◌+◌, ◌-◌, ◌<◌, ◌≤◌, compare}
use native.Mathlib.Numerals.{add-one}
use native.Mathlib.Omega.{arith}
use lib.ListN.{length, drop, set, get_or, length-append, length-drop, drop_of_length-le}
use lib.Seq.{sets, append_snoc, drop-cons}
use Rattle.polynomial.specs.Terms.{Term, term, terms, words, coefs}
use Rattle.polynomial.specs.Merge.{keep, merge, merge_count}
use Rattle.polynomial.proofs.MergeLaws.{merge-nil, count_left, count-right}
use Rattle.polynomial.proofs.TermLists.{lead-at, length-terms, words-terms, coefs-terms, map-drop}
use Rattle.merge_common.specs.Lent.{part}
use Rattle.merge_common.specs.Joining.{joined}
use Rattle.merge_common.specs.declared.merging.Joined.{Joined}
use Rattle.merge_common.proofs.Lists.{part-from, length_part, get_d_part}
use Rattle.merge_common.proofs.Steps.{coef-within}
use Rattle.merge_common.proofs.Joins.{joined_small}
use Rattle.merge_common.proofs.State.{Turn, turn}
use Rattle.merge_common.specs.Placing.{PlacedIn}
use Rattle.merge_in.specs.Placing.{Into}
use Rattle.merge_in.proofs.Held.{Held, Lies, held_none, held_more, held-put, held_up}

-- the terms at the places from j up to e
abbrev up_to : List ℕ → List ℕ → ℕ → ℕ → List (Term ℕ)
up_to sw sc e j = terms (part j (e - j) sw) (part j (e - j) sc)

-- the merge under way: the next term of f is the one at i, the other's next stands at place j, and the next is stored at place k
pub record Ahead (p : ℕ) (fw fc sw₀ sc₀ : List ℕ) (h e : ℕ) (sw sc : List ℕ) (i j k n : ℕ) : Type 0 where
  pub done : List (Term ℕ)
  pub at : h - length fw + length done ≡ k
  pub whole : done ++ merge compare p (drop i (terms fw fc)) (up_to sw₀ sc₀ e j) ≡ merge compare p (terms fw fc) (up_to sw₀ sc₀ e h)
  pub count : n + merge_count compare (drop i (terms fw fc)) (up_to sw₀ sc₀ e j) ≡ merge_count compare (terms fw fc) (up_to sw₀ sc₀ e h)
  pub words-held : Held (λ t. t.mono) done (h - length fw) j sw₀ sw
  pub coefs-held : Held (λ t. t.coef) done (h - length fw) j sc₀ sc
  pub in_f : i ≤ length fw
  pub first : h ≤ j
  pub in-s : j ≤ e
  pub behind : k + length fw ≤ i + j
  pub counted : h + n ≤ i + j

keep-before : (w c : ℕ) (ds ts : List (Term ℕ)) → (ds ++ keep w c []) ++ ts ≡ ds ++ keep w c ts
unfolding keep
keep-before w zero ds ts = ap (λ (l : List (Term ℕ)). l ++ ts) (append-nil ds)
keep-before w (suc c) ds ts = append_snoc ds (term w (suc c)) ts

merge-left : (p : ℕ) (ys : List (Term ℕ)) → merge compare p [] ys ≡ ys
unfolding merge
merge-left p ys = refl

part-lead : (l : List ℕ) (a e : ℕ) → a < e → e ≤ length l → part a (e - a) l ≡ get_or l a 0 ∷ part (a + 1) (e - (a + 1)) l
part-lead l a e h k = let q : e - a ≡ suc (e - (a + 1)) = omega arith in rw (q, drop-cons l a 0 (omega arith), add-one)

module _ {p : ℕ} {fw fc sw₀ sc₀ : List ℕ} {h e : ℕ} (pre : Into p fw fc sw₀ sc₀ h e) where
  pub ahead-start : Ahead p fw fc sw₀ sc₀ h e sw₀ sc₀ 0 h (h - length fw) 0
  ahead-start = record {
    done = [];
    at = omega arith;
    whole = refl;
    count = omega arith;
    words-held = held_none _ _ _ _;
    coefs-held = held_none _ _ _ _;
    in_f = omega arith;
    first = omega arith;
    in-s = pre.ends;
    behind = omega (arith, pre.room);
    counted = omega arith;
  }

  module _ {sw sc : List ℕ} {i j k n : ℕ} (s : Ahead p fw fc sw₀ sc₀ h e sw sc i j k n) where
    abbrev F : List (Term ℕ)
    F = terms fw fc

    abbrev G : ℕ → List (Term ℕ)
    G a = up_to sw₀ sc₀ e a

    -- ---- a turn
    module _ (hi : i < length fw) (hj : j < e) where
      pub x-within : (0 < get_or fc i 0) × (get_or fc i 0 < p)
      x-within = coef-within p fw fc pre.lent i hi

      pub y-within : (0 < get_or sc j 0) × (get_or sc j 0 < p)
      y-within =
          let a : h + (j - h) ≡ j = omega (arith, s.first) in
          subst (λ (v : ℕ). (0 < v) × (v < p)) (get_d_part h (e - h) sc₀ (j - h) (omega (arith, s.first)) ∙ (ap (λ (m : ℕ). get_or sc₀ m 0) a ∙ sym (s.coefs-held.stay j (inr (omega arith)))))
          (coef-within p (part h (e - h) sw₀) (part h (e - h) sc₀) pre.there (j - h) (omega (arith, s.first, length_part h (e - h) sw₀ (omega (arith, pre.ends, pre.words-end)))))

      y-lead : G j ≡ term (get_or sw j 0) (get_or sc j 0) ∷ G (j + 1)
      y-lead =
          ap₂ terms (part-lead sw₀ j e hj pre.words-end) (part-lead sc₀ j e hj pre.coefs-end)
          ∙ sym (ap₂ (λ (a b : ℕ). term a b ∷ G (j + 1)) (s.words-held.stay j (inr (omega arith))) (s.coefs-held.stay j (inr (omega arith))))

      module _ {t : Joined ℕ} (q : t ≡ joined (get_or fw i 0) (get_or fc i 0) (get_or sw j 0) (get_or sc j 0) p) where
        turned : Turn p (λ a. drop a F) G i j t
        turned = turn p (λ a. drop a F) G i j (get_or fw i 0) (get_or fc i 0) (get_or sw j 0) (get_or sc j 0) (lead-at fw fc i pre.lent.long hi) y-lead x-within.0 y-within.0 q

        -- it leaves fewer terms
        pub turn-less : (length fw - (i + t.left)) + (e - (j + t.right)) < (length fw - i) + (e - j)
        turn-less = omega (arith, turned.some)

        pub turn-ahead : Ahead p fw fc sw₀ sc₀ h e (set sw k t.key) (set sc k t.coef) (i + t.left) (j + t.right) (k + t.kept) (n + 1)
        turn-ahead =
            let u = turned in
            let b = joined_small _ _ _ _ _ q in
            let o : k < j = omega (arith, s.behind) in
            record {
              done = s.done ++ keep t.key t.coef [];
              at = omega (arith, s.at, u.kept, length-append s.done (keep t.key t.coef []));
              whole = keep-before t.key t.coef s.done _ ∙ (ap (λ (l : List (Term ℕ)). s.done ++ l) (sym u.whole) ∙ s.whole);
              count = omega (arith, u.count, s.count);
              words-held = held_more s.words-held s.at (j + t.right) t.key o (omega arith) t.key t.coef refl (omega (arith, pre.words-end));
              coefs-held = held_more s.coefs-held s.at (j + t.right) t.coef o (omega arith) t.key t.coef refl (omega (arith, pre.coefs-end));
              in_f = omega arith;
              first = omega (arith, s.first);
              in-s = omega arith;
              behind = omega (arith, s.behind, u.some);
              counted = omega (arith, s.counted, u.some);
            }

    -- ---- at the end, the whole merge lies from `head` on
    placed : (head len : ℕ) {sw' sc' : List ℕ} → merge_count compare (drop i F) (G j) ≡ 0 → len ≡ length (merge compare p F (G h)) → h - length fw ≤ head → head + len ≤ e
        → Lies (λ t. t.mono) (merge compare p F (G h)) head (h - length fw) e sw₀ sw' → Lies (λ t. t.coef) (merge compare p F (G h)) head (h - length fw) e sc₀ sc'
        → PlacedIn compare p F (G h) (h - length fw) e sw₀ sc₀ sw' sc' (record { head = head; len = len; comparisons = n })
    placed head len {sw'} {sc'} none el lo hi w c = record {
      len_is = el;
      from_low = lo;
      to_end = hi;
      words_are = ap (λ (m : ℕ). part head m sw') el ∙ w.are;
      coefs-are = ap (λ (m : ℕ). part head m sc') el ∙ c.are;
      words-else = w.stay;
      coefs-else = c.stay;
      count-is = omega (arith, s.count, none);
    }

    -- the rest of f is put
    left-words : part i (length fw - i) fw ≡ words (drop i F)
    left-words = part-from fw i ∙ sym (map-drop (λ t. t.mono) i F ∙ ap (drop i) (words-terms fw fc pre.lent.long))

    left-coefs : part i (length fc - i) fc ≡ coefs (drop i F)
    left-coefs = part-from fc i ∙ sym (map-drop (λ t. t.coef) i F ∙ ap (drop i) (coefs-terms fw fc pre.lent.long))

    pub put_rest : (length fw ≤ i) ⊎ (e ≤ j) → i < length fw → {sw' sc' : List ℕ} {len : ℕ} → sw' ≡ sets sw k (part i (length fw - i) fw) → sc' ≡ sets sc k (part i (length fc - i) fc) → len ≡ k + length (part i (length fw - i) fw) - (h - length fw)
        → PlacedIn compare p F (G h) (h - length fw) e sw₀ sc₀ sw' sc' (record { head = h - length fw; len = len; comparisons = n })
    put_rest end more {sw'} {sc'} {len} ew ec el =
        let ej : e ≤ j = ⊎_elim (λ u. let z : ⊥ = omega arith in absurd z) (λ u. u) end in
        let z : e - j ≡ 0 = omega arith in
        let none : G j ≡ [] = rw z in
        let whole : s.done ++ drop i F ≡ merge compare p F (G h) = ap (λ (l : List (Term ℕ)). s.done ++ l) (sym (ap (merge compare p (drop i F)) none ∙ merge-nil compare p (drop i F))) ∙ s.whole in
        let long : length (drop i F) ≡ length fw - i = length-drop i F ∙ ap (λ (m : ℕ). m - i) (length-terms fw fc pre.lent.long) in
        let lw = ap length (part-from fw i) ∙ length-drop i fw in
        let size : length (merge compare p F (G h)) ≡ length s.done + length (drop i F) = ap length (sym whole) ∙ length-append s.done (drop i F) in
        let len_is : len ≡ length (merge compare p F (G h)) = omega (arith, s.at) in
        placed (h - length fw) len (ap (merge_count compare (drop i F)) none ∙ count-right compare (drop i F)) len_is (omega arith) (omega (arith, s))
        (held-put s.words-held s.at e s.in-s (drop i F) _ whole _ ew left-words (omega (arith, s)) pre.words-end)
        (held-put s.coefs-held s.at e s.in-s (drop i F) _ whole _ ec left-coefs (omega (arith, s)) pre.coefs-end)

    -- the other's terms stay, and the stored ones are moved up to them
    pub gap-closed : length fw ≤ i → {sw' sc' : List ℕ} {head : ℕ} → head ≡ h - length fw + (j - k) → sw' ≡ sets sw head (part (h - length fw) (k - (h - length fw)) sw) → sc' ≡ sets sc head (part (h - length fw) (k - (h - length fw)) sc)
        → PlacedIn compare p F (G h) (h - length fw) e sw₀ sc₀ sw' sc' (record { head = head; len = e - head; comparisons = n })
    gap-closed end {sw'} {sc'} {head} eh ew ec =
        let none : drop i F ≡ [] = drop_of_length-le F {i = i} (omega (arith, length-terms fw fc pre.lent.long)) in
        let whole : s.done ++ G j ≡ merge compare p F (G h) = ap (λ (l : List (Term ℕ)). s.done ++ l) (sym (ap (λ (l : List (Term ℕ)). merge compare p l (G j)) none ∙ merge-left p (G j))) ∙ s.whole in
        let lw : length (part j (e - j) sw₀) ≡ e - j = length_part j (e - j) sw₀ (omega (arith, s.in-s, pre.words-end)) in
        let lc : length (part j (e - j) sc₀) ≡ e - j = length_part j (e - j) sc₀ (omega (arith, s.in-s, pre.coefs-end)) in
        let long : length (G j) ≡ e - j = length-terms (part j (e - j) sw₀) (part j (e - j) sc₀) (lc ∙ sym lw) ∙ lw in
        let size : length (merge compare p F (G h)) ≡ length s.done + length (G j) = ap length (sym whole) ∙ length-append s.done (G j) in
        let len_is : e - head ≡ length (merge compare p F (G h)) = omega (arith, s) in
        placed head (e - head) (ap (λ (l : List (Term ℕ)). merge_count compare l (G j)) none ∙ count_left compare (G j)) len_is (omega arith) (omega (arith, s))
        (held_up s.words-held s.at e s.in-s (G j) _ whole head eh ew (ap (λ (m : ℕ). part j m sw₀) long ∙ sym (words-terms (part j (e - j) sw₀) (part j (e - j) sc₀) (lc ∙ sym lw))) (omega (arith, s)) (omega (arith, s)) pre.words-end)
        (held_up s.coefs-held s.at e s.in-s (G j) _ whole head eh ec (ap (λ (m : ℕ). part j m sc₀) long ∙ sym (coefs-terms (part j (e - j) sw₀) (part j (e - j) sc₀) (lc ∙ sym lw))) (omega (arith, s)) (omega (arith, s)) pre.coefs-end)

-- ---- where the terms of f are counted by their coefficients
-- it begins
pub start-at : {p : ℕ} {fw fc sw₀ sc₀ : List ℕ} {h e : ℕ} → Into p fw fc sw₀ sc₀ h e → Ahead p fw fc sw₀ sc₀ h e sw₀ sc₀ 0 h (h - length fc) 0
start-at {p} {fw} {fc} {sw₀} {sc₀} {h} {e} pre = subst (λ (x : ℕ). Ahead p fw fc sw₀ sc₀ h e sw₀ sc₀ 0 h (h - x) 0) (sym pre.lent.long) (ahead-start pre)

-- it ends
module _ {p : ℕ} {fw fc sw₀ sc₀ : List ℕ} {h e : ℕ} (pre : Into p fw fc sw₀ sc₀ h e) {sw sc : List ℕ} {i j k n : ℕ} (s : Ahead p fw fc sw₀ sc₀ h e sw sc i j k n) where
  abbrev Result : (sw' sc' : List ℕ) (head len : ℕ) → Type 0
  Result sw' sc' head len = PlacedIn compare p (terms fw fc) (terms (part h (e - h) sw₀) (part h (e - h) sc₀)) (h - length fw) e sw₀ sc₀ sw' sc' (record { head = head; len = len; comparisons = n })

  low : h - length fc ≡ h - length fw
  low = ap (λ (m : ℕ). h - m) pre.lent.long

  pub rest-placed : (length fc ≤ i) ⊎ (e ≤ j) → i < length fc → {sw' sc' : List ℕ} → sw' ≡ sets sw k (part i (length fw - i) fw) → sc' ≡ sets sc k (part i (length fc - i) fc) → Result sw' sc' (h - length fc) (k + (length fc - i) - (h - length fc))
  rest-placed end more {sw'} {sc'} ew ec =
      subst (λ (x : ℕ). Result sw' sc' x (k + (length fc - i) - (h - length fc))) (sym low)
      (put_rest pre s (subst (λ (x : ℕ). (x ≤ i) ⊎ (e ≤ j)) pre.lent.long end) (omega (arith, pre.lent.long)) ew ec (omega (arith, pre.lent.long, length_part i (length fw - i) fw (omega (arith, pre.lent.long)))))

  pub gap-placed : length fc ≤ i → {sw' sc' : List ℕ} {head : ℕ} → head ≡ h - length fc + (j - k) → sw' ≡ sets sw head (part (h - length fc) (k - (h - length fc)) sw) → sc' ≡ sets sc head (part (h - length fc) (k - (h - length fc)) sc) → Result sw' sc' head (e - head)
  gap-placed end {sw'} {sc'} {head} eh ew ec =
      gap-closed pre s (omega (arith, pre.lent.long)) (eh ∙ ap (λ (x : ℕ). x + (j - k)) low) (ew ∙ ap (λ (x : ℕ). sets sw head (part x (k - x) sw)) low) (ec ∙ ap (λ (x : ℕ). sets sc head (part x (k - x) sc)) low)
