-- The merge of two areas from its steps: the rest moved, the turns, what was left moved, and the gap closed. Assumes nothing.
use mathlib.Core.Path.{◌≡◌, sym, ap, ap₂, ◌∙◌, subst}
use mathlib.Core.List.{List, [], ◌++◌}
use mathlib.Core.Logic.{◌⊎◌, inl, inr, ⊎_elim}
use Prim.Native.Nat.{ℕ, ◌+◌, ◌-◌, ◌<◌, ◌≤◌, compare}
use native.Mathlib.Omega.{arith}
use lib.ListN.{length, get_or}
use lib.Seq.{sets}
use Rattle.polynomial.specs.Terms.{Term, terms, words, coefs, Falling, Reduced}
use Rattle.polynomial.specs.Merge.{merge, merge_count}
use Rattle.polynomial.proofs.TwoEnded.{alike}
use Rattle.merge_common.specs.Lent.{part}
use Rattle.merge_areas.specs.declared.turns.Ends.{Ends}
use Rattle.merge_common.specs.Placing.{PlacedIn}
use Rattle.merge_areas.specs.Areas.{Areas}
use Rattle.merge_areas.specs.Ways.{between, left_of, right_of, Ready, Reducing, Leads, Goes, Rested, MovedLeft}
use Rattle.merge_areas.proofs.Windows.{length-between, words-between, coefs-between, split, between_none, between-like}
use Rattle.merge_areas.proofs.Leading.{ready-after, reducing-after, leads-on, goes_on}
use Rattle.merge_areas.proofs.Moving.{moved-long, moved-else, between-moved, nothing}

whole-area : (ww wc : List ℕ) (a n : ℕ) → between ww wc a (a + n) ≡ terms (part a n ww) (part a n wc)
unfolding between
whole-area ww wc a n = let q : a + n - a ≡ n = omega arith in ap (λ (k : ℕ). terms (part a k ww) (part a k wc)) q

module _ {p : ℕ} {ww wc : List ℕ} {a n b m to : ℕ} (r : Areas p ww wc a n b m to) where
  abbrev all : Ends
  all = record { i = a; ie = a + n; j = b; je = b + m; d = to; e = to + (n + m); turns = 0 }

  pub ready : Ready ww wc all
  ready = record {
    left-falls = subst (λ (l : List (Term ℕ)). Falling compare l) (sym (whole-area ww wc a n)) r.left.falling;
    right-falls = subst (λ (l : List (Term ℕ)). Falling compare l) (sym (whole-area ww wc b m)) r.right.falling;
    left_in = omega arith;
    right-in = omega arith;
    left_end = r.left_end;
    right_end = r.right_end;
    long = r.long;
    room = omega arith;
    place = r.room;
    left-apart = r.left-apart;
    right-apart = r.right-apart;
    turns-room = omega (arith, r.room);
  }

  reducing : Reducing p ww wc all
  reducing = record {
    modulus = r.modulus;
    left-reduced = subst (λ (l : List (Term ℕ)). Reduced p l) (sym (whole-area ww wc a n)) r.left.reduced;
    right-reduced = subst (λ (l : List (Term ℕ)). Reduced p l) (sym (whole-area ww wc b m)) r.right.reduced;
  }

  pub rest-requires : Ready ww wc all × (a < a + n) × (b < b + m)
  rest-requires = (ready, omega (arith, r.left-some), omega (arith, r.right-some))

  -- ---- the rest is moved
  module _ {w1 c1 : List ℕ} {s1 : Ends} (h1 : Rested ww wc all w1 c1 s1) where
    pub both-requires : Ready w1 c1 s1 × Reducing p w1 c1 s1
    both-requires = (ready-after ready (h1.leads p), reducing-after ready (h1.leads p) reducing)

    -- ---- turns at both ends
    module _ {w2 c2 : List ℕ} {s2 : Ends} (h2 : Goes p w1 c1 s1 w2 c2 s2) where
      pub one-requires : Ready w2 c2 s2 × Reducing p w2 c2 s2
      one-requires = (ready-after both-requires.0 h2.leads, reducing-after both-requires.0 h2.leads both-requires.1)

      -- ---- turns in front
      module _ {w3 c3 : List ℕ} {s3 : Ends} (h3 : Goes p w2 c2 s2 w3 c3 s3) where
        pub left-ready : Ready w3 c3 s3
        left-ready = ready-after one-requires.0 h3.leads

        -- ---- what is left is moved
        module _ {w4 c4 : List ℕ} {s4 : Ends} (h4 : MovedLeft w3 c3 s3 w4 c4 s4) where
          turns : Goes p w1 c1 s1 w4 c4 s4
          turns = goes_on both-requires.0 h2 (goes_on one-requires.0 h3 (h4.goes p))

          steps : Leads p ww wc all w4 c4 s4
          steps = leads-on ready (h1.leads p) turns.leads

          last : Ready w4 c4 s4
          last = ready-after ready steps

          pub gap-requires : (to ≤ s4.d) × (s4.d ≤ s4.e) × (s4.e ≤ length w4) × (s4.e ≤ length c4)
          gap-requires = (steps.front, omega (arith, steps.room), last.place, omega (arith, last.place, last.long))

          no-left : left_of w4 c4 s4 ≡ []
          no-left = between_none w4 c4 s4.i s4.ie (omega (arith, h4.left-used))

          no-right : right_of w4 c4 s4 ≡ []
          no-right = between_none w4 c4 s4.j s4.je (omega (arith, h4.right-used))

          abbrev end : ℕ
          end = to + (n + m)

          abbrev M : List (Term ℕ)
          M = merge compare p (terms (part a n ww) (part a n wc)) (terms (part b m ww) (part b m wc))

          both-areas : merge compare p (left_of ww wc all) (right_of ww wc all) ≡ M
          both-areas = ap₂ (λ (u v : List (Term ℕ)). merge compare p u v) (whole-area ww wc a n) (whole-area ww wc b m)

          -- the merge is what is stored in front, and what is stored at the back
          two-parts : M ≡ between w4 c4 to s4.d ++ between w4 c4 s4.e end
          two-parts =
              sym both-areas
              ∙ (steps.whole ∙ ap (λ (u : List (Term ℕ)). between w4 c4 to s4.d ++ (u ++ between w4 c4 s4.e end)) (nothing p (left_of w4 c4 s4) (right_of w4 c4 s4) no-left no-right))

          counted : s4.turns ≡ merge_count compare (terms (part a n ww) (part a n wc)) (terms (part b m ww) (part b m wc))
          counted =
              let c = h1.count in
              let k = ap₂ (λ (u v : List (Term ℕ)). alike compare u v) no-left no-right in
              let e : s4.turns ≡ merge_count compare (left_of ww wc all) (right_of ww wc all) = omega (arith, c, k, turns.counted, h1.turns-stay, h4.left-used, h4.right-used) in
              e ∙ ap₂ (λ (u v : List (Term ℕ)). merge_count compare u v) (whole-area ww wc a n) (whole-area ww wc b m)

          -- ---- the gap is closed
          module _ {head : ℕ} {w5 c5 : List ℕ} (eh : head ≡ to + (s4.e - s4.d)) (ew : w5 ≡ sets w4 head (part to (s4.d - to) w4)) (ec : c5 ≡ sets c4 head (part to (s4.d - to) c4)) where
            from_end : to + (s4.d - to) ≡ s4.d
            from_end = let g = gap-requires in omega arith

            head-end : head + (s4.d - to) ≡ s4.e
            head-end = let g = gap-requires in omega arith

            pub head_in : head ≤ end
            head_in = let g = gap-requires in omega (arith, steps.back)

            from_low : to ≤ head
            from_low = omega arith

            from_in : to + (s4.d - to) ≤ length w4
            from_in = let g = gap-requires in let e = from_end in omega arith

            head-room : head + (s4.d - to) ≤ length w4
            head-room = let g = gap-requires in let e = head-end in omega arith

            word_else : (t : ℕ) → (t < head) ⊎ (s4.e ≤ t) → get_or w5 t 0 ≡ get_or w4 t 0
            word_else t u = moved-else w4 w5 to head (s4.d - to) from_in head-room ew t (⊎_elim (λ v. inl v) (λ v. inr (let e = head-end in omega arith)) u)

            coef-else : (t : ℕ) → (t < head) ⊎ (s4.e ≤ t) → get_or c5 t 0 ≡ get_or c4 t 0
            coef-else t u = moved-else c4 c5 to head (s4.d - to) (let l = last.long in let h = from_in in omega arith) (let l = last.long in let h = head-room in omega arith) ec t (⊎_elim (λ v. inl v) (λ v. inr (let e = head-end in omega arith)) u)

            word-long : length w5 ≡ length w4
            word-long = moved-long w4 w5 to head (s4.d - to) from_in head-room ew

            coef-long : length c5 ≡ length c4
            coef-long = moved-long c4 c5 to head (s4.d - to) (let l = last.long in let h = from_in in omega arith) (let l = last.long in let h = head-room in omega arith) ec

            long5 : length c5 ≡ length w5
            long5 = coef-long ∙ (last.long ∙ sym word-long)

            end-in : end ≤ length w5
            end-in = omega (arith, r.room, word-long, steps.words_long)

            all_there : between w5 c5 head end ≡ M
            all_there =
                let f : between w5 c5 head s4.e ≡ between w4 c4 to s4.d = ap (between w5 c5 head) (sym head-end) ∙ (between-moved w4 c4 w5 c5 to head (s4.d - to) last.long from_in head-room ew ec ∙ ap (between w4 c4 to) from_end) in
                let g : between w5 c5 s4.e end ≡ between w4 c4 s4.e end = between-like w4 c4 w5 c5 s4.e end last.long word-long coef-long (omega (arith, r.room, steps.words_long)) (λ t u v. word_else t (inr u)) (λ t u v. coef-else t (inr u)) in
                split w5 c5 long5 head s4.e end (let e = head-end in omega arith) steps.back end-in ∙ (ap₂ (λ (u v : List (Term ℕ)). u ++ v) f g ∙ sym two-parts)

            pub merged : PlacedIn compare p (terms (part a n ww) (part a n wc)) (terms (part b m ww) (part b m wc)) to end ww wc w5 c5 (record { head = head; len = end - head; comparisons = s4.turns }) × (head + (end - head) ≡ end)
            merged = (
              record {
                len_is = sym (length-between w5 c5 long5 head end head_in end-in) ∙ ap length all_there;
                to_end = let h = head_in in omega arith;
                from_low = from_low;
                words_are = sym (words-between w5 c5 long5 head end head_in end-in) ∙ ap words all_there;
                coefs-are = sym (coefs-between w5 c5 long5 head end head_in end-in) ∙ ap coefs all_there;
                words-else = λ t u. word_else t (⊎_elim (λ v. inl (omega arith)) (λ v. inr (omega (arith, steps.back))) u) ∙ steps.words-else t u;
                coefs-else = λ t u. coef-else t (⊎_elim (λ v. inl (omega arith)) (λ v. inr (omega (arith, steps.back))) u) ∙ steps.coefs-else t u;
                count-is = counted;
              },
              let h = head_in in omega arith,
            )
