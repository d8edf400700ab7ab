-- A block as its parts are put, one after the other. Assumes nothing.
use Rattle.std.proofs.Common.{◌≡◌, ℕ, zero, suc, ◌+◌, ◌-◌, ◌*◌, ◌/◌, ◌%◌, ◌^◌, ◌<◌, ◌≤◌, Bool, ◌&&◌, eqb, ltb, List, [], ◌∷◌, ◌++◌, length, get_or, take, drop, replicate, sym, refl, ap, ◌∙◌, ap₂, append_assoc, append-nil, le_of_eq, add_assoc, add-one, arith, length-append, length-take-le, take_all, drop-drop, take-suc, le-ltb, ne_eqb}
use native.Mathlib.Nat.{mod-add-mod}
use lib.ListN.{length-replicate}
use lib.Seq.{sets, sets-eq, length-sets}
use borrow.Rule.Slice.PartMut.{put_mid}
use Rattle.std.specs.Cmp.Lexicographic.{pointwise}
use Rattle.std.specs.List.{list_all}
use Rattle.monomial.specs.Layout.{bytes, of_bytes}
use Rattle.monomial.proofs.ByteLaws.{length-bytes}
use Rattle.polynomial.specs.Terms.{Term, term, terms}
use Rattle.polynomial.proofs.TermLists.{length-terms, term-at}
use Rattle.merge_common.specs.Lent.{part}
use Rattle.merge_common.proofs.Lists.{length_part}
use Rattle.polynomial.specs.declared.setting.Setting.{Setting}
use Rattle.block.specs.Block.{number_at, weight_number, setting_bytes, header_with, header, place, places, unused, sum_words, check_of, body, block_with, block, same, zeros}
use Rattle.block.proofs.ByteLaws.{part-part, part-put, joined}

-- ---- the header
pub setting-put : (s s1 s2 s3 s4 s5 s6 : List ℕ) (at weights : ℕ) (t : Setting) → weights ≡ weight_number t.weights → s1 ≡ sets s at (bytes 2 t.p) → s2 ≡ sets s1 (at + 2) (bytes 1 t.order) → s3 ≡ sets s2 (at + 3) (bytes 1 t.n) → s4 ≡ sets s3 (at + 4) (bytes 2 (t.p / 65536)) → s5 ≡ sets s4 (at + 6) (bytes 3 weights) → s6 ≡ sets s5 (at + 9) (replicate 1 0) → s6 ≡ sets s at (setting_bytes t)
unfolding setting_bytes bytes
setting-put s s1 s2 s3 s4 s5 s6 at weights t e e1 e2 e3 e4 e5 e6 =
    let o = bytes 2 t.p ++ bytes 1 t.order in
    let q = o ++ bytes 1 t.n in
    let u = q ++ bytes 2 (t.p / 65536) in
    let f2 = joined s s1 s2 at (bytes 2 t.p) (bytes 1 t.order) (at + 2) refl e1 e2 in
    let f3 = joined s s2 s3 at o (bytes 1 t.n) (at + 3) refl f2 e3 in
    let f4 = joined s s3 s4 at q (bytes 2 (t.p / 65536)) (at + 4) refl f3 e4 in
    let f5 = joined s s4 s5 at u (bytes 3 (weight_number t.weights)) (at + 6) refl f4 (e5 ∙ ap (λ (n : ℕ). sets s4 (at + 6) (bytes 3 n)) e) in
    joined s s5 s6 at (u ++ bytes 3 (weight_number t.weights)) (replicate 1 0) (at + 9) refl f5 e6

pub header-put : (s s1 s2 s3 s4 : List ℕ) (at number count here : ℕ) (t : Setting) → s1 ≡ sets s at (bytes 2 number) → s2 ≡ sets s1 (at + 2) (bytes 2 count) → s3 ≡ sets s2 (at + 4) (bytes 2 here) → s4 ≡ sets s3 (at + 6) (setting_bytes t) → s4 ≡ sets s at (header number count here t)
unfolding header_with bytes
header-put s s1 s2 s3 s4 at number count here t e1 e2 e3 e4 =
    let o = bytes 2 number ++ bytes 2 count in
    joined s s3 s4 at (o ++ bytes 2 here) (setting_bytes t) (at + 6) refl (joined s s2 s3 at o (bytes 2 here) (at + 4) refl (joined s s1 s2 at (bytes 2 number) (bytes 2 count) (at + 2) refl e1 e2) e3) e4

pub length-header : (number count here : ℕ) (t : Setting) → length (header number count here t) ≡ 16
unfolding header_with setting_bytes bytes
length-header number count here t = refl

-- ---- bytes compared
pub zeros-all : (s : List ℕ) → list_all (λ (b : ℕ). eqb b 0) s ≡ zeros s
zeros-all [] = refl
zeros-all (zero ∷ s) = zeros-all s
zeros-all (suc b ∷ s) =
    let e : eqb (suc b) 0 ≡ ltb (suc b) 1 = ne_eqb (suc b) 0 (λ h. omega (arith, h)) ∙ sym (le-ltb (suc b) 1 (omega arith)) in
    ap₂ ◌&&◌ e (zeros-all s)

pub same-pointwise : (xs ys : List ℕ) → pointwise eqb xs ys ≡ same xs ys
unfolding same
same-pointwise [] [] = refl
same-pointwise [] (y ∷ ys) = refl
same-pointwise (x ∷ xs) [] = refl
same-pointwise (x ∷ xs) (y ∷ ys) = ap (λ (b : Bool). eqb x y && b) (same-pointwise xs ys)

-- bytes that are compared with a header that is put over sixteen bytes
pub header-over : (s h : List ℕ) (at number count here : ℕ) (t : Setting) (r : Bool) → h ≡ sets (replicate 16 0) 0 (header number count here t) → r ≡ pointwise eqb (part at (at + 16 - at) s) h → r ≡ same (part at 16 s) (header number count here t)
header-over s h at number count here t r e f =
    let k : at + 16 - at ≡ 16 = omega arith in
    f ∙ (same-pointwise (part at (at + 16 - at) s) h ∙ ap₂ (λ (n : ℕ) (l : List ℕ). same (part at n s) l) k (e ∙ whole))
  where
    whole : sets (replicate 16 0) 0 (header number count here t) ≡ header number count here t
    whole = sym (take_all 16 (sets (replicate 16 0) 0 (header number count here t)) (le_of_eq (length-sets (replicate 16 0) 0 (header number count here t)))) ∙ part-put (replicate 16 0) 0 (header number count here t) 16 (length-header number count here t) (omega arith)

-- ---- filler
-- n zeros are put over the n bytes from `at` on
pub cleared : (s l : List ℕ) (at n : ℕ) → at + n ≤ length s → l ≡ replicate (length (part at (at + n - at) s)) 0 → put_mid at (at + n - at) s l ≡ sets s at (replicate n 0)
cleared s l at n h e =
    let k : at + n - at ≡ n = omega arith in
    let o : length (part at (at + n - at) s) ≡ n = ap (λ (j : ℕ). length (part at j s)) k ∙ length_part at n s h in
    let z = length-replicate {A = ℕ} n 0 in
    let m : at + length (replicate n 0) ≤ length s = omega (arith, z) in
    ap₂ (λ (j : ℕ) (b : List ℕ). put_mid at j s b) k (e ∙ ap (λ (j : ℕ). replicate j 0) o)
    ∙ (ap (λ (b : List ℕ). take at s ++ (replicate n 0 ++ b)) (drop-drop n at s ∙ ap (λ (j : ℕ). drop (at + j) s) (sym z))
    ∙ (sym (append_assoc (take at s) (replicate n 0) (drop (at + length (replicate n 0)) s)) ∙ sym (sets-eq (replicate n 0) s at m)))

-- ---- places
pub places-append : (ts us : List (Term ℕ)) → places (ts ++ us) ≡ places ts ++ places us
unfolding places
places-append [] us = refl
places-append (t ∷ ts) us = ap (λ (l : List ℕ). place t ++ l) (places-append ts us) ∙ sym (append_assoc (place t) (places ts) (places us))

pub length-places : (ts : List (Term ℕ)) → length (places ts) ≡ 12 * length ts
unfolding places bytes
length-places [] = refl
length-places (t ∷ ts) = omega (arith, length-places ts)

-- the first i terms are put from `at` on
pub record Placed (ts : List (Term ℕ)) (s₀ : List ℕ) (at : ℕ) (s : List ℕ) (i : ℕ) : Type 0 where
  pub low : i ≤ length ts
  pub long : length s ≡ length s₀
  pub is : s ≡ sets s₀ at (places (take i ts))

pub placed-none : (ts : List (Term ℕ)) (s : List ℕ) (at : ℕ) → Placed ts s at s 0
unfolding places
placed-none ts s at = record { low = omega arith; long = refl; is = refl }

module _ (ws cs : List ℕ) (e : length cs ≡ length ws) (s₀ : List ℕ) (at : ℕ) (s : List ℕ) (i : ℕ) (l : Placed (terms ws cs) s₀ at s i) (h : i < length ws) where
  pub placed-more : (s1 s2 : List ℕ) → s1 ≡ sets s (at + 12 * i) (bytes 8 (get_or ws i 0)) → s2 ≡ sets s1 (at + 12 * i + 8) (bytes 4 (get_or cs i 0)) → Placed (terms ws cs) s₀ at s2 (i + 1)
  unfolding places
  placed-more s1 s2 e1 e2 =
      let ts = terms ws cs in
      let t = term (get_or ws i 0) (get_or cs i 0) in
      let k : i < length ts = omega (arith, length-terms ws cs e) in
      let o = places (take i ts) in
      let z : at + length o ≡ at + 12 * i = omega (arith, length-places (take i ts), length-take-le i ts l.low) in
      let q = joined s s1 s2 (at + 12 * i) (bytes 8 (get_or ws i 0)) (bytes 4 (get_or cs i 0)) (at + 12 * i + 8) (ap (λ (n : ℕ). at + 12 * i + n) (length-bytes 8 (get_or ws i 0))) e1 e2 in
      let w : o ++ place t ≡ places (take (i + 1) ts) =
      ap (λ (b : List ℕ). o ++ b) (sym (append-nil (place t)))
      ∙ (sym (places-append (take i ts) (t ∷ []))
      ∙ ap places (ap (λ (u : Term ℕ). take i ts ++ (u ∷ [])) (sym (term-at ws cs i e)) ∙ (sym (take-suc ts i (term 0 0) k) ∙ ap (λ (n : ℕ). take n ts) (sym (add-one i))))) in
      record {
        low = omega arith;
        long = ap length q ∙ (length-sets s (at + 12 * i) (place t) ∙ l.long);
        is = joined s₀ s s2 at o (place t) (at + 12 * i) z l.is q ∙ ap (sets s₀ at) w;
      }

pub placed-all : (ts : List (Term ℕ)) (s₀ : List ℕ) (at : ℕ) (s : List ℕ) (i : ℕ) → Placed ts s₀ at s i → length ts ≤ i → s ≡ sets s₀ at (places ts)
placed-all ts s₀ at s i l h = l.is ∙ ap (λ (us : List (Term ℕ)). sets s₀ at (places us)) (take_all i ts h)

-- ---- the check
pub one_more : (s : List ℕ) (at i sum : ℕ) → i < 127 → sum ≡ (1 + sum_words i (part at 508 s)) % 2 ^ 32 → (sum + number_at 4 (at + 4 * i) s) % 2 ^ 32 ≡ (1 + sum_words (i + 1) (part at 508 s)) % 2 ^ 32
unfolding sum_words
one_more s at i sum h e =
    let b = part at 508 s in
    let w : number_at 4 (at + 4 * i) s ≡ number_at 4 (4 * i) b = sym (ap of_bytes (part-part at 508 s (4 * i) 4 (omega arith))) in
    ap₂ (λ (n m : ℕ). (n + m) % 2 ^ 32) e w
    ∙ (mod-add-mod (1 + sum_words i b) (2 ^ 32) (number_at 4 (4 * i) b) ∙ rw (add-one i) (ap (λ (n : ℕ). n % 2 ^ 32) (add_assoc 1 (sum_words i b) (number_at 4 (4 * i) b))))

-- ---- the whole
pub length-body : (number count : ℕ) (t : Setting) (ts : List (Term ℕ)) → length ts ≤ 41 → length (body number count t ts) ≡ 508
length-body number count t ts h =
    length-append (header number count (length ts) t) (places ts ++ unused (length ts))
    ∙ omega (arith, length-header number count (length ts) t, length-append (places ts) (unused (length ts)), length-places ts, length-replicate {A = ℕ} (12 * (41 - length ts)) 0)

pub length-block : (number count : ℕ) (t : Setting) (ts : List (Term ℕ)) → length ts ≤ 41 → length (block number count t ts) ≡ 512
unfolding block_with
length-block number count t ts h =
    let b = body number count t ts in
    length-append b (bytes 4 (check_of b)) ∙ omega (arith, length-body number count t ts h, length-bytes 4 (check_of b))

pub block-put : (s s1 s2 s3 s4 : List ℕ) (at number count : ℕ) (t : Setting) (ts : List (Term ℕ)) (here check : ℕ) → length ts ≤ 41 → here ≡ length ts → at + 512 ≤ length s
    → s1 ≡ sets s at (header number count here t) → s2 ≡ sets s1 (at + 16) (places ts) → s3 ≡ sets s2 (at + 16 + 12 * here) (replicate (12 * (41 - here)) 0)
    → check ≡ check_of (part at 508 s3) → s4 ≡ sets s3 (at + 508) (bytes 4 check) → s4 ≡ sets s at (block number count t ts)
unfolding block_with
block-put s s1 s2 s3 s4 at number count t ts here check h e room e1 e2 e3 e4 e5 =
    let o = header number count (length ts) t in
    let b = body number count t ts in
    let f1 : s1 ≡ sets s at o = e1 ∙ ap (λ (k : ℕ). sets s at (header number count k t)) e in
    let f2 = joined s s1 s2 at o (places ts) (at + 16) (ap (λ (k : ℕ). at + k) (length-header number count (length ts) t)) f1 e2 in
    let l : at + length (o ++ places ts) ≡ at + 16 + 12 * here = omega (arith, length-append o (places ts), length-header number count (length ts) t, length-places ts) in
    let f3 : s3 ≡ sets s at b = joined s s2 s3 at (o ++ places ts) (unused here) (at + 16 + 12 * here) l f2 e3 ∙ (ap (sets s at) (append_assoc o (places ts) (unused here)) ∙ ap (λ (k : ℕ). sets s at (o ++ (places ts ++ unused k))) e) in
    let lb = length-body number count t ts h in
    let c : check ≡ check_of b = e4 ∙ ap check_of (ap (part at 508) f3 ∙ part-put s at b 508 lb (omega arith)) in
    joined s s3 s4 at b (bytes 4 check) (at + 508) (ap (λ (k : ℕ). at + k) lb) f3 e5 ∙ ap (λ (k : ℕ). sets s at (b ++ bytes 4 k)) c
