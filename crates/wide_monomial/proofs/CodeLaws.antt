-- What the functions compute, on plain numbers: each law is a step of one of them. Assumes nothing.
use mathlib.Core.Path.{◌≡◌, refl, sym, ap, ap₂, ◌∙◌, subst}
use mathlib.Core.Bool.{Bool, true, false, ◌&&◌, not, and_assoc}
use mathlib.Core.List.{List, [], ◌∷◌, ◌++◌}
use Prim.Native.Nat.{ℕ, ◌+◌, ◌-◌, ◌*◌, ◌/◌, ◌^◌, ◌<◌, ◌≤◌, zero-le}
use native.Mathlib.Nat.{mul-le-mul}
use native.Mathlib.Decide.{dec_le}
use native.Mathlib.Omega.{arith}
use borrow.Author.Tests.{eq-eqb, ne_eqb, lt-ltb, le-ltb}
use lib.Dec.{ltb, eqb}
use lib.Bits.{bit_and}
use lib.ListN.{length, take, drop, drop_of_length-le, length-drop, take-append-drop}
use lib.Seq.{drop-append-le, drop-append-add, take_all, length-take-le}
use Rattle.monomial.specs.declared.order.Order.{Order}
use Rattle.monomial.specs.Exponents as E
use Rattle.monomial.specs.Exponents.{weighted, divides}
use Rattle.monomial.specs.Layout.{bytes, fields, Below, below, beyond_bits, WeightsFit}
use Rattle.monomial.specs.Words.{high, degree_in, Packed, divides_word}
use Rattle.monomial.proofs.Places.{each_append, below-append, true_below, and_both, weighted-append, weighted-upward, weighted-enough}
use Rattle.monomial.proofs.ByteLaws.{length-bytes, bytes_below, bytes-add, tops, tops-clear}
use Rattle.monomial.proofs.LayoutLaws.{length_fields, below-fields, below-take}
use Rattle.monomial.proofs.CodeLaws.{beyond-clear}
use Rattle.wide_monomial.specs.Wide.{paired, wide_fields, wide_exponents, in_wide, in_first, in_second, TestsClear, WideWeights}
use Rattle.wide_monomial.specs.WideWords.{wide_bytes, WidePacked, divides_wide, over_wide}
use Rattle.wide_monomial.proofs.Parts.{first_of, above_of, second-of, high-first, below-drop, both_below}
use Rattle.wide_monomial.proofs.WideWordLaws.{first-tops, second-tops, divides-halves}

-- ---- word by word
module _ (a b : ℕ) (ha : a < 2 ^ 64) (hb : b < 2 ^ 64) (p : WidePacked (paired a b)) where
  pub first-packed : Packed a
  first-packed = record {
    tops = subst (λ (w : ℕ). Below 128 (bytes 6 w)) (first_of a b ha) (first-tops (paired a b) p);
    room = subst (λ (w : ℕ). w < 2 ^ 63) (first_of a b ha) p.room;
  }

  pub second-packed : Packed b
  second-packed = record {
    tops = subst (λ (w : ℕ). Below 128 (bytes 6 w)) (second-of a b ha hb) (second-tops (paired a b) p);
    room = fits b (subst (λ (w : ℕ). w < 2 ^ 48) (above_of a b ha) p.second-small);
  }
    where
      fits : (w : ℕ) → w < 2 ^ 48 → w < 2 ^ 63
      fits w h = omega arith

module _ (c d a b : ℕ) (hc : c < 2 ^ 64) (hd : d < 2 ^ 64) (ha : a < 2 ^ 64) (hb : b < 2 ^ 64) where
  both_words : divides_wide (paired c d) (paired a b) ≡ (divides_word c a && divides_word d b)
  both_words =
      divides-halves (paired c d) (paired a b)
      ∙ ap₂ ◌&&◌ (ap₂ (λ (u w : ℕ). divides (bytes 6 u) (bytes 6 w)) (first_of c d hc) (first_of a b ha)) (ap₂ (λ (u w : ℕ). divides (bytes 6 u) (bytes 6 w)) (second-of c d hc hd) (second-of a b ha hb))

  pub first-fails : (r : Bool) → r ≡ divides_word c a → r ≡ false → false ≡ divides_wide (paired c d) (paired a b)
  first-fails r e f = sym (both_words ∙ ap (λ (t : Bool). t && divides_word d b) (sym e ∙ f))

  pub second-decides : (r s : Bool) → r ≡ divides_word c a → r ≡ true → s ≡ divides_word d b → s ≡ divides_wide (paired c d) (paired a b)
  second-decides r s e t f = f ∙ sym (both_words ∙ ap (λ (u : Bool). u && divides_word d b) (sym e ∙ t))

  -- the top bits of the sums
  both_zero : (u v : ℕ) → eqb (u + v) 0 ≡ (eqb u 0 && eqb v 0)
  both_zero u v = go (dec_le u 0) (dec_le v 0)
    where
      go : Dec (u ≤ 0) → Dec (v ≤ 0) → eqb (u + v) 0 ≡ (eqb u 0 && eqb v 0)
      go (yes h) (yes k) = eq-eqb (u + v) 0 (omega arith) ∙ sym (ap₂ ◌&&◌ (eq-eqb u 0 (omega arith)) (eq-eqb v 0 (omega arith)))
      go (yes h) (no k) = ne_eqb (u + v) 0 (λ z. omega arith) ∙ sym (ap₂ ◌&&◌ (eq-eqb u 0 (omega arith)) (ne_eqb v 0 (λ z. omega arith)))
      go (no h) t = ne_eqb (u + v) 0 (λ z. omega arith) ∙ sym (ap (λ (s : Bool). s && eqb v 0) (ne_eqb u 0 (λ z. omega arith)))

  one-clear : (u w : ℕ) → Packed u → Packed w → eqb (bit_and (u + w) (tops 6)) 0 ≡ below 128 (E.product (bytes 6 u) (bytes 6 w))
  one-clear u w p q = tops-clear 6 (u + w) ∙ ap (below 128) (bytes-add 6 u w p.tops q.tops)

  products : E.product (wide_bytes (paired c d)) (wide_bytes (paired a b)) ≡ E.product (bytes 6 c) (bytes 6 a) ++ E.product (bytes 6 d) (bytes 6 b)
  products =
      ap₂ E.product (ap₂ (λ (u w : ℕ). bytes 6 u ++ bytes 6 w) (first_of c d hc) (second-of c d hc hd)) (ap₂ (λ (u w : ℕ). bytes 6 u ++ bytes 6 w) (first_of a b ha) (second-of a b ha hb))
      ∙ each_append (λ i j. i + j) (bytes 6 c) (bytes 6 a) (bytes 6 d) (bytes 6 b) (length-bytes 6 c ∙ sym (length-bytes 6 a))

  pub over-sums : WidePacked (paired c d) → WidePacked (paired a b) → not (eqb (bit_and (c + a) (tops 6) + bit_and (d + b) (tops 6)) 0) ≡ over_wide (paired c d) (paired a b)
  over-sums p q =
      ap not
      (both_zero (bit_and (c + a) (tops 6)) (bit_and (d + b) (tops 6))
      ∙ (ap₂ ◌&&◌ (one-clear c a (first-packed c d hc hd p) (first-packed a b ha hb q)) (one-clear d b (second-packed c d hc hd p) (second-packed a b ha hb q))
      ∙ (sym (below-append 128 (E.product (bytes 6 c) (bytes 6 a)) (E.product (bytes 6 d) (bytes 6 b))) ∙ ap (below 128) (sym products))))

-- ---- the layout
module _ (o : Order) (n : ℕ) (few : n ≤ 6) (b w : ℕ) (is : b ≡ beyond_bits o n) where
  tops_are : below 128 (fields o w) ≡ eqb (bit_and w (tops 6)) 0
  tops_are = below-fields 128 o w ∙ sym (tops-clear 6 w)

  pub top_set : (bit_and w (tops 6) ≡ 0 → ⊥) → false ≡ (below 128 (fields o w) && below 1 (drop n (fields o w)))
  top_set h = sym (ap (λ (t : Bool). t && below 1 (drop n (fields o w))) (tops_are ∙ ne_eqb (bit_and w (tops 6)) 0 h))

  pub tops-unset : bit_and w (tops 6) ≡ 0 → eqb (bit_and w b) 0 ≡ (below 128 (fields o w) && below 1 (drop n (fields o w)))
  tops-unset h =
      ap (λ (m : ℕ). eqb (bit_and w m) 0) is
      ∙ (beyond-clear o n w few ∙ sym (ap (λ (t : Bool). t && below 1 (drop n (fields o w))) (tops_are ∙ eq-eqb (bit_and w (tops 6)) 0 h)))

first-few : (n : ℕ) → in_first n ≤ 6
first-few n = omega arith

second-few : (n : ℕ) → n ≤ 12 → in_second n ≤ 6
second-few n h = omega arith

drop-parts : (n : ℕ) (α β : List ℕ) → length α ≡ 6 → drop n (α ++ β) ≡ drop (in_first n) α ++ drop (in_second n) β
drop-parts n α β h = go (dec_le n 6)
  where
    go : Dec (n ≤ 6) → drop n (α ++ β) ≡ drop (in_first n) α ++ drop (in_second n) β
    go (yes k) =
        drop-append-le n α β (omega arith)
        ∙ ap₂ (λ (i j : ℕ). drop i α ++ drop j β) (let e : n ≡ in_first n = omega arith in e) (let e : 0 ≡ in_second n = omega arith in e)
    go (no k) =
        ap (λ (i : ℕ). drop i (α ++ β)) (let e : n ≡ length α + in_second n = omega arith in e)
        ∙ (drop-append-add α β (in_second n)
        ∙ ap (λ (l : List ℕ). l ++ drop (in_second n) β) (sym (drop_of_length-le α {i = in_first n} (omega arith))))

-- tests in the order of the code
sorted : (p q r s t : Bool) → ((p && q) && ((r && s) && t)) ≡ ((p && r) && ((q && s) && t))
sorted true true r s t = and_assoc r s t
sorted true false true s t = refl
sorted true false false s t = refl
sorted false q r s t = refl

weights-few : (vs α : List ℕ) → Below 256 vs → Below 256 α → weighted vs α ≤ 65025 * length α
weights-few [] α u t = zero-le
weights-few (v ∷ vs) [] u t = zero-le
weights-few (v ∷ vs) (a ∷ α) u t = omega (arith, weights-few vs α u.1 t.1, mul-le-mul (let e : v ≤ 255 = omega (arith, u.0) in e) (let e : a ≤ 255 = omega (arith, t.0) in e))

-- the sum of two weighted sums
pub sums-small : (u a v b s t : ℕ) → s ≡ weighted (bytes 6 u) (bytes 6 a) → t ≡ weighted (bytes 6 v) (bytes 6 b) → s + t < 2 ^ 64
sums-small u a v b s t e f = add s t (subst (λ (m : ℕ). m ≤ 390150) (sym e) (few u a)) (subst (λ (m : ℕ). m ≤ 390150) (sym f) (few v b))
  where
    few : (x y : ℕ) → weighted (bytes 6 x) (bytes 6 y) ≤ 390150
    few x y = subst (λ (k : ℕ). weighted (bytes 6 x) (bytes 6 y) ≤ 65025 * k) (length-bytes 6 y) (weights-few (bytes 6 x) (bytes 6 y) (bytes_below 6 x) (bytes_below 6 y))

    add : (p q : ℕ) → p ≤ 390150 → q ≤ 390150 → p + q < 2 ^ 64
    add p q h k = omega arith

module _ (a b u v : ℕ) (ha : a < 2 ^ 64) (hb : b < 2 ^ 64) (o : Order) (n : ℕ) where
  fields-are : wide_fields o (paired a b) ≡ fields o a ++ fields o b
  fields-are = ap₂ (λ (x y : ℕ). fields o x ++ fields o y) (first_of a b ha) (second-of a b ha hb)

  abbrev front : Bool
  front = below 128 (fields o a) && below 1 (drop (in_first n) (fields o a))

  abbrev back : Bool
  back = below 128 (fields o b) && below 1 (drop (in_second n) (fields o b))

  abbrev degree_good : Bool
  degree_good = eqb (degree_in (paired a b)) (weighted (fields o u ++ fields o v) (wide_exponents o n (paired a b)))

  ends-are : drop n (wide_fields o (paired a b)) ≡ drop (in_first n) (fields o a) ++ drop (in_second n) (fields o b)
  ends-are = ap (drop n) fields-are ∙ drop-parts n (fields o a) (fields o b) (length_fields o a)

  tests-are : in_wide o n (fields o u ++ fields o v) (paired a b) ≡ (front && (back && (ltb b (2 ^ 48) && degree_good)))
  unfolding in_wide
  tests-are =
      ap₂ ◌&&◌ (ap (below 128) fields-are ∙ below-append 128 (fields o a) (fields o b))
      (ap₂ ◌&&◌ (ap (below 1) ends-are ∙ below-append 1 (drop (in_first n) (fields o a)) (drop (in_second n) (fields o b)))
      (ap (λ (t : ℕ). ltb t (2 ^ 48) && degree_good) (above_of a b ha)))
      ∙ sorted (below 128 (fields o a)) (below 128 (fields o b)) (below 1 (drop (in_first n) (fields o a))) (below 1 (drop (in_second n) (fields o b))) (ltb b (2 ^ 48) && degree_good)

  module _ (few : n ≤ 12) (x y : ℕ) (isx : x ≡ beyond_bits o (in_first n)) (isy : y ≡ beyond_bits o (in_second n)) where
    module _ (r : Bool) (e : TestsClear x a r) where
      front-is : r ≡ front
      front-is = e o (in_first n) (first-few n) isx

      pub front-refused : r ≡ false → false ≡ in_wide o n (fields o u ++ fields o v) (paired a b)
      front-refused f = sym (tests-are ∙ ap (λ (t : Bool). t && (back && (ltb b (2 ^ 48) && degree_good))) (sym front-is ∙ f))

      module _ (t : r ≡ true) (s : Bool) (g : TestsClear y b s) where
        back_is : s ≡ back
        back_is = g o (in_second n) (second-few n few) isy

        after_front : in_wide o n (fields o u ++ fields o v) (paired a b) ≡ (s && (ltb b (2 ^ 48) && degree_good))
        after_front = tests-are ∙ ap₂ (λ (i j : Bool). i && (j && (ltb b (2 ^ 48) && degree_good))) (sym front-is ∙ t) (sym back_is)

        pub back-refused : s ≡ false → false ≡ in_wide o n (fields o u ++ fields o v) (paired a b)
        back-refused f = sym (after_front ∙ ap (λ (i : Bool). i && (ltb b (2 ^ 48) && degree_good)) f)

        module _ (k : s ≡ true) where
          after-back : in_wide o n (fields o u ++ fields o v) (paired a b) ≡ (ltb b (2 ^ 48) && degree_good)
          after-back = after_front ∙ ap (λ (i : Bool). i && (ltb b (2 ^ 48) && degree_good)) k

          pub second-refused : 2 ^ 48 ≤ b → false ≡ in_wide o n (fields o u ++ fields o v) (paired a b)
          second-refused h = sym (after-back ∙ ap (λ (i : Bool). i && degree_good) (le-ltb b (2 ^ 48) h))

          none-beyond : Below 1 (drop n (wide_fields o (paired a b)))
          none-beyond =
              let p = and_both (below 128 (fields o a)) (below 1 (drop (in_first n) (fields o a))) (sym front-is ∙ t) in
              let q = and_both (below 128 (fields o b)) (below 1 (drop (in_second n) (fields o b))) (sym back_is ∙ k) in
              subst (Below 1) (sym ends-are) (both_below 1 (drop (in_first n) (fields o a)) (drop (in_second n) (fields o b)) (true_below 1 (drop (in_first n) (fields o a)) p.1) (true_below 1 (drop (in_second n) (fields o b)) q.1))

          half : (w z : ℕ) → weighted (fields o w) (fields o z) ≡ weighted (bytes 6 w) (bytes 6 z)
          unfolding fields
          half w z = weighted-upward o (bytes 6 w) (bytes 6 z) (length-bytes 6 w ∙ sym (length-bytes 6 z))

          degree-sum : weighted (fields o u ++ fields o v) (wide_exponents o n (paired a b)) ≡ weighted (bytes 6 u) (bytes 6 a) + weighted (bytes 6 v) (bytes 6 b)
          degree-sum =
              weighted-enough (fields o u ++ fields o v) n (wide_fields o (paired a b)) none-beyond
              ∙ (ap (weighted (fields o u ++ fields o v)) fields-are
              ∙ (weighted-append (fields o u) (fields o v) (fields o a) (fields o b) (length_fields o u ∙ sym (length_fields o a)) ∙ ap₂ (λ (i j : ℕ). i + j) (half u a) (half v b)))

          pub by-degrees : b < 2 ^ 48 → (i j : ℕ) → i ≡ weighted (bytes 6 u) (bytes 6 a) → j ≡ weighted (bytes 6 v) (bytes 6 b) → eqb (a / 2 ^ 48) (i + j) ≡ in_wide o n (fields o u ++ fields o v) (paired a b)
          by-degrees h i j ei ej =
              sym (after-back
              ∙ (ap (λ (q : Bool). q && degree_good) (lt-ltb b (2 ^ 48) h)
              ∙ ap₂ eqb (sym (high-first (paired a b)) ∙ ap high (first_of a b ha)) (degree-sum ∙ sym (ap₂ (λ (p q : ℕ). p + q) ei ej))))

-- ---- bits beyond, and words of weights
module _ (l : List ℕ) (g : WideWeights l) where
  six-left : length (drop 6 l) ≡ 6
  six-left = length-drop 6 l ∙ ap (λ (k : ℕ). k - 6) g.twelve-are

  pub weights-back : WeightsFit (take 6 (drop 6 l))
  weights-back = record { six-are = length-take-le 6 (drop 6 l) (omega (arith, six-left)); bytes-are = below-take 256 6 (drop 6 l) (below-drop 256 6 l g.bytes-are) }

  pub weights-are : (o : Order) (u v : ℕ) → fields o u ≡ take 6 l → fields o v ≡ take 6 (drop 6 l) → fields o u ++ fields o v ≡ l
  weights-are o u v e f = ap₂ (λ (x y : List ℕ). x ++ y) e (f ∙ take_all 6 (drop 6 l) (omega (arith, six-left))) ∙ take-append-drop 6 l
