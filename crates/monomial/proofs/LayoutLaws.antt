-- Words and exponents: each is got back from the other, and the test of the layout decides the layout. Assumes nothing.
use mathlib.Core.Path.{◌≡◌, sym, ap, ap₂, ◌∙◌, subst}
use mathlib.Core.Bool.{true, ◌&&◌}
use mathlib.Core.List.{List, [], ◌∷◌, ◌++◌}
use Prim.Native.Nat.{ℕ, zero, suc, ◌+◌, ◌-◌, ◌*◌, ◌/◌, ◌%◌, ◌^◌, ◌<◌, ◌≤◌, zero-le}
use native.Mathlib.Nat.{mul-le-mul}
use native.Mathlib.Omega.{arith}
use borrow.Author.Tests.{eq-eqb, eqb-true}
use lib.Dec.{eqb}
use lib.ListN.{length, take, drop, replicate, length-append, length-replicate, length-drop, take-append-drop}
use lib.Seq.{take_at, drop_at, length-take-le}
use Rattle.monomial.specs.declared.order.Order.{Order}
use Rattle.monomial.specs.Exponents.{weighted}
use Rattle.monomial.specs.Layout.{bytes, of_bytes, six, upward, word_of, fields, exponents, Below, below, Layout, in_layout}
use Rattle.monomial.specs.Words.{low, high, Packed}
use Rattle.monomial.proofs.Places.{upward-upward, length-upward, below-upward, below_true, true_below, and_both, below-append, below-zeros, zeros, Below-more}
use Rattle.monomial.proofs.ByteLaws.{length-bytes, of_bytes_bytes, bytes_of, of_bytes-lt}

-- ---- six fields
pub length-six : (α : List ℕ) → length α ≤ 6 → length (six α) ≡ 6
length-six α h = omega (arith, length-append α (replicate (6 - length α) 0), length-replicate {A = ℕ} (6 - length α) 0)

pub six-below : (k : ℕ) (α : List ℕ) → Below (suc k) α → Below (suc k) (six α)
six-below k α u = true_below (suc k) (six α) (below-append (suc k) α (replicate (6 - length α) 0) ∙ ap₂ ◌&&◌ (below_true (suc k) α u) (below-zeros k (6 - length α)))

-- ---- the parts of a word that is made of exponents
module _ (o : Order) (vs α : List ℕ) (fits : length α ≤ 6) (small : Below 256 α) where
  lying : List ℕ
  lying = upward o (six α)

  length-lying : length lying ≡ 6
  unfolding lying
  length-lying = length-upward o (six α) ∙ length-six α fits

  lying-below : Below 256 lying
  unfolding lying
  lying-below = true_below 256 (upward o (six α)) (below-upward 256 o (six α) ∙ below_true 256 (six α) (six-below 255 α small))

  pub lying-lt : of_bytes (upward o (six α)) < 2 ^ 48
  unfolding lying
  lying-lt = subst (λ (k : ℕ). of_bytes (upward o (six α)) < 256 ^ k) length-lying (of_bytes-lt lying lying-below)

  pub low_word : low (word_of o vs α) ≡ of_bytes (upward o (six α))
  unfolding word_of lying
  low_word = omega (arith, lying-lt)

  pub high_word : high (word_of o vs α) ≡ weighted vs α
  unfolding word_of lying
  high_word = omega (arith, lying-lt)

  bytes_word : bytes 6 (word_of o vs α) ≡ upward o (six α)
  unfolding word_of lying
  bytes_word = ap (bytes 6) (let e : weighted vs α * 2 ^ 48 + of_bytes (upward o (six α)) ≡ of_bytes (upward o (six α)) + 256 ^ 6 * weighted vs α = omega arith in e) ∙ bytes_of 6 lying (weighted vs α) length-lying lying-below

  pub fields-word : fields o (word_of o vs α) ≡ six α
  unfolding fields
  fields-word = ap (upward o) bytes_word ∙ upward-upward o (six α)

-- ---- the exponents of the word of exponents
module _ (o : Order) (n : ℕ) (vs α : List ℕ) (long : length α ≡ n) (fits : n ≤ 6) where
  pub exponents-word : Below 256 α → exponents o n (word_of o vs α) ≡ α
  exponents-word u = ap (take n) (fields-word o vs α (omega arith) u) ∙ take_at α (replicate (6 - length α) 0) n long

  beyond-word : Below 256 α → drop n (fields o (word_of o vs α)) ≡ replicate (6 - length α) 0
  beyond-word u = ap (drop n) (fields-word o vs α (omega arith) u) ∙ drop_at α (replicate (6 - length α) 0) n long

  pub layout-word : Below 128 α → Layout o n vs (word_of o vs α)
  layout-word u =
      let u' = Below-more 128 256 α (omega arith) u in
      record {
        degree-is = high_word o vs α (omega arith) u' ∙ ap (weighted vs) (sym (exponents-word u'));
        tops = subst (Below 128) (sym (fields-word o vs α (omega arith) u')) (six-below 127 α u);
        beyond = subst (Below 1) (sym (beyond-word u')) (true_below 1 (replicate (6 - length α) 0) (below-zeros 0 (6 - length α)));
      }

-- ---- the word of the exponents of a word
pub length_fields : (o : Order) (w : ℕ) → length (fields o w) ≡ 6
unfolding fields
length_fields o w = length-upward o (bytes 6 w) ∙ length-bytes 6 w

pub length-exponents : (o : Order) (n w : ℕ) → n ≤ 6 → length (exponents o n w) ≡ n
length-exponents o n w h = length-take-le n (fields o w) (omega (arith, length_fields o w))

pub below-fields : (k : ℕ) (o : Order) (w : ℕ) → below k (fields o w) ≡ below k (bytes 6 w)
unfolding fields
below-fields k o w = below-upward k o (bytes 6 w)

pub below-take : (k n : ℕ) (α : List ℕ) → Below k α → Below k (take n α)
below-take k zero α u = tt
below-take k (suc n) [] u = tt
below-take k (suc n) (a ∷ α) u = (u.0, below-take k n α u.1)

-- the most that a degree field holds, over the number of variables: 16 · 127 for each
pub weighted-bound : (vs α : List ℕ) → Below 17 vs → Below 128 α → weighted vs α ≤ 2032 * length α
weighted-bound [] α u t = zero-le
weighted-bound (v ∷ vs) [] u t = zero-le
weighted-bound (v ∷ vs) (a ∷ α) u t = omega (arith, weighted-bound vs α u.1 t.1, mul-le-mul (let e : v ≤ 16 = omega (arith, u.0) in e) (let e : a ≤ 127 = omega (arith, t.0) in e))

module _ (o : Order) (n : ℕ) (vs : List ℕ) (w : ℕ) (fits : n ≤ 6) (is : Layout o n vs w) where
  pub exponents-small : Below 128 (exponents o n w)
  exponents-small = below-take 128 n (fields o w) is.tops

  rest-zeros : drop n (fields o w) ≡ replicate (6 - n) 0
  rest-zeros = zeros (drop n (fields o w)) is.beyond ∙ ap (λ (k : ℕ). replicate k 0) (length-drop n (fields o w) ∙ ap (λ (k : ℕ). k - n) (length_fields o w))

  pub six-exponents : six (exponents o n w) ≡ fields o w
  six-exponents =
      ap (λ (k : ℕ). exponents o n w ++ replicate (6 - k) 0) (length-exponents o n w fits)
      ∙ (ap (λ (l : List ℕ). exponents o n w ++ l) (sym rest-zeros) ∙ take-append-drop n (fields o w))

  pub word-exponents : word_of o vs (exponents o n w) ≡ w
  unfolding word_of fields
  word-exponents =
      let e : of_bytes (upward o (six (exponents o n w))) ≡ w % 2 ^ 48 = ap (λ (l : List ℕ). of_bytes (upward o l)) six-exponents ∙ (ap of_bytes (upward-upward o (bytes 6 w)) ∙ of_bytes_bytes 6 w) in
      let d = is.degree-is in
      ap₂ (λ (h l : ℕ). h * 2 ^ 48 + l) (sym d) e ∙ (let f : w / 2 ^ 48 * 2 ^ 48 + w % 2 ^ 48 ≡ w = omega arith in f)

  pub layout-tops : Below 128 (bytes 6 w)
  layout-tops = true_below 128 (bytes 6 w) (sym (below-fields 128 o w) ∙ below_true 128 (fields o w) is.tops)

  -- a word of the layout, with weights of at most 16, is fit for word arithmetic
  pub layout-packed : Below 17 vs → Packed w
  layout-packed u = record {
    tops = layout-tops;
    room = let l = weighted-bound vs (exponents o n w) u exponents-small in let d = is.degree-is in let k = length-exponents o n w fits in omega arith;
  }

-- ---- the test
pub layout-test : (o : Order) (n : ℕ) (vs : List ℕ) (w : ℕ) → Layout o n vs w → in_layout o n vs w ≡ true
unfolding in_layout
layout-test o n vs w is = ap₂ ◌&&◌ (below_true 128 (fields o w) is.tops) (ap₂ ◌&&◌ (below_true 1 (drop n (fields o w)) is.beyond) (eq-eqb (w / 2 ^ 48) (weighted vs (exponents o n w)) is.degree-is))

pub test-layout : (o : Order) (n : ℕ) (vs : List ℕ) (w : ℕ) → in_layout o n vs w ≡ true → Layout o n vs w
unfolding in_layout
test-layout o n vs w h =
    let a = and_both (below 128 (fields o w)) (below 1 (drop n (fields o w)) && eqb (w / 2 ^ 48) (weighted vs (exponents o n w))) h in
    let b = and_both (below 1 (drop n (fields o w))) (eqb (w / 2 ^ 48) (weighted vs (exponents o n w))) a.1 in
    record {
      degree-is = eqb-true (w / 2 ^ 48) (weighted vs (exponents o n w)) b.1;
      tops = true_below 128 (fields o w) a.0;
      beyond = true_below 1 (drop n (fields o w)) b.0;
    }
