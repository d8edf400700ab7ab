-- Comparing words is comparing exponents, in each order, and comparing keys is comparing words. Assumes nothing.
use mathlib.Core.Path.{◌≡◌, refl, sym, ap, ap₂, ◌∙◌}
use mathlib.Core.List.{List, [], ◌∷◌, ◌++◌, reverse}
use Prim.Native.Nat.{ℕ, ◌+◌, ◌-◌, ◌*◌, ◌/◌, ◌%◌, ◌^◌, ◌<◌, ◌≤◌, min, compare, Ordering}
use native.Mathlib.Nat.{add-zero}
use native.Mathlib.Omega.{arith}
use lib.ListN.{length, replicate}
use Rattle.monomial.specs.declared.order.Order.{Order}
use Rattle.monomial.specs.declared.order.Order.TheVariants.{Lex, DegLex, DegRevLex}
use Rattle.monomial.specs.Exponents.{weighted, or_else, lex, rev_lex, compare_in}
use Rattle.monomial.specs.Layout.{of_bytes, six, upward, word_of, exponents, Below, Layout}
use Rattle.monomial.specs.Words.{low, high, degree_in, first_in, second_in, over_in, compare_two, compare_words, compare_one, key_of, unkey, from_key}
use Rattle.monomial.proofs.Comparing.{Tri, less, same, more, tri, carried, compare-digits, lt-compare, eq-compare, gt-compare}
use Rattle.monomial.proofs.OrderLaws.{exponents-order, words-order, over_first, two-words, no-over, one_word, lex-same, rev-like}
use Rattle.monomial.proofs.Places.{length-upward, below-upward, below_true, true_below, Below-more}
use Rattle.monomial.proofs.ByteLaws.{compare-bytes, rev_lex-top, lex-top}
use Rattle.monomial.proofs.LayoutLaws.{length-six, six-below, low_word, high_word, length-exponents, exponents-small, word-exponents, layout-packed}

-- ---- like exponents at the end change nothing
lex-append : (α β γ : List ℕ) → length α ≡ length β → lex (α ++ γ) (β ++ γ) ≡ lex α β
lex-append [] [] γ h = (exponents-order Lex []).like γ
lex-append [] (b ∷ β) γ h = absurd (let z : ⊥ = omega arith in z)
lex-append (a ∷ α) [] γ h = absurd (let z : ⊥ = omega arith in z)
lex-append (a ∷ α) (b ∷ β) γ h = ap (or_else (compare a b)) (lex-append α β γ (omega arith))

rev-append : (α β γ : List ℕ) → length α ≡ length β → rev_lex (α ++ γ) (β ++ γ) ≡ rev_lex α β
rev-append [] [] γ h = rev-like γ
rev-append [] (b ∷ β) γ h = absurd (let z : ⊥ = omega arith in z)
rev-append (a ∷ α) [] γ h = absurd (let z : ⊥ = omega arith in z)
rev-append (a ∷ α) (b ∷ β) γ h = ap (λ (t : Ordering). or_else t (compare b a)) (rev-append α β γ (omega arith))

-- the degrees of like exponents are like, so comparing them too changes nothing
pub lex-enough : (vs α β : List ℕ) (t : Ordering) → lex α β ≡ t → or_else t (compare (weighted vs α) (weighted vs β)) ≡ t
lex-enough vs α β Ordering.lt h = refl
lex-enough vs α β Ordering.eq h = eq-compare (ap (weighted vs) (lex-same α β h))
lex-enough vs α β Ordering.gt h = refl

module _ (vs α β : List ℕ) (like : length α ≡ length β) (fits : length α ≤ 6) (u : Below 256 α) (v : Below 256 β) where
  six-alike : six β ≡ β ++ replicate (6 - length α) 0
  six-alike = ap (λ (k : ℕ). β ++ replicate (6 - k) 0) (sym like)

  lex-six : lex (six α) (six β) ≡ lex α β
  lex-six = ap (lex (six α)) six-alike ∙ lex-append α β (replicate (6 - length α) 0) like

  rev-six : rev_lex (six α) (six β) ≡ rev_lex α β
  rev-six = ap (rev_lex (six α)) six-alike ∙ rev-append α β (replicate (6 - length α) 0) like

  long-β : length β ≤ 6
  long-β = omega arith

  sixes : length (six α) ≡ length (six β)
  sixes = length-six α fits ∙ sym (length-six β long-β)

  -- the fields as they lie, compared as numbers
  lying : (o : Order) → Below 256 (upward o (six α)) × Below 256 (upward o (six β)) × (length (upward o (six α)) ≡ length (upward o (six β)))
  lying o = (side α u, side β v, length-upward o (six α) ∙ (sixes ∙ sym (length-upward o (six β))))
    where
      side : (γ : List ℕ) → Below 256 γ → Below 256 (upward o (six γ))
      side γ w = true_below 256 (upward o (six γ)) (below-upward 256 o (six γ) ∙ below_true 256 (six γ) (six-below 255 γ w))

  pub down-bytes : compare (of_bytes (reverse (six α))) (of_bytes (reverse (six β))) ≡ lex α β
  down-bytes = let s = lying Lex in compare-bytes (reverse (six α)) (reverse (six β)) s.2 s.0 s.1 ∙ (sym (lex-top (six α) (six β) sixes) ∙ lex-six)

  pub up-bytes : compare (of_bytes (six β)) (of_bytes (six α)) ≡ rev_lex α β
  up-bytes = let s = lying DegRevLex in compare-bytes (six β) (six α) (sym s.2) s.1 s.0 ∙ (sym (rev_lex-top (six α) (six β) sixes) ∙ rev-six)

  highs : (o : Order) → compare (high (word_of o vs α)) (high (word_of o vs β)) ≡ compare (weighted vs α) (weighted vs β)
  highs o = ap₂ compare (high_word o vs α fits u) (high_word o vs β long-β v)

  lows : (o : Order) → compare (low (word_of o vs α)) (low (word_of o vs β)) ≡ compare (of_bytes (upward o (six α))) (of_bytes (upward o (six β)))
  lows o = ap₂ compare (low_word o vs α fits u) (low_word o vs β long-β v)

-- a word is its degree and its fields
pub by_parts : (x y : ℕ) → compare x y ≡ or_else (compare (high x) (high y)) (compare (low x) (low y))
by_parts x y =
    let e : (w : ℕ) → w ≡ high w * 2 ^ 48 + low w = λ w. omega arith in
    ap₂ compare (e x) (e y) ∙ compare-digits (2 ^ 48) (high x) (high y) (low x) (low y) (omega arith) (omega arith)

-- comparing the words of exponents is comparing the exponents, with any weights
pub compare-words : (o : Order) (vs α β : List ℕ) → length α ≡ length β → length α ≤ 6 → Below 256 α → Below 256 β → compare_one o (word_of o vs α) (word_of o vs β) ≡ compare_in o vs α β
compare-words Lex vs α β h f u v = ap₂ or_else (lows vs α β h f u v Lex ∙ down-bytes vs α β h f u v) (highs vs α β h f u v Lex) ∙ lex-enough vs α β (lex α β) refl
compare-words DegLex vs α β h f u v = by_parts (word_of DegLex vs α) (word_of DegLex vs β) ∙ ap₂ or_else (highs vs α β h f u v DegLex) (lows vs α β h f u v DegLex ∙ down-bytes vs α β h f u v)
compare-words DegRevLex vs α β h f u v = ap₂ or_else (highs vs α β h f u v DegRevLex) (ap₂ compare (low_word DegRevLex vs β (long-β vs α β h f u v) v) (low_word DegRevLex vs α f u) ∙ up-bytes vs α β h f u v)

-- comparing words of the layout is comparing their exponents; weights of at most 16 leave the degree its 16 bits
pub compare-layout : (o : Order) (n : ℕ) (vs : List ℕ) (x y : ℕ) → n ≤ 6 → Below 17 vs → Layout o n vs x → Layout o n vs y → compare_words o x y ≡ compare_in o vs (exponents o n x) (exponents o n y)
compare-layout o n vs x y h u a b =
    one_word o x y (omega (arith, (layout-packed o n vs x h a u).room)) (omega (arith, (layout-packed o n vs y h b u).room))
    ∙ (ap₂ (compare_one o) (sym (word-exponents o n vs x h a)) (sym (word-exponents o n vs y h b))
    ∙ compare-words o vs (exponents o n x) (exponents o n y) (length-exponents o n x h ∙ sym (length-exponents o n y h)) (omega (arith, length-exponents o n x h))
    (Below-more 128 256 (exponents o n x) (omega arith) (exponents-small o n vs x h a))
    (Below-more 128 256 (exponents o n y) (omega arith) (exponents-small o n vs y h b)))

-- ---- keys
one-compare : (o : Order) (x y : ℕ) → x < 2 ^ 64 → y < 2 ^ 64 → compare (key_of o x) (key_of o y) ≡ compare_one o x y
one-compare Lex x y h k = compare-digits (2 ^ 16) (low x) (low y) (high x) (high y) (omega arith) (omega arith)
one-compare DegLex x y h k = refl
one-compare DegRevLex x y h k =
    compare-digits (2 ^ 48) (high x) (high y) (2 ^ 48 - 1 - low x) (2 ^ 48 - 1 - low y) (omega arith) (omega arith)
    ∙ ap (or_else (compare (high x) (high y))) (carried (low y) (low x) (2 ^ 48 - 1 - low x) (2 ^ 48 - 1 - low y) (λ l. omega arith) (λ l. omega arith) (λ l. omega arith))

pub key-compare : (o : Order) (x y : ℕ) → x < 2 ^ 64 → y < 2 ^ 64 → compare (key_of o x) (key_of o y) ≡ compare_words o x y
key-compare o x y h k = one-compare o x y h k ∙ sym (one_word o x y h k)

-- each key is one-to-one on all 64-bit words
pub key-one-to-one : (o : Order) (x y : ℕ) → x < 2 ^ 64 → y < 2 ^ 64 → key_of o x ≡ key_of o y → x ≡ y
key-one-to-one o x y h k e = (words-order o).same x y (sym (key-compare o x y h k) ∙ eq-compare e)

-- ---- words of keys
pub key-lt : (o : Order) (w : ℕ) → w < 2 ^ 64 → key_of o w < 2 ^ 64
key-lt Lex w h = fits (low w) (high w) (omega arith) (omega arith)
  where
    fits : (r q : ℕ) → r < 2 ^ 48 → q < 2 ^ 16 → r * 2 ^ 16 + q < 2 ^ 64
    fits r q hr hq = omega arith
key-lt DegLex w h = h
key-lt DegRevLex w h = omega arith

pub unkey-lt : (o : Order) (k : ℕ) → k < 2 ^ 64 → unkey o k < 2 ^ 64
unkey-lt Lex k h = fits (k % 2 ^ 16) (k / 2 ^ 16) (omega arith) (omega arith)
  where
    fits : (r q : ℕ) → r < 2 ^ 16 → q < 2 ^ 48 → r * 2 ^ 48 + q < 2 ^ 64
    fits r q hr hq = omega arith
unkey-lt DegLex k h = h
unkey-lt DegRevLex k h = omega arith

pub low-is : (q r : ℕ) → r < 2 ^ 48 → low (q * 2 ^ 48 + r) ≡ r
low-is q r h = omega arith

pub high_is : (q r : ℕ) → r < 2 ^ 48 → high (q * 2 ^ 48 + r) ≡ q
high_is q r h = omega arith

-- a number of 64 bits is the key of its word, and a word the word of its key
pub key-unkey : (o : Order) (k : ℕ) → k < 2 ^ 64 → key_of o (unkey o k) ≡ k
key-unkey Lex k h =
    let l : k / 2 ^ 16 < 2 ^ 48 = omega arith in
    ap₂ (λ (x y : ℕ). x * 2 ^ 16 + y) (low-is (k % 2 ^ 16) (k / 2 ^ 16) l) (high_is (k % 2 ^ 16) (k / 2 ^ 16) l) ∙ (let e : k / 2 ^ 16 * 2 ^ 16 + k % 2 ^ 16 ≡ k = omega arith in e)
key-unkey DegLex k h = refl
key-unkey DegRevLex k h =
    let l : 2 ^ 48 - 1 - low k < 2 ^ 48 = omega arith in
    ap₂ (λ (x y : ℕ). x * 2 ^ 48 + (2 ^ 48 - 1 - y)) (high_is (high k) (2 ^ 48 - 1 - low k) l) (low-is (high k) (2 ^ 48 - 1 - low k) l) ∙ (let e : high k * 2 ^ 48 + (2 ^ 48 - 1 - (2 ^ 48 - 1 - low k)) ≡ k = omega arith in e)

pub unkey-key : (o : Order) (w : ℕ) → w < 2 ^ 64 → unkey o (key_of o w) ≡ w
unkey-key Lex w h =
    ap₂ (λ (x y : ℕ). x * 2 ^ 48 + y) (digit (low w) (high w) (omega arith)) (rest (low w) (high w) (omega arith)) ∙ (let e : high w * 2 ^ 48 + low w ≡ w = omega arith in e)
  where
    digit : (l d : ℕ) → d < 2 ^ 16 → (l * 2 ^ 16 + d) % 2 ^ 16 ≡ d
    digit l d hd = omega arith

    rest : (l d : ℕ) → d < 2 ^ 16 → (l * 2 ^ 16 + d) / 2 ^ 16 ≡ l
    rest l d hd = omega arith
unkey-key DegLex w h = refl
unkey-key DegRevLex w h = key-unkey DegRevLex w h

-- ---- more than two words: what is above comes first, and the rest is as without it
pub first_part : (a t : ℕ) → (low (a + 2 ^ 64 * t) ≡ low a) × (first_in (a + 2 ^ 64 * t) ≡ first_in a) × (degree_in (a + 2 ^ 64 * t) ≡ degree_in a) × ((a + 2 ^ 64 * t) / 2 ^ 64 ≡ a / 2 ^ 64 + t)
first_part a t = (omega arith, omega arith, omega arith, omega arith)

above-part : (c d : ℕ) → c < 2 ^ 64 → ((c + 2 ^ 64 * d) % 2 ^ 64 ≡ c % 2 ^ 64) × ((c + 2 ^ 64 * d) / 2 ^ 64 ≡ d)
above-part c d h = (omega arith, omega arith)

module _ (a b d e : ℕ) (ha : a / 2 ^ 64 < 2 ^ 64) (hb : b / 2 ^ 64 < 2 ^ 64) where
  seconds : (x z : ℕ) → x / 2 ^ 64 < 2 ^ 64 → (second_in (x + 2 ^ 64 * (2 ^ 64 * z)) ≡ second_in x) × (over_in (x + 2 ^ 64 * (2 ^ 64 * z)) ≡ z)
  seconds x z h =
      let t = (first_part x (2 ^ 64 * z)).3 in
      (ap (λ (n : ℕ). n % 2 ^ 64) t ∙ (above-part (x / 2 ^ 64) z h).0, ap (λ (n : ℕ). n / 2 ^ 64) t ∙ (above-part (x / 2 ^ 64) z h).1)

  rest : (o : Order) → compare_two o (a + 2 ^ 64 * (2 ^ 64 * d)) (b + 2 ^ 64 * (2 ^ 64 * e)) ≡ compare_two o a b
  rest o = by (a + 2 ^ 64 * (2 ^ 64 * d)) (b + 2 ^ 64 * (2 ^ 64 * e)) (first_part a (2 ^ 64 * d)) (first_part b (2 ^ 64 * e)) (seconds a d ha).0 (seconds b e hb).0 o
    where
      by : (x y : ℕ) {s t : ℕ} → (low x ≡ low a) × (first_in x ≡ first_in a) × (degree_in x ≡ degree_in a) × (x / 2 ^ 64 ≡ s) → (low y ≡ low b) × (first_in y ≡ first_in b) × (degree_in y ≡ degree_in b) × (y / 2 ^ 64 ≡ t) → second_in x ≡ second_in a → second_in y ≡ second_in b → (o : Order) → compare_two o x y ≡ compare_two o a b
      by x y p q m n Lex = ap₂ or_else (ap₂ compare p.0 q.0) (ap₂ or_else (ap₂ compare m n) (ap₂ compare p.2 q.2))
      by x y p q m n DegLex = ap₂ or_else (ap₂ compare p.1 q.1) (ap₂ compare m n)
      by x y p q m n DegRevLex = ap₂ or_else (ap₂ compare p.2 q.2) (ap₂ or_else (ap₂ compare n m) (ap₂ compare q.0 p.0))

  pub compare-over : (o : Order) → compare_words o (a + 2 ^ 64 * (2 ^ 64 * d)) (b + 2 ^ 64 * (2 ^ 64 * e)) ≡ or_else (compare d e) (compare_words o a b)
  compare-over o =
      over_first o (a + 2 ^ 64 * (2 ^ 64 * d)) (b + 2 ^ 64 * (2 ^ 64 * e))
      ∙ ap₂ or_else (ap₂ compare (seconds a d ha).1 (seconds b e hb).1) (rest o ∙ sym (two-words o a b ha hb))

-- a number up to the largest key, and what is over it: the larger number has more over, or as much and the larger key
pub over-keys : (most j k : ℕ) → or_else (compare (j - min j most) (k - min k most)) (compare (min j most) (min k most)) ≡ compare j k
over-keys most j k = by (tri (j - min j most) (k - min k most))
  where
    by : Tri (j - min j most) (k - min k most) → or_else (compare (j - min j most) (k - min k most)) (compare (min j most) (min k most)) ≡ compare j k
    by (less l e) = rw e (sym (lt-compare (omega arith)))
    by (same l e) = rw e (carried j k (min j most) (min k most) (λ m. omega arith) (λ m. omega arith) (λ m. omega arith))
    by (more l e) = rw e (sym (gt-compare (omega arith)))

-- comparing the words of keys is comparing the keys, whatever numbers they are
pub from-key-compare : (o : Order) (j k : ℕ) → compare_words o (from_key o j) (from_key o k) ≡ compare j k
from-key-compare o j k = by (min j (2 ^ 64 - 1)) (min k (2 ^ 64 - 1)) (omega arith) (omega arith) ∙ over-keys (2 ^ 64 - 1) j k
  where
    by : (a b : ℕ) → a < 2 ^ 64 → b < 2 ^ 64 → compare_words o (unkey o a + 2 ^ 64 * (2 ^ 64 * (j - a))) (unkey o b + 2 ^ 64 * (2 ^ 64 * (k - b))) ≡ or_else (compare (j - a) (k - b)) (compare a b)
    by a b ha hb =
        let x = unkey-lt o a ha in
        let y = unkey-lt o b hb in
        compare-over (unkey o a) (unkey o b) (j - a) (k - b) (no-over (unkey o a) x) (no-over (unkey o b) y) o
        ∙ ap (or_else (compare (j - a) (k - b))) (sym (key-compare o (unkey o a) (unkey o b) x y) ∙ ap₂ compare (key-unkey o a ha) (key-unkey o b hb))

-- of a key up to the largest nothing is over
pub none_over : (f : ℕ → ℕ) (most k : ℕ) → k ≤ most → f (min k most) + 2 ^ 64 * (2 ^ 64 * (k - min k most)) ≡ f k
none_over f most k h =
    let m : min k most ≡ k = omega arith in
    ap (λ (n : ℕ). f n + 2 ^ 64 * (2 ^ 64 * (k - n))) m ∙ nothing (f k) (k - k) (omega arith)
  where
    nothing : (x z : ℕ) → z ≡ 0 → x + 2 ^ 64 * (2 ^ 64 * z) ≡ x
    nothing x z e = ap (λ (n : ℕ). x + 2 ^ 64 * (2 ^ 64 * n)) e ∙ add-zero x

pub from_key_lem : (o : Order) (k : ℕ) → k < 2 ^ 64 → from_key o k ≡ unkey o k
from_key_lem o k h = none_over (unkey o) (2 ^ 64 - 1) k (omega arith)

-- a word of 64 bits is the word of its key
pub word-of-key : (o : Order) (w : ℕ) → w < 2 ^ 64 → from_key o (key_of o w) ≡ w
word-of-key o w h = from_key_lem o (key_of o w) (key-lt o w h) ∙ unkey-key o w h
