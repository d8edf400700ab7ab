-- Comparing the keys of monomials of two words is comparing the monomials; keys and monomials are got back from each other. Assumes nothing.
use mathlib.Core.Path.{◌≡◌, refl, sym, ap, ap₂, ◌∙◌, subst}
use Prim.Native.Nat.{ℕ, ◌+◌, ◌-◌, ◌*◌, ◌/◌, ◌%◌, ◌^◌, ◌<◌, ◌≤◌, min, compare, Ordering}
use native.Mathlib.Nat.{div-add-mod', mod-lt, div-lt_iff_lt-mul, min-le_right}
use native.Mathlib.Omega.{arith}
use lib.Dec.{lit<}
use lib.Arith.{digits_lt, digits_div, digits_mod}
use Rattle.monomial.specs.declared.order.Order.{Order}
use Rattle.monomial.specs.declared.order.Order.TheVariants.{Lex, DegLex, DegRevLex}
use Rattle.monomial.specs.Exponents.{or_else}
use Rattle.monomial.specs.Words.{low, high, first_in, second_in, compare_two, compare_words}
use Rattle.monomial.proofs.Comparing.{carried, compare-digits}
use Rattle.monomial.proofs.OrderLaws.{two-words}
use Rattle.monomial.proofs.ByteLaws.{or_else-assoc}
use Rattle.monomial.proofs.KeyLaws.{by_parts, compare-over, over-keys, none_over}
use Rattle.wide_monomial.specs.Wide.{paired}
use Rattle.wide_monomial.specs.WideKeys.{turned_word, turned_fields, first_key, second_key, first_word, second_word, wide_key_of, wide_unkey, from_wide_key}
use Rattle.wide_monomial.proofs.Parts.{first_of, above_of, second-of, two-whole, low_first, high-first}

-- ---- a word by its digits
low-lt : (a : ℕ) → low a < 2 ^ 48
low-lt a = omega arith

high_lt : (a : ℕ) → a < 2 ^ 64 → high a < 2 ^ 16
high_lt a h = omega arith

sixteen-lt : (a : ℕ) → a % 2 ^ 16 < 2 ^ 16
sixteen-lt a = omega arith

rest_lt : (a : ℕ) → a < 2 ^ 64 → a / 2 ^ 16 < 2 ^ 48
rest_lt a h = omega arith

at-48 : (a : ℕ) → high a * 2 ^ 48 + low a ≡ a
at-48 a = div-add-mod' a (2 ^ 48)

at-16 : (a : ℕ) → a / 2 ^ 16 * 2 ^ 16 + a % 2 ^ 16 ≡ a
at-16 a = div-add-mod' a (2 ^ 16)

turned_lt : (a : ℕ) → turned_word a < 2 ^ 64
turned_lt a = omega arith

turned-twice : (a : ℕ) → a < 2 ^ 64 → turned_word (turned_word a) ≡ a
turned-twice a h = omega arith

fields-lt : (a : ℕ) → turned_fields a < 2 ^ 48
fields-lt a = omega arith

fields-twice : (a : ℕ) → a < 2 ^ 48 → 2 ^ 48 - 1 - (2 ^ 48 - 1 - a) ≡ a
fields-twice a h = omega arith

-- ---- keys and words are of 64 bits
pub first-key-lt : (o : Order) (a b : ℕ) → a < 2 ^ 64 → b < 2 ^ 64 → first_key o a b < 2 ^ 64
first-key-lt Lex a b ha hb = digits_lt (low-lt a) (high_lt b hb)
first-key-lt DegLex a b ha hb = ha
first-key-lt DegRevLex a b ha hb = digits_lt (high_lt a ha) (rest_lt (turned_word b) (turned_lt b))

pub second-key-lt : (o : Order) (a b : ℕ) → a < 2 ^ 64 → b < 2 ^ 64 → second_key o a b < 2 ^ 64
second-key-lt Lex a b ha hb = digits_lt (low-lt b) (high_lt a ha)
second-key-lt DegLex a b ha hb = hb
second-key-lt DegRevLex a b ha hb = digits_lt (sixteen-lt (turned_word b)) (fields-lt a)

pub first-word-lt : (o : Order) (a b : ℕ) → a < 2 ^ 64 → b < 2 ^ 64 → first_word o a b < 2 ^ 64
first-word-lt Lex a b ha hb = digits_lt (sixteen-lt b) (rest_lt a ha)
first-word-lt DegLex a b ha hb = ha
first-word-lt DegRevLex a b ha hb = digits_lt (high_lt a ha) (fields-lt b)

pub second-word-lt : (o : Order) (a b : ℕ) → a < 2 ^ 64 → b < 2 ^ 64 → second_word o a b < 2 ^ 64
second-word-lt Lex a b ha hb = digits_lt (sixteen-lt a) (rest_lt b hb)
second-word-lt DegLex a b ha hb = hb
second-word-lt DegRevLex a b ha hb = turned_lt (low a * 2 ^ 16 + high b)

-- ---- the words of the keys of words, and the keys of the words of keys
module _ (a b : ℕ) (ha : a < 2 ^ 64) (hb : b < 2 ^ 64) where
  first_back : (o : Order) → first_word o (first_key o a b) (second_key o a b) ≡ a
  first_back Lex = ap₂ (λ (p q : ℕ). p * 2 ^ 48 + q) (digits_mod (low b) (high_lt a ha)) (digits_div (low a) (high_lt b hb)) ∙ at-48 a
  first_back DegLex = refl
  first_back DegRevLex =
      ap₂ (λ (p q : ℕ). p * 2 ^ 48 + (2 ^ 48 - 1 - q)) (digits_div (high a) (rest_lt (turned_word b) (turned_lt b))) (digits_mod (turned_word b % 2 ^ 16) (fields-lt a))
      ∙ (ap (λ (q : ℕ). high a * 2 ^ 48 + q) (fields-twice (low a) (low-lt a)) ∙ at-48 a)

  second_back : (o : Order) → second_word o (first_key o a b) (second_key o a b) ≡ b
  second_back Lex = ap₂ (λ (p q : ℕ). p * 2 ^ 48 + q) (digits_mod (low a) (high_lt b hb)) (digits_div (low b) (high_lt a ha)) ∙ at-48 b
  second_back DegLex = refl
  second_back DegRevLex =
      ap₂ (λ (p q : ℕ). turned_word (p * 2 ^ 16 + q)) (digits_mod (high a) (rest_lt (turned_word b) (turned_lt b))) (digits_div (turned_word b % 2 ^ 16) (fields-lt a))
      ∙ (ap turned_word (at-16 (turned_word b)) ∙ turned-twice b hb)

  middle-lt : low a * 2 ^ 16 + high b < 2 ^ 64
  middle-lt = digits_lt (low-lt a) (high_lt b hb)

  first-key-back : (o : Order) → first_key o (first_word o a b) (second_word o a b) ≡ a
  first-key-back Lex = ap₂ (λ (p q : ℕ). p * 2 ^ 16 + q) (digits_mod (b % 2 ^ 16) (rest_lt a ha)) (digits_div (a % 2 ^ 16) (rest_lt b hb)) ∙ at-16 a
  first-key-back DegLex = refl
  first-key-back DegRevLex =
      ap₂ (λ (p q : ℕ). p * 2 ^ 48 + q / 2 ^ 16) (digits_div (high a) (fields-lt b)) (turned-twice (low a * 2 ^ 16 + high b) middle-lt)
      ∙ (ap (λ (q : ℕ). high a * 2 ^ 48 + q) (digits_div (low a) (high_lt b hb)) ∙ at-48 a)

  second-key-back : (o : Order) → second_key o (first_word o a b) (second_word o a b) ≡ b
  second-key-back Lex = ap₂ (λ (p q : ℕ). p * 2 ^ 16 + q) (digits_mod (a % 2 ^ 16) (rest_lt b hb)) (digits_div (b % 2 ^ 16) (rest_lt a ha)) ∙ at-16 b
  second-key-back DegLex = refl
  second-key-back DegRevLex =
      ap₂ (λ (p q : ℕ). p % 2 ^ 16 * 2 ^ 48 + (2 ^ 48 - 1 - q)) (turned-twice (low a * 2 ^ 16 + high b) middle-lt) (digits_mod (high a) (fields-lt b))
      ∙ (ap₂ (λ (p q : ℕ). p * 2 ^ 48 + q) (digits_mod (low a) (high_lt b hb)) (fields-twice (low b) (low-lt b)) ∙ at-48 b)

-- ---- the comparison
first-lt : (x : ℕ) → first_in x < 2 ^ 64
first-lt x = mod-lt x (lit< tt)

second_lt : (x : ℕ) → second_in x < 2 ^ 64
second_lt x = mod-lt (x / 2 ^ 64) (lit< tt)

four : (p q r s : Ordering) → or_else (or_else p q) (or_else r s) ≡ or_else p (or_else (or_else q r) s)
four p q r s = or_else-assoc p q (or_else r s) ∙ ap (or_else p) (sym (or_else-assoc q r s))

by-sixteen : (x y : ℕ) → or_else (compare (x / 2 ^ 16) (y / 2 ^ 16)) (compare (x % 2 ^ 16) (y % 2 ^ 16)) ≡ compare x y
by-sixteen x y = sym (ap₂ compare (sym (at-16 x)) (sym (at-16 y)) ∙ compare-digits (2 ^ 16) (x / 2 ^ 16) (y / 2 ^ 16) (x % 2 ^ 16) (y % 2 ^ 16) (sixteen-lt x) (sixteen-lt y))

turned-compare : (b d : ℕ) → b < 2 ^ 64 → d < 2 ^ 64 → compare (turned_word b) (turned_word d) ≡ compare d b
turned-compare b d hb hd = carried d b (turned_word b) (turned_word d) (λ l. omega arith) (λ l. omega arith) (λ l. omega arith)

fields-compare : (a c : ℕ) → compare (turned_fields a) (turned_fields c) ≡ compare (low c) (low a)
fields-compare a c = carried (low c) (low a) (turned_fields a) (turned_fields c) (λ l. omega arith) (λ l. omega arith) (λ l. omega arith)

-- of words a and b, and c and d
abbrev words_compared : Order → (a b c d : ℕ) → Ordering
words_compared Lex a b c d = or_else (compare (low a) (low c)) (or_else (compare b d) (compare (high a) (high c)))
words_compared DegLex a b c d = or_else (compare a c) (compare b d)
words_compared DegRevLex a b c d = or_else (compare (high a) (high c)) (or_else (compare d b) (compare (low c) (low a)))

keys-compared : (o : Order) (a b c d : ℕ) → a < 2 ^ 64 → b < 2 ^ 64 → c < 2 ^ 64 → d < 2 ^ 64 → or_else (compare (first_key o a b) (first_key o c d)) (compare (second_key o a b) (second_key o c d)) ≡ words_compared o a b c d
keys-compared Lex a b c d ha hb hc hd =
    ap₂ or_else (compare-digits (2 ^ 16) (low a) (low c) (high b) (high d) (high_lt b hb) (high_lt d hd)) (compare-digits (2 ^ 16) (low b) (low d) (high a) (high c) (high_lt a ha) (high_lt c hc))
    ∙ (four (compare (low a) (low c)) (compare (high b) (high d)) (compare (low b) (low d)) (compare (high a) (high c))
    ∙ ap (λ (t : Ordering). or_else (compare (low a) (low c)) (or_else t (compare (high a) (high c)))) (sym (by_parts b d)))
keys-compared DegLex a b c d ha hb hc hd = refl
keys-compared DegRevLex a b c d ha hb hc hd =
    let s = turned_word b in
    let t = turned_word d in
    ap₂ or_else
    (compare-digits (2 ^ 48) (high a) (high c) (s / 2 ^ 16) (t / 2 ^ 16) (rest_lt s (turned_lt b)) (rest_lt t (turned_lt d)))
    (compare-digits (2 ^ 48) (s % 2 ^ 16) (t % 2 ^ 16) (turned_fields a) (turned_fields c) (fields-lt a) (fields-lt c))
    ∙ (four (compare (high a) (high c)) (compare (s / 2 ^ 16) (t / 2 ^ 16)) (compare (s % 2 ^ 16) (t % 2 ^ 16)) (compare (turned_fields a) (turned_fields c))
    ∙ ap₂ (λ (p q : Ordering). or_else (compare (high a) (high c)) (or_else p q)) (by-sixteen s t ∙ turned-compare b d hb hd) (fields-compare a c))

parts-compared : (o : Order) (x y : ℕ) → words_compared o (first_in x) (second_in x) (first_in y) (second_in y) ≡ compare_two o x y
parts-compared Lex x y =
    ap₂ (λ (p q : Ordering). or_else p (or_else (compare (second_in x) (second_in y)) q)) (ap₂ compare (low_first x) (low_first y)) (ap₂ compare (high-first x) (high-first y))
parts-compared DegLex x y = refl
parts-compared DegRevLex x y =
    ap₂ (λ (p q : Ordering). or_else p (or_else (compare (second_in y) (second_in x)) q)) (ap₂ compare (high-first x) (high-first y)) (ap₂ compare (low_first y) (low_first x))

-- comparing keys is comparing the monomials
pub wide-key-compare : (o : Order) (x y : ℕ) → compare (wide_key_of o x) (wide_key_of o y) ≡ compare_two o x y
wide-key-compare o x y =
    let a = first_in x in
    let b = second_in x in
    let c = first_in y in
    let d = second_in y in
    compare-digits (2 ^ 64) (first_key o a b) (first_key o c d) (second_key o a b) (second_key o c d) (second-key-lt o a b (first-lt x) (second_lt x)) (second-key-lt o c d (first-lt y) (second_lt y))
    ∙ (keys-compared o a b c d (first-lt x) (second_lt x) (first-lt y) (second_lt y) ∙ parts-compared o x y)

-- ---- back and forth
module _ (o : Order) (x : ℕ) where
  second-small : second_key o (first_in x) (second_in x) < 2 ^ 64
  second-small = second-key-lt o (first_in x) (second_in x) (first-lt x) (second_lt x)

  first-of-key : wide_key_of o x / 2 ^ 64 ≡ first_key o (first_in x) (second_in x)
  first-of-key = digits_div (first_key o (first_in x) (second_in x)) second-small

  pub wide-key-lt : wide_key_of o x / 2 ^ 64 < 2 ^ 64
  wide-key-lt = subst (λ (t : ℕ). t < 2 ^ 64) (sym first-of-key) (first-key-lt o (first_in x) (second_in x) (first-lt x) (second_lt x))

  unkey-key : x / 2 ^ 64 < 2 ^ 64 → wide_unkey o (wide_key_of o x) ≡ x
  unkey-key h =
      let a = first_in x in
      let b = second_in x in
      ap₂ (λ (p q : ℕ). paired (first_word o p q) (second_word o p q)) first-of-key (digits_mod (first_key o a b) second-small)
      ∙ (ap₂ paired (first_back a b (first-lt x) (second_lt x) o) (second_back a b (first-lt x) (second_lt x) o) ∙ two-whole x h)

-- each key is one-to-one on all pairs of 64-bit words
pub wide-key-one-to-one : (o : Order) (x y : ℕ) → x / 2 ^ 64 < 2 ^ 64 → y / 2 ^ 64 < 2 ^ 64 → wide_key_of o x ≡ wide_key_of o y → x ≡ y
wide-key-one-to-one o x y h k e = sym (unkey-key o x h) ∙ (ap (wide_unkey o) e ∙ unkey-key o y k)

module _ (o : Order) (k : ℕ) (h : k / 2 ^ 64 < 2 ^ 64) where
  rest : k % 2 ^ 64 < 2 ^ 64
  rest = mod-lt k (lit< tt)

  first_small : first_word o (k / 2 ^ 64) (k % 2 ^ 64) < 2 ^ 64
  first_small = first-word-lt o (k / 2 ^ 64) (k % 2 ^ 64) h rest

  second-word-small : second_word o (k / 2 ^ 64) (k % 2 ^ 64) < 2 ^ 64
  second-word-small = second-word-lt o (k / 2 ^ 64) (k % 2 ^ 64) h rest

  wide-unkey-lt : wide_unkey o k / 2 ^ 64 < 2 ^ 64
  wide-unkey-lt = subst (λ (t : ℕ). t < 2 ^ 64) (sym (above_of (first_word o (k / 2 ^ 64) (k % 2 ^ 64)) (second_word o (k / 2 ^ 64) (k % 2 ^ 64)) first_small)) second-word-small

  key-unkey : wide_key_of o (wide_unkey o k) ≡ k
  key-unkey =
      let a = k / 2 ^ 64 in
      let b = k % 2 ^ 64 in
      ap₂ (λ (p q : ℕ). first_key o p q * 2 ^ 64 + second_key o p q) (first_of (first_word o a b) (second_word o a b) first_small) (second-of (first_word o a b) (second_word o a b) first_small second-word-small)
      ∙ (ap₂ (λ (p q : ℕ). p * 2 ^ 64 + q) (first-key-back a b h rest o) (second-key-back a b h rest o) ∙ div-add-mod' k (2 ^ 64))

-- ---- any numbers as keys
below-most : (most k : ℕ) → 0 < most → k < most → k ≤ most - 1
below-most most k p h = omega arith

most-below : (most k : ℕ) → 0 < most → k ≤ most - 1 → k < most
most-below most k p h = omega arith

two-fit : (k : ℕ) → k ≤ 2 ^ 128 - 1 → k / 2 ^ 64 < 2 ^ 64
two-fit k h = (div-lt_iff_lt-mul (lit< tt)).1 (most-below (2 ^ 64 * 2 ^ 64) k (lit< tt) h)

fit-two : (k : ℕ) → k / 2 ^ 64 < 2 ^ 64 → k ≤ 2 ^ 128 - 1
fit-two k h = below-most (2 ^ 64 * 2 ^ 64) k (lit< tt) ((div-lt_iff_lt-mul (lit< tt)).0 h)

-- comparing the monomials of keys is comparing the keys, whatever numbers they are
pub from-wide-key-compare : (o : Order) (j k : ℕ) → compare_words o (from_wide_key o j) (from_wide_key o k) ≡ compare j k
from-wide-key-compare o j k = by (min j (2 ^ 128 - 1)) (min k (2 ^ 128 - 1)) (two-fit (min j (2 ^ 128 - 1)) (min-le_right j (2 ^ 128 - 1))) (two-fit (min k (2 ^ 128 - 1)) (min-le_right k (2 ^ 128 - 1))) ∙ over-keys (2 ^ 128 - 1) j k
  where
    by : (a b : ℕ) → a / 2 ^ 64 < 2 ^ 64 → b / 2 ^ 64 < 2 ^ 64 → compare_words o (wide_unkey o a + 2 ^ 64 * (2 ^ 64 * (j - a))) (wide_unkey o b + 2 ^ 64 * (2 ^ 64 * (k - b))) ≡ or_else (compare (j - a) (k - b)) (compare a b)
    by a b ha hb =
        let x = wide-unkey-lt o a ha in
        let y = wide-unkey-lt o b hb in
        compare-over (wide_unkey o a) (wide_unkey o b) (j - a) (k - b) x y o
        ∙ ap (or_else (compare (j - a) (k - b))) (two-words o (wide_unkey o a) (wide_unkey o b) x y ∙ (sym (wide-key-compare o (wide_unkey o a) (wide_unkey o b)) ∙ ap₂ compare (key-unkey o a ha) (key-unkey o b hb)))

-- of a key of two words nothing is over
pub from-wide-key : (o : Order) (k : ℕ) → k / 2 ^ 64 < 2 ^ 64 → from_wide_key o k ≡ wide_unkey o k
from-wide-key o k h = none_over (wide_unkey o) (2 ^ 128 - 1) k (fit-two k h)

-- a monomial of two words is the monomial of its key
pub wide-of-key : (o : Order) (x : ℕ) → x / 2 ^ 64 < 2 ^ 64 → from_wide_key o (wide_key_of o x) ≡ x
wide-of-key o x h = from-wide-key o (wide_key_of o x) (wide-key-lt o x) ∙ unkey-key o x h
