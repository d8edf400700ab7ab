-- What the functions compute, on plain numbers: each law is a step of one of them. Assumes nothing.
use mathlib.Core.Path.{◌≡◌, refl, sym, ap, ap₂, ◌∙◌, subst}
use mathlib.Core.Bool.{false}
use mathlib.Core.List.{List, [], ◌∷◌, reverse}
use mathlib.Core.Logic.{◌⊎◌, inl, inr}
use Prim.Native.Nat.{ℕ, zero, suc, ◌+◌, ◌-◌, ◌*◌, ◌/◌, ◌%◌, ◌^◌, ◌<◌, ◌≤◌, zero-le, compare}
use native.Mathlib.Nat.{mul-pos, zero-mul, mod-eq_of_lt, div-one, div-div-eq-div-mul, mul-le-mul, zero-add}
use native.Mathlib.Numerals.{add-one}
use native.Mathlib.Omega.{arith}
use borrow.Author.Tests.{lt-ltb, le-ltb, eq-eqb, ne_eqb}
use Rattle.std.specs.Ordering.{nat_cmp}
use lib.Dec.{eqb, lit<}
use lib.Bits.{bit_and, bit_xor, xor_add_and, and_mask, and_high}
use lib.Pow.{pow-add, pow_mono, pow_pos, mod-mod-pow, field}
use lib.ListN.{length, get_or, take, drop}
use lib.Seq.{take-suc, take_all, length-take-le}
use Rattle.monomial.specs.declared.order.Order.{Order}
use Rattle.monomial.specs.declared.order.Order.TheVariants.{Lex, DegLex, DegRevLex}
use Rattle.monomial.specs.Exponents.{weighted}
use Rattle.monomial.specs.Layout.{bytes, of_bytes, six, upward, low_bit, word_of, fields, Below, below, in_layout, beyond_bits, WeightsFit}
use Rattle.monomial.specs.Words.{compare_words, key_of, answer, Packed, divides_word}
use Rattle.monomial.proofs.Comparing.{Tri, less, same, more, tri}
use Rattle.monomial.proofs.Places.{length-each, below-reverse, below_true, below-upward, length-upward, weighted-zeros, upward-upward, weighted-upward, weighted-enough, true_below}
use Rattle.monomial.proofs.ByteLaws.{length-bytes, bytes_below, of_bytes_bytes, bytes_of, tops, tops-clear, tops-set, apart, apart-sum, apart_below, apart-full, full, of_bytes-drop, of_bytes-take, zero-bytes}
use Rattle.monomial.proofs.LayoutLaws.{below-fields}
use Rattle.monomial.proofs.KeyLaws.{key-compare}
use Rattle.monomial.proofs.FieldLaws.{pow-bytes, drop-reverse, word_more}

-- ---- keys
pub inverted : (r : ℕ) → r < 2 ^ 48 → bit_xor r (2 ^ 48 - 1) ≡ 2 ^ 48 - 1 - r
inverted r h = omega (arith, xor_add_and r (2 ^ 48 - 1), and_mask r 48)

-- ---- the comparison of two words, by their keys
module _ (o : Order) (x y a b : ℕ) (hx : x < 2 ^ 64) (hy : y < 2 ^ 64) (ea : a ≡ key_of o x) (eb : b ≡ key_of o y) where
  keyed : compare_words o x y ≡ compare a b
  keyed = sym (key-compare o x y hx hy) ∙ ap₂ compare (sym ea) (sym eb)

  -- what `cmp` of the keys gives
  pub by-keys : nat_cmp a b ≡ answer (compare_words o x y)
  by-keys = go (tri a b)
    where
      go : Tri a b → nat_cmp a b ≡ answer (compare_words o x y)
      go (less h e) = rw (keyed, e, lt-ltb a b h)
      go (same h e) = rw (keyed, e, le-ltb a b (omega arith))
      go (more h e) = rw (keyed, e, le-ltb a b (omega arith))

-- ---- divisibility
module _ (x y : ℕ) (hx : Packed x) (hy : Packed y) where
  long : length (bytes 6 x) ≡ length (bytes 6 y)
  long = length-bytes 6 x ∙ sym (length-bytes 6 y)

  -- the difference that the code takes, by its bytes
  whole : of_bytes (apart (bytes 6 x) (bytes 6 y)) + y % 2 ^ 48 ≡ x % 2 ^ 48 + tops 6
  whole =
      let s = apart-sum (bytes 6 x) (bytes 6 y) long hy.tops in
      let t = ap tops (length-bytes 6 x) in
      omega (arith, of_bytes_bytes 6 x, of_bytes_bytes 6 y)

  pub no_borrow : y % 2 ^ 48 ≤ x % 2 ^ 48 + tops 6
  no_borrow = omega (arith, whole)

  pub divides-by : eqb (bit_and (x % 2 ^ 48 + tops 6 - y % 2 ^ 48) (tops 6)) (tops 6) ≡ divides_word y x
  divides-by =
      let z : ℕ = of_bytes (apart (bytes 6 x) (bytes 6 y)) in
      let e : x % 2 ^ 48 + tops 6 - y % 2 ^ 48 ≡ z + 256 ^ 6 * 0 = omega (arith, whole) in
      ap (λ (n : ℕ). eqb (bit_and n (tops 6)) (tops 6)) e
      ∙ (tops-set 6 (z + 256 ^ 6 * 0)
      ∙ (ap full (bytes_of 6 (apart (bytes 6 x) (bytes 6 y)) 0 (length-each (λ a b. a + 128 - b) (bytes 6 x) (bytes 6 y) long ∙ length-bytes 6 x) (apart_below (bytes 6 x) (bytes 6 y) hx.tops))
      ∙ apart-full (bytes 6 x) (bytes 6 y) long hy.tops))

-- ---- the layout
ends-down : (n w : ℕ) → n ≤ 6 → eqb (w % 2 ^ 48 % 2 ^ (48 - 8 * n)) 0 ≡ below 1 (drop n (reverse (bytes 6 w)))
ends-down n w h =
    let m : 2 ^ (48 - 8 * n) ≡ 256 ^ (6 - n) = ap (λ (k : ℕ). 2 ^ k) (let e : 48 - 8 * n ≡ 8 * (6 - n) = omega arith in e) ∙ pow-bytes (6 - n) in
    ap₂ (λ (i j : ℕ). eqb (i % j) 0) (sym (of_bytes_bytes 6 w)) m
    ∙ (ap (λ (i : ℕ). eqb i 0) (sym (of_bytes-take (6 - n) (bytes 6 w) (bytes_below 6 w)))
    ∙ (zero-bytes (take (6 - n) (bytes 6 w))
    ∙ (sym (below-reverse 1 (take (6 - n) (bytes 6 w)))
    ∙ (ap (λ (k : ℕ). below 1 (reverse (take (k - n) (bytes 6 w)))) (sym (length-bytes 6 w)) ∙ ap (below 1) (sym (drop-reverse (bytes 6 w) n (omega (arith, length-bytes 6 w))))))))

ends-up : (n w : ℕ) → eqb (w % 2 ^ 48 / 2 ^ (8 * n)) 0 ≡ below 1 (drop n (bytes 6 w))
ends-up n w =
    ap₂ (λ (i j : ℕ). eqb (i / j) 0) (sym (of_bytes_bytes 6 w)) (pow-bytes n)
    ∙ (ap (λ (i : ℕ). eqb i 0) (sym (of_bytes-drop n (bytes 6 w) (bytes_below 6 w))) ∙ zero-bytes (drop n (bytes 6 w)))

-- the bits beyond are made by shifts
low_bits : (n : ℕ) → n ≤ 6 → (2 ^ 48 - 1) / 2 ^ (8 * n) ≡ 2 ^ (48 - 8 * n) - 1
low_bits zero h = refl
low_bits (suc zero) h = refl
low_bits (suc (suc zero)) h = refl
low_bits (suc (suc (suc zero))) h = refl
low_bits (suc (suc (suc (suc zero)))) h = refl
low_bits (suc (suc (suc (suc (suc zero))))) h = refl
low_bits (suc (suc (suc (suc (suc (suc zero)))))) h = refl
low_bits (suc (suc (suc (suc (suc (suc (suc n))))))) h = absurd (let z : ⊥ = omega arith in z)

high_bits : (n : ℕ) → n ≤ 6 → (2 ^ 48 - 1) / 2 ^ (8 * n) * 2 ^ (8 * n) % 2 ^ 64 ≡ 2 ^ 48 - 2 ^ (8 * n)
high_bits zero h = refl
high_bits (suc zero) h = refl
high_bits (suc (suc zero)) h = refl
high_bits (suc (suc (suc zero))) h = refl
high_bits (suc (suc (suc (suc zero)))) h = refl
high_bits (suc (suc (suc (suc (suc zero))))) h = refl
high_bits (suc (suc (suc (suc (suc (suc zero)))))) h = refl
high_bits (suc (suc (suc (suc (suc (suc (suc n))))))) h = absurd (let z : ⊥ = omega arith in z)

pub beyond-down : (o : Order) (n : ℕ) → (o ≡ Lex) ⊎ (o ≡ DegLex) → n ≤ 6 → (2 ^ 48 - 1) / 2 ^ (8 * n) ≡ beyond_bits o n
beyond-down o n (inl e) h = rw e (low_bits n h)
beyond-down o n (inr e) h = rw e (low_bits n h)

pub beyond-rev : (o : Order) (n : ℕ) → o ≡ DegRevLex → n ≤ 6 → (2 ^ 48 - 1) / 2 ^ (8 * n) * 2 ^ (8 * n) % 2 ^ 64 ≡ beyond_bits o n
beyond-rev o n e h = rw e (high_bits n h)

times_zero : (q c : ℕ) → 0 < c → eqb (q * c) 0 ≡ eqb q 0
times_zero zero c h = eq-eqb (0 * c) 0 (zero-mul c)
times_zero (suc q) c h = ne_eqb (suc q * c) 0 (λ z. let p : 0 < suc q * c = mul-pos (omega arith) h in omega arith) ∙ sym (ne_eqb (suc q) 0 (λ z. omega arith))

-- the bits below the n highest fields, and those above the n lowest
below-bits : (n w : ℕ) → n ≤ 6 → eqb (bit_and w (2 ^ (48 - 8 * n) - 1)) 0 ≡ below 1 (drop n (reverse (bytes 6 w)))
below-bits n w h =
    ap (λ (i : ℕ). eqb i 0)
    (and_mask w (48 - 8 * n)
    ∙ (sym (mod-mod-pow w (8 * n) (48 - 8 * n)) ∙ ap (λ (k : ℕ). w % 2 ^ k % 2 ^ (48 - 8 * n)) (let e : 8 * n + (48 - 8 * n) ≡ 48 = omega arith in e)))
    ∙ ends-down n w h

above-bits : (n w : ℕ) → n ≤ 6 → eqb (bit_and w (2 ^ 48 - 2 ^ (8 * n))) 0 ≡ below 1 (drop n (bytes 6 w))
above-bits n w h =
    let e : 48 ≡ 48 - 8 * n + 8 * n = omega arith in
    let q = w / 2 ^ (8 * n) % 2 ^ (48 - 8 * n) in
    ap (λ (i : ℕ). eqb i 0) (ap (λ (k : ℕ). bit_and w (2 ^ k - 2 ^ (8 * n))) e ∙ and_high w (48 - 8 * n) (8 * n))
    ∙ (times_zero q (2 ^ (8 * n)) (pow_pos (8 * n))
    ∙ (ap (λ (i : ℕ). eqb i 0) (sym (ap (λ (k : ℕ). w % 2 ^ k / 2 ^ (8 * n)) e ∙ field w (48 - 8 * n) (8 * n)))
    ∙ ends-up n w))

-- the fields beyond n are 0 where the bits beyond are
pub beyond-clear : (o : Order) (n w : ℕ) → n ≤ 6 → eqb (bit_and w (beyond_bits o n)) 0 ≡ below 1 (drop n (fields o w))
unfolding fields
beyond-clear Lex n w h = below-bits n w h
beyond-clear DegLex n w h = below-bits n w h
beyond-clear DegRevLex n w h = above-bits n w h

-- s has the products of the first i pairs of bytes; those of the others stand beside it
pub record Summing (v w s i : ℕ) : Type 0 where
  pub within : i ≤ 6
  pub small : s ≤ 65536 * i
  pub sums : s + weighted (bytes (6 - i) (v / 2 ^ (8 * i))) (bytes (6 - i) (w / 2 ^ (8 * i))) ≡ weighted (bytes 6 v) (bytes 6 w)

pub none-summed : (v w : ℕ) → Summing v w 0 0
none-summed v w = record { within = omega arith; small = omega arith; sums = simp (div-one, zero-add) refl }

next-byte : (x i : ℕ) → x / 2 ^ (8 * (i + 1)) ≡ x / 2 ^ (8 * i) / 256
next-byte x i =
    let e : 8 * (i + 1) ≡ 8 * i + 8 = omega arith in
    ap (λ (n : ℕ). x / 2 ^ n) e ∙ (ap (λ (n : ℕ). x / n) (pow-add 2 (8 * i) 8) ∙ sym (div-div-eq-div-mul x (2 ^ (8 * i)) 256))

pub next-summed : (v w s i p : ℕ) → Summing v w s i → i < 6 → p ≡ v / 2 ^ (8 * i) % 256 * (w / 2 ^ (8 * i) % 256) → p < 65536 → Summing v w (s + p) (i + 1)
unfolding bytes
next-summed v w s i p m l is h =
    let a = v / 2 ^ (8 * i) in
    let b = w / 2 ^ (8 * i) in
    let k = 6 - (i + 1) in
    let e : 6 - i ≡ suc k = omega arith in
    let z : s + (a % 256 * (b % 256) + weighted (bytes k (a / 256)) (bytes k (b / 256))) ≡ weighted (bytes 6 v) (bytes 6 w) =
    subst (λ (n : ℕ). s + weighted (bytes n a) (bytes n b) ≡ weighted (bytes 6 v) (bytes 6 w)) e m.sums
    in
    let q = ap₂ (λ (x y : ℕ). weighted (bytes k x) (bytes k y)) (next-byte v i) (next-byte w i) in
    record { within = omega arith; small = omega (arith, m.small); sums = omega (arith, q, z, is) }

pub all-summed : (v w s i : ℕ) → Summing v w s i → 6 ≤ i → s ≡ weighted (bytes 6 v) (bytes 6 w)
unfolding bytes
all-summed v w s i m l =
    let e : 6 - i ≡ 0 = omega arith in
    let z : s + 0 ≡ weighted (bytes 6 v) (bytes 6 w) =
    subst (λ (n : ℕ). s + weighted (bytes n (v / 2 ^ (8 * i))) (bytes n (w / 2 ^ (8 * i))) ≡ weighted (bytes 6 v) (bytes 6 w)) e m.sums
    in
    omega (arith, z)

module _ (o : Order) (n v w : ℕ) where
  clear : below 128 (fields o w) ≡ eqb (bit_and w (tops 6)) 0
  clear = below-fields 128 o w ∙ sym (tops-clear 6 w)

  pub top-refused : (bit_and w (tops 6) ≡ 0 → ⊥) → false ≡ in_layout o n (fields o v) w
  unfolding in_layout
  top-refused h = rw (clear ∙ ne_eqb (bit_and w (tops 6)) 0 h)

  module _ (few : n ≤ 6) (b : ℕ) (is : b ≡ beyond_bits o n) where
    beyond-is : below 1 (drop n (fields o w)) ≡ eqb (bit_and w b) 0
    beyond-is = sym (ap (λ (m : ℕ). eqb (bit_and w m) 0) is ∙ beyond-clear o n w few)

    pub beyond-refused : bit_and w (tops 6) ≡ 0 → (bit_and w b ≡ 0 → ⊥) → false ≡ in_layout o n (fields o v) w
    unfolding in_layout
    beyond-refused h k = rw (clear ∙ eq-eqb (bit_and w (tops 6)) 0 h, beyond-is ∙ ne_eqb (bit_and w b) 0 k)

    pub by-degree : bit_and w (tops 6) ≡ 0 → bit_and w b ≡ 0 → (s : ℕ) → s ≡ weighted (bytes 6 v) (bytes 6 w) → eqb (w / 2 ^ 48) s ≡ in_layout o n (fields o v) w
    unfolding in_layout fields
    by-degree h k s e =
        let z = beyond-is ∙ eq-eqb (bit_and w b) 0 k in
        rw (clear ∙ eq-eqb (bit_and w (tops 6)) 0 h, z) (ap (eqb (w / 2 ^ 48)) (e ∙ (sym (weighted-upward o (bytes 6 v) (bytes 6 w) (length-bytes 6 v ∙ sym (length-bytes 6 w))) ∙ sym (weighted-enough (fields o v) n (fields o w) (true_below 1 (drop n (fields o w)) z)))))

-- an exponent that is moved to its field stays below the degree
pub moved : (e s : ℕ) → e < 256 → s ≤ 40 → (e * 2 ^ s % 2 ^ 64 ≡ e * 2 ^ s) × (e * 2 ^ s < 2 ^ 48)
moved e s h k =
    let p : 2 ^ s ≤ 2 ^ 40 = pow_mono k in
    let l : e * 2 ^ s ≤ 255 * 2 ^ 40 = mul-le-mul (let q : e ≤ 255 = omega arith in q) p in
    (mod-eq_of_lt (let m : e * 2 ^ s < 2 ^ 64 = omega arith in m), omega arith)

-- ---- the word of the first i exponents; 17 · 255 < 2^13
pub record Begun (o : Order) (vs α : List ℕ) (word i : ℕ) : Type 0 where
  pub low : i ≤ length α
  pub small : word ≤ i * 2 ^ 61
  pub is : word ≡ word_of o vs (take i α)

pub word_none : (o : Order) (vs α : List ℕ) → Begun o vs α 0 0
unfolding word_of
word_none o vs α = record { low = zero-le; small = zero-le; is = ap₂ (λ (d f : ℕ). d * 2 ^ 48 + f) (sym (weighted-zeros vs 0)) (none o) }
  where
    none : (q : Order) → 0 ≡ of_bytes (upward q (six []))
    none Lex = refl
    none DegLex = refl
    none DegRevLex = refl

-- a weight of at most 17 times an exponent
pub weight-times : (vs : List ℕ) (i v e : ℕ) → Below 18 vs → v ≡ get_or vs i 0 → e < 256 → v * e ≤ 4335
weight-times vs i v e u is h = mul-le-mul (let b = small vs i u in let q : v ≤ 17 = omega arith in q) (let q : e ≤ 255 = omega arith in q)
  where
    small : (us : List ℕ) (j : ℕ) → Below 18 us → get_or us j 0 < 18
    small [] j t = lit< tt
    small (a ∷ us) zero t = t.0
    small (a ∷ us) (suc j) t = small us j t.1

pub word-step : (o : Order) (vs α : List ℕ) (word i v e s : ℕ) → Begun o vs α word i → i < length α → length α ≤ 6 → Below 18 vs → v ≡ get_or vs i 0 → (e ≡ get_or α i 0) × (e < 256) → (s ≡ low_bit o i) × (s ≤ 40) → Begun o vs α (word + (v * e * 2 ^ 48 + e * 2 ^ s % 2 ^ 64)) (i + 1)
word-step o vs α word i v e s g h l u hv he hs =
    let m = moved e s he.1 hs.1 in
    let n : length (take i α) ≡ i = length-take-le i α (omega arith) in
    record {
      low = omega arith;
      small = omega (arith, g.small, weight-times vs i v e u hv he.1, m.0, m.1);
      is =
          ap₂ (λ (x y : ℕ). x + (v * e * 2 ^ 48 + y)) g.is m.0
          ∙ (ap₂ (λ (x y : ℕ). word_of o vs (take i α) + (v * x * 2 ^ 48 + x * 2 ^ y)) he.0 (hs.0 ∙ ap (low_bit o) (sym n))
          ∙ (ap (λ (x : ℕ). word_of o vs (take i α) + (x * get_or α i 0 * 2 ^ 48 + get_or α i 0 * 2 ^ low_bit o (length (take i α)))) (hv ∙ ap (λ (k : ℕ). get_or vs k 0) (sym n))
          ∙ (sym (word_more o vs (take i α) (get_or α i 0) (let k : length (take i α) < 6 = omega arith in k))
          ∙ (ap (word_of o vs) (sym (take-suc α i 0 h)) ∙ ap (λ (k : ℕ). word_of o vs (take k α)) (sym (add-one i))))));
    }

pub word-ends : (o : Order) (vs α : List ℕ) (word i : ℕ) → Begun o vs α word i → length α ≤ i → word ≡ word_of o vs α
word-ends o vs α word i g h = g.is ∙ ap (word_of o vs) (take_all i α h)

-- ---- the word of six weights
pub six-list : (l : List ℕ) → length l ≡ 6 → l ≡ (get_or l 0 0 ∷ get_or l 1 0 ∷ get_or l 2 0 ∷ get_or l 3 0 ∷ get_or l 4 0 ∷ get_or l 5 0 ∷ [])
six-list (a ∷ (b ∷ (c ∷ (d ∷ (e ∷ (f ∷ [])))))) h = refl
six-list [] h = absurd (let z : ⊥ = omega arith in z)
six-list (a ∷ []) h = absurd (let z : ⊥ = omega arith in z)
six-list (a ∷ (b ∷ [])) h = absurd (let z : ⊥ = omega arith in z)
six-list (a ∷ (b ∷ (c ∷ []))) h = absurd (let z : ⊥ = omega arith in z)
six-list (a ∷ (b ∷ (c ∷ (d ∷ [])))) h = absurd (let z : ⊥ = omega arith in z)
six-list (a ∷ (b ∷ (c ∷ (d ∷ (e ∷ []))))) h = absurd (let z : ⊥ = omega arith in z)
six-list (a ∷ (b ∷ (c ∷ (d ∷ (e ∷ (f ∷ (g ∷ l))))))) h = absurd (let z : ⊥ = omega arith in z)

-- the fields of the number that has these bytes, as they lie
pub fields_lying : (o : Order) (vs : List ℕ) → WeightsFit vs → fields o (of_bytes (upward o vs)) ≡ vs
unfolding fields
fields_lying o vs g =
    ap (λ (m : ℕ). upward o (bytes 6 m)) (let e : of_bytes (upward o vs) ≡ of_bytes (upward o vs) + 256 ^ 6 * 0 = omega arith in e)
    ∙ (ap (upward o) (bytes_of 6 (upward o vs) 0 (length-upward o vs ∙ g.six-are) (true_below 256 (upward o vs) (below-upward 256 o vs ∙ below_true 256 vs g.bytes-are)))
    ∙ upward-upward o vs)

-- the six weights from x1's on, and from x6's
abbrev pub rising : List ℕ → List ℕ
rising l = get_or l 0 0 ∷ get_or l 1 0 ∷ get_or l 2 0 ∷ get_or l 3 0 ∷ get_or l 4 0 ∷ get_or l 5 0 ∷ []

abbrev pub sinking : List ℕ → List ℕ
sinking l = get_or l 5 0 ∷ get_or l 4 0 ∷ get_or l 3 0 ∷ get_or l 2 0 ∷ get_or l 1 0 ∷ get_or l 0 0 ∷ []

module _ (l : List ℕ) (g : WeightsFit l) where
  turned-list : reverse l ≡ sinking l
  turned-list = ap reverse (six-list l g.six-are)

  pub rising-fits : Below 256 (rising l)
  rising-fits = subst (Below 256) (six-list l g.six-are) g.bytes-are

  pub sinking-fits : Below 256 (sinking l)
  sinking-fits = subst (Below 256) turned-list (true_below 256 (reverse l) (below-reverse 256 l ∙ below_true 256 l g.bytes-are))

  pub weights-down : (o : Order) (r : ℕ) → (o ≡ Lex) ⊎ (o ≡ DegLex) → r ≡ of_bytes (sinking l) → fields o r ≡ l
  weights-down o r (inl e) h = rw e (ap (fields Lex) (h ∙ ap of_bytes (sym turned-list)) ∙ fields_lying Lex l g)
  weights-down o r (inr e) h = rw e (ap (fields DegLex) (h ∙ ap of_bytes (sym turned-list)) ∙ fields_lying DegLex l g)

  pub weights-rev : (o : Order) (r : ℕ) → o ≡ DegRevLex → r ≡ of_bytes (rising l) → fields o r ≡ l
  weights-rev o r e h = rw e (ap (fields DegRevLex) (h ∙ ap of_bytes (sym (six-list l g.six-are))) ∙ fields_lying DegRevLex l g)
