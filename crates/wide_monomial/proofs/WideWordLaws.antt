-- Divisibility, product and quotient of monomials of two words are those of their exponents. Assumes nothing.
use mathlib.Core.Path.{◌≡◌, refl, sym, ap, ap₂, ◌∙◌, subst}
use mathlib.Core.Bool.{Bool, true, ◌&&◌, and-true, and_assoc}
use mathlib.Core.List.{List, [], ◌∷◌, ◌++◌}
use Prim.Native.Nat.{ℕ, ◌+◌, ◌-◌, ◌*◌, ◌/◌, ◌^◌, ◌<◌, ◌≤◌}
use native.Mathlib.Nat.{mod-eq_of_lt}
use native.Mathlib.Omega.{arith}
use lib.Dec.{leb}
use lib.ListN.{length, take, drop, length-append, length-replicate}
use Rattle.monomial.specs.declared.order.Order.{Order}
use Rattle.monomial.specs.declared.order.Order.TheVariants.{Lex, DegLex, DegRevLex}
use Rattle.monomial.specs.Exponents.{weighted, each, product, quotient, one, divides, compare_in}
use Rattle.monomial.specs.Layout.{bytes, of_bytes, six, upward, fields, Below, below}
use Rattle.monomial.specs.Words.{low, high, degree_in, first_in, second_in, compare_words}
use Rattle.monomial.proofs.OrderLaws.{weighted-product, product-keeps}
use Rattle.monomial.proofs.Places.{each_append, each_take, each-drop, each-upward, below-upward, below-append, below_true, true_below, and_both, divides-each, Below-more, weighted-zeros, zeros, below-zeros}
use Rattle.monomial.proofs.ByteLaws.{length-bytes, of_bytes_bytes, bytes-add, bytes-sub}
use Rattle.monomial.proofs.LayoutLaws.{length_fields, length-six, six-below, below-fields, below-take}
use Rattle.monomial.proofs.WordLaws.{below_split, zero-quotient, zero-product, low_half, divides-bytes, weighted-quotient}
use Rattle.wide_monomial.specs.Wide.{paired, wide_of, wide_fields, wide_exponents, WideLayout}
use Rattle.wide_monomial.specs.WideWords.{wide_bytes, WidePacked, divides_wide}
use Rattle.wide_monomial.proofs.Parts.{first_of, above_of, second-of, second-whole, pair-whole, second_fits, low_first, high-first, first-parts, below-drop, below_both, both_below, short-take, short-drop}
use Rattle.wide_monomial.proofs.WideLaws.{length-wide-exponents, wide-exponents-small, wide-word-exponents, degree-fits}
use Rattle.wide_monomial.proofs.CompareLaws.{compare-wide}

-- ---- fields of both words: as they lie, and from x1's on
pub length-wide-bytes : (x : ℕ) → length (wide_bytes x) ≡ 12
length-wide-bytes x = length-append (bytes 6 (first_in x)) (bytes 6 (second_in x)) ∙ ap₂ (λ (a b : ℕ). a + b) (length-bytes 6 (first_in x)) (length-bytes 6 (second_in x))

module _ (k : ℕ) (f : ℕ → ℕ → ℕ) (o : Order) where
  each-half : (u w : ℕ) → below k (each f (bytes 6 u) (bytes 6 w)) ≡ below k (each f (fields o u) (fields o w))
  unfolding fields
  each-half u w =
      sym (below-upward k o (each f (bytes 6 u) (bytes 6 w)))
      ∙ ap (below k) (sym (each-upward f o (bytes 6 u) (bytes 6 w) (length-bytes 6 u ∙ sym (length-bytes 6 w))))

  each-wide : (x y : ℕ) → below k (each f (wide_bytes x) (wide_bytes y)) ≡ below k (each f (wide_fields o x) (wide_fields o y))
  each-wide x y =
      let a = first_in x in
      let b = second_in x in
      let c = first_in y in
      let d = second_in y in
      ap (below k) (each_append f (bytes 6 a) (bytes 6 c) (bytes 6 b) (bytes 6 d) (length-bytes 6 a ∙ sym (length-bytes 6 c)))
      ∙ (below-append k (each f (bytes 6 a) (bytes 6 c)) (each f (bytes 6 b) (bytes 6 d))
      ∙ (ap₂ ◌&&◌ (each-half a c) (each-half b d)
      ∙ (sym (below-append k (each f (fields o a) (fields o c)) (each f (fields o b) (fields o d)))
      ∙ ap (below k) (sym (each_append f (fields o a) (fields o c) (fields o b) (fields o d) (length_fields o a ∙ sym (length_fields o c)))))))

-- the top bits of the fields, as they lie
pub wide-tops : (o : Order) (x : ℕ) → Below 128 (wide_fields o x) → Below 128 (wide_bytes x)
wide-tops o x u =
    let h = below_both 128 (fields o (first_in x)) (fields o (second_in x)) u in
    both_below 128 (bytes 6 (first_in x)) (bytes 6 (second_in x)) (lie (first_in x) h.0) (lie (second_in x) h.1)
  where
    lie : (w : ℕ) → Below 128 (fields o w) → Below 128 (bytes 6 w)
    lie w t = true_below 128 (bytes 6 w) (sym (below-fields 128 o w) ∙ below_true 128 (fields o w) t)

-- ---- every monomial of the layout, with weights of at most 16, is fit for the arithmetic
pub wide-packed : (o : Order) (n : ℕ) (vs : List ℕ) (x : ℕ) → n ≤ 12 → Below 17 vs → WideLayout o n vs x → WidePacked x
wide-packed o n vs x h u is = record {
  tops = wide-tops o x is.tops;
  room = subst (λ (w : ℕ). w < 2 ^ 63) (sym (first-parts x)) (below_top (degree_in x) (low x) (subst (λ (d : ℕ). d < 2 ^ 15) (sym is.degree-is) light) (omega arith));
  second-small = is.second-small;
}
  where
    light : weighted vs (wide_exponents o n x) < 2 ^ 15
    light = degree-fits vs (wide_exponents o n x) u (wide-exponents-small o n vs x h is) (omega (arith, length-wide-exponents o n x h))

    below_top : (d l : ℕ) → d < 2 ^ 15 → l < 2 ^ 48 → d * 2 ^ 48 + l < 2 ^ 63
    below_top d l hd hl = omega arith

-- ---- the words of a packed monomial
module _ (x : ℕ) (p : WidePacked x) where
  pub first-tops : Below 128 (bytes 6 (first_in x))
  first-tops = (below_both 128 (bytes 6 (first_in x)) (bytes 6 (second_in x)) p.tops).0

  pub second-tops : Below 128 (bytes 6 (second_in x))
  second-tops = (below_both 128 (bytes 6 (first_in x)) (bytes 6 (second_in x)) p.tops).1

  pub second_is : second_in x ≡ x / 2 ^ 64
  second_is = second-whole x (second_fits (x / 2 ^ 64) p.second-small)

  second-half : x / 2 ^ 64 < 2 ^ 47
  second-half = subst (λ (t : ℕ). t < 2 ^ 47) (mod-eq_of_lt (subst (λ (t : ℕ). t < 2 ^ 48) (sym second_is) p.second-small) ∙ second_is) (low_half (second_in x) second-tops)

-- ---- sums, word by word
module _ (x y : ℕ) (p : WidePacked x) (q : WidePacked y) where
  sum-parts : x + y ≡ paired (first_in x + first_in y) (x / 2 ^ 64 + y / 2 ^ 64)
  sum-parts = ap₂ (λ (a b : ℕ). a + b) (sym (pair-whole x)) (sym (pair-whole y)) ∙ add (first_in x) (x / 2 ^ 64) (first_in y) (y / 2 ^ 64)
    where
      add : (a b c d : ℕ) → a + 2 ^ 64 * b + (c + 2 ^ 64 * d) ≡ a + c + 2 ^ 64 * (b + d)
      add a b c d = omega arith

  pub sum_fits : first_in x + first_in y < 2 ^ 64
  sum_fits = omega (arith, p.room, q.room)

  pub first-sum : first_in (x + y) ≡ first_in x + first_in y
  first-sum = ap first_in sum-parts ∙ first_of (first_in x + first_in y) (x / 2 ^ 64 + y / 2 ^ 64) sum_fits

  above-sum : (x + y) / 2 ^ 64 ≡ x / 2 ^ 64 + y / 2 ^ 64
  above-sum = ap (λ (t : ℕ). t / 2 ^ 64) sum-parts ∙ above_of (first_in x + first_in y) (x / 2 ^ 64 + y / 2 ^ 64) sum_fits

  sum-small : (x + y) / 2 ^ 64 < 2 ^ 48
  sum-small = subst (λ (t : ℕ). t < 2 ^ 48) (sym above-sum) (halves (x / 2 ^ 64) (y / 2 ^ 64) (second-half x p) (second-half y q))
    where
      halves : (a b : ℕ) → a < 2 ^ 47 → b < 2 ^ 47 → a + b < 2 ^ 48
      halves a b ha hb = omega arith

  pub second-sum : second_in (x + y) ≡ second_in x + second_in y
  second-sum = second-whole (x + y) (second_fits ((x + y) / 2 ^ 64) sum-small) ∙ (above-sum ∙ ap₂ (λ (a b : ℕ). a + b) (sym (second_is x p)) (sym (second_is y q)))

  -- the bytes of the sum are the sums of the bytes, in both words
  pub wide-bytes-add : wide_bytes (x + y) ≡ product (wide_bytes x) (wide_bytes y)
  wide-bytes-add =
      ap₂ (λ (a b : ℕ). bytes 6 a ++ bytes 6 b) first-sum second-sum
      ∙ (ap₂ (λ (l m : List ℕ). l ++ m) (bytes-add 6 (first_in x) (first_in y) (first-tops x p) (first-tops y q)) (bytes-add 6 (second_in x) (second_in y) (second-tops x p) (second-tops y q))
      ∙ sym (each_append (λ i j. i + j) (bytes 6 (first_in x)) (bytes 6 (first_in y)) (bytes 6 (second_in x)) (bytes 6 (second_in y)) (length-bytes 6 (first_in x) ∙ sym (length-bytes 6 (first_in y)))))

  half-sum : (o : Order) (u w : ℕ) → Below 128 (bytes 6 u) → Below 128 (bytes 6 w) → fields o (u + w) ≡ product (fields o u) (fields o w)
  unfolding fields
  half-sum o u w hu hw = ap (upward o) (bytes-add 6 u w hu hw) ∙ sym (each-upward (λ i j. i + j) o (bytes 6 u) (bytes 6 w) (length-bytes 6 u ∙ sym (length-bytes 6 w)))

  fields-add : (o : Order) → wide_fields o (x + y) ≡ product (wide_fields o x) (wide_fields o y)
  fields-add o =
      ap₂ (λ (a b : ℕ). fields o a ++ fields o b) first-sum second-sum
      ∙ (ap₂ (λ (l m : List ℕ). l ++ m) (half-sum o (first_in x) (first_in y) (first-tops x p) (first-tops y q)) (half-sum o (second_in x) (second_in y) (second-tops x p) (second-tops y q))
      ∙ sym (each_append (λ i j. i + j) (fields o (first_in x)) (fields o (first_in y)) (fields o (second_in x)) (fields o (second_in y)) (length_fields o (first_in x) ∙ sym (length_fields o (first_in y)))))

  -- no field carries into the degree
  degrees-add : degree_in (x + y) ≡ degree_in x + degree_in y
  degrees-add =
      sym (high-first (x + y))
      ∙ (ap high first-sum
      ∙ (no-carry (first_in x) (first_in y) (low_half (first_in x) (first-tops x p)) (low_half (first_in y) (first-tops y q)) ∙ ap₂ (λ (a b : ℕ). a + b) (high-first x) (high-first y)))
    where
      no-carry : (a b : ℕ) → low a < 2 ^ 47 → low b < 2 ^ 47 → high (a + b) ≡ high a + high b
      no-carry a b ha hb = omega arith

-- ---- x divides y, and the product of x and y
module _ (o : Order) (n : ℕ) (vs : List ℕ) (x y : ℕ) (fits : n ≤ 12) (a : WideLayout o n vs x) (b : WideLayout o n vs y) where
  pub alike : length (wide_exponents o n x) ≡ length (wide_exponents o n y)
  alike = length-wide-exponents o n x fits ∙ sym (length-wide-exponents o n y fits)

  -- a test of each field is a test of each exponent, if it holds of the fields beyond n
  by-exponents : (k : ℕ) (f : ℕ → ℕ → ℕ) → Below k (each f (drop n (wide_fields o x)) (drop n (wide_fields o y))) → below k (each f (wide_bytes x) (wide_bytes y)) ≡ below k (each f (wide_exponents o n x) (wide_exponents o n y))
  by-exponents k f u =
      each-wide k f o x y
      ∙ (below_split k n (each f (wide_fields o x) (wide_fields o y))
      ∙ (ap₂ (λ (l m : List ℕ). below k l && below k m) (sym (each_take f n (wide_fields o x) (wide_fields o y))) (sym (each-drop f n (wide_fields o x) (wide_fields o y)))
      ∙ (ap (λ (t : Bool). below k (each f (wide_exponents o n x) (wide_exponents o n y)) && t) (below_true k (each f (drop n (wide_fields o x)) (drop n (wide_fields o y))) u)
      ∙ and-true (below k (each f (wide_exponents o n x) (wide_exponents o n y))))))

  -- x divides y exactly where it does by exponents
  pub divides-wide : divides_wide x y ≡ divides (wide_exponents o n x) (wide_exponents o n y)
  divides-wide =
      divides-each (wide_bytes x) (wide_bytes y) (length-wide-bytes x ∙ sym (length-wide-bytes y))
      ∙ (by-exponents 1 (λ i j. i - j) (zero-quotient 1 (drop n (wide_fields o x)) (drop n (wide_fields o y)) a.beyond) ∙ sym (divides-each (wide_exponents o n x) (wide_exponents o n y) alike))

  -- no exponent of the product is over 127: by fields, and by exponents
  pub product-wide-test : below 128 (product (wide_bytes x) (wide_bytes y)) ≡ below 128 (product (wide_exponents o n x) (wide_exponents o n y))
  product-wide-test =
      by-exponents 128 (λ i j. i + j)
      (Below-more 1 128 (product (drop n (wide_fields o x)) (drop n (wide_fields o y))) (omega arith) (zero-product (drop n (wide_fields o x)) (drop n (wide_fields o y)) a.beyond b.beyond))

  module _ (small : Below 17 vs) where
    packed-x : WidePacked x
    packed-x = wide-packed o n vs x fits small a

    packed-y : WidePacked y
    packed-y = wide-packed o n vs y fits small b

    -- the exponents of the sum are the sums of the exponents
    pub product-wide-exponents : wide_exponents o n (x + y) ≡ product (wide_exponents o n x) (wide_exponents o n y)
    product-wide-exponents = ap (take n) (fields-add x y packed-x packed-y o) ∙ sym (each_take (λ i j. i + j) n (wide_fields o x) (wide_fields o y))

    pub product-wide-layout : below 128 (product (wide_exponents o n x) (wide_exponents o n y)) ≡ true → WideLayout o n vs (x + y)
    product-wide-layout t =
        let f = fields-add x y packed-x packed-y o in
        record {
          degree-is = degrees-add x y packed-x packed-y ∙ (ap₂ (λ (i j : ℕ). i + j) a.degree-is b.degree-is ∙ (sym (weighted-product vs (wide_exponents o n x) (wide_exponents o n y) alike) ∙ ap (weighted vs) (sym product-wide-exponents)));
          tops = subst (Below 128) (sym f) (true_below 128 (product (wide_fields o x) (wide_fields o y)) (sym (each-wide 128 (λ i j. i + j) o x y) ∙ (product-wide-test ∙ t)));
          beyond = subst (Below 1) (each-drop (λ i j. i + j) n (wide_fields o x) (wide_fields o y) ∙ ap (drop n) (sym f)) (zero-product (drop n (wide_fields o x)) (drop n (wide_fields o y)) a.beyond b.beyond);
          second-small = sum-small x y packed-x packed-y;
        }

    -- the sum of two monomials is the monomial of the product
    pub product-wide-word : below 128 (product (wide_exponents o n x) (wide_exponents o n y)) ≡ true → x + y ≡ wide_of o vs (product (wide_exponents o n x) (wide_exponents o n y))
    product-wide-word t = sym (wide-word-exponents o n vs (x + y) fits (product-wide-layout t)) ∙ ap (wide_of o vs) product-wide-exponents

-- ---- divisibility, word by word
divides-append : (α β γ δ : List ℕ) → length α ≡ length β → divides (α ++ γ) (β ++ δ) ≡ (divides α β && divides γ δ)
divides-append [] [] γ δ h = refl
divides-append [] (b ∷ β) γ δ h = absurd (let z : ⊥ = omega arith in z)
divides-append (a ∷ α) [] γ δ h = absurd (let z : ⊥ = omega arith in z)
divides-append (a ∷ α) (b ∷ β) γ δ h = ap (λ (t : Bool). leb a b && t) (divides-append α β γ δ (omega arith)) ∙ sym (and_assoc (leb a b) (divides α β) (divides γ δ))

pub divides-halves : (y x : ℕ) → divides_wide y x ≡ (divides (bytes 6 (first_in y)) (bytes 6 (first_in x)) && divides (bytes 6 (second_in y)) (bytes 6 (second_in x)))
divides-halves y x = divides-append (bytes 6 (first_in y)) (bytes 6 (first_in x)) (bytes 6 (second_in y)) (bytes 6 (second_in x)) (length-bytes 6 (first_in y) ∙ sym (length-bytes 6 (first_in x)))

divides-low : (y x : ℕ) → divides (bytes 6 y) (bytes 6 x) ≡ true → low y ≤ low x
divides-low y x d = omega (arith, of_bytes_bytes 6 x, of_bytes_bytes 6 y, divides-bytes (bytes 6 y) (bytes 6 x) d (length-bytes 6 y ∙ sym (length-bytes 6 x)))

-- ---- x divided by y
module _ (o : Order) (n : ℕ) (vs : List ℕ) (x y : ℕ) (fits : n ≤ 12) (a : WideLayout o n vs x) (b : WideLayout o n vs y) (d : divides (wide_exponents o n y) (wide_exponents o n x) ≡ true) where
  both-divide : (divides (bytes 6 (first_in y)) (bytes 6 (first_in x)) ≡ true) × (divides (bytes 6 (second_in y)) (bytes 6 (second_in x)) ≡ true)
  both-divide = and_both (divides (bytes 6 (first_in y)) (bytes 6 (first_in x))) (divides (bytes 6 (second_in y)) (bytes 6 (second_in x))) (sym (divides-halves y x) ∙ (divides-wide o n vs y x fits b a ∙ d))

  degrees : weighted vs (quotient (wide_exponents o n x) (wide_exponents o n y)) + degree_in y ≡ degree_in x
  degrees =
      ap (λ (t : ℕ). weighted vs (quotient (wide_exponents o n x) (wide_exponents o n y)) + t) b.degree-is
      ∙ (weighted-quotient vs (wide_exponents o n y) (wide_exponents o n x) d (alike o n vs y x fits b a) ∙ sym a.degree-is)

  lower : low y ≤ low x
  lower = subst (λ (t : ℕ). t ≤ low x) (low_first y) (subst (λ (t : ℕ). low (first_in y) ≤ t) (low_first x) (divides-low (first_in y) (first_in x) both-divide.0))

  pub first-le : first_in y ≤ first_in x
  first-le = subst (λ (t : ℕ). t ≤ first_in x) (sym (first-parts y)) (subst (λ (t : ℕ). degree_in y * 2 ^ 48 + low y ≤ t) (sym (first-parts x)) (parts-le (degree_in y) (low y) (degree_in x) (low x) (omega (arith, degrees)) lower))
    where
      parts-le : (p q r s : ℕ) → p ≤ r → q ≤ s → p * 2 ^ 48 + q ≤ r * 2 ^ 48 + s
      parts-le p q r s h k = omega arith

  in-fields : (z : ℕ) → z / 2 ^ 64 < 2 ^ 48 → low (second_in z) ≡ z / 2 ^ 64
  in-fields z h = ap low (second-whole z (second_fits (z / 2 ^ 64) h)) ∙ mod-eq_of_lt h

  above-le : y / 2 ^ 64 ≤ x / 2 ^ 64
  above-le = subst (λ (t : ℕ). t ≤ x / 2 ^ 64) (in-fields y b.second-small) (subst (λ (t : ℕ). low (second_in y) ≤ t) (in-fields x a.second-small) (divides-low (second_in y) (second_in x) both-divide.1))

  whole-second : (z : ℕ) → z / 2 ^ 64 < 2 ^ 48 → second_in z ≡ z / 2 ^ 64
  whole-second z h = second-whole z (second_fits (z / 2 ^ 64) h)

  pub second-le : second_in y ≤ second_in x
  second-le = subst (λ (t : ℕ). t ≤ second_in x) (sym (whole-second y b.second-small)) (subst (λ (t : ℕ). y / 2 ^ 64 ≤ t) (sym (whole-second x a.second-small)) above-le)

  pub quotient-wide-le : y ≤ x
  quotient-wide-le = subst (λ (t : ℕ). t ≤ x) (pair-whole y) (subst (λ (t : ℕ). paired (first_in y) (y / 2 ^ 64) ≤ t) (pair-whole x) (pairs-le (first_in y) (y / 2 ^ 64) (first_in x) (x / 2 ^ 64) first-le above-le))
    where
      pairs-le : (p q r s : ℕ) → p ≤ r → q ≤ s → p + 2 ^ 64 * q ≤ r + 2 ^ 64 * s
      pairs-le p q r s h k = omega arith

  parts-taken : x - y ≡ paired (first_in x - first_in y) (x / 2 ^ 64 - y / 2 ^ 64)
  parts-taken = ap₂ (λ (p q : ℕ). p - q) (sym (pair-whole x)) (sym (pair-whole y)) ∙ take-away (first_in x) (x / 2 ^ 64) (first_in y) (y / 2 ^ 64) first-le above-le
    where
      take-away : (p q r s : ℕ) → r ≤ p → s ≤ q → p + 2 ^ 64 * q - (r + 2 ^ 64 * s) ≡ p - r + 2 ^ 64 * (q - s)
      take-away p q r s h k = omega arith

  first_fits : first_in x - first_in y < 2 ^ 64
  first_fits = less (first_in x) (first_in y) (mod-small x)
    where
      mod-small : (z : ℕ) → first_in z < 2 ^ 64
      mod-small z = omega arith

      less : (p q : ℕ) → p < 2 ^ 64 → p - q < 2 ^ 64
      less p q h = omega arith

  first_taken : first_in (x - y) ≡ first_in x - first_in y
  first_taken = ap first_in parts-taken ∙ first_of (first_in x - first_in y) (x / 2 ^ 64 - y / 2 ^ 64) first_fits

  above-taken : (x - y) / 2 ^ 64 ≡ x / 2 ^ 64 - y / 2 ^ 64
  above-taken = ap (λ (t : ℕ). t / 2 ^ 64) parts-taken ∙ above_of (first_in x - first_in y) (x / 2 ^ 64 - y / 2 ^ 64) first_fits

  taken-small : (x - y) / 2 ^ 64 < 2 ^ 48
  taken-small = subst (λ (t : ℕ). t < 2 ^ 48) (sym above-taken) (less (x / 2 ^ 64) (y / 2 ^ 64) a.second-small)
    where
      less : (p q : ℕ) → p < 2 ^ 48 → p - q < 2 ^ 48
      less p q h = omega arith

  second-taken : second_in (x - y) ≡ second_in x - second_in y
  second-taken = whole-second (x - y) taken-small ∙ (above-taken ∙ ap₂ (λ (p q : ℕ). p - q) (sym (whole-second x a.second-small)) (sym (whole-second y b.second-small)))

  half-difference : (u w : ℕ) → divides (bytes 6 w) (bytes 6 u) ≡ true → w ≤ u → fields o (u - w) ≡ quotient (fields o u) (fields o w)
  unfolding fields
  half-difference u w h l = ap (upward o) (bytes-sub 6 u w h l) ∙ sym (each-upward (λ i j. i - j) o (bytes 6 u) (bytes 6 w) (length-bytes 6 u ∙ sym (length-bytes 6 w)))

  fields-taken : wide_fields o (x - y) ≡ quotient (wide_fields o x) (wide_fields o y)
  fields-taken =
      ap₂ (λ (p q : ℕ). fields o p ++ fields o q) first_taken second-taken
      ∙ (ap₂ (λ (l m : List ℕ). l ++ m) (half-difference (first_in x) (first_in y) both-divide.0 first-le) (half-difference (second_in x) (second_in y) both-divide.1 second-le)
      ∙ sym (each_append (λ i j. i - j) (fields o (first_in x)) (fields o (first_in y)) (fields o (second_in x)) (fields o (second_in y)) (length_fields o (first_in x) ∙ sym (length_fields o (first_in y)))))

  -- the exponents of the difference are the differences of the exponents
  pub quotient-wide-exponents : wide_exponents o n (x - y) ≡ quotient (wide_exponents o n x) (wide_exponents o n y)
  quotient-wide-exponents = ap (take n) fields-taken ∙ sym (each_take (λ i j. i - j) n (wide_fields o x) (wide_fields o y))

  degree-taken : degree_in (x - y) ≡ weighted vs (quotient (wide_exponents o n x) (wide_exponents o n y))
  degree-taken =
      sym (high-first (x - y))
      ∙ (ap high (first_taken ∙ ap₂ (λ (p q : ℕ). p - q) (first-parts x) (first-parts y))
      ∙ no_borrow (degree_in x) (low x) (degree_in y) (low y) (weighted vs (quotient (wide_exponents o n x) (wide_exponents o n y))) (omega arith) lower degrees)
    where
      no_borrow : (p q r s t : ℕ) → q < 2 ^ 48 → s ≤ q → t + r ≡ p → high (p * 2 ^ 48 + q - (r * 2 ^ 48 + s)) ≡ t
      no_borrow p q r s t hq h e = omega arith

  pub quotient-wide-layout : WideLayout o n vs (x - y)
  quotient-wide-layout = record {
    degree-is = degree-taken ∙ ap (weighted vs) (sym quotient-wide-exponents);
    tops = subst (Below 128) (sym fields-taken) (zero-quotient 128 (wide_fields o x) (wide_fields o y) a.tops);
    beyond = subst (Below 1) (each-drop (λ i j. i - j) n (wide_fields o x) (wide_fields o y) ∙ ap (drop n) (sym fields-taken)) (zero-quotient 1 (drop n (wide_fields o x)) (drop n (wide_fields o y)) a.beyond);
    second-small = taken-small;
  }

  -- the difference of two monomials is the monomial of the quotient
  pub quotient-wide-word : x - y ≡ wide_of o vs (quotient (wide_exponents o n x) (wide_exponents o n y))
  quotient-wide-word = sym (wide-word-exponents o n vs (x - y) fits quotient-wide-layout) ∙ ap (wide_of o vs) quotient-wide-exponents

-- ---- multiplying monomials of the layout keeps their order, and the monomial 1 is 0
pub multiply-keeps-wide : (o : Order) (n : ℕ) (vs : List ℕ) (z x y : ℕ) → n ≤ 12 → Below 17 vs → WideLayout o n vs z → WideLayout o n vs x → WideLayout o n vs y → below 128 (product (wide_exponents o n z) (wide_exponents o n x)) ≡ true → below 128 (product (wide_exponents o n z) (wide_exponents o n y)) ≡ true → compare_words o (z + x) (z + y) ≡ compare_words o x y
multiply-keeps-wide o n vs z x y h u c a b fx fy =
    compare-wide o n vs (z + x) (z + y) h (product-wide-layout o n vs z x h c a u fx) (product-wide-layout o n vs z y h c b u fy)
    ∙ (ap₂ (compare_in o vs) (product-wide-exponents o n vs z x h c a u) (product-wide-exponents o n vs z y h c b u)
    ∙ (product-keeps o vs (wide_exponents o n z) (wide_exponents o n x) (wide_exponents o n y) (alike o n vs z x h c a) (alike o n vs z y h c b) ∙ sym (compare-wide o n vs x y h a b)))

six-zeros : (l : List ℕ) → length l ≤ 6 → Below 1 l → six l ≡ one 6
six-zeros l h u = zeros (six l) (six-below 0 l u) ∙ ap one (length-six l h)

pub wide-one : (o : Order) (n : ℕ) (vs : List ℕ) → n ≤ 12 → wide_of o vs (one n) ≡ 0
unfolding wide_of
wide-one o n vs h =
    let u = true_below 1 (one n) (below-zeros 0 n) in
    ap₂ (λ (l m : List ℕ). paired (weighted vs (one n) * 2 ^ 48 + of_bytes (upward o l)) (of_bytes (upward o m))) (six-zeros (take 6 (one n)) (short-take (one n)) (below-take 1 6 (one n) u)) (six-zeros (drop 6 (one n)) (short-drop (one n) (omega (arith, length-replicate {A = ℕ} n 0))) (below-drop 1 6 (one n) u))
    ∙ (ap₂ (λ (d f : ℕ). paired (d * 2 ^ 48 + f) (of_bytes (upward o (one 6)))) (weighted-zeros vs n) (none o) ∙ ap (λ (f : ℕ). paired (0 * 2 ^ 48 + 0) f) (none o))
  where
    none : (q : Order) → of_bytes (upward q (one 6)) ≡ 0
    none Lex = refl
    none DegLex = refl
    none DegRevLex = refl

-- what the quotient of two words asks
pub words-le : (o : Order) (n : ℕ) (vs : List ℕ) (a b c d : ℕ) → a < 2 ^ 64 → b < 2 ^ 64 → c < 2 ^ 64 → d < 2 ^ 64 → n ≤ 12 → WideLayout o n vs (paired a b) → WideLayout o n vs (paired c d) → divides_wide (paired c d) (paired a b) ≡ true → (c ≤ a) × (d ≤ b)
words-le o n vs a b c d ha hb hc hd h i j e =
    let t = sym (divides-wide o n vs (paired c d) (paired a b) h j i) ∙ e in
    let f = first-le o n vs (paired a b) (paired c d) h i j t in
    let s = second-le o n vs (paired a b) (paired c d) h i j t in
    (subst (λ (w : ℕ). w ≤ a) (first_of c d hc) (subst (λ (w : ℕ). first_in (paired c d) ≤ w) (first_of a b ha) f), subst (λ (w : ℕ). w ≤ b) (second-of c d hc hd) (subst (λ (w : ℕ). second_in (paired c d) ≤ w) (second-of a b ha hb) s))
