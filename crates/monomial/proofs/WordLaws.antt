-- Divisibility, quotient and product of words of the layout are those of their exponents. Assumes nothing.
use mathlib.Core.Path.{◌≡◌, refl, sym, ap, ap₂, ◌∙◌, subst}
use mathlib.Core.Bool.{Bool, true, ◌&&◌, and-true}
use mathlib.Core.List.{List, [], ◌∷◌, ◌++◌}
use Prim.Native.Nat.{ℕ, ◌+◌, ◌-◌, ◌*◌, ◌/◌, ◌^◌, ◌<◌, ◌≤◌}
use native.Mathlib.Nat.{pow-suc, mul-add}
use native.Mathlib.Omega.{arith}
use borrow.Author.Tests.{leb-true}
use lib.Dec.{leb, lit≤}
use lib.ListN.{length, take, drop, length-replicate, replicate-append-replicate, take-append-drop}
use Rattle.monomial.specs.declared.order.Order.{Order}
use Rattle.monomial.specs.declared.order.Order.TheVariants.{Lex, DegLex, DegRevLex}
use Rattle.monomial.specs.Exponents.{weighted, each, product, quotient, one, divides, compare_in}
use Rattle.monomial.specs.Layout.{bytes, of_bytes, six, upward, word_of, fields, exponents, Below, below, Layout}
use Rattle.monomial.specs.Words.{low, divides_word, compare_words}
use Rattle.monomial.proofs.OrderLaws.{weighted-product, product-keeps}
use Rattle.monomial.proofs.Places.{each_take, each-drop, each-upward, below-upward, below-append, below_true, true_below, and_both, divides-each, Below-more, weighted-zeros}
use Rattle.monomial.proofs.ByteLaws.{length-bytes, of_bytes_bytes, bytes-add, bytes-sub}
use Rattle.monomial.proofs.LayoutLaws.{length-exponents, word-exponents, layout-tops}
use Rattle.monomial.proofs.KeyLaws.{compare-layout}

-- ---- lists of small numbers
pub below_split : (k n : ℕ) (α : List ℕ) → below k α ≡ (below k (take n α) && below k (drop n α))
below_split k n α = ap (below k) (sym (take-append-drop n α)) ∙ below-append k (take n α) (drop n α)

pub zero-quotient : (k : ℕ) (α β : List ℕ) → Below k α → Below k (quotient α β)
zero-quotient k [] β u = tt
zero-quotient k (a ∷ α) [] u = tt
zero-quotient k (a ∷ α) (b ∷ β) u = (let h : a - b < k = omega (arith, u.0) in h, zero-quotient k α β u.1)

pub zero-product : (α β : List ℕ) → Below 1 α → Below 1 β → Below 1 (product α β)
zero-product [] β u v = tt
zero-product (a ∷ α) [] u v = tt
zero-product (a ∷ α) (b ∷ β) u v = (let h : a + b < 1 = omega (arith, u.0, v.0) in h, zero-product α β u.1 v.1)

-- numbers of bytes below 128 leave room for a sum
of_bytes-half : (bs : List ℕ) → Below 128 bs → 255 * of_bytes bs + 127 ≤ 127 * 256 ^ length bs
of_bytes-half [] u = lit≤ tt
of_bytes-half (b ∷ bs) u = omega (arith, u.0, of_bytes-half bs u.1, pow-suc 256 (length bs))

pub low_half : (w : ℕ) → Below 128 (bytes 6 w) → low w < 2 ^ 47
low_half w u =
    let h : 255 * of_bytes (bytes 6 w) + 127 ≤ 127 * 256 ^ 6 = subst (λ (k : ℕ). 255 * of_bytes (bytes 6 w) + 127 ≤ 127 * 256 ^ k) (length-bytes 6 w) (of_bytes-half (bytes 6 w) u) in
    omega (arith, of_bytes_bytes 6 w)

-- ---- what divides is no larger as bytes, and the degree of a quotient is the difference
pub divides-bytes : (β α : List ℕ) → divides β α ≡ true → length β ≡ length α → of_bytes β ≤ of_bytes α
divides-bytes [] [] h l = lit≤ tt
divides-bytes [] (a ∷ α) h l = absurd (let z : ⊥ = omega arith in z)
divides-bytes (b ∷ β) [] h l = absurd (let z : ⊥ = omega arith in z)
divides-bytes (b ∷ β) (a ∷ α) h l =
    let e = and_both (leb b a) (divides β α) h in
    let r = divides-bytes β α e.1 (omega arith) in
    let m : b ≤ a = leb-true b a e.0 in
    omega arith

pub weighted-quotient : (vs β α : List ℕ) → divides β α ≡ true → length β ≡ length α → weighted vs (quotient α β) + weighted vs β ≡ weighted vs α
weighted-quotient [] β α h l = refl
weighted-quotient (v ∷ vs) [] [] h l = refl
weighted-quotient (v ∷ vs) [] (a ∷ α) h l = absurd (let z : ⊥ = omega arith in z)
weighted-quotient (v ∷ vs) (b ∷ β) [] h l = absurd (let z : ⊥ = omega arith in z)
weighted-quotient (v ∷ vs) (b ∷ β) (a ∷ α) h l =
    let e = and_both (leb b a) (divides β α) h in
    let r = weighted-quotient vs β α e.1 (omega arith) in
    let m : b ≤ a = leb-true b a e.0 in
    let s : v * a ≡ v * (a - b) + v * b = ap (λ (k : ℕ). v * k) (let q : a ≡ a - b + b = omega arith in q) ∙ mul-add v (a - b) b in
    omega arith

module _ (o : Order) (n : ℕ) (vs : List ℕ) (x y : ℕ) (fits : n ≤ 6) (a : Layout o n vs x) (b : Layout o n vs y) where
  long : length (bytes 6 x) ≡ length (bytes 6 y)
  long = length-bytes 6 x ∙ sym (length-bytes 6 y)

  alike : length (exponents o n x) ≡ length (exponents o n y)
  alike = length-exponents o n x fits ∙ sym (length-exponents o n y fits)

  -- a test of each field is a test of each exponent, if it holds of the fields beyond n
  by-exponents : (k : ℕ) (f : ℕ → ℕ → ℕ) → Below k (each f (drop n (fields o x)) (drop n (fields o y))) → below k (each f (bytes 6 x) (bytes 6 y)) ≡ below k (each f (exponents o n x) (exponents o n y))
  unfolding fields
  by-exponents k f u =
      sym (below-upward k o (each f (bytes 6 x) (bytes 6 y)))
      ∙ (ap (below k) (sym (each-upward f o (bytes 6 x) (bytes 6 y) long))
      ∙ (below_split k n (each f (fields o x) (fields o y))
      ∙ (ap₂ (λ (l m : List ℕ). below k l && below k m) (sym (each_take f n (fields o x) (fields o y))) (sym (each-drop f n (fields o x) (fields o y)))
      ∙ (ap (λ (t : Bool). below k (each f (exponents o n x) (exponents o n y)) && t) (below_true k (each f (drop n (fields o x)) (drop n (fields o y))) u)
      ∙ and-true (below k (each f (exponents o n x) (exponents o n y)))))))

  -- x divides y as words exactly where it does by exponents
  pub divides-layout : divides_word x y ≡ divides (exponents o n x) (exponents o n y)
  divides-layout =
      divides-each (bytes 6 x) (bytes 6 y) long
      ∙ (by-exponents 1 (λ i j. i - j) (zero-quotient 1 (drop n (fields o x)) (drop n (fields o y)) a.beyond) ∙ sym (divides-each (exponents o n x) (exponents o n y) alike))

  -- no exponent of the product is over 127: by words, and by exponents
  pub product-test : below 128 (product (bytes 6 x) (bytes 6 y)) ≡ below 128 (product (exponents o n x) (exponents o n y))
  product-test =
      by-exponents 128 (λ i j. i + j)
      (Below-more 1 128 (product (drop n (fields o x)) (drop n (fields o y))) (omega arith) (zero-product (drop n (fields o x)) (drop n (fields o y)) a.beyond b.beyond))

  fields-sum : fields o (x + y) ≡ product (fields o x) (fields o y)
  unfolding fields
  fields-sum = ap (upward o) (bytes-add 6 x y (layout-tops o n vs x fits a) (layout-tops o n vs y fits b)) ∙ sym (each-upward (λ i j. i + j) o (bytes 6 x) (bytes 6 y) long)

  -- the exponents of the sum of two words are the sums of their exponents
  pub product-exponents : exponents o n (x + y) ≡ product (exponents o n x) (exponents o n y)
  product-exponents = ap (take n) fields-sum ∙ sym (each_take (λ i j. i + j) n (fields o x) (fields o y))

  fields-small : below 128 (product (exponents o n x) (exponents o n y)) ≡ true → Below 128 (product (fields o x) (fields o y))
  unfolding fields
  fields-small t =
      true_below 128 (product (fields o x) (fields o y))
      (ap (below 128) (each-upward (λ i j. i + j) o (bytes 6 x) (bytes 6 y) long) ∙ (below-upward 128 o (product (bytes 6 x) (bytes 6 y)) ∙ (product-test ∙ t)))

  pub product-layout : below 128 (product (exponents o n x) (exponents o n y)) ≡ true → Layout o n vs (x + y)
  product-layout t = record {
    degree-is =
        let s : (x + y) / 2 ^ 48 ≡ x / 2 ^ 48 + y / 2 ^ 48 = omega (arith, low_half x (layout-tops o n vs x fits a), low_half y (layout-tops o n vs y fits b)) in
        s ∙ (ap₂ (λ (i j : ℕ). i + j) a.degree-is b.degree-is ∙ (sym (weighted-product vs (exponents o n x) (exponents o n y) alike) ∙ ap (weighted vs) (sym product-exponents)));
    tops = subst (Below 128) (sym fields-sum) (fields-small t);
    beyond = subst (Below 1) (each-drop (λ i j. i + j) n (fields o x) (fields o y) ∙ ap (drop n) (sym fields-sum)) (zero-product (drop n (fields o x)) (drop n (fields o y)) a.beyond b.beyond);
  }

  -- the sum of two words is the word of the product
  pub product-word : below 128 (product (exponents o n x) (exponents o n y)) ≡ true → x + y ≡ word_of o vs (product (exponents o n x) (exponents o n y))
  product-word t = sym (word-exponents o n vs (x + y) fits (product-layout t)) ∙ ap (word_of o vs) product-exponents

-- ---- x divided by y
module _ (o : Order) (n : ℕ) (vs : List ℕ) (x y : ℕ) (fits : n ≤ 6) (a : Layout o n vs x) (b : Layout o n vs y) (d : divides (exponents o n y) (exponents o n x) ≡ true) where
  by-words : divides_word y x ≡ true
  by-words = divides-layout o n vs y x fits b a ∙ d

  lower : low y ≤ low x
  lower = omega (arith, of_bytes_bytes 6 x, of_bytes_bytes 6 y, divides-bytes (bytes 6 y) (bytes 6 x) by-words (length-bytes 6 y ∙ sym (length-bytes 6 x)))

  degrees : weighted vs (quotient (exponents o n x) (exponents o n y)) + weighted vs (exponents o n y) ≡ weighted vs (exponents o n x)
  degrees = weighted-quotient vs (exponents o n y) (exponents o n x) d (length-exponents o n y fits ∙ sym (length-exponents o n x fits))

  pub quotient_le : y ≤ x
  quotient_le = omega (arith, lower, degrees, a.degree-is, b.degree-is)

  fields-difference : fields o (x - y) ≡ quotient (fields o x) (fields o y)
  unfolding fields
  fields-difference = ap (upward o) (bytes-sub 6 x y by-words quotient_le) ∙ sym (each-upward (λ i j. i - j) o (bytes 6 x) (bytes 6 y) (length-bytes 6 x ∙ sym (length-bytes 6 y)))

  -- the exponents of the difference of two words are the differences of their exponents
  pub quotient-exponents : exponents o n (x - y) ≡ quotient (exponents o n x) (exponents o n y)
  quotient-exponents = ap (take n) fields-difference ∙ sym (each_take (λ i j. i - j) n (fields o x) (fields o y))

  pub quotient-layout : Layout o n vs (x - y)
  quotient-layout = record {
    degree-is =
        let s : (x - y) / 2 ^ 48 ≡ weighted vs (quotient (exponents o n x) (exponents o n y)) = omega (arith, lower, degrees, a.degree-is, b.degree-is) in
        s ∙ ap (weighted vs) (sym quotient-exponents);
    tops = subst (Below 128) (sym fields-difference) (zero-quotient 128 (fields o x) (fields o y) a.tops);
    beyond = subst (Below 1) (each-drop (λ i j. i - j) n (fields o x) (fields o y) ∙ ap (drop n) (sym fields-difference)) (zero-quotient 1 (drop n (fields o x)) (drop n (fields o y)) a.beyond);
  }

  -- the difference of two words is the word of the quotient
  pub quotient-word : x - y ≡ word_of o vs (quotient (exponents o n x) (exponents o n y))
  quotient-word = sym (word-exponents o n vs (x - y) fits quotient-layout) ∙ ap (word_of o vs) quotient-exponents

-- ---- multiplying words of the layout keeps their order, and the word of 1 is 0
pub multiply-keeps : (o : Order) (n : ℕ) (vs : List ℕ) (z x y : ℕ) → n ≤ 6 → Below 17 vs → Layout o n vs z → Layout o n vs x → Layout o n vs y → below 128 (product (exponents o n z) (exponents o n x)) ≡ true → below 128 (product (exponents o n z) (exponents o n y)) ≡ true → compare_words o (z + x) (z + y) ≡ compare_words o x y
multiply-keeps o n vs z x y h u c a b fx fy =
    compare-layout o n vs (z + x) (z + y) h u (product-layout o n vs z x h c a fx) (product-layout o n vs z y h c b fy)
    ∙ (ap₂ (compare_in o vs) (product-exponents o n vs z x h c a) (product-exponents o n vs z y h c b)
    ∙ (product-keeps o vs (exponents o n z) (exponents o n x) (exponents o n y) (alike o n vs z x h c a) (alike o n vs z y h c b) ∙ sym (compare-layout o n vs x y h u a b)))

pub six-ones : (n : ℕ) → n ≤ 6 → six (one n) ≡ one 6
six-ones n h =
    ap (λ (k : ℕ). one n ++ one (6 - k)) (length-replicate n 0)
    ∙ (replicate-append-replicate n (6 - n) 0 ∙ ap one (let e : n + (6 - n) ≡ 6 = omega arith in e))

pub word-one : (o : Order) (n : ℕ) (vs : List ℕ) → n ≤ 6 → word_of o vs (one n) ≡ 0
unfolding word_of
word-one o n vs h = ap₂ (λ (d f : ℕ). d * 2 ^ 48 + f) (weighted-zeros vs n) (ap (λ (l : List ℕ). of_bytes (upward o l)) (six-ones n h) ∙ none o)
  where
    none : (q : Order) → of_bytes (upward q (one 6)) ≡ 0
    none Lex = refl
    none DegLex = refl
    none DegRevLex = refl
