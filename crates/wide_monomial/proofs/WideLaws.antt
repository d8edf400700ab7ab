-- Monomials of two words and their exponents: each is got back from the other, and the test of the layout decides the layout. Assumes nothing.
use mathlib.Core.Path.{◌≡◌, sym, ap, ap₂, ◌∙◌, subst}
use mathlib.Core.Bool.{true, ◌&&◌}
use mathlib.Core.List.{List, ◌++◌}
use Prim.Native.Nat.{ℕ, ◌+◌, ◌-◌, ◌*◌, ◌/◌, ◌%◌, ◌^◌, ◌<◌, ◌≤◌}
use native.Mathlib.Nat.{mod-eq_of_lt}
use native.Mathlib.Omega.{arith}
use borrow.Author.Tests.{eq-eqb, eqb-true, lt-ltb, ltb-true}
use lib.Dec.{ltb, eqb}
use lib.ListN.{length, take, drop, replicate, length-append, length-drop, take-append-drop}
use lib.Seq.{take_at, drop_at, length-take-le}
use Rattle.monomial.specs.declared.order.Order.{Order}
use Rattle.monomial.specs.Exponents.{weighted}
use Rattle.monomial.specs.Layout.{bytes, of_bytes, six, upward, fields, Below, below}
use Rattle.monomial.specs.Words.{low, degree_in, first_in, second_in}
use Rattle.monomial.proofs.Places.{upward-upward, length-upward, below-upward, below_true, true_below, and_both, below-zeros, zeros, Below-more}
use Rattle.monomial.proofs.ByteLaws.{of_bytes_bytes, bytes_of}
use Rattle.monomial.proofs.LayoutLaws.{length-six, six-below, lying-lt, length_fields, below-take, weighted-bound}
use Rattle.monomial.proofs.KeyLaws.{low-is, high_is, first_part}
use Rattle.wide_monomial.specs.Wide.{paired, wide_of, wide_fields, wide_exponents, WideLayout, in_wide}
use Rattle.wide_monomial.proofs.Parts.{first_of, above_of, second-of, second_fits, low_first, below-drop, both_below, twelve, short-take, short-drop, halves}

-- ---- lengths
pub length-wide : (o : Order) (x : ℕ) → length (wide_fields o x) ≡ 12
length-wide o x = length-append (fields o (first_in x)) (fields o (second_in x)) ∙ ap₂ (λ (a b : ℕ). a + b) (length_fields o (first_in x)) (length_fields o (second_in x))

pub length-wide-exponents : (o : Order) (n x : ℕ) → n ≤ 12 → length (wide_exponents o n x) ≡ n
length-wide-exponents o n x h = length-take-le n (wide_fields o x) (omega (arith, length-wide o x))

-- ---- six fields in a word, under anything
fields-placed : (o : Order) (d : ℕ) (β : List ℕ) → length β ≤ 6 → Below 256 β → fields o (d * 2 ^ 48 + of_bytes (upward o (six β))) ≡ six β
unfolding fields
fields-placed o d β h u =
    ap (λ (m : ℕ). upward o (bytes 6 m)) (let e : d * 2 ^ 48 + of_bytes (upward o (six β)) ≡ of_bytes (upward o (six β)) + 256 ^ 6 * d = omega arith in e)
    ∙ (ap (upward o) (bytes_of 6 (upward o (six β)) d (length-upward o (six β) ∙ length-six β h) (true_below 256 (upward o (six β)) (below-upward 256 o (six β) ∙ below_true 256 (six β) (six-below 255 β u))))
    ∙ upward-upward o (six β))

-- the fields of a word as a number
pub fields-number : (o : Order) (w : ℕ) → of_bytes (upward o (fields o w)) ≡ low w
unfolding fields
fields-number o w = ap of_bytes (upward-upward o (bytes 6 w)) ∙ of_bytes_bytes 6 w

-- ---- what lies in the parts of a number that holds the exponents α
pub record Holds (o : Order) (vs α : List ℕ) (x : ℕ) : Type 0 where
  pub fields-are : low x ≡ of_bytes (upward o (six (take 6 α)))
  pub second_is : x / 2 ^ 64 ≡ of_bytes (upward o (six (drop 6 α)))
  pub degree-is : degree_in x ≡ weighted vs α

pub holds-word : (o : Order) (vs α : List ℕ) (x : ℕ) → Holds o vs α x → x ≡ wide_of o vs α
unfolding wide_of
holds-word o vs α x h =
    let e : x ≡ degree_in x * 2 ^ 48 + low x + 2 ^ 64 * (x / 2 ^ 64) = omega arith in
    e ∙ ap₂ paired (ap₂ (λ (d l : ℕ). d * 2 ^ 48 + l) h.degree-is h.fields-are) h.second_is

-- 12 · 2032 < 2^16
pub degree-fits : (vs α : List ℕ) → Below 17 vs → Below 128 α → length α ≤ 12 → weighted vs α < 2 ^ 15
degree-fits vs α u t h = omega (arith, weighted-bound vs α u t)

module _ (o : Order) (vs α : List ℕ) (fits : length α ≤ 12) (small : Below 256 α) (room : weighted vs α < 2 ^ 16) where
  front-lt : of_bytes (upward o (six (take 6 α))) < 2 ^ 48
  front-lt = lying-lt o vs (take 6 α) (short-take α) (below-take 256 6 α small)

  pub back-lt : of_bytes (upward o (six (drop 6 α))) < 2 ^ 48
  back-lt = lying-lt o vs (drop 6 α) (short-drop α fits) (below-drop 256 6 α small)

  first_word : ℕ
  first_word = weighted vs α * 2 ^ 48 + of_bytes (upward o (six (take 6 α)))

  first-lt : first_word < 2 ^ 64
  unfolding first_word
  first-lt = below_top (weighted vs α) (of_bytes (upward o (six (take 6 α)))) room front-lt
    where
      below_top : (d l : ℕ) → d < 2 ^ 16 → l < 2 ^ 48 → d * 2 ^ 48 + l < 2 ^ 64
      below_top d l hd hl = omega arith

  pub word_holds : Holds o vs α (wide_of o vs α)
  unfolding wide_of first_word
  word_holds =
      let s = of_bytes (upward o (six (drop 6 α))) in
      let p = first_part first_word s in
      record {
        fields-are = p.0 ∙ low-is (weighted vs α) (of_bytes (upward o (six (take 6 α)))) front-lt;
        second_is = above_of first_word s first-lt;
        degree-is = p.2 ∙ (ap (λ (h : ℕ). h % 2 ^ 16) (high_is (weighted vs α) (of_bytes (upward o (six (take 6 α)))) front-lt) ∙ mod-eq_of_lt room);
      }

  wide-fields-word : wide_fields o (wide_of o vs α) ≡ twelve α
  unfolding wide_of first_word
  wide-fields-word =
      let s = of_bytes (upward o (six (drop 6 α))) in
      ap₂ (λ (a b : ℕ). fields o a ++ fields o b) (first_of first_word s first-lt) (second-of first_word s first-lt (second_fits s back-lt) ∙ (let e : s ≡ 0 * 2 ^ 48 + s = omega arith in e))
      ∙ (ap₂ (λ (l m : List ℕ). l ++ m) (fields-placed o (weighted vs α) (take 6 α) (short-take α) (below-take 256 6 α small)) (fields-placed o 0 (drop 6 α) (short-drop α fits) (below-drop 256 6 α small)) ∙ halves α fits)

-- ---- the exponents of the monomial of exponents
module _ (o : Order) (n : ℕ) (vs α : List ℕ) (long : length α ≡ n) (fits : n ≤ 12) (room : weighted vs α < 2 ^ 16) where
  pub wide-exponents-word : Below 256 α → wide_exponents o n (wide_of o vs α) ≡ α
  wide-exponents-word u = ap (take n) (wide-fields-word o vs α (omega arith) u room) ∙ take_at α (replicate (12 - length α) 0) n long

  wide-beyond-word : Below 256 α → drop n (wide_fields o (wide_of o vs α)) ≡ replicate (12 - length α) 0
  wide-beyond-word u = ap (drop n) (wide-fields-word o vs α (omega arith) u room) ∙ drop_at α (replicate (12 - length α) 0) n long

  pub wide-layout-word : Below 128 α → WideLayout o n vs (wide_of o vs α)
  wide-layout-word u =
      let u' = Below-more 128 256 α (omega arith) u in
      let holds = word_holds o vs α (omega arith) u' room in
      record {
        degree-is = holds.degree-is ∙ ap (weighted vs) (sym (wide-exponents-word u'));
        tops = subst (Below 128) (sym (wide-fields-word o vs α (omega arith) u' room)) (both_below 128 α (replicate (12 - length α) 0) u (true_below 128 (replicate (12 - length α) 0) (below-zeros 127 (12 - length α))));
        beyond = subst (Below 1) (sym (wide-beyond-word u')) (true_below 1 (replicate (12 - length α) 0) (below-zeros 0 (12 - length α)));
        second-small = subst (λ (t : ℕ). t < 2 ^ 48) (sym holds.second_is) (back-lt o vs α (omega arith) u' room);
      }

-- ---- the monomial of the exponents of a monomial
module _ (o : Order) (n : ℕ) (vs : List ℕ) (x : ℕ) (fits : n ≤ 12) (is : WideLayout o n vs x) where
  pub wide-exponents-small : Below 128 (wide_exponents o n x)
  wide-exponents-small = below-take 128 n (wide_fields o x) is.tops

  rest-zeros : drop n (wide_fields o x) ≡ replicate (12 - n) 0
  rest-zeros = zeros (drop n (wide_fields o x)) is.beyond ∙ ap (λ (k : ℕ). replicate k 0) (length-drop n (wide_fields o x) ∙ ap (λ (k : ℕ). k - n) (length-wide o x))

  twelve-exponents : twelve (wide_exponents o n x) ≡ wide_fields o x
  twelve-exponents =
      ap (λ (k : ℕ). wide_exponents o n x ++ replicate (12 - k) 0) (length-wide-exponents o n x fits)
      ∙ (ap (λ (l : List ℕ). wide_exponents o n x ++ l) (sym rest-zeros) ∙ take-append-drop n (wide_fields o x))

  few : length (wide_exponents o n x) ≤ 12
  few = omega (arith, length-wide-exponents o n x fits)

  split : six (take 6 (wide_exponents o n x)) ++ six (drop 6 (wide_exponents o n x)) ≡ fields o (first_in x) ++ fields o (second_in x)
  split = halves (wide_exponents o n x) few ∙ twelve-exponents

  six-front : length (six (take 6 (wide_exponents o n x))) ≡ 6
  six-front = length-six (take 6 (wide_exponents o n x)) (short-take (wide_exponents o n x))

  front : six (take 6 (wide_exponents o n x)) ≡ fields o (first_in x)
  front =
      sym (take_at (six (take 6 (wide_exponents o n x))) (six (drop 6 (wide_exponents o n x))) 6 six-front)
      ∙ (ap (take 6) split ∙ take_at (fields o (first_in x)) (fields o (second_in x)) 6 (length_fields o (first_in x)))

  back : six (drop 6 (wide_exponents o n x)) ≡ fields o (second_in x)
  back =
      sym (drop_at (six (take 6 (wide_exponents o n x))) (six (drop 6 (wide_exponents o n x))) 6 six-front)
      ∙ (ap (drop 6) split ∙ drop_at (fields o (first_in x)) (fields o (second_in x)) 6 (length_fields o (first_in x)))

  pub layout-holds : Holds o vs (wide_exponents o n x) x
  layout-holds = record {
    fields-are = sym (ap (λ (l : List ℕ). of_bytes (upward o l)) front ∙ (fields-number o (first_in x) ∙ low_first x));
    second_is = sym (ap (λ (l : List ℕ). of_bytes (upward o l)) back ∙ (fields-number o (second_in x) ∙ (ap low (mod-eq_of_lt (second_fits (x / 2 ^ 64) is.second-small)) ∙ mod-eq_of_lt is.second-small)));
    degree-is = is.degree-is;
  }

  pub wide-word-exponents : wide_of o vs (wide_exponents o n x) ≡ x
  wide-word-exponents = sym (holds-word o vs (wide_exponents o n x) x layout-holds)

-- ---- the test
module _ (o : Order) (n : ℕ) (vs : List ℕ) (x : ℕ) where
  pub wide-layout-test : WideLayout o n vs x → in_wide o n vs x ≡ true
  unfolding in_wide
  wide-layout-test is =
      ap₂ ◌&&◌ (below_true 128 (wide_fields o x) is.tops)
      (ap₂ ◌&&◌ (below_true 1 (drop n (wide_fields o x)) is.beyond)
      (ap₂ ◌&&◌ (lt-ltb (x / 2 ^ 64) (2 ^ 48) is.second-small) (eq-eqb (degree_in x) (weighted vs (wide_exponents o n x)) is.degree-is)))

  pub test-wide-layout : in_wide o n vs x ≡ true → WideLayout o n vs x
  unfolding in_wide
  test-wide-layout h =
      let last = eqb (degree_in x) (weighted vs (wide_exponents o n x)) in
      let third = ltb (x / 2 ^ 64) (2 ^ 48) && last in
      let a = and_both (below 128 (wide_fields o x)) (below 1 (drop n (wide_fields o x)) && third) h in
      let b = and_both (below 1 (drop n (wide_fields o x))) third a.1 in
      let c = and_both (ltb (x / 2 ^ 64) (2 ^ 48)) last b.1 in
      record {
        degree-is = eqb-true (degree_in x) (weighted vs (wide_exponents o n x)) c.1;
        tops = true_below 128 (wide_fields o x) a.0;
        beyond = true_below 1 (drop n (wide_fields o x)) b.0;
        second-small = ltb-true (x / 2 ^ 64) (2 ^ 48) c.0;
      }
