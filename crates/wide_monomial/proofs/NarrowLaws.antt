-- In at most six variables the second word is 0, and two words are one: words, layout and exponents are the same numbers. Assumes nothing.
use mathlib.Core.Path.{◌≡◌, refl, sym, ap, ap₂, ◌∙◌, subst}
use mathlib.Core.List.{List, [], ◌∷◌, ◌++◌}
use Prim.Native.Nat.{ℕ, zero, suc, ◌+◌, ◌*◌, ◌/◌, ◌%◌, ◌^◌, ◌<◌, ◌≤◌, compare}
use native.Mathlib.Nat.{add-zero, mod-eq_of_lt}
use native.Mathlib.Omega.{arith}
use lib.Dec.{lit<}
use lib.ListN.{length, take, drop, drop_of_length-le}
use lib.Seq.{take_all, take-append-le, drop-append-le}
use Rattle.monomial.specs.declared.order.Order.{Order}
use Rattle.monomial.specs.declared.order.Order.TheVariants.{Lex, DegLex, DegRevLex}
use Rattle.monomial.specs.Exponents.{weighted, or_else, lex, rev_lex, compare_in}
use Rattle.monomial.specs.Layout.{bytes, of_bytes, six, upward, word_of, fields, exponents, Below, Layout}
use Rattle.monomial.specs.Words.{degree_in, first_in, second_in}
use Rattle.monomial.proofs.OrderLaws.{no_second}
use Rattle.monomial.proofs.Places.{true_below, weighted-none, Below-more}
use Rattle.monomial.proofs.LayoutLaws.{length_fields, length-exponents, below-fields}
use Rattle.wide_monomial.specs.Wide.{paired, wide_of, wide_fields, wide_exponents, WideLayout}
use Rattle.wide_monomial.proofs.Parts.{below_both, both_below}
use Rattle.wide_monomial.proofs.WideLaws.{layout-holds, length-wide-exponents}

no-exponents : (o : Order) → of_bytes (upward o (six [])) ≡ 0
no-exponents Lex = refl
no-exponents DegLex = refl
no-exponents DegRevLex = refl

-- the monomial of at most six exponents
pub narrow-word : (o : Order) (vs α : List ℕ) → length α ≤ 6 → wide_of o vs α ≡ word_of o vs α
unfolding wide_of word_of
narrow-word o vs α h =
    ap₂ (λ (l m : List ℕ). paired (weighted vs α * 2 ^ 48 + of_bytes (upward o (six l))) (of_bytes (upward o (six m)))) (take_all 6 α h) (drop_of_length-le α {i = 6} h)
    ∙ (ap (paired (weighted vs α * 2 ^ 48 + of_bytes (upward o (six α)))) (no-exponents o) ∙ add-zero (weighted vs α * 2 ^ 48 + of_bytes (upward o (six α))))

-- of twelve weights the first six count
pub narrow-weights : (k : ℕ) (vs α : List ℕ) → length α ≤ k → weighted (take k vs) α ≡ weighted vs α
narrow-weights zero vs [] h = sym (weighted-none vs)
narrow-weights zero vs (a ∷ α) h = absurd (let z : ⊥ = omega arith in z)
narrow-weights (suc k) [] α h = refl
narrow-weights (suc k) (v ∷ vs) [] h = refl
narrow-weights (suc k) (v ∷ vs) (a ∷ α) h = ap (λ (m : ℕ). v * a + m) (narrow-weights k vs α (omega arith))

module _ (o : Order) (n : ℕ) (vs : List ℕ) (x : ℕ) (few : n ≤ 6) where
  -- ---- two words of the layout are one
  pub narrow-small : WideLayout o n vs x → x < 2 ^ 64
  narrow-small is =
      let α = wide_exponents o n x in
      let none : drop 6 α ≡ [] = drop_of_length-le α {i = 6} (omega (arith, length-wide-exponents o n x (omega arith))) in
      let e = (layout-holds o n vs x (omega arith) is).second_is ∙ (ap (λ (l : List ℕ). of_bytes (upward o (six l))) none ∙ no-exponents o) in
      omega arith

  module _ (small : x < 2 ^ 64) where
    first-is : first_in x ≡ x
    first-is = mod-eq_of_lt small

    second_is : second_in x ≡ 0
    second_is = ap (λ (t : ℕ). t % 2 ^ 64) (no_second x small)

    within : n ≤ length (fields o (first_in x))
    within = omega (arith, length_fields o (first_in x))

    pub narrow-exponents : wide_exponents o n x ≡ exponents o n x
    narrow-exponents = take-append-le n (fields o (first_in x)) (fields o (second_in x)) within ∙ ap (λ (w : ℕ). take n (fields o w)) first-is

    degrees : x / 2 ^ 48 ≡ degree_in x
    degrees = sym (mod-eq_of_lt (let h : x / 2 ^ 48 < 2 ^ 16 = omega arith in h))

    ends : drop n (wide_fields o x) ≡ drop n (fields o x) ++ fields o (second_in x)
    ends = drop-append-le n (fields o (first_in x)) (fields o (second_in x)) within ∙ ap (λ (w : ℕ). drop n (fields o w) ++ fields o (second_in x)) first-is

    no_fields : Below 1 (fields o (second_in x))
    unfolding bytes
    no_fields = subst (λ (w : ℕ). Below 1 (fields o w)) (sym second_is) (true_below 1 (fields o 0) (below-fields 1 o 0))

    pub narrow-layout : WideLayout o n vs x → Layout o n vs x
    narrow-layout is = record {
      degree-is = degrees ∙ (is.degree-is ∙ ap (weighted vs) narrow-exponents);
      tops = subst (λ (w : ℕ). Below 128 (fields o w)) first-is (below_both 128 (fields o (first_in x)) (fields o (second_in x)) is.tops).0;
      beyond = (below_both 1 (drop n (fields o x)) (fields o (second_in x)) (subst (Below 1) ends is.beyond)).0;
    }

    pub layout-narrow : Layout o n vs x → WideLayout o n vs x
    layout-narrow is = record {
      degree-is = sym degrees ∙ (is.degree-is ∙ ap (weighted vs) (sym narrow-exponents));
      tops = both_below 128 (fields o (first_in x)) (fields o (second_in x)) (subst (λ (w : ℕ). Below 128 (fields o w)) (sym first-is) is.tops) (Below-more 1 128 (fields o (second_in x)) (omega arith) no_fields);
      beyond = subst (Below 1) (sym ends) (both_below 1 (drop n (fields o x)) (fields o (second_in x)) is.beyond no_fields);
      second-small = subst (λ (t : ℕ). t < 2 ^ 48) (sym (no_second x small)) (lit< tt);
    }

-- ---- and with six weights of the twelve
pub narrow-compare : (o : Order) (vs α β : List ℕ) → length α ≤ 6 → length β ≤ 6 → compare_in o vs α β ≡ compare_in o (take 6 vs) α β
narrow-compare Lex vs α β h k = refl
narrow-compare DegLex vs α β h k = ap₂ (λ (a b : ℕ). or_else (compare a b) (lex α β)) (sym (narrow-weights 6 vs α h)) (sym (narrow-weights 6 vs β k))
narrow-compare DegRevLex vs α β h k = ap₂ (λ (a b : ℕ). or_else (compare a b) (rev_lex α β)) (sym (narrow-weights 6 vs α h)) (sym (narrow-weights 6 vs β k))

pub narrow-six-word : (o : Order) (vs α : List ℕ) → length α ≤ 6 → wide_of o vs α ≡ word_of o (take 6 vs) α
unfolding word_of
narrow-six-word o vs α h = narrow-word o vs α h ∙ ap (λ (d : ℕ). d * 2 ^ 48 + of_bytes (upward o (six α))) (sym (narrow-weights 6 vs α h))

module _ (o : Order) (n : ℕ) (vs : List ℕ) (x : ℕ) (few : n ≤ 6) where
  same-degree : weighted (take 6 vs) (exponents o n x) ≡ weighted vs (exponents o n x)
  same-degree = narrow-weights 6 vs (exponents o n x) (omega (arith, length-exponents o n x few))

  pub narrow-six : WideLayout o n vs x → (x < 2 ^ 64) × Layout o n (take 6 vs) x
  narrow-six is =
      let small = narrow-small o n vs x few is in
      let l = narrow-layout o n vs x few small is in
      (small, record { degree-is = l.degree-is ∙ sym same-degree; tops = l.tops; beyond = l.beyond })

  pub six-narrow : x < 2 ^ 64 → Layout o n (take 6 vs) x → WideLayout o n vs x
  six-narrow small l = layout-narrow o n vs x few small (record { degree-is = l.degree-is ∙ same-degree; tops = l.tops; beyond = l.beyond })
