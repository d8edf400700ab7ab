-- Comparing monomials of two words is comparing their exponents, in each order. Assumes nothing.
use mathlib.Core.Path.{◌≡◌, refl, sym, ap, ap₂, ◌∙◌, subst}
use mathlib.Core.List.{List, [], ◌∷◌}
use Prim.Native.Nat.{ℕ, zero, suc, ◌+◌, ◌*◌, ◌/◌, ◌^◌, ◌<◌, ◌≤◌, min, compare, Ordering}
use native.Mathlib.Nat.{mod-eq_of_lt}
use native.Mathlib.Omega.{arith}
use lib.ListN.{length, take, drop, length-take, length-drop}
use Rattle.monomial.specs.declared.order.Order.{Order}
use Rattle.monomial.specs.declared.order.Order.TheVariants.{Lex, DegLex, DegRevLex}
use Rattle.monomial.specs.Exponents.{weighted, or_else, lex, rev_lex, compare_in}
use Rattle.monomial.specs.Layout.{of_bytes, six, upward, Below}
use Rattle.monomial.specs.Words.{degree_in, first_in, second_in, compare_two, compare_words}
use Rattle.monomial.proofs.Comparing.{compare-digits}
use Rattle.monomial.proofs.OrderLaws.{two-words}
use Rattle.monomial.proofs.Places.{Below-more}
use Rattle.monomial.proofs.ByteLaws.{or_else-assoc, or_else-none}
use Rattle.monomial.proofs.LayoutLaws.{lying-lt, below-take}
use Rattle.monomial.proofs.KeyLaws.{down-bytes, up-bytes, lex-enough}
use Rattle.wide_monomial.specs.Wide.{wide_of, wide_exponents, WideLayout}
use Rattle.wide_monomial.proofs.Parts.{second_fits, first-parts, below-drop, short-take, short-drop}
use Rattle.wide_monomial.proofs.WideLaws.{Holds, word_holds, layout-holds, length-wide-exponents, wide-exponents-small}

-- ---- orders by two parts of the exponents
lex-parts : (k : ℕ) (α β : List ℕ) → length α ≡ length β → lex α β ≡ or_else (lex (take k α) (take k β)) (lex (drop k α) (drop k β))
lex-parts zero α β h = refl
lex-parts (suc k) [] [] h = refl
lex-parts (suc k) [] (b ∷ β) h = absurd (let z : ⊥ = omega arith in z)
lex-parts (suc k) (a ∷ α) [] h = absurd (let z : ⊥ = omega arith in z)
lex-parts (suc k) (a ∷ α) (b ∷ β) h = ap (or_else (compare a b)) (lex-parts k α β (omega arith)) ∙ sym (or_else-assoc (compare a b) (lex (take k α) (take k β)) (lex (drop k α) (drop k β)))

rev-parts : (k : ℕ) (α β : List ℕ) → length α ≡ length β → rev_lex α β ≡ or_else (rev_lex (drop k α) (drop k β)) (rev_lex (take k α) (take k β))
rev-parts zero α β h = sym (or_else-none (rev_lex α β))
rev-parts (suc k) [] [] h = refl
rev-parts (suc k) [] (b ∷ β) h = absurd (let z : ⊥ = omega arith in z)
rev-parts (suc k) (a ∷ α) [] h = absurd (let z : ⊥ = omega arith in z)
rev-parts (suc k) (a ∷ α) (b ∷ β) h = ap (λ (t : Ordering). or_else t (compare b a)) (rev-parts k α β (omega arith)) ∙ or_else-assoc (rev_lex (drop k α) (drop k β)) (rev_lex (take k α) (take k β)) (compare b a)

-- ---- two numbers that hold exponents
module _ (vs α β : List ℕ) (like : length α ≡ length β) (fits : length α ≤ 12) (u : Below 256 α) (v : Below 256 β) (x y : ℕ) where
  fits-β : length β ≤ 12
  fits-β = omega arith

  fronts : length (take 6 α) ≡ length (take 6 β)
  fronts = length-take 6 α ∙ (ap (min 6) like ∙ sym (length-take 6 β))

  backs : length (drop 6 α) ≡ length (drop 6 β)
  backs = omega (arith, length-drop 6 α, length-drop 6 β)

  back_fits : (o : Order) (γ : List ℕ) → length γ ≤ 12 → Below 256 γ → of_bytes (upward o (six (drop 6 γ))) < 2 ^ 48
  back_fits o γ h w = lying-lt o vs (drop 6 γ) (short-drop γ h) (below-drop 256 6 γ w)

  front_fits : (o : Order) (γ : List ℕ) → Below 256 γ → of_bytes (upward o (six (take 6 γ))) < 2 ^ 48
  front_fits o γ w = lying-lt o vs (take 6 γ) (short-take γ) (below-take 256 6 γ w)

  second_lt : (o : Order) (γ : List ℕ) (z : ℕ) → length γ ≤ 12 → Below 256 γ → Holds o vs γ z → z / 2 ^ 64 < 2 ^ 64
  second_lt o γ z h w is = second_fits (z / 2 ^ 64) (subst (λ (t : ℕ). t < 2 ^ 48) (sym is.second_is) (back_fits o γ h w))

  second-part : (o : Order) (γ : List ℕ) (z : ℕ) → length γ ≤ 12 → Below 256 γ → Holds o vs γ z → second_in z ≡ of_bytes (upward o (six (drop 6 γ)))
  second-part o γ z h w is = mod-eq_of_lt (second_lt o γ z h w is) ∙ is.second_is

  first-is : (o : Order) (γ : List ℕ) (z : ℕ) → Holds o vs γ z → first_in z ≡ weighted vs γ * 2 ^ 48 + of_bytes (upward o (six (take 6 γ)))
  first-is o γ z is = first-parts z ∙ ap₂ (λ (d l : ℕ). d * 2 ^ 48 + l) is.degree-is is.fields-are

  -- the second words, and the fields of the first, as numbers
  front-down : compare (of_bytes (upward Lex (six (take 6 α)))) (of_bytes (upward Lex (six (take 6 β)))) ≡ lex (take 6 α) (take 6 β)
  front-down = down-bytes vs (take 6 α) (take 6 β) fronts (short-take α) (below-take 256 6 α u) (below-take 256 6 β v)

  back-down : compare (of_bytes (upward Lex (six (drop 6 α)))) (of_bytes (upward Lex (six (drop 6 β)))) ≡ lex (drop 6 α) (drop 6 β)
  back-down = down-bytes vs (drop 6 α) (drop 6 β) backs (short-drop α fits) (below-drop 256 6 α u) (below-drop 256 6 β v)

  degrees : (o : Order) → Holds o vs α x → Holds o vs β y → compare (degree_in x) (degree_in y) ≡ compare (weighted vs α) (weighted vs β)
  degrees o a b = ap₂ compare a.degree-is b.degree-is

  by_order : (o : Order) → Holds o vs α x → Holds o vs β y → compare_two o x y ≡ compare_in o vs α β
  by_order Lex a b =
      ap₂ or_else (ap₂ compare a.fields-are b.fields-are ∙ front-down)
      (ap₂ or_else (ap₂ compare (second-part Lex α x fits u a) (second-part Lex β y fits-β v b) ∙ back-down) (degrees Lex a b))
      ∙ (sym (or_else-assoc (lex (take 6 α) (take 6 β)) (lex (drop 6 α) (drop 6 β)) (compare (weighted vs α) (weighted vs β)))
      ∙ (ap (λ (t : Ordering). or_else t (compare (weighted vs α) (weighted vs β))) (sym (lex-parts 6 α β like)) ∙ lex-enough vs α β (lex α β) refl))
  by_order DegLex a b =
      ap₂ or_else
      (ap₂ compare (first-is DegLex α x a) (first-is DegLex β y b)
      ∙ (compare-digits (2 ^ 48) (weighted vs α) (weighted vs β) (of_bytes (upward DegLex (six (take 6 α)))) (of_bytes (upward DegLex (six (take 6 β)))) (front_fits DegLex α u) (front_fits DegLex β v)
      ∙ ap (or_else (compare (weighted vs α) (weighted vs β))) front-down))
      (ap₂ compare (second-part DegLex α x fits u a) (second-part DegLex β y fits-β v b) ∙ back-down)
      ∙ (or_else-assoc (compare (weighted vs α) (weighted vs β)) (lex (take 6 α) (take 6 β)) (lex (drop 6 α) (drop 6 β)) ∙ ap (or_else (compare (weighted vs α) (weighted vs β))) (sym (lex-parts 6 α β like)))
  by_order DegRevLex a b =
      ap₂ or_else (degrees DegRevLex a b)
      (ap₂ or_else
      (ap₂ compare (second-part DegRevLex β y fits-β v b) (second-part DegRevLex α x fits u a) ∙ up-bytes vs (drop 6 α) (drop 6 β) backs (short-drop α fits) (below-drop 256 6 α u) (below-drop 256 6 β v))
      (ap₂ compare b.fields-are a.fields-are ∙ up-bytes vs (take 6 α) (take 6 β) fronts (short-take α) (below-take 256 6 α u) (below-take 256 6 β v))
      ∙ sym (rev-parts 6 α β like))

  pub compare-holds : (o : Order) → Holds o vs α x → Holds o vs β y → compare_words o x y ≡ compare_in o vs α β
  compare-holds o a b = two-words o x y (second_lt o α x fits u a) (second_lt o β y fits-β v b) ∙ by_order o a b

-- comparing the two words of exponents is comparing the exponents, with any weights that leave the degree its 16 bits
pub compare-twelve : (o : Order) (vs α β : List ℕ) → length α ≡ length β → length α ≤ 12 → Below 256 α → Below 256 β → weighted vs α < 2 ^ 16 → weighted vs β < 2 ^ 16 → compare_words o (wide_of o vs α) (wide_of o vs β) ≡ compare_in o vs α β
compare-twelve o vs α β like fits u v d e = compare-holds vs α β like fits u v (wide_of o vs α) (wide_of o vs β) o (word_holds o vs α fits u d) (word_holds o vs β (omega arith) v e)

-- comparing monomials of the layout is comparing their exponents, with any weights
pub compare-wide : (o : Order) (n : ℕ) (vs : List ℕ) (x y : ℕ) → n ≤ 12 → WideLayout o n vs x → WideLayout o n vs y → compare_words o x y ≡ compare_in o vs (wide_exponents o n x) (wide_exponents o n y)
compare-wide o n vs x y h a b =
    compare-holds vs (wide_exponents o n x) (wide_exponents o n y)
    (length-wide-exponents o n x h ∙ sym (length-wide-exponents o n y h))
    (omega (arith, length-wide-exponents o n x h))
    (Below-more 128 256 (wide_exponents o n x) (omega arith) (wide-exponents-small o n vs x h a))
    (Below-more 128 256 (wide_exponents o n y) (omega arith) (wide-exponents-small o n vs y h b))
    x y o (layout-holds o n vs x h a) (layout-holds o n vs y h b)
