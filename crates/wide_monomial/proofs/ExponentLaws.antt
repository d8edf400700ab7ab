-- What the functions on exponents compute: the exponent of a variable, and the two words of exponents. Assumes nothing.
use mathlib.Core.Path.{◌≡◌, sym, ap, ap₂, ◌∙◌, subst}
use mathlib.Core.List.{List, [], ◌∷◌, ◌++◌}
use Prim.Native.Nat.{ℕ, suc, ◌+◌, ◌-◌, ◌*◌, ◌/◌, ◌%◌, ◌^◌, ◌<◌, ◌≤◌, zero-le}
use native.Mathlib.Nat.{add-zero, mul-le-mul}
use native.Mathlib.Omega.{arith}
use lib.ListN.{length, get_or, take, drop, length-drop, take-append-drop, get_or-append}
use lib.Seq.{take_at, drop_at, get_or-drop, take_all, length-take-le}
use Rattle.monomial.specs.declared.order.Order.{Order}
use Rattle.monomial.specs.Exponents.{weighted}
use Rattle.monomial.specs.Layout.{of_bytes, six, upward, word_of, fields, Below}
use Rattle.monomial.specs.Words.{low, high}
use Rattle.monomial.proofs.Places.{weighted-append}
use Rattle.monomial.proofs.LayoutLaws.{low_word, high_word, lying-lt, length_fields, below-take}
use Rattle.wide_monomial.specs.Wide.{paired, wide_of, wide_fields}
use Rattle.wide_monomial.proofs.Parts.{first_of, second-of, below-drop, short-take, short-drop}
use Rattle.wide_monomial.proofs.NarrowLaws.{narrow-six-word}

-- ---- the exponent of a variable
module _ (o : Order) (a b i : ℕ) (ha : a < 2 ^ 64) (hb : b < 2 ^ 64) where
  fields-are : wide_fields o (paired a b) ≡ fields o a ++ fields o b
  fields-are = ap₂ (λ (x y : ℕ). fields o x ++ fields o y) (first_of a b ha) (second-of a b ha hb)

  pub in-first : (r : ℕ) → i < 6 → r ≡ get_or (fields o a) i 0 → r ≡ get_or (wide_fields o (paired a b)) i 0
  in-first r h e = e ∙ sym (ap (λ (l : List ℕ). get_or l i 0) fields-are ∙ get_or-append (fields o a) (fields o b) 0 i (omega (arith, length_fields o a)))

  pub in-second : (r : ℕ) → 6 ≤ i → r ≡ get_or (fields o b) (i - 6) 0 → r ≡ get_or (wide_fields o (paired a b)) i 0
  in-second r h e =
      e
      ∙ (ap (λ (l : List ℕ). get_or l (i - 6) 0) (sym (drop_at (fields o a) (fields o b) 6 (length_fields o a)))
      ∙ (get_or-drop 6 (fields o a ++ fields o b) (i - 6) 0
      ∙ (ap (λ (k : ℕ). get_or (fields o a ++ fields o b) k 0) (let k : 6 + (i - 6) ≡ i = omega arith in k) ∙ ap (λ (l : List ℕ). get_or l i 0) (sym fields-are))))

-- ---- the words of exponents
pub all-bytes : (α : List ℕ) → ((i : ℕ) → get_or α i 0 < 256) → Below 256 α
all-bytes [] h = tt
all-bytes (a ∷ α) h = (h 0, all-bytes α (λ i. h (suc i)))

-- the exponents after the first six, as the code lends them
pub whole_back : (o : Order) (vs α : List ℕ) (y : ℕ) → y ≡ word_of o vs (take (length α - 6) (drop 6 α)) → y ≡ word_of o vs (drop 6 α)
whole_back o vs α y e = e ∙ ap (word_of o vs) (take_all (length α - 6) (drop 6 α) (omega (arith, length-drop 6 α)))

-- 17 · 255 for each variable
light : (vs α : List ℕ) → Below 18 vs → Below 256 α → weighted vs α ≤ 4335 * length α
light [] α u t = zero-le
light (v ∷ vs) [] u t = zero-le
light (v ∷ vs) (a ∷ α) u t = omega (arith, light vs α u.1 t.1, mul-le-mul (let e : v ≤ 17 = omega (arith, u.0) in e) (let e : a ≤ 255 = omega (arith, t.0) in e))

pub few-word : (o : Order) (u v : ℕ) (α : List ℕ) (w : ℕ) → length α ≤ 6 → w ≡ word_of o (fields o u) α → paired w 0 ≡ wide_of o (fields o u ++ fields o v) α
few-word o u v α w h e =
    add-zero w
    ∙ (e ∙ sym (narrow-six-word o (fields o u ++ fields o v) α h ∙ ap (λ (l : List ℕ). word_of o l α) (take_at (fields o u) (fields o v) 6 (length_fields o u))))

module _ (o : Order) (u v : ℕ) (α : List ℕ) (many : 6 < length α) (fits : length α ≤ 12) (small : Below 256 α) (x y : ℕ) (ex : x ≡ word_of o (fields o u) (take 6 α)) (ey : y ≡ word_of o (fields o v) (drop 6 α)) where
  front-small : Below 256 (take 6 α)
  front-small = below-take 256 6 α small

  back-small : Below 256 (drop 6 α)
  back-small = below-drop 256 6 α small

  high-back : y / 2 ^ 48 ≡ weighted (fields o v) (drop 6 α)
  high-back = ap high ey ∙ high_word o (fields o v) (drop 6 α) (short-drop α fits) back-small

  first-parts : x ≡ weighted (fields o u) (take 6 α) * 2 ^ 48 + of_bytes (upward o (six (take 6 α)))
  unfolding word_of
  first-parts = ex

  degrees : weighted (fields o u) (take 6 α) + weighted (fields o v) (drop 6 α) ≡ weighted (fields o u ++ fields o v) α
  degrees =
      sym (weighted-append (fields o u) (fields o v) (take 6 α) (drop 6 α) (length_fields o u ∙ sym (length-take-le 6 α (omega arith))))
      ∙ ap (weighted (fields o u ++ fields o v)) (take-append-drop 6 α)

  together : x + y / 2 ^ 48 * 2 ^ 48 ≡ weighted (fields o u ++ fields o v) α * 2 ^ 48 + of_bytes (upward o (six (take 6 α)))
  together =
      ap₂ (λ (p q : ℕ). p + q * 2 ^ 48) first-parts high-back
      ∙ (add (weighted (fields o u) (take 6 α)) (of_bytes (upward o (six (take 6 α)))) (weighted (fields o v) (drop 6 α)) ∙ ap (λ (d : ℕ). d * 2 ^ 48 + of_bytes (upward o (six (take 6 α)))) degrees)
    where
      add : (d l e : ℕ) → d * 2 ^ 48 + l + e * 2 ^ 48 ≡ (d + e) * 2 ^ 48 + l
      add d l e = omega arith

  pub many-words : paired (x + y / 2 ^ 48 * 2 ^ 48) (y % 2 ^ 48) ≡ wide_of o (fields o u ++ fields o v) α
  unfolding wide_of
  many-words = ap₂ paired together (ap low ey ∙ low_word o (fields o v) (drop 6 α) (short-drop α fits) back-small)

  pub degree-added : Below 18 (fields o u) → Below 18 (fields o v) → x + y / 2 ^ 48 * 2 ^ 48 < 2 ^ 64
  degree-added hu hv =
      subst (λ (w : ℕ). w < 2 ^ 64) (sym (ap₂ (λ (p q : ℕ). p + q * 2 ^ 48) first-parts high-back))
      (room (weighted (fields o u) (take 6 α)) (of_bytes (upward o (six (take 6 α)))) (weighted (fields o v) (drop 6 α))
      (bound (weighted (fields o u) (take 6 α)) (length (take 6 α)) (light (fields o u) (take 6 α) hu front-small) (short-take α))
      (lying-lt o (fields o u) (take 6 α) (short-take α) front-small)
      (bound (weighted (fields o v) (drop 6 α)) (length (drop 6 α)) (light (fields o v) (drop 6 α) hv back-small) (short-drop α fits)))
    where
      bound : (d k : ℕ) → d ≤ 4335 * k → k ≤ 6 → d ≤ 26010
      bound d k h l = omega arith

      room : (d l e : ℕ) → d ≤ 26010 → l < 2 ^ 48 → e ≤ 26010 → d * 2 ^ 48 + l + e * 2 ^ 48 < 2 ^ 64
      room d l e hd hl he = omega arith
