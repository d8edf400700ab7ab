-- A block's header, field by field: what the bytes of a header say, and that bytes which say it are the header. Assumes nothing.
use Rattle.std.proofs.Common.{◌≡◌, ℕ, zero, suc, ◌+◌, ◌*◌, ◌/◌, ◌%◌, ◌^◌, ◌<◌, ◌≤◌, true, ◌&&◌, eqb, List, [], ◌∷◌, ◌++◌, length, take, drop, replicate, sym, refl, ap, ◌∙◌, subst, ap₂, add-zero, mod-eq_of_lt, mul-zero, arith, drop-drop, eq-eqb, eqb-true}
use Rattle.monomial.specs.Layout.{bytes, of_bytes, Below}
use Rattle.monomial.proofs.ByteLaws.{bytes_of, of_bytes_bytes, of_bytes-lt}
use Rattle.monomial.proofs.LayoutLaws.{below-take}
use Rattle.monomial.proofs.Places.{and_both}
use Rattle.merge_common.specs.Lent.{part}
use Rattle.merge_common.proofs.Lists.{length_part}
use Rattle.polynomial.specs.declared.setting.Setting.{Setting}
use Rattle.block.specs.Block.{number_at, weight_number, setting_bytes, setting_at, header_with, header, sum_words, same}
use Rattle.block.proofs.ByteLaws.{part-append, part-part, bytes_cut}
use Rattle.block.proofs.WeightLaws.{number-below, number-back}

-- ---- the test of equal bytes
pub same_true : (xs ys : List ℕ) → same xs ys ≡ true → xs ≡ ys
unfolding same
same_true [] [] h = refl
same_true [] (y ∷ ys) h = let z : ◌≡◌ {A = ℕ} 0 1 = cc in absurd (let q : ⊥ = omega arith in q)
same_true (x ∷ xs) [] h = let z : ◌≡◌ {A = ℕ} 0 1 = cc in absurd (let q : ⊥ = omega arith in q)
same_true (x ∷ xs) (y ∷ ys) h = let a = and_both (eqb x y) (same xs ys) h in ap₂ ◌∷◌ (eqb-true x y a.0) (same_true xs ys a.1)

pub same_self : (l : List ℕ) → same l l ≡ true
unfolding same
same_self [] = refl
same_self (x ∷ l) = ap₂ ◌&&◌ (eq-eqb x x refl) (same_self l)

-- ---- numbers
-- a number that fits is got back
pub got-back : (k x : ℕ) → x < 256 ^ k → of_bytes (bytes k x) ≡ x
got-back k x h = of_bytes_bytes k x ∙ mod-eq_of_lt h

below-drop : (k n : ℕ) (l : List ℕ) → Below k l → Below k (drop n l)
below-drop k zero l u = u
below-drop k (suc n) [] u = tt
below-drop k (suc n) (a ∷ l) u = below-drop k n l u.1

module _ (s : List ℕ) (u : Below 256 s) (k at : ℕ) (h : at + k ≤ length s) where
  part-below : Below 256 (part at k s)
  part-below = below-take 256 k (drop at s) (below-drop 256 at s u)

  -- the bytes of a number that is read are those that it was read from
  pub number-bytes : bytes k (number_at k at s) ≡ part at k s
  number-bytes =
      let b = part at k s in
      ap (bytes k) (sym (add-zero (of_bytes b)) ∙ ap (λ (n : ℕ). of_bytes b + n) (sym (mul-zero (256 ^ k))))
      ∙ bytes_of k b 0 (length_part at k s h) part-below

  pub number_fits : number_at k at s < 256 ^ k
  number_fits = subst (λ (m : ℕ). number_at k at s < 256 ^ m) (length_part at k s h) (of_bytes-lt (part at k s) part-below)

-- ---- inside a header
module _ (number count here : ℕ) (t : Setting) where
  number_in : part 0 2 (header number count here t) ≡ bytes 2 number
  unfolding header_with setting_bytes bytes
  number_in = refl

  count-in : part 2 2 (header number count here t) ≡ bytes 2 count
  unfolding header_with setting_bytes bytes
  count-in = refl

  pub here_in : part 4 2 (header number count here t) ≡ bytes 2 here
  unfolding header_with setting_bytes bytes
  here_in = refl

  pub low-in : part 6 2 (header number count here t) ≡ bytes 2 t.p
  unfolding header_with setting_bytes bytes
  low-in = refl

  pub order-in : part 8 1 (header number count here t) ≡ bytes 1 t.order
  unfolding header_with setting_bytes bytes
  order-in = refl

  pub n-in : part 9 1 (header number count here t) ≡ bytes 1 t.n
  unfolding header_with setting_bytes bytes
  n-in = refl

  -- "In a block the upper 16 bits of p take the first two of the six zero bytes."
  pub upper_in : part 10 2 (header number count here t) ≡ bytes 2 (t.p / 65536)
  unfolding header_with setting_bytes bytes
  upper_in = refl

  -- "bytes 12 to 14 hold weight minus 1 in four bits each"
  pub weights-in : part 12 3 (header number count here t) ≡ bytes 3 (weight_number t.weights)
  unfolding header_with setting_bytes bytes
  weights-in = refl

  zero_in : part 15 1 (header number count here t) ≡ replicate 1 0
  unfolding header_with setting_bytes bytes
  zero_in = refl

  -- ---- the bytes from `at` on are a header
  module _ (s : List ℕ) (at : ℕ) (e : part at 16 s ≡ header number count here t) where
    field : (k m : ℕ) → k + m ≤ 16 → part (at + k) m s ≡ part k m (header number count here t)
    field k m h = sym (part-part at 16 s k m h) ∙ ap (part k m) e

    pub number_is : number < 256 ^ 2 → number_at 2 at s ≡ number
    number_is h = ap (λ (k : ℕ). number_at 2 k s) (sym (add-zero at)) ∙ (ap of_bytes (field 0 2 (omega arith) ∙ number_in) ∙ got-back 2 number h)

    pub count-is : count < 256 ^ 2 → number_at 2 (at + 2) s ≡ count
    count-is h = ap of_bytes (field 2 2 (omega arith) ∙ count-in) ∙ got-back 2 count h

    pub here-is : here < 256 ^ 2 → number_at 2 (at + 4) s ≡ here
    here-is h = ap of_bytes (field 4 2 (omega arith) ∙ here_in) ∙ got-back 2 here h

    pub low-is : number_at 2 (at + 6) s ≡ t.p % 65536
    low-is = ap of_bytes (field 6 2 (omega arith) ∙ low-in) ∙ of_bytes_bytes 2 t.p

    pub upper_is : t.p < 256 ^ 4 → number_at 2 (at + 10) s ≡ t.p / 65536
    upper_is h = ap of_bytes (field 10 2 (omega arith) ∙ upper_in) ∙ got-back 2 (t.p / 65536) (omega arith)

    pub order_is : t.order < 256 ^ 1 → number_at 1 (at + 8) s ≡ t.order
    order_is h = ap of_bytes (field 8 1 (omega arith) ∙ order-in) ∙ got-back 1 t.order h

    pub n-is : t.n < 256 ^ 1 → number_at 1 (at + 9) s ≡ t.n
    n-is h = ap of_bytes (field 9 1 (omega arith) ∙ n-in) ∙ got-back 1 t.n h

    pub weights-are : length t.weights ≡ 6 → number_at 3 (at + 12) s ≡ weight_number t.weights
    weights-are h = ap of_bytes (field 12 3 (omega arith) ∙ weights-in) ∙ got-back 3 (weight_number t.weights) (number-below 6 t.weights h)

    pub zero_is : part (at + 15) 1 s ≡ replicate 1 0
    zero_is = field 15 1 (omega arith) ∙ zero_in

-- bytes that say what a header says are the header
module _ (s : List ℕ) (u : Below 256 s) (at : ℕ) where
  bytes-from : (k i x : ℕ) → i + k ≤ length s → number_at k i s ≡ x → part i k s ≡ bytes k x
  bytes-from k i x l e = sym (number-bytes s u k i l) ∙ ap (bytes k) e

  module _ (number count here : ℕ) (t : Setting) (h : at + 16 ≤ length s) (e : setting_at at s ≡ t) where
    whole-p : number_at 2 (at + 6) s + 65536 * number_at 2 (at + 10) s ≡ t.p
    whole-p = ap (λ (x : Setting). x.p) e

    low-from : part (at + 6) 2 s ≡ bytes 2 t.p
    low-from = bytes-from 2 (at + 6) (t.p % 65536) (omega arith) (omega (arith, whole-p, number_fits s u 2 (at + 6) (omega arith))) ∙ bytes_cut 2 t.p

    upper-from : part (at + 10) 2 s ≡ bytes 2 (t.p / 65536)
    upper-from = bytes-from 2 (at + 10) (t.p / 65536) (omega arith) (omega (arith, whole-p, number_fits s u 2 (at + 6) (omega arith)))

    weights-from : part (at + 12) 3 s ≡ bytes 3 (weight_number t.weights)
    weights-from = bytes-from 3 (at + 12) (weight_number t.weights) (omega arith) (sym (number-back 6 (number_at 3 (at + 12) s) (number_fits s u 3 (at + 12) (omega arith))) ∙ ap (λ (x : Setting). weight_number x.weights) e)

    pub header-from : number_at 2 at s ≡ number → number_at 2 (at + 2) s ≡ count → number_at 2 (at + 4) s ≡ here → part (at + 15) 1 s ≡ replicate 1 0 → part at 16 s ≡ header number count here t
    unfolding header_with setting_bytes bytes
    header-from e1 e2 e3 e4 =
        part-append at 15 1 s
        ∙ ap₂ ◌++◌
        (part-append at 12 3 s
        ∙ ap₂ ◌++◌
        (part-append at 10 2 s
        ∙ ap₂ ◌++◌
        (part-append at 9 1 s
        ∙ ap₂ ◌++◌
        (part-append at 8 1 s
        ∙ ap₂ ◌++◌
        (part-append at 6 2 s
        ∙ ap₂ ◌++◌
        (part-append at 4 2 s
        ∙ ap₂ ◌++◌
        (part-append at 2 2 s ∙ ap₂ ◌++◌ (bytes-from 2 at number (omega arith) e1) (bytes-from 2 (at + 2) count (omega arith) e2))
        (bytes-from 2 (at + 4) here (omega arith) e3))
        low-from)
        (bytes-from 1 (at + 8) t.order (omega arith) (ap (λ (x : Setting). x.order) e)))
        (bytes-from 1 (at + 9) t.n (omega arith) (ap (λ (x : Setting). x.n) e)))
        upper-from)
        weights-from)
        e4

-- ---- the words that a check adds up, in the block and from its start on
pub sum-part : (s : List ℕ) (at k : ℕ) → k ≤ 127 → sum_words k (part at 508 s) ≡ sum_words k (drop at s)
unfolding sum_words
sum-part s at zero h = refl
sum-part s at (suc k) h = ap₂ ◌+◌ (sum-part s at k (omega arith)) (ap of_bytes (part-part at 508 s (4 * k) 4 (omega arith) ∙ sym (ap (take 4) (drop-drop (4 * k) at s))))
