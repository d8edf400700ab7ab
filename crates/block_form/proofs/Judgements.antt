-- Demand 1 for the form of blocks: the refusal is the number of the first of document 01's conditions that does not hold. Bytes are below 256, as they come. Assumes nothing.
use Rattle.std.proofs.Common.{◌≡◌, refl, sym, ap, ap₂, ◌∙◌, true, ◌&&◌, List, [], ◌∷◌, ℕ, zero, suc, ◌+◌, ◌-◌, ◌*◌, ◌/◌, ◌%◌, ◌^◌, ◌<◌, ◌≤◌, add_comm, arith, eqb-true, eq-eqb, le-leb, eqb, length, get_or, drop, replicate}
use native.Mathlib.Decide.{dec_le}
use Rattle.monomial.specs.Layout.{Below}
use Rattle.monomial.proofs.Places.{and_both, below_true, true_below}
use Rattle.merge_common.specs.Lent.{part}
use Rattle.merge_common.proofs.Lists.{length_part, get_d_part}
use Rattle.limits.specs.Limits.{most_terms}
use Rattle.refusal.specs.Judgement.{condition, Judged}
use Rattle.opening.proofs.Judging.{judged-unless, judged-first}
use Rattle.block.specs.Block.{number_at, header, sum_words, check_of, block_count, same, zeros, weights_of, setting_at, setting_in}
use Rattle.block.proofs.ByteLaws.{part-1}
use Rattle.block.proofs.WeightLaws.{length-weights, number-back}
use Rattle.block.proofs.FieldLaws.{same_true, same_self, number_fits, number_is, count-is, here-is, low-is, upper_is, order_is, n-is, weights-are, zero_is, header-from, sum-part}
use Rattle.block_form.specs.Form.{whole_blocks, count_in, total_in, here_of, check_stands, checks_stand, unused_clear, stands_with, block_stands, blocks_stand, form_refusal_with, form_refusal}
use Rattle.block_form.specs.Judgement.{WholeBlocks, GoodCheck, terms_here, GoodBlock, GoodBlocks, form_conditions}
use Rattle.block_form.proofs.FormLaws.{all-each, all_of, whole-passes, whole_is, blocks-pass}

-- ---- 14
whole-good : (s : List ℕ) → whole_blocks (length s) ≡ true → WholeBlocks s
whole-good s e = let w = whole-passes (length s) e in record { count = count_in s; some = omega (arith, w.some); most = omega (arith, w.most); whole = omega (arith, w.whole) }

good-whole : (s : List ℕ) → WholeBlocks s → whole_blocks (length s) ≡ true
good-whole s g = let l = g.whole in whole_is (length s) (record { whole = omega (arith, l); some = omega (arith, l, g.some); most = omega (arith, l, g.most) })

-- ---- 15
check-words : (s : List ℕ) (k : ℕ) → check_of (part (512 * k) 508 s) ≡ (sum_words 127 (drop (512 * k) s) + 1) % 2 ^ 32
check-words s k = ap (λ (n : ℕ). (1 + n) % 2 ^ 32) (sum-part s (512 * k) 127 (omega arith)) ∙ ap (λ (n : ℕ). n % 2 ^ 32) (add_comm 1 (sum_words 127 (drop (512 * k) s)))

checks-good : (s : List ℕ) → checks_stand s ≡ true → (k : ℕ) → k < count_in s → GoodCheck s k
checks-good s e k h = eqb-true (number_at 4 (512 * k + 508) s) (check_of (part (512 * k) 508 s)) (all-each (check_stands s) (count_in s) e k h) ∙ check-words s k

good-checks : (s : List ℕ) → ((k : ℕ) → k < count_in s → GoodCheck s k) → checks_stand s ≡ true
good-checks s g = all_of (check_stands s) (count_in s) (λ k h. eq-eqb (number_at 4 (512 * k + 508) s) (check_of (part (512 * k) 508 s)) (g k h ∙ sym (check-words s k)))

-- ---- bytes that are 0
each-zero : (l : List ℕ) → Below 1 l → (i : ℕ) → get_or l i 0 ≡ 0
each-zero [] b i = refl
each-zero (x ∷ l) b zero = omega (arith, b.0)
each-zero (x ∷ l) b (suc i) = each-zero l b.1 i

zero-each : (l : List ℕ) → ((i : ℕ) → i < length l → get_or l i 0 ≡ 0) → Below 1 l
zero-each [] z = tt
zero-each (x ∷ l) z = (omega (arith, z 0 (omega arith)), zero-each l (λ i h. z (suc i) (omega arith)))

module _ (s : List ℕ) (at n : ℕ) where
  zeros-good : zeros (part at n s) ≡ true → (i : ℕ) → at ≤ i → i < at + n → get_or s i 0 ≡ 0
  zeros-good e i l h =
      let q : i ≡ at + (i - at) = omega arith in
      ap (λ (k : ℕ). get_or s k 0) q ∙ (sym (get_d_part at n s (i - at) (omega arith)) ∙ each-zero (part at n s) (true_below 1 (part at n s) e) (i - at))

  good-zeros : at + n ≤ length s → ((i : ℕ) → at ≤ i → i < at + n → get_or s i 0 ≡ 0) → zeros (part at n s) ≡ true
  good-zeros r z = below_true 1 (part at n s) (zero-each (part at n s) (λ i h. let m : i < n = omega (arith, length_part at n s r) in get_d_part at n s i m ∙ z (at + i) (omega arith) (omega arith)))

-- ---- 16
module _ (s : List ℕ) (u : Below 256 s) (w : WholeBlocks s) where
  abbrev count : ℕ
  count = count_in s

  long : (length s ≡ 512 * count) × (1 ≤ count) × (count ≤ 100)
  long = omega (arith, w.whole, w.some, w.most)

  inside : (k : ℕ) → k < count → 512 * k + 512 ≤ length s
  inside k h = omega (arith, long.0)

  -- the halves of the first block's p
  low_fits : number_at 2 6 s < 65536
  low_fits = number_fits s u 2 6 (omega (arith, long.0, long.1))

  upper_fits : number_at 2 10 s < 65536
  upper_fits = number_fits s u 2 10 (omega (arith, long.0, long.1))

  low_part : (setting_in s).p % 65536 ≡ number_at 2 6 s
  low_part = omega (arith, low_fits)

  upper-part : (setting_in s).p / 65536 ≡ number_at 2 10 s
  upper-part = omega (arith, low_fits)

  -- block k, by its test
  module _ (k : ℕ) (h : k < count) where
    abbrev here : ℕ
    here = here_of (total_in s) k

    abbrev top : List ℕ
    top = header k count (here_of (total_in s) k) (setting_in s)

    tested : block_stands s k ≡ true → (part (512 * k) 16 s ≡ top) × (unused_clear s k here ≡ true)
    unfolding stands_with
    tested e = let a = and_both (same (part (512 * k) 16 s) top) (unused_clear s k here) e in (same_true (part (512 * k) 16 s) top a.0, a.1)

    block-good : block_count (total_in s) ≡ count → block_stands s k ≡ true → GoodBlock s k
    block-good f e =
        let a = tested e in
        let t = setting_in s in
        let m : here ≤ 41 = omega arith in
        let i = inside k h in
        let hi : terms_here s k ≡ here = here-is k count here t s (512 * k) a.0 (omega arith) in
        record {
          number = number_is k count here t s (512 * k) a.0 (omega (arith, long.2));
          count = count-is k count here t s (512 * k) a.0 (omega (arith, long.2));
          terms-full = λ l. omega (arith, hi);
          terms-most = omega (arith, hi);
          terms-some = λ l. omega (arith, hi, f);
          p = low-is k count here t s (512 * k) a.0 ∙ low_part;
          upper-p = upper_is k count here t s (512 * k) a.0 (omega (arith, low_fits, upper_fits)) ∙ upper-part;
          order = order_is k count here t s (512 * k) a.0 (number_fits s u 1 8 (omega arith));
          n = n-is k count here t s (512 * k) a.0 (number_fits s u 1 9 (omega arith));
          weights = weights-are k count here t s (512 * k) a.0 (length-weights 6 (number_at 3 12 s)) ∙ number-back 6 (number_at 3 12 s) (number_fits s u 3 12 (omega arith));
          zero-byte = zeros-good s (512 * k + 15) 1 (ap zeros (zero_is k count here t s (512 * k) a.0)) (512 * k + 15) (omega arith) (omega arith);
          unused = λ j l r. zeros-good s (512 * k + 16 + 12 * here) (12 * (41 - here)) a.1 (512 * k + j) (omega (arith, hi)) (omega arith);
        }

    setting_same : GoodBlock s k → setting_at (512 * k) s ≡ setting_in s
    setting_same g =
        ap₂ (λ (x y : ℕ). record { p = x + 65536 * y; order = number_at 1 (512 * k + 8) s; n = number_at 1 (512 * k + 9) s; weights = weights_of 6 (number_at 3 (512 * k + 12) s) }) g.p g.upper-p
        ∙ (ap₂ (λ (x y : ℕ). record { p = (setting_in s).p; order = x; n = y; weights = weights_of 6 (number_at 3 (512 * k + 12) s) }) g.order g.n
        ∙ ap (λ (x : ℕ). record { p = (setting_in s).p; order = number_at 1 8 s; n = number_at 1 9 s; weights = weights_of 6 x }) g.weights)

    good-block : GoodBlock s k → here_of (total_in s) k ≡ terms_here s k → block_stands s k ≡ true
    unfolding stands_with
    good-block g e =
        let i = inside k h in
        let z : part (512 * k + 15) 1 s ≡ replicate 1 0 = part-1 s (512 * k + 15) (omega arith) ∙ ap (λ (x : ℕ). x ∷ []) g.zero-byte in
        let eh : part (512 * k) 16 s ≡ top = header-from s u (512 * k) k count here (setting_in s) (omega arith) (setting_same g) g.number g.count (sym e) z in
        ap₂ ◌&&◌
        (ap (λ (l : List ℕ). same l top) eh ∙ same_self top)
        (good-zeros s (512 * k + 16 + 12 * here) (12 * (41 - here)) (omega arith) (λ j l r. let q : j ≡ 512 * k + (j - 512 * k) = omega arith in ap (λ (x : ℕ). get_or s x 0) q ∙ g.unused (j - 512 * k) (omega (arith, e)) (omega (arith, e))))

  blocks-good : blocks_stand s ≡ true → GoodBlocks s
  blocks-good e =
      let a = blocks-pass s e in
      record { each = λ k h. block-good k h a.fits (all-each (block_stands s) count a.each k h); few = a.few }

  good-blocks : GoodBlocks s → blocks_stand s ≡ true
  good-blocks g =
      let c = long.1 in
      let last = g.each (count - 1) (omega arith) in
      let lm = last.terms-most in
      let fits : block_count (total_in s) ≡ count = one-or-more (dec_le 2 count) lm in
      ap₂ ◌&&◌ (eq-eqb (block_count (total_in s)) count fits)
      (ap₂ ◌&&◌ (le-leb (total_in s) most_terms g.few) (all_of (block_stands s) count (λ k h. good-block k h (g.each k h) (here-as k h lm (dec_le (k + 2) count)))))
    where
      one-or-more : Dec (2 ≤ count) → terms_here s (count - 1) ≤ 41 → block_count (total_in s) ≡ count
      one-or-more (yes l) m = let o = (g.each (count - 1) (omega (arith, long.1))).terms-some (omega arith) in omega (arith, o, m)
      one-or-more (no l) m = omega (arith, long.1, m)

      here-as : (k : ℕ) → k < count → terms_here s (count - 1) ≤ 41 → Dec (k + 2 ≤ count) → here_of (total_in s) k ≡ terms_here s k
      here-as k h m (yes l) = let f = (g.each k h).terms-full (omega arith) in omega (arith, f)
      here-as k h m (no l) =
          let q : count - 1 ≡ k = omega arith in
          let f : total_in s ≡ 41 * k + terms_here s k = ap (λ (x : ℕ). 41 * x + terms_here s x) q in
          omega (arith, f, (g.each k h).terms-most)

-- ---- the judgement
-- Each refusal of the form comes under its condition, where no earlier one holds, and under no other.
pub form-judged : (s : List ℕ) (ow oc : ℕ) → Below 256 s → Judged (form_conditions s ow oc) (form_refusal s ow oc)
unfolding form_refusal_with
form-judged s ow oc u =
    let c8 = condition 8 (ow ≡ oc) in
    let c14 = condition 14 (WholeBlocks s) in
    let c15 = condition 15 ((k : ℕ) → k < count_in s → GoodCheck s k) in
    let c16 = condition 16 (GoodBlocks s) in
    judged-first (c8 ∷ []) (c14 ∷ c15 ∷ c16 ∷ []) _ _ (omega arith, tt) (judged-unless c8 (eqb ow oc) (eqb-true ow oc) (eq-eqb ow oc)) (λ a8.
    judged-first (c14 ∷ []) (c15 ∷ c16 ∷ []) _ _ (omega arith, tt) (judged-unless c14 (whole_blocks (length s)) (whole-good s) (good-whole s)) (λ a14.
    judged-first (c15 ∷ []) (c16 ∷ []) _ _ (omega arith, tt) (judged-unless c15 (checks_stand s) (checks-good s) (good-checks s)) (λ a15.
    judged-unless c16 (blocks_stand s) (blocks-good s u a14.0) (good-blocks s u a14.0))))
