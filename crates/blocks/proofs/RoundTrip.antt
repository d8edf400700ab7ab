-- Reading what was written gives the same setting and polynomial. Assumes nothing.
use Rattle.std.proofs.Common.{◌≡◌, sym, ap, ap₂, ◌∙◌, true, ◌&&◌, List, [], ◌∷◌, ◌++◌, ℕ, zero, suc, ◌+◌, ◌-◌, ◌*◌, ◌/◌, ◌%◌, ◌^◌, ◌<◌, ◌≤◌, mod-lt, arith, eq-eqb, le-leb, lit<, leb, length, get_or, drop, ext_get_or, get_or-take, get_or-drop}
use Rattle.limits.specs.Limits.{largest_prime, most_terms}
use Rattle.monomial.specs.Exponents.{order_of, Positive}
use Rattle.monomial.specs.Layout.{bytes, of_bytes, Below, Layout}
use Rattle.monomial.proofs.ByteLaws.{of_bytes_bytes}
use Rattle.monomial.proofs.LayoutLaws.{layout-packed}
use Rattle.monomial.proofs.Places.{below-zeros}
use Rattle.polynomial.specs.Terms.{Term, term, terms, coefs, All}
use Rattle.polynomial.specs.Opening.{first, polynomial_refusal}
use Rattle.polynomial.proofs.TermLists.{length-terms, words-terms, coefs-terms}
use Rattle.polynomial.proofs.OpeningLaws.{passes}
use Rattle.merge_common.specs.Lent.{part}
use Rattle.opening.specs.Run.{unless, setting}
use Rattle.polynomial.specs.declared.setting.Setting.{Setting}
use Rattle.opening.proofs.WeightsJudged.{weights-range}
use Rattle.block.specs.Block.{number_at, weight_number, weights_of, header, unused, sum_words, check_of, body, block, terms_of, block_count, blocks_of, same, zeros, setting_in}
use Rattle.block.proofs.ByteLaws.{part-part}
use Rattle.block.proofs.BlockLaws.{length-header, length-body}
use Rattle.block.proofs.FieldLaws.{same_self, got-back, here_in, low-in, upper_in, order-in, n-in, weights-in}
use Rattle.block.proofs.WeightLaws.{number-below, weights-back}
use Rattle.block_form.specs.Form.{all_below, whole_blocks, count_in, total_in, here_of, check_stands, checks_stand, stands_with, block_stands, blocks_stand, form_refusal_with, form_refusal}
use Rattle.blocks.specs.Reading.{place_at, term_at, first_terms, terms_in, content_with, content_refusal, read_refusal}
use Rattle.blocks.specs.Outcome.{answer_read, write_refusal, ReadOutcome, read_stated, read_by, read_outcome}
use Rattle.block_form.proofs.FormLaws.{all_of, whole_is}
use Rattle.blocks.proofs.PlaceLaws.{length-first, first-at}
use Rattle.blocks.proofs.WriteLaws.{Writable, write-passes, length-blocks, terms_of-few, length-terms_of}
use Rattle.blocks.proofs.InsideLaws.{part-all, body-in, header-in, places-in, filler-in, check-in, word_in, coef-in, block_in}

-- ---- the words and coefficients of a polynomial that is not refused fit their bytes
fitting : (t : Setting) (ts : List (Term ℕ)) → t.n ≤ 6 → Below 17 t.weights → t.p ≤ largest_prime → All (λ u. Layout (order_of t.order) t.n t.weights u.mono) ts → All (λ u. (0 < u.coef) × (u.coef < t.p)) ts → (i : ℕ) → i < length ts → ((get_or ts i (term 0 0)).mono < 256 ^ 8) × ((get_or ts i (term 0 0)).coef < 256 ^ 4)
fitting t [] hn hv hp l r i h = absurd (let z : ⊥ = omega arith in z)
fitting t (u ∷ ts) hn hv hp l r zero h = let q = layout-packed (order_of t.order) t.n t.weights u.mono hn l.0 hv in (omega (arith, q.room), omega (arith, r.0.1))
fitting t (u ∷ ts) hn hv hp l r (suc i) h = fitting t ts hn hv hp l.1 r.1 i (omega arith)

module _ (t : Setting) (ws cs : List ℕ) (room : ℕ) (w : Writable t ws cs room) where
  abbrev ts : List (Term ℕ)
  ts = terms ws cs

  abbrev s : List ℕ
  s = blocks_of t ts

  abbrev count : ℕ
  count = block_count (length ts)

  long : length ts ≡ length ws
  long = length-terms ws cs (sym w.lent)

  few : length ts ≤ most_terms
  few = omega (arith, long, w.few)

  -- ---- counts
  length-s : length s ≡ 512 * count
  length-s = length-blocks count t ts count

  some-blocks : (1 ≤ count) × (count ≤ 100)
  some-blocks = omega (arith, few)

  count-is : count_in s ≡ count
  count-is = omega (arith, length-s)

  -- ---- block k, and its parts
  block_at : (k : ℕ) → k < count → part (512 * k) 512 s ≡ block k count t (terms_of k ts)
  block_at k h = block_in count t ts count k h

  inside : (k at n : ℕ) → k < count → at + n ≤ 512 → part (512 * k + at) n s ≡ part at n (block k count t (terms_of k ts))
  inside k at n h l = sym (part-part (512 * k) 512 s at n l) ∙ ap (part at n) (block_at k h)

  here-is : (k : ℕ) → k < count → number_at 2 (512 * k + 4) s ≡ length (terms_of k ts)
  here-is k h =
      ap of_bytes (inside k 4 2 h (omega arith) ∙ (header-in k count t (terms_of k ts) (terms_of-few k ts) 4 2 (omega arith) ∙ here_in k count (length (terms_of k ts)) t))
      ∙ got-back 2 (length (terms_of k ts)) (omega (arith, terms_of-few k ts))

  total-is : total_in s ≡ length ts
  total-is =
      let c = some-blocks in
      let e : total_in s ≡ 41 * (count - 1) + number_at 2 (512 * (count - 1) + 4) s = ap (λ (n : ℕ). 41 * (n - 1) + number_at 2 (512 * (n - 1) + 4) s) count-is in
      e ∙ omega (arith, here-is (count - 1) (omega (arith, c.0)), length-terms_of (count - 1) ts)

  -- ---- the setting
  first_block : 0 < count
  first_block = some-blocks.0

  field : (k at n : ℕ) → k < count → at + n ≤ 16 → part (512 * k + at) n s ≡ part at n (header k count (length (terms_of k ts)) t)
  field k at n h l = inside k at n h (omega arith) ∙ header-in k count t (terms_of k ts) (terms_of-few k ts) at n l

  -- the halves of p in block k
  pub low-is : (k : ℕ) → k < count → number_at 2 (512 * k + 6) s ≡ t.p % 65536
  low-is k h = ap of_bytes (field k 6 2 h (omega arith) ∙ low-in k count (length (terms_of k ts)) t) ∙ of_bytes_bytes 2 t.p

  pub upper_is : (k : ℕ) → k < count → number_at 2 (512 * k + 10) s ≡ t.p / 65536
  upper_is k h = ap of_bytes (field k 10 2 h (omega arith) ∙ upper_in k count (length (terms_of k ts)) t) ∙ got-back 2 (t.p / 65536) (let l = w.set.limit in omega (arith, l))

  pub in-range : Below 17 t.weights × Positive t.weights
  in-range = weights-range t.n t.weights w.set.weights

  -- the weights in block k
  pub weight-part : (k : ℕ) → k < count → part (512 * k + 12) 3 s ≡ bytes 3 (weight_number t.weights)
  weight-part k h = field k 12 3 h (omega arith) ∙ weights-in k count (length (terms_of k ts)) t

  weights-are : (k : ℕ) → k < count → number_at 3 (512 * k + 12) s ≡ weight_number t.weights
  weights-are k h = ap of_bytes (weight-part k h) ∙ got-back 3 (weight_number t.weights) (number-below 6 t.weights w.six)

  pub setting-is : setting_in s ≡ t
  setting-is =
      let q = w.set in
      let el : number_at 2 6 s ≡ t.p % 65536 = low-is 0 first_block in
      let eu : number_at 2 10 s ≡ t.p / 65536 = upper_is 0 first_block in
      let ep : (setting_in s).p ≡ t.p = omega (arith, el, eu) in
      let eo : number_at 1 8 s ≡ t.order = ap of_bytes (field 0 8 1 first_block (omega arith) ∙ order-in 0 count (length (terms_of 0 ts)) t) ∙ got-back 1 t.order (omega (arith, q.order-high)) in
      let en : number_at 1 9 s ≡ t.n = ap of_bytes (field 0 9 1 first_block (omega arith) ∙ n-in 0 count (length (terms_of 0 ts)) t) ∙ got-back 1 t.n (omega (arith, q.n-high)) in
      let ev : weights_of 6 (number_at 3 12 s) ≡ t.weights = ap (weights_of 6) (weights-are 0 first_block) ∙ weights-back 6 t.weights w.six in-range.0 in-range.1 in
      ap₂ (λ (x y : ℕ). record { p = x; order = y; n = number_at 1 9 s; weights = weights_of 6 (number_at 3 12 s) }) ep eo
      ∙ ap₂ (λ (z : ℕ) (vs : List ℕ). record { p = t.p; order = t.order; n = z; weights = vs }) en ev

  -- ---- the form
  check-stands : (k : ℕ) → k < count → check_stands s k ≡ true
  check-stands k h =
      let us = terms_of k ts in
      let b = body k count t us in
      let eb : part (512 * k) 508 s ≡ b =
      ap (λ (n : ℕ). part n 508 s) (let e : 512 * k ≡ 512 * k + 0 = omega arith in e)
      ∙ (inside k 0 508 h (omega arith) ∙ (body-in k count t us (terms_of-few k ts) 0 508 (omega arith) ∙ all-body k)) in
      let ec : number_at 4 (512 * k + 508) s ≡ check_of b = ap of_bytes (inside k 508 4 h (omega arith) ∙ check-in k count t us (terms_of-few k ts)) ∙ got-back 4 (check_of b) (mod-lt (1 + sum_words 127 b) (lit< tt)) in
      eq-eqb (number_at 4 (512 * k + 508) s) (check_of (part (512 * k) 508 s)) (ec ∙ ap check_of (sym eb))
    where
      all-body : (k : ℕ) → part 0 508 (body k count t (terms_of k ts)) ≡ body k count t (terms_of k ts)
      all-body k = part-all (body k count t (terms_of k ts)) 508 (length-body k count t (terms_of k ts) (terms_of-few k ts))

  block-stands : (k : ℕ) → k < count → block_stands s k ≡ true
  unfolding stands_with
  block-stands k h =
      let us = terms_of k ts in
      let he : here_of (total_in s) k ≡ length us = ap (λ (n : ℕ). here_of n k) total-is ∙ sym (length-terms_of k ts) in
      let e0 : 512 * k ≡ 512 * k + 0 = omega arith in
      let eh : part (512 * k) 16 s ≡ header k count (length us) t = ap (λ (n : ℕ). part n 16 s) e0 ∙ (inside k 0 16 h (omega arith) ∙ (header-in k count t us (terms_of-few k ts) 0 16 (omega arith) ∙ part-all (header k count (length us) t) 16 (length-header k count (length us) t))) in
      let ew : header k (count_in s) (here_of (total_in s) k) (setting_in s) ≡ header k count (length us) t =
      ap₂ (λ (c : ℕ) (u : Setting). header k c (here_of (total_in s) k) u) count-is setting-is ∙ ap (λ (n : ℕ). header k count n t) he in
      let ef : part (512 * k + 16 + 12 * length us) (12 * (41 - length us)) s ≡ unused (length us) =
      ap (λ (n : ℕ). part n (12 * (41 - length us)) s) (let e : 512 * k + 16 + 12 * length us ≡ 512 * k + (16 + 12 * length us) = omega arith in e)
      ∙ (inside k (16 + 12 * length us) (12 * (41 - length us)) h (omega (arith, terms_of-few k ts)) ∙ filler-in k count t us (terms_of-few k ts)) in
      ap₂ ◌&&◌
      (ap₂ same eh ew ∙ same_self (header k count (length us) t))
      (ap (λ (n : ℕ). zeros (part (512 * k + 16 + 12 * n) (12 * (41 - n)) s)) he ∙ (ap zeros ef ∙ below-zeros 0 (12 * (41 - length us))))

  -- ---- the terms
  term_is : (i : ℕ) → i < length ts → term_at s i ≡ get_or ts i (term 0 0)
  term_is i h =
      let k = i / 41 in
      let j = i % 41 in
      let us = terms_of k ts in
      let g : k < count = omega arith in
      let m : j < 41 = omega arith in
      let n : j < length us = omega (arith, length-terms_of k ts) in
      let q = passes (order_of t.order) t.n t.weights t.p ts w.good in
      let f = fitting t ts w.set.n-high in-range.0 w.set.limit q.1 q.0.reduced i h in
      let d : get_or us j (term 0 0) ≡ get_or ts i (term 0 0) =
      get_or-take 41 (drop (41 * k) ts) j (term 0 0) m ∙ (get_or-drop (41 * k) ts j (term 0 0) ∙ ap (λ (x : ℕ). get_or ts x (term 0 0)) (let e : 41 * k + j ≡ i = omega arith in e)) in
      let ew : number_at 8 (place_at i) s ≡ (get_or ts i (term 0 0)).mono =
      ap of_bytes (inside k (16 + 12 * j) 8 g (omega arith) ∙ (places-in k count t us (terms_of-few k ts) (12 * j) 8 (omega arith) ∙ word_in us j n))
      ∙ (ap (λ (u : Term ℕ). of_bytes (bytes 8 u.mono)) d ∙ got-back 8 (get_or ts i (term 0 0)).mono f.0) in
      let ec : number_at 4 (place_at i + 8) s ≡ (get_or ts i (term 0 0)).coef =
      ap (λ (x : ℕ). number_at 4 x s) (let e : place_at i + 8 ≡ 512 * k + (16 + (12 * j + 8)) = omega arith in e)
      ∙ (ap of_bytes (inside k (16 + (12 * j + 8)) 4 g (omega arith) ∙ (places-in k count t us (terms_of-few k ts) (12 * j + 8) 4 (omega arith) ∙ coef-in us j n))
      ∙ (ap (λ (u : Term ℕ). of_bytes (bytes 4 u.coef)) d ∙ got-back 4 (get_or ts i (term 0 0)).coef f.1)) in
      ap₂ (λ (x y : ℕ). term x y) ew ec

  pub terms-are : terms_in s ≡ ts
  terms-are =
      ap (first_terms s) total-is
      ∙ ext_get_or (term 0 0) (first_terms s (length ts)) ts (length-first s (length ts)) (λ i h. let g : i < length ts = omega (arith, length-first s (length ts)) in first-at s (length ts) i g ∙ term_is i g)

  -- ---- nothing is refused
  checks : checks_stand s ≡ true
  checks = ap (λ (n : ℕ). all_below n (check_stands s)) count-is ∙ all_of (check_stands s) count check-stands

  stand : blocks_stand s ≡ true
  stand =
      ap₂ ◌&&◌ (eq-eqb (block_count (total_in s)) (count_in s) (ap block_count total-is ∙ sym count-is))
      (ap₂ ◌&&◌ (le-leb (total_in s) most_terms (omega (arith, total-is, few))) (ap (λ (n : ℕ). all_below n (block_stands s)) count-is ∙ all_of (block_stands s) count block-stands))

  whole : whole_blocks (length s) ≡ true
  whole = let c = some-blocks in whole_is (length s) (record { whole = omega (arith, length-s); some = omega (arith, length-s, c.0); most = omega (arith, length-s, c.1) })

  pub form : (ow oc : ℕ) → ow ≡ oc → form_refusal s ow oc ≡ 0
  unfolding form_refusal_with
  form ow oc lent = rw (eq-eqb ow oc lent, whole, checks, stand)

  module _ (ow oc : ℕ) (lent : ow ≡ oc) (enough : length ws ≤ ow) where
    content : content_refusal s ow ≡ 0
    unfolding content_with
    content =
        ap₂ (λ (u : Setting) (vs : List (Term ℕ)). first (setting u) (first (polynomial_refusal u vs) (unless (leb (total_in s) ow) 10))) setting-is terms-are
        ∙ rw (w.passes-setting, w.good, le-leb (total_in s) ow (omega (arith, total-is, long)))

    pub accepted : read_refusal s ow oc ≡ 0
    accepted = ap₂ first (form ow oc lent) content

-- What writing makes is read as the p, order, n and weights and the terms that were written; the rest of what is lent is not changed.
pub written_read : (t : Setting) (ws cs ow oc : List ℕ) (room : ℕ) → write_refusal t ws cs room ≡ 0 → length ow ≡ length oc → length ws ≤ length ow
    → ◌≡◌ {A = ReadOutcome} (read_outcome (blocks_of t (terms ws cs)) ow oc) (record { answer = read_stated (answer_read t.p t.order t.n (weight_number t.weights) (length ws)); ws = ws ++ drop (length ws) ow; cs = cs ++ drop (length ws) oc })
written_read t ws cs ow oc room h lent enough =
    let w = write-passes t ws cs room h in
    let s = blocks_of t (terms ws cs) in
    let l = length-terms ws cs (sym w.lent) in
    ap (λ (r : ℕ). read_by r (setting_in s) (terms_in s) ow oc) (accepted t ws cs room w (length ow) (length oc) lent enough)
    ∙ (ap₂ (λ (u : Setting) (vs : List (Term ℕ)). read_by 0 u vs ow oc) (setting-is t ws cs room w) (terms-are t ws cs room w)
    ∙ ap₂ (λ (n : ℕ) (x : List ℕ). record { answer = read_stated (answer_read t.p t.order t.n (weight_number t.weights) n); ws = x ++ drop n ow; cs = coefs (terms ws cs) ++ drop n oc }) l (words-terms ws cs (sym w.lent))
    ∙ ap (λ (y : List ℕ). record { answer = read_stated (answer_read t.p t.order t.n (weight_number t.weights) (length ws)); ws = ws ++ drop (length ws) ow; cs = y ++ drop (length ws) oc }) (coefs-terms ws cs (sym w.lent)))
