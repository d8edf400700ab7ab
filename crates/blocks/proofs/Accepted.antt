-- Bytes that reading accepts are the blocks of the polynomial that it gives. Assumes nothing.
use Rattle.std.proofs.Common.{◌≡◌, refl, sym, ap, ap₂, ◌∙◌, true, List, [], ◌∷◌, ◌++◌, append-nil, ℕ, zero, suc, ◌+◌, ◌-◌, ◌*◌, ◌<◌, ◌≤◌, arith, eqb-true, length, get_or, take, drop, replicate, take_all, take-suc, take-add, get_or-take, get_or-drop}
use lib.ListN.{length-map}
use lib.Seq.{take-length}
use Rattle.monomial.specs.Layout.{bytes, Below}
use Rattle.monomial.proofs.Places.{and_both, true_below}
use Rattle.monomial.proofs.Places as M
use Rattle.polynomial.specs.Terms.{Term, term, words, coefs}
use Rattle.polynomial.specs.Opening.{polynomial_refusal}
use Rattle.polynomial.proofs.TermLists.{terms-of}
use Rattle.merge_common.specs.Lent.{part}
use Rattle.merge_common.proofs.Lists.{length_part}
use Rattle.polynomial.specs.declared.setting.Setting.{Setting}
use Rattle.block.specs.Block.{number_at, header, place, places, unused, check_of, body, block_with, block, terms_of, block_count, first_blocks_with, first_blocks, blocks_of, same, zeros, setting_in}
use Rattle.block.proofs.ByteLaws.{part-append}
use Rattle.block.proofs.WeightLaws.{length-weights}
use Rattle.block.proofs.BlockLaws.{places-append}
use Rattle.block.proofs.FieldLaws.{same_true, number-bytes}
use Rattle.block_form.specs.Form.{count_in, total_in, here_of, check_stands, stands_with, block_stands}
use Rattle.blocks.specs.Reading.{place_at, terms_in, read_refusal}
use Rattle.block_form.proofs.FormLaws.{all-each, Form}
use Rattle.blocks.specs.Outcome.{write_refusal}
use Rattle.blocks.proofs.PlaceLaws.{length-first, first-at}
use Rattle.blocks.proofs.WriteLaws.{no_stop, length-terms_of, terms_of-few}
use Rattle.blocks.proofs.ReadLaws.{read-passes}

module _ (s : List ℕ) (u : Below 256 s) where
  place-bytes : (at : ℕ) → at + 12 ≤ length s → place (term (number_at 8 at s) (number_at 4 (at + 8) s)) ≡ part at 12 s
  place-bytes at h = ap₂ ◌++◌ (number-bytes s u 8 at (omega arith)) (number-bytes s u 4 (at + 8) (omega arith)) ∙ sym (part-append at 8 4 s)

  module _ (ow oc : ℕ) (f : Form s ow oc) where
    abbrev t : Setting
    t = setting_in s

    abbrev ts : List (Term ℕ)
    ts = terms_in s

    abbrev count : ℕ
    count = count_in s

    long : length ts ≡ total_in s
    long = length-first s (total_in s)

    length-s : length s ≡ 512 * count
    length-s = let w = f.whole in omega (arith, w.whole)

    inside : (k : ℕ) → k < count → 512 * k + 512 ≤ length s
    inside k h = omega (arith, length-s)

    here-is : (k : ℕ) → here_of (total_in s) k ≡ length (terms_of k ts)
    here-is k = ap (λ (n : ℕ). here_of n k) (sym long) ∙ sym (length-terms_of k ts)

    -- ---- block k, part by part
    module _ (k : ℕ) (h : k < count) where
      abbrev us : List (Term ℕ)
      us = terms_of k ts

      stands : block_stands s k ≡ true
      stands = all-each (block_stands s) count f.stand.each k h

      tested : (same (part (512 * k) 16 s) (header k (count_in s) (here_of (total_in s) k) (setting_in s)) ≡ true) × (zeros (part (512 * k + 16 + 12 * here_of (total_in s) k) (12 * (41 - here_of (total_in s) k)) s) ≡ true)
      unfolding stands_with
      tested = and_both (same (part (512 * k) 16 s) (header k (count_in s) (here_of (total_in s) k) (setting_in s))) (zeros (part (512 * k + 16 + 12 * here_of (total_in s) k) (12 * (41 - here_of (total_in s) k)) s)) stands

      header_is : part (512 * k) 16 s ≡ header k count (length us) t
      header_is = same_true (part (512 * k) 16 s) (header k count (here_of (total_in s) k) t) tested.0 ∙ ap (λ (n : ℕ). header k count n t) (here-is k)

      filler-is : part (512 * k + 16 + 12 * length us) (12 * (41 - length us)) s ≡ unused (length us)
      filler-is =
          let n = length us in
          let b = part (512 * k + 16 + 12 * n) (12 * (41 - n)) s in
          let e : zeros b ≡ true = ap (λ (m : ℕ). zeros (part (512 * k + 16 + 12 * m) (12 * (41 - m)) s)) (sym (here-is k)) ∙ tested.1 in
          M.zeros b (true_below 1 b e)
          ∙ ap (λ (m : ℕ). replicate m 0) (length_part (512 * k + 16 + 12 * n) (12 * (41 - n)) s (omega (arith, inside k h, terms_of-few k ts)))

      term_is : (j : ℕ) → j < length us → get_or us j (term 0 0) ≡ term (number_at 8 (512 * k + 16 + 12 * j) s) (number_at 4 (512 * k + 16 + 12 * j + 8) s)
      term_is j l =
          let i = 41 * k + j in
          let m : j < 41 = omega (arith, terms_of-few k ts) in
          let g : i < total_in s = omega (arith, length-terms_of k ts, long) in
          let e : place_at i ≡ 512 * k + 16 + 12 * j = omega arith in
          get_or-take 41 (drop (41 * k) ts) j (term 0 0) m
          ∙ (get_or-drop (41 * k) ts j (term 0 0) ∙ (first-at s (total_in s) i g ∙ ap (λ (x : ℕ). term (number_at 8 x s) (number_at 4 (x + 8) s)) e))

      places-are : (j : ℕ) → j ≤ length us → part (512 * k + 16) (12 * j) s ≡ places (take j us)
      unfolding places
      places-are zero l = refl
      places-are (suc j) l =
          let at = 512 * k + 16 + 12 * j in
          let e : 12 * suc j ≡ 12 * j + 12 = omega arith in
          let v = get_or us j (term 0 0) in
          let m : j < length us = omega arith in
          let q : part at 12 s ≡ place v = sym (place-bytes at (omega (arith, inside k h, terms_of-few k ts))) ∙ ap place (sym (term_is j m)) in
          ap (λ (n : ℕ). part (512 * k + 16) n s) e
          ∙ (part-append (512 * k + 16) (12 * j) 12 s
          ∙ (ap₂ ◌++◌ (places-are j (omega arith)) (q ∙ sym (append-nil (place v)))
          ∙ (sym (places-append (take j us) (v ∷ [])) ∙ ap places (sym (take-suc us j (term 0 0) m)))))

      body_is : part (512 * k) 508 s ≡ body k count t us
      body_is =
          let n = length us in
          let e : 508 ≡ 16 + (12 * n + 12 * (41 - n)) = omega (arith, terms_of-few k ts) in
          ap (λ (m : ℕ). part (512 * k) m s) e
          ∙ (part-append (512 * k) 16 (12 * n + 12 * (41 - n)) s
          ∙ ap₂ ◌++◌ header_is (part-append (512 * k + 16) (12 * n) (12 * (41 - n)) s ∙ ap₂ ◌++◌ (places-are n (omega arith) ∙ ap places (take-length us)) filler-is))

      check-is : part (512 * k + 508) 4 s ≡ bytes 4 (check_of (body k count t us))
      check-is =
          sym (number-bytes s u 4 (512 * k + 508) (omega (arith, inside k h)))
          ∙ ap (bytes 4) (eqb-true (number_at 4 (512 * k + 508) s) (check_of (part (512 * k) 508 s)) (all-each (check_stands s) count f.checks k h) ∙ ap check_of body_is)

      pub block-is : part (512 * k) 512 s ≡ block k count t us
      unfolding block_with
      block-is = part-append (512 * k) 508 4 s ∙ ap₂ ◌++◌ body_is check-is

    -- ---- all blocks
    blocks-are : (m : ℕ) → m ≤ count → take (512 * m) s ≡ first_blocks count t ts m
    unfolding first_blocks_with
    blocks-are zero l = refl
    blocks-are (suc m) l =
        let e : 512 * suc m ≡ 512 * m + 512 = omega arith in
        ap (λ (n : ℕ). take n s) e ∙ (take-add (512 * m) 512 s ∙ ap₂ ◌++◌ (blocks-are m (omega arith)) (block-is m (omega arith)))

    pub all_blocks : s ≡ blocks_of t ts
    all_blocks =
        let e : count ≡ block_count (length ts) = sym f.stand.fits ∙ ap block_count (sym long) in
        sym (take_all (512 * count) s (omega (arith, length-s))) ∙ (blocks-are count (omega arith) ∙ ap (λ (n : ℕ). first_blocks n t ts n) e)

-- Writing refuses nothing that reading accepts, with room for as many bytes.
pub accepted-written : (s : List ℕ) (ow oc : ℕ) → read_refusal s ow oc ≡ 0 → write_refusal (setting_in s) (words (terms_in s)) (coefs (terms_in s)) (length s) ≡ 0
accepted-written s ow oc h =
    let r = read-passes s ow oc h in
    let t = setting_in s in
    let ts = terms_in s in
    let w = r.form.whole in
    let f = r.form.stand in
    let lw : length (words ts) ≡ total_in s = length-map ts (λ u. u.mono) ∙ length-first s (total_in s) in
    let lc : length (coefs ts) ≡ total_in s = length-map ts (λ u. u.coef) ∙ length-first s (total_in s) in
    let e : block_count (length (words ts)) ≡ count_in s = ap block_count lw ∙ f.fits in
    sym (no_stop t (words ts) (coefs ts) (length s) r.content.set (length-weights 6 (number_at 3 12 s)) (lw ∙ sym lc)
    (ap (polynomial_refusal t) (terms-of ts) ∙ r.content.good)
    (omega (arith, lw, f.few)) (omega (arith, e, w.whole)))

-- Each number of accepted bytes is determined: they are the blocks of the setting and the terms that reading gives (`read_outcome`).
pub accepted-blocks : (s : List ℕ) (ow oc : ℕ) → Below 256 s → read_refusal s ow oc ≡ 0 → s ≡ blocks_of (setting_in s) (terms_in s)
accepted-blocks s ow oc u h = all_blocks s u ow oc (read-passes s ow oc h).form
