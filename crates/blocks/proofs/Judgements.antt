-- The refusals of writing and of reading blocks are those that the documents' conditions come to, and which numbers can come at all. Assumes nothing.
use Rattle.std.proofs.Common.{◌≡◌, refl, sym, ap, ap₂, ◌∙◌, true, ◌&&◌, List, [], ◌∷◌, ◌++◌, ℕ, ◌*◌, ◌≤◌, arith, eqb-true, leb-true, eq-eqb, le-leb, leb, eqb, length}
use Rattle.limits.specs.Limits.{most_terms, weight_count}
use Rattle.monomial.specs.Layout.{Below}
use Rattle.monomial.proofs.Places.{and_both}
use Rattle.refusal.specs.Judgement.{Condition, condition, Judged, OneOf}
use Rattle.refusal.proofs.JudgementLaws.{judged-numbers, numbered-then}
use Rattle.polynomial.specs.Terms.{Term, terms}
use Rattle.polynomial.specs.Opening.{first, polynomial_refusal}
use Rattle.polynomial.specs.declared.setting.Setting.{Setting}
use Rattle.polynomial.proofs.TermLists.{length-terms}
use Rattle.opening.specs.Run.{unless, setting}
use Rattle.opening.specs.Judgement.{setting_conditions, polynomial_conditions}
use Rattle.opening.proofs.Judging.{judged-unless, judged-first, judged-test}
use Rattle.opening.proofs.Judgements.{setting-counted, setting-judged}
use Rattle.opening.proofs.WeightsJudged.{weights-small}
use Rattle.opening.proofs.PolynomialsJudged.{polynomial-counted, polynomial-judged}
use Rattle.opening.proofs.ListedLaws.{setting-by, polynomial-by}
use Rattle.block.specs.Block.{block_count, blocks_of, setting_in}
use Rattle.block_form.specs.Form.{total_in, form_refusal}
use Rattle.block_form.specs.Judgement.{form_conditions}
use Rattle.block_form.proofs.Judgements.{form-judged}
use Rattle.blocks.specs.Reading.{terms_in, content_with, content_refusal, read_refusal}
use Rattle.blocks.specs.Outcome.{sizes_good, write_refusal}
use Rattle.blocks.specs.Judgement.{GoodSizes, write_conditions, read_conditions}
use Rattle.blocks.proofs.PlaceLaws.{length-first}
use Rattle.blocks.proofs.Counts.{long-blocks}

-- ---- writing
module _ (t : Setting) (ws cs : List ℕ) (room : ℕ) where
  abbrev ts : List (Term ℕ)
  ts = terms ws cs

  abbrev eleven : Condition
  eleven = condition 11 (length ws ≤ most_terms)

  abbrev ten : Condition
  ten = condition 10 (length (blocks_of t (terms ws cs)) ≤ room)

  -- the bytes of all blocks, by the number of terms
  all-bytes : length ws ≡ length cs → length (blocks_of t ts) ≡ 512 * block_count (length ws)
  all-bytes l = long-blocks t ts ∙ ap (λ (n : ℕ). 512 * block_count n) (length-terms ws cs (sym l))

  sizes-good : sizes_good (length t.weights) (length ws) (length cs) ≡ true → GoodSizes t.weights ws cs
  sizes-good e =
      let a = and_both (eqb (length t.weights) weight_count) (eqb (length ws) (length cs)) e in
      record { weights-six = eqb-true (length t.weights) weight_count a.0; coefs-alike = eqb-true (length ws) (length cs) a.1 }

  good-sizes : GoodSizes t.weights ws cs → sizes_good (length t.weights) (length ws) (length cs) ≡ true
  good-sizes g = ap₂ ◌&&◌ (eq-eqb (length t.weights) weight_count g.weights-six) (eq-eqb (length ws) (length cs) g.coefs-alike)

  pub write-judged : Judged (write_conditions t ws cs room) (write_refusal t ws cs room)
  unfolding write_refusal
  write-judged =
      let eight = condition 8 (GoodSizes t.weights ws cs) in
      let last = eleven ∷ (ten ∷ []) in
      let r = polynomial_refusal t ts in
      let sizes = sizes_good (length t.weights) (length ws) (length cs) in
      let full = unless (leb (512 * block_count (length ws)) room) 10 in
      let late = first (unless (leb (length ws) most_terms) 11) full in
      judged-first (setting_conditions t) (eight ∷ (polynomial_conditions t ts ++ last)) (setting t) (first (unless sizes 8) (first r late)) (setting-counted t) (setting-judged t)
      (λ s. judged-test eight (polynomial_conditions t ts ++ last) sizes (first r late) (omega arith) sizes-good good-sizes
      (λ l. judged-first (polynomial_conditions t ts) last r late (polynomial-counted t ts) (polynomial-judged t s.1.1.0.1 (weights-small t.n t.weights s.1.1.1.0) ts)
      (λ a. judged-test eleven (ten ∷ []) (leb (length ws) most_terms) full (omega arith) (leb-true (length ws) most_terms) (le-leb (length ws) most_terms)
      (λ f. judged-unless ten (leb (512 * block_count (length ws)) room) (λ e. omega (arith, all-bytes l.coefs-alike, leb-true (512 * block_count (length ws)) room e)) (λ g. le-leb (512 * block_count (length ws)) room (omega (arith, all-bytes l.coefs-alike, g)))))))

  abbrev write_numbers : List ℕ
  write_numbers = 1 ∷ 2 ∷ 3 ∷ 4 ∷ 5 ∷ 6 ∷ 8 ∷ 10 ∷ 11 ∷ 24 ∷ []

  pub write-numbers : OneOf (0 ∷ 1 ∷ 2 ∷ 3 ∷ 4 ∷ 5 ∷ 6 ∷ 8 ∷ 10 ∷ 11 ∷ 24 ∷ []) (write_refusal t ws cs room)
  write-numbers =
      let eight = condition 8 (GoodSizes t.weights ws cs) in
      let last = eleven ∷ (ten ∷ []) in
      judged-numbers write_numbers (write_conditions t ws cs room) (write_refusal t ws cs room)
      (numbered-then write_numbers (setting_conditions t) (eight ∷ (polynomial_conditions t ts ++ last)) (setting-by write_numbers t refl refl refl refl)
      (refl, numbered-then write_numbers (polynomial_conditions t ts) last (polynomial-by write_numbers t refl refl refl ts) (refl, (refl, tt))))
      write-judged

-- ---- reading
module _ (s : List ℕ) (ow oc : ℕ) (u : Below 256 s) where
  abbrev room : Condition
  room = condition 10 (length (terms_in s) ≤ ow)

  content-judged : Judged (setting_conditions (setting_in s) ++ (polynomial_conditions (setting_in s) (terms_in s) ++ (room ∷ []))) (content_refusal s ow)
  unfolding content_with
  content-judged =
      let t = setting_in s in
      let us = terms_in s in
      let r = polynomial_refusal t us in
      let full = unless (leb (total_in s) ow) 10 in
      let l = length-first s (total_in s) in
      judged-first (setting_conditions t) (polynomial_conditions t us ++ (room ∷ [])) (setting t) (first r full) (setting-counted t) (setting-judged t)
      (λ g. judged-first (polynomial_conditions t us) (room ∷ []) r full (polynomial-counted t us) (polynomial-judged t g.1.1.0.1 (weights-small t.n t.weights g.1.1.1.0) us)
      (λ a. judged-unless room (leb (total_in s) ow) (λ e. omega (arith, l, leb-true (total_in s) ow e)) (λ f. le-leb (total_in s) ow (omega (arith, l, f)))))

  pub read-judged : Judged (read_conditions s ow oc) (read_refusal s ow oc)
  read-judged =
      judged-first (form_conditions s ow oc) (setting_conditions (setting_in s) ++ (polynomial_conditions (setting_in s) (terms_in s) ++ (room ∷ []))) (form_refusal s ow oc) (content_refusal s ow)
      (omega arith, (omega arith, (omega arith, (omega arith, tt)))) (form-judged s ow oc u) (λ f. content-judged)

  abbrev read_numbers : List ℕ
  read_numbers = 1 ∷ 2 ∷ 3 ∷ 4 ∷ 5 ∷ 6 ∷ 8 ∷ 10 ∷ 14 ∷ 15 ∷ 16 ∷ 24 ∷ []

  pub read-numbers : OneOf (0 ∷ 1 ∷ 2 ∷ 3 ∷ 4 ∷ 5 ∷ 6 ∷ 8 ∷ 10 ∷ 14 ∷ 15 ∷ 16 ∷ 24 ∷ []) (read_refusal s ow oc)
  read-numbers =
      let t = setting_in s in
      let us = terms_in s in
      let last = polynomial_conditions t us ++ (room ∷ []) in
      judged-numbers read_numbers (read_conditions s ow oc) (read_refusal s ow oc)
      (numbered-then read_numbers (form_conditions s ow oc) (setting_conditions t ++ last) (refl, (refl, (refl, (refl, tt))))
      (numbered-then read_numbers (setting_conditions t) last (setting-by read_numbers t refl refl refl refl)
      (numbered-then read_numbers (polynomial_conditions t us) (room ∷ []) (polynomial-by read_numbers t refl refl refl us) (refl, tt))))
      read-judged
