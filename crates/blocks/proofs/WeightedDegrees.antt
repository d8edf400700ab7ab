-- Document 02, "Weighted degrees.", for the block store: where the weights lie in the blocks, what a reader of the first kind makes of them, and 24 in reading. Assumes nothing.
use Rattle.std.proofs.Common.{◌≡◌, refl, sym, ap, ◌∙◌, Bool, true, false, List, ◌++◌, ℕ, ◌+◌, ◌-◌, ◌*◌, ◌<◌, ◌≤◌, arith, length, get_or, take, drop, length-append}
use Rattle.limits.specs.Limits.{most_variables}
use Rattle.refusal.specs.declared.Refusal.TheVariants.{BadWeight}
use Rattle.residue.proofs.Primality.{prime-true}
use Rattle.merge_common.specs.Lent.{part}
use Rattle.monomial.specs.Exponents.{ones}
use Rattle.polynomial.specs.Terms.{terms}
use Rattle.polynomial.specs.Opening.{first}
use Rattle.polynomial.specs.declared.setting.Setting.{Setting}
use Rattle.polynomial.proofs.OpeningLaws.{first-none}
use Rattle.monomial.specs.Layout.{Below}
use Rattle.opening.specs.Run.{weights_good, setting}
use Rattle.opening.specs.Judgement.{GoodPrime, Between}
use Rattle.opening.proofs.SettingLaws.{no-weights}
use Rattle.opening.proofs.WeightsJudged.{good-between, weights-good}
use Rattle.block.specs.Block.{number_at, blocks_of, setting_in}
use Rattle.block.proofs.ByteLaws.{part-3}
use Rattle.block.proofs.WeightLaws.{halves, half-bytes, length-weights}
use Rattle.block_form.specs.Form.{form_refusal}
use Rattle.block_form.specs.FirstKind.{first_kind_form}
use Rattle.block_form.proofs.FirstKindLaws.{weighted-sixteen}
use Rattle.blocks.specs.Reading.{terms_in, content_with, content_refusal}
use Rattle.blocks.specs.Outcome.{answer_refused, WriteOutcome, ReadOutcome, read_stated, read_by, read_outcome}
use Rattle.blocks.specs.FirstKind.{first_kind_read, turned_away}
use Rattle.blocks.proofs.WriteLaws.{write-passes}
use Rattle.blocks.proofs.InsideLaws.{part_left}
use Rattle.blocks.proofs.RoundTrip.{in-range, weight-part, setting-is, form}
use Rattle.blocks.proofs.Demands.{wrote, none-refused, demand-2-written, written-bytes, got_number}
use Rattle.blocks.proofs.LargerPrimes.{inside, turned-away}

-- ---- what is written
module _ (t : Setting) (ws cs bytes : List ℕ) (done : (wrote t ws cs bytes).answer.number ≡ 0) where
  abbrev s : List ℕ
  s = blocks_of t (terms ws cs)

  three : (k : ℕ) → k < (wrote t ws cs bytes).answer.blocks → part (512 * k + 12) 3 (wrote t ws cs bytes).bytes ≡ halves t.weights
  three k h =
      let w = write-passes t ws cs (length bytes) (none-refused t ws cs bytes done) in
      let i = inside t ws cs bytes done k h in
      let g = in-range t ws cs (length bytes) w in
      ap (λ (o : WriteOutcome). part (512 * k + 12) 3 o.bytes) (demand-2-written t ws cs bytes done)
      ∙ (part_left s (drop (length s) bytes) (512 * k + 12) 3 (omega (arith, i.1))
      ∙ (weight-part t ws cs (length bytes) w k i.0 ∙ half-bytes t.weights w.six g.0 g.1))

  long : (k : ℕ) → k < (wrote t ws cs bytes).answer.blocks → 512 * k + 512 ≤ length (wrote t ws cs bytes).bytes
  long k h =
      let i = inside t ws cs bytes done k h in
      let r = drop (length s) bytes in
      let e : length (wrote t ws cs bytes).bytes ≡ length (s ++ r) = ap (λ (o : WriteOutcome). length o.bytes) (demand-2-written t ws cs bytes done) in
      omega (arith, e, i.1, length-append s r)

  -- in each block, "bytes 12 to 14 hold weight minus 1 in four bits each, x1 in the low half of byte 12, x2 in its high half"
  pub weight-bytes : (k : ℕ) → k < (wrote t ws cs bytes).answer.blocks
      → (get_or (wrote t ws cs bytes).bytes (512 * k + 12) 0 ≡ get_or t.weights 0 0 - 1 + 16 * (get_or t.weights 1 0 - 1))
      × (get_or (wrote t ws cs bytes).bytes (512 * k + 13) 0 ≡ get_or t.weights 2 0 - 1 + 16 * (get_or t.weights 3 0 - 1))
      × (get_or (wrote t ws cs bytes).bytes (512 * k + 14) 0 ≡ get_or t.weights 4 0 - 1 + 16 * (get_or t.weights 5 0 - 1))
  weight-bytes k h =
      let b = (wrote t ws cs bytes).bytes in
      let at = 512 * k + 12 in
      let e = sym (part-3 b at (omega (arith, long k h))) ∙ three k h in
      let one : at + 1 ≡ 512 * k + 13 = omega arith in
      let two : at + 2 ≡ 512 * k + 14 = omega arith in
      (ap (λ (l : List ℕ). get_or l 0 0) e, ap (λ (n : ℕ). get_or b n 0) (sym one) ∙ ap (λ (l : List ℕ). get_or l 1 0) e, ap (λ (n : ℕ). get_or b n 0) (sym two) ∙ ap (λ (l : List ℕ). get_or l 2 0) e)

  -- a reader of the first kind turns blocks with weights that are not all 1 away with 16, whatever is lent to it
  pub written-weighted-sixteen : (t.weights ≡ ones → ⊥) → (ow oc : List ℕ) → length ow ≡ length oc
      → ◌≡◌ {A = ReadOutcome} (first_kind_read (take (512 * (wrote t ws cs bytes).answer.blocks) (wrote t ws cs bytes).bytes) ow oc) (turned_away ow oc)
  written-weighted-sixteen other ow oc lent =
      let room = length bytes in
      let w = write-passes t ws cs room (none-refused t ws cs bytes done) in
      let e : first_kind_form s (length ow) (length oc) ≡ 16 = weighted-sixteen s (length ow) (length oc) (form t ws cs room w (length ow) (length oc) lent) (λ q. other (sym (ap (λ (u : Setting). u.weights) (setting-is t ws cs room w)) ∙ q)) in
      ap (λ (l : List ℕ). first_kind_read l ow oc) (written-bytes t ws cs bytes done) ∙ turned-away s ow oc e

-- ---- what is read
-- the first kind's reader on any such bytes that are accepted today
pub accepted-weighted-sixteen : (bytes ow oc : List ℕ) → Below 256 bytes → (read_outcome bytes ow oc).answer.number ≡ 0 → ((setting_in bytes).weights ≡ ones → ⊥) → ◌≡◌ {A = ReadOutcome} (first_kind_read bytes ow oc) (turned_away ow oc)
accepted-weighted-sixteen bytes ow oc u done other =
    let a = first-none (form_refusal bytes (length ow) (length oc)) (content_refusal bytes (length ow)) (got_number bytes ow oc u ∙ done) in
    turned-away bytes ow oc (weighted-sixteen bytes (length ow) (length oc) a.0 other)

-- "such a weight beyond n, the same in all blocks, gives 24, not 16": bytes in the form of blocks, with a good p, order and n, and a weight beyond n that is not 1
module _ (bytes ow oc : List ℕ) (formed : form_refusal bytes (length ow) (length oc) ≡ 0) (p : GoodPrime (setting_in bytes).p) (order : Between 1 3 (setting_in bytes).order) (n : Between 1 most_variables (setting_in bytes).n) where
  not_good : (i : ℕ) → i < 6 → (setting_in bytes).n ≤ i → (get_or (setting_in bytes).weights i 0 ≡ 1 → ⊥) → weights_good (setting_in bytes).n (setting_in bytes).weights ≡ false
  not_good i h beyond other = go (weights_good (setting_in bytes).n (setting_in bytes).weights) refl
    where
      go : (b : Bool) → weights_good (setting_in bytes).n (setting_in bytes).weights ≡ b → weights_good (setting_in bytes).n (setting_in bytes).weights ≡ false
      go true e = absurd (other ((weights-good (setting_in bytes).n (setting_in bytes).weights e).beyond-one i (omega (arith, h, length-weights 6 (number_at 3 12 bytes))) beyond))
      go false e = e

  pub beyond-twenty-four : (i : ℕ) → i < 6 → (setting_in bytes).n ≤ i → (get_or (setting_in bytes).weights i 0 ≡ 1 → ⊥) → ◌≡◌ {A = ReadOutcome} (read_outcome bytes ow oc) (record { answer = read_stated (answer_refused BadWeight 0); ws = ow; cs = oc })
  unfolding content_with
  beyond-twenty-four i h beyond other =
      let e : 24 ≡ setting (setting_in bytes) = no-weights (setting_in bytes) p.1 (prime-true (setting_in bytes).p p.0) (good-between 1 3 (setting_in bytes).order order) (good-between 1 most_variables (setting_in bytes).n n) (not_good i h beyond other) in
      let q : content_refusal bytes (length ow) ≡ 24 = rw (← e) in
      ap (λ (r : ℕ). read_by (first r (content_refusal bytes (length ow))) (setting_in bytes) (terms_in bytes) ow oc) formed ∙ ap (λ (r : ℕ). read_by r (setting_in bytes) (terms_in bytes) ow oc) q
