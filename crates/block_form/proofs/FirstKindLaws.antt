-- The form of blocks of the first kind and of today's. Where p fits 16 bits and all weights are 1 they are the same; what else has today's form gets 16 from "a reader of the first kind". Assumes nothing.
use Rattle.std.proofs.Common.{◌≡◌, refl, sym, ap, ap₂, ◌∙◌, Bool, true, false, ◌&&◌, List, ◌++◌, ℕ, zero, suc, ◌+◌, ◌/◌, ◌<◌, ◌≤◌, arith, leb, eqb, replicate}
use mathlib.Core.Bool.{and-false}
use Rattle.limits.specs.Limits.{most_terms}
use Rattle.monomial.specs.Exponents.{ones}
use Rattle.monomial.specs.Layout.{bytes, of_bytes, Below}
use Rattle.merge_common.specs.Lent.{part}
use Rattle.polynomial.specs.Terms.{Term}
use Rattle.polynomial.specs.declared.setting.Setting.{Setting}
use Rattle.opening.specs.Run.{unless}
use Rattle.block.specs.Block.{number_at, weight_number, weights_of, setting_bytes, header_with, block_count, blocks_with, blocks_of, same, setting_in}
use Rattle.block.proofs.ByteLaws.{part-part}
use Rattle.block.proofs.FieldLaws.{same_true, number_fits}
use Rattle.block_form.specs.Form.{count_in, total_in, here_of, unused_clear, stands_with, all_stand_with, form_refusal_with, form_refusal}
use Rattle.block_form.specs.FirstKind.{first_kind_bytes, first_kind_blocks, first_kind_setting, first_kind_form}
use Rattle.block_form.proofs.FormLaws.{all-fails, form-passes, form-with}

-- ---- p that fits 16 bits, and weights of 1
pub small_bytes : (t : Setting) → t.p < 65536 → t.weights ≡ ones → setting_bytes t ≡ first_kind_bytes t
unfolding setting_bytes first_kind_bytes bytes weight_number
small_bytes t h unit =
    let e : t.p / 65536 ≡ 0 = omega arith in
    ap₂ (λ (x : ℕ) (vs : List ℕ). bytes 2 t.p ++ (bytes 1 t.order ++ (bytes 1 t.n ++ (bytes 2 x ++ (bytes 3 (weight_number vs) ++ replicate 1 0))))) e unit

-- "Blocks for primes up to 65,521 keep their bytes", and "Weights of 1 leave old blocks unchanged."
pub small-blocks : (t : Setting) (ts : List (Term ℕ)) → t.p < 65536 → t.weights ≡ ones → blocks_of t ts ≡ first_kind_blocks t ts
small-blocks t ts h unit = ap (λ (b : List ℕ). blocks_with b ts) (small_bytes t h unit)

module _ (s : List ℕ) (h : (setting_in s).p < 65536) (unit : (setting_in s).weights ≡ ones) where
  pub small-setting : setting_in s ≡ first_kind_setting s
  small-setting = let e : (setting_in s).p ≡ number_at 2 6 s = omega arith in ap₂ (λ (x : ℕ) (vs : List ℕ). record { p = x; order = number_at 1 8 s; n = number_at 1 9 s; weights = vs }) e unit

  pub small-form : (ow oc : ℕ) → form_refusal s ow oc ≡ first_kind_form s ow oc
  small-form ow oc = ap (λ (b : List ℕ). form_refusal_with b s ow oc) (small_bytes (setting_in s) h unit ∙ ap first_kind_bytes small-setting)

-- ---- larger p, or other weights
module _ (s : List ℕ) (some : 1 ≤ number_at 2 10 s + number_at 3 12 s) where
  -- the header that the first kind asks for has zeros where the upper half and the weights are
  other-header : (number count here : ℕ) (t : Setting) → part 0 16 s ≡ header_with (first_kind_bytes t) number count here → ⊥
  unfolding header_with first_kind_bytes bytes
  other-header number count here t e =
      let z : number_at 2 10 s ≡ 0 = ap of_bytes (sym (part-part 0 16 s 10 2 (omega arith)) ∙ ap (part 10 2) e) in
      let w : number_at 3 12 s ≡ 0 = ap of_bytes (sym (part-part 0 16 s 12 3 (omega arith)) ∙ ap (part 12 3) e) in
      let q : ⊥ = omega (arith, z, w) in
      q

  no-first : (t : Setting) → stands_with (first_kind_bytes t) s 0 ≡ false
  unfolding stands_with
  no-first t = go (same (part 0 16 s) (header_with (first_kind_bytes t) 0 (count_in s) (here_of (total_in s) 0))) refl
    where
      go : (b : Bool) → same (part 0 16 s) (header_with (first_kind_bytes t) 0 (count_in s) (here_of (total_in s) 0)) ≡ b → (same (part 0 16 s) (header_with (first_kind_bytes t) 0 (count_in s) (here_of (total_in s) 0)) && unused_clear s 0 (here_of (total_in s) 0)) ≡ false
      go true e = absurd (other-header 0 (count_in s) (here_of (total_in s) 0) t (same_true (part 0 16 s) (header_with (first_kind_bytes t) 0 (count_in s) (here_of (total_in s) 0)) e))
      go false e = ap (λ (b : Bool). b && unused_clear s 0 (here_of (total_in s) 0)) e

  none-stand : (t : Setting) → 0 < count_in s → all_stand_with (first_kind_bytes t) s ≡ false
  none-stand t c =
      let fits = eqb (block_count (total_in s)) (count_in s) in
      let few = leb (total_in s) most_terms in
      ap (λ (b : Bool). fits && (few && b)) (sym (all-fails (stands_with (first_kind_bytes t) s) (count_in s) 0 c (no-first t)))
      ∙ (ap (λ (b : Bool). fits && b) (and-false few) ∙ and-false fits)

  -- neither 14 nor 15, and before 1
  pub upper-sixteen : (ow oc : ℕ) → form_refusal s ow oc ≡ 0 → first_kind_form s ow oc ≡ 16
  upper-sixteen ow oc e =
      let f = form-passes s ow oc e in
      let w = f.whole in
      form-with (first_kind_bytes (first_kind_setting s)) s ow oc f ∙ ap (λ (b : Bool). unless b 16) (none-stand (first_kind_setting s) (omega (arith, w.some)))

-- "a reader of the first kind turns larger ones away with 16": any bytes that have the form of blocks
pub larger-sixteen : (s : List ℕ) (ow oc : ℕ) → Below 256 s → form_refusal s ow oc ≡ 0 → 65536 ≤ (setting_in s).p → first_kind_form s ow oc ≡ 16
larger-sixteen s ow oc u e h =
    let w = (form-passes s ow oc e).whole in
    let l : number_at 2 6 s < 65536 = number_fits s u 2 6 (omega (arith, w.some)) in
    upper-sixteen s (omega arith) ow oc e

-- and so with weights that are not all 1
pub weighted-sixteen : (s : List ℕ) (ow oc : ℕ) → form_refusal s ow oc ≡ 0 → ((setting_in s).weights ≡ ones → ⊥) → first_kind_form s ow oc ≡ 16
unfolding weights_of
weighted-sixteen s ow oc e other = go (number_at 3 12 s) refl
  where
    go : (x : ℕ) → number_at 3 12 s ≡ x → first_kind_form s ow oc ≡ 16
    go zero q = absurd (other (ap (weights_of 6) q))
    go (suc x) q = upper-sixteen s (omega (arith, q)) ow oc e
