-- Document 02, "Larger primes.", for the block store: where p lies in the blocks, and what the entries of the first kind (`first_kind_written`, `first_kind_read`) make of it. Assumes nothing.
use Rattle.std.proofs.Common.{◌≡◌, refl, sym, ap, ap₂, ◌∙◌, Bool, true, false, ◌&&◌, List, [], ◌∷◌, ◌++◌, ℕ, suc, ◌+◌, ◌*◌, ◌/◌, ◌%◌, ◌<◌, ◌≤◌, arith, eqb-true, leb-true, ltb-true, le-leb, leb, ltb, eqb, length, get_or, take, drop, length-append}
use native.Mathlib.Decide.{dec_le}
use borrow.Author.Tests.{lt-leb}
use Rattle.residue.specs.Prime.{Prime, is_prime}
use Rattle.residue.proofs.Primality.{prime-none, true-prime}
use Rattle.monomial.specs.Exponents.{ones}
use Rattle.monomial.specs.Layout.{of_bytes, Below}
use Rattle.monomial.proofs.Places.{and_both}
use Rattle.polynomial.specs.Terms.{terms}
use Rattle.polynomial.specs.Opening.{first}
use Rattle.polynomial.specs.declared.setting.Setting.{Setting}
use Rattle.polynomial.proofs.OpeningLaws.{first-none}
use Rattle.opening.specs.Run.{setting}
use Rattle.opening.proofs.SettingLaws.{no-prime, setting-passes}
use Rattle.block.specs.Block.{number_at, blocks_of, block_count, setting_in}
use Rattle.block.proofs.ByteLaws.{number-2}
use Rattle.block_form.specs.Form.{form_refusal}
use Rattle.block_form.specs.FirstKind.{first_kind_setting, first_kind_form}
use Rattle.block_form.proofs.FirstKindLaws.{small_bytes, small-setting, small-form, upper-sixteen, larger-sixteen}
use Rattle.blocks.specs.Reading.{terms_in, content_with, content_refusal}
use Rattle.blocks.specs.Outcome.{write_refusal, WriteOutcome, written_with, write_outcome, ReadOutcome, read_by, read_outcome}
use Rattle.blocks.specs.FirstKind.{limited, first_kind_written, first_kind_read, turned_away}
use Rattle.blocks.proofs.WriteLaws.{stop-setting, write-passes}
use Rattle.blocks.proofs.ReadLaws.{content-passes}
use Rattle.blocks.proofs.InsideLaws.{part_left}
use Rattle.blocks.proofs.Counts.{long-blocks}
use Rattle.blocks.proofs.RoundTrip.{low-is, upper_is, form}
use Rattle.blocks.proofs.Demands.{wrote, none-refused, demand-2-written, written-bytes, got_number}

-- ---- no prime is from 65,522 to 65,536
-- these are proper divisors of the numbers from n on, one for each
abbrev divided : (n : ℕ) → List ℕ → Bool
divided n [] = true
divided n (k ∷ ks) = (leb 2 k && ltb k n) && (eqb (n % k) 0 && divided (suc n) ks)

past : (p : ℕ) → Prime p → (n : ℕ) (ks : List ℕ) → divided n ks ≡ true → n ≤ p → n + length ks ≤ p
past p h n [] e l = omega (arith, l)
past p h n (k ∷ ks) e l =
    let a = and_both (leb 2 k && ltb k n) (eqb (n % k) 0 && divided (suc n) ks) e in
    let b = and_both (leb 2 k) (ltb k n) a.0 in
    let d = and_both (eqb (n % k) 0) (divided (suc n) ks) a.1 in
    let m = past p h (suc n) ks d.1 (go (leb-true 2 k b.0) (ltb-true k n b.1) (eqb-true (n % k) 0 d.0) (dec_le (suc n) p)) in
    omega (arith, m)
  where
    go : 2 ≤ k → k < n → n % k ≡ 0 → Dec (suc n ≤ p) → suc n ≤ p
    go two few z (yes q) = q
    go two few z (no q) = let w : p ≡ n = omega arith in absurd (prime-none p h k (omega arith) two (ap (λ (x : ℕ). x % k) w ∙ z))

pub none_between : (p : ℕ) → Prime p → 65521 < p → 65537 ≤ p
none_between p h l = past p h 65522 (2 ∷ 3 ∷ 2 ∷ 5 ∷ 2 ∷ 7 ∷ 2 ∷ 3 ∷ 2 ∷ 19 ∷ 2 ∷ 13 ∷ 2 ∷ 3 ∷ 2 ∷ []) refl (omega arith)

not-prime : (p : ℕ) → 65521 < p → p < 65536 → is_prime p ≡ false
not-prime p l h = go (is_prime p) refl
  where
    go : (b : Bool) → is_prime p ≡ b → is_prime p ≡ false
    go true e = absurd (let g = none_between p (true-prime p e) l in let z : ⊥ = omega arith in z)
    go false e = e

-- ---- p that fits 16 bits
-- today's limit refuses nothing that the first kind's did not
same-limit : (t : Setting) (r : ℕ) → t.p < 65536 → (setting t ≡ 1 → r ≡ 1) → r ≡ limited t r
same-limit t r h one = go (dec_le t.p 65521)
  where
    go : Dec (t.p ≤ 65521) → r ≡ limited t r
    go (yes l) = rw (le-leb t.p 65521 l)
    go (no l) = one (sym (no-prime t (not-prime t.p (omega arith) h))) ∙ rw (lt-leb t.p 65521 (let z : 65521 < t.p = omega arith in z))

-- "Blocks for primes up to 65,521 keep their bytes", and "Weights of 1 leave old blocks unchanged.": every call that writes, refused or not, has the first kind's outcome
pub small-written : (t : Setting) (ws cs bytes : List ℕ) → t.p < 65536 → t.weights ≡ ones → ◌≡◌ {A = WriteOutcome} (write_outcome t ws cs bytes) (first_kind_written t ws cs bytes)
small-written t ws cs bytes h unit =
    let r = write_refusal t ws cs (length bytes) in
    ap₂ (λ (n : ℕ) (b : List ℕ). written_with n b (terms ws cs) bytes)
    (same-limit t r h (λ e. sym (stop-setting t ws cs (length bytes) 1 (sym e) (λ q. let z : ⊥ = omega (arith, q) in z))))
    (small_bytes t h unit)

stopped : (t : Setting) (s : List ℕ) (ow : ℕ) → setting t ≡ 1 → content_with t s ow ≡ 1
unfolding content_with
stopped t s ow z = rw z

-- and so has every call that reads such bytes
pub small-read : (bytes ws cs : List ℕ) → (setting_in bytes).p < 65536 → (setting_in bytes).weights ≡ ones → ◌≡◌ {A = ReadOutcome} (read_outcome bytes ws cs) (first_kind_read bytes ws cs)
small-read bytes ws cs h unit =
    let e = small-setting bytes h unit in
    let t = first_kind_setting bytes in
    let l : t.p < 65536 = omega arith in
    let content : content_refusal bytes (length ws) ≡ limited t (content_with t bytes (length ws)) =
    ap (λ (u : Setting). content_with u bytes (length ws)) e ∙ same-limit t (content_with t bytes (length ws)) l (stopped t bytes (length ws)) in
    ap₂ (λ (n : ℕ) (u : Setting). read_by n u (terms_in bytes) ws cs) (ap₂ first (small-form bytes h unit (length ws) (length cs)) content) e

-- ---- larger p
pub turned-away : (s ow oc : List ℕ) → first_kind_form s (length ow) (length oc) ≡ 16 → ◌≡◌ {A = ReadOutcome} (first_kind_read s ow oc) (turned_away ow oc)
turned-away s ow oc e = ap (λ (n : ℕ). read_by (first n (limited (first_kind_setting s) (content_with (first_kind_setting s) s (length ow)))) (first_kind_setting s) (terms_in s) ow oc) e

-- what is written
module _ (t : Setting) (ws cs bytes : List ℕ) (done : (wrote t ws cs bytes).answer.number ≡ 0) where
  abbrev s : List ℕ
  s = blocks_of t (terms ws cs)

  -- two bytes in the blocks are so where they were written
  half : (at x : ℕ) → at + 2 ≤ length s → number_at 2 at s ≡ x → get_or (wrote t ws cs bytes).bytes at 0 + 256 * get_or (wrote t ws cs bytes).bytes (at + 1) 0 ≡ x
  half at x h e =
      let r = drop (length s) bytes in
      ap (λ (w : WriteOutcome). get_or w.bytes at 0 + 256 * get_or w.bytes (at + 1) 0) (demand-2-written t ws cs bytes done)
      ∙ (sym (number-2 (s ++ r) at (omega (arith, length-append s r))) ∙ (ap of_bytes (part_left s r at 2 h) ∙ e))

  pub inside : (k : ℕ) → k < (wrote t ws cs bytes).answer.blocks → (k < block_count (length (terms ws cs))) × (512 * k + 512 ≤ length s)
  inside k h =
      let q : (wrote t ws cs bytes).answer.blocks ≡ block_count (length (terms ws cs)) = ap (λ (w : WriteOutcome). w.answer.blocks) (demand-2-written t ws cs bytes done) in
      let l : k < block_count (length (terms ws cs)) = omega arith in
      (l, omega (arith, l, long-blocks t (terms ws cs)))

  -- p in each block: "In a block the upper 16 bits of p take the first two of the six zero bytes."
  pub upper-half : (k : ℕ) → k < (wrote t ws cs bytes).answer.blocks
      → (get_or (wrote t ws cs bytes).bytes (512 * k + 6) 0 + 256 * get_or (wrote t ws cs bytes).bytes (512 * k + 7) 0 ≡ t.p % 65536)
      × (get_or (wrote t ws cs bytes).bytes (512 * k + 10) 0 + 256 * get_or (wrote t ws cs bytes).bytes (512 * k + 11) 0 ≡ t.p / 65536)
  upper-half k h =
      let w = write-passes t ws cs (length bytes) (none-refused t ws cs bytes done) in
      let i = inside k h in
      let low : 512 * k + 6 + 1 ≡ 512 * k + 7 = omega arith in
      let upper : 512 * k + 10 + 1 ≡ 512 * k + 11 = omega arith in
      let b = (wrote t ws cs bytes).bytes in (
        ap (λ (n : ℕ). get_or b (512 * k + 6) 0 + 256 * get_or b n 0) (sym low) ∙ half (512 * k + 6) (t.p % 65536) (omega (arith, i.1)) (low-is t ws cs (length bytes) w k i.0),
        ap (λ (n : ℕ). get_or b (512 * k + 10) 0 + 256 * get_or b n 0) (sym upper) ∙ half (512 * k + 10) (t.p / 65536) (omega (arith, i.1)) (upper_is t ws cs (length bytes) w k i.0),
      )

  -- "a reader of the first kind turns larger ones away with 16", whatever is lent to it
  pub first-kind-sixteen : 65521 < t.p → (ow oc : List ℕ) → length ow ≡ length oc
      → ◌≡◌ {A = ReadOutcome} (first_kind_read (take (512 * (wrote t ws cs bytes).answer.blocks) (wrote t ws cs bytes).bytes) ow oc) (turned_away ow oc)
  first-kind-sixteen h ow oc lent =
      let room = length bytes in
      let w = write-passes t ws cs room (none-refused t ws cs bytes done) in
      let g = none_between t.p w.set.prime h in
      let u : number_at 2 10 s ≡ t.p / 65536 = upper_is t ws cs room w 0 (omega arith) in
      let e : first_kind_form s (length ow) (length oc) ≡ 16 = upper-sixteen s (omega (arith, u)) (length ow) (length oc) (form t ws cs room w (length ow) (length oc) lent) in
      ap (λ (l : List ℕ). first_kind_read l ow oc) (written-bytes t ws cs bytes done) ∙ turned-away s ow oc e

-- the same of any bytes that are accepted today
pub accepted-sixteen : (bytes ow oc : List ℕ) → Below 256 bytes → (read_outcome bytes ow oc).answer.number ≡ 0 → 65521 < (setting_in bytes).p → ◌≡◌ {A = ReadOutcome} (first_kind_read bytes ow oc) (turned_away ow oc)
accepted-sixteen bytes ow oc u done h =
    let a = first-none (form_refusal bytes (length ow) (length oc)) (content_refusal bytes (length ow)) (got_number bytes ow oc u ∙ done) in
    let q = setting-passes (setting_in bytes) (content-passes bytes (length ow) a.1).set in
    let g = none_between (setting_in bytes).p q.prime h in
    turned-away bytes ow oc (larger-sixteen bytes (length ow) (length oc) u a.0 (let z : 65536 ≤ (setting_in bytes).p = omega (arith, g) in z))
