-- Tests over all blocks, and what bytes that have the form of blocks are. Assumes nothing.
use Rattle.std.proofs.Common.{◌≡◌, refl, sym, ap, ap₂, ◌∙◌, Bool, true, false, ◌&&◌, List, ℕ, zero, suc, ◌+◌, ◌*◌, ◌%◌, ◌<◌, ◌≤◌, add-one, arith, eqb-true, leb-true, eq-eqb, le-leb, leb, eqb, length}
use mathlib.Core.Bool.{and-true, and-false, and_assoc}
use native.Mathlib.Decide.{dec_le}
use Rattle.std.specs.List.{list_all, range_with_len}
use Rattle.limits.specs.Limits.{most_terms}
use Rattle.monomial.proofs.Places.{and_both}
use Rattle.polynomial.specs.Opening.{first}
use Rattle.merge_common.specs.Lent.{part}
use Rattle.opening.specs.Run.{unless, between}
use Rattle.polynomial.proofs.OpeningLaws.{first-none}
use Rattle.opening.proofs.Tests.{passed}
use Rattle.polynomial.specs.declared.setting.Setting.{Setting}
use Rattle.block.specs.Block.{header, block_count, same, setting_in}
use Rattle.block_form.specs.Form.{all_below, whole_blocks, count_in, total_in, here_of, checks_stand, unused_clear, stands_with, all_stand_with, block_stands, blocks_stand, Counted, Formed, form_refusal_with, form_refusal}

-- ---- a test of each number below another
module _ (f : ℕ → Bool) where
  pub all-fails : (n k : ℕ) → k < n → f k ≡ false → false ≡ all_below n f
  unfolding all_below
  all-fails zero k h e = absurd (let z : ⊥ = omega arith in z)
  all-fails (suc n) k h e = go (λ l. all-fails n k l e) (dec_le n k)
    where
      go : (k < n → false ≡ all_below n f) → Dec (n ≤ k) → false ≡ (all_below n f && f n)
      go again (yes l) = let q : n ≡ k = omega arith in sym (ap (λ (b : Bool). all_below n f && b) (ap f q ∙ e) ∙ and-false (all_below n f))
      go again (no l) = ap (λ (b : Bool). b && f n) (again (omega arith))

  pub all-each : (n : ℕ) → all_below n f ≡ true → (k : ℕ) → k < n → f k ≡ true
  unfolding all_below
  all-each zero a k h = absurd (let z : ⊥ = omega arith in z)
  all-each (suc n) a k h = let both = and_both (all_below n f) (f n) a in go both.1 (λ l. all-each n both.0 k l) (dec_le n k)
    where
      go : f n ≡ true → (k < n → f k ≡ true) → Dec (n ≤ k) → f k ≡ true
      go last again (yes l) = let q : k ≡ n = omega arith in ap f q ∙ last
      go last again (no l) = again (omega arith)

  pub all_of : (n : ℕ) → ((k : ℕ) → k < n → f k ≡ true) → all_below n f ≡ true
  unfolding all_below
  all_of zero e = refl
  all_of (suc n) e = ap₂ ◌&&◌ (all_of n (λ k h. e k (omega arith))) (e n (omega arith))

  -- the test of each number of a range, as it is made
  range_all : (a n : ℕ) → all_below a f && list_all f (range_with_len a n) ≡ all_below (a + n) f
  unfolding all_below
  range_all a zero = and-true (all_below a f) ∙ ap (λ (m : ℕ). all_below m f) (let e : a ≡ a + 0 = omega arith in e)
  range_all a (suc n) =
      let e : suc a + n ≡ a + suc n = omega arith in
      sym (and_assoc (all_below a f) (f a) (list_all f (range_with_len (a + 1) n)))
      ∙ (ap (λ (m : ℕ). all_below (suc a) f && list_all f (range_with_len m n)) (add-one a)
      ∙ (range_all (suc a) n ∙ ap (λ (m : ℕ). all_below m f) e))

  pub all-range : (n : ℕ) → list_all f (range_with_len 0 n) ≡ all_below n f
  unfolding all_below
  all-range n = range_all 0 n ∙ ap (λ (m : ℕ). all_below m f) (let e : 0 + n ≡ n = omega arith in e)

-- ---- one block
module _ (s : List ℕ) (k count total here : ℕ) (t : Setting) (q : Counted s count total) (e : t ≡ setting_in s) (h : here ≡ here_of total k) where
  header_is : same (part (512 * k) 16 s) (header k count here t) ≡ same (part (512 * k) 16 s) (header k (count_in s) (here_of (total_in s) k) (setting_in s))
  header_is =
      ap₂ (λ (c : ℕ) (u : Setting). same (part (512 * k) 16 s) (header k c here u)) q.count-is e
      ∙ ap (λ (m : ℕ). same (part (512 * k) 16 s) (header k (count_in s) m (setting_in s))) (h ∙ ap (λ (n : ℕ). here_of n k) q.total-is)

  filler-is : unused_clear s k here ≡ unused_clear s k (here_of (total_in s) k)
  filler-is = ap (unused_clear s k) (h ∙ ap (λ (n : ℕ). here_of n k) q.total-is)

  pub no_header : same (part (512 * k) 16 s) (header k count here t) ≡ false → false ≡ block_stands s k
  unfolding stands_with
  no_header z = sym (ap (λ (b : Bool). b && unused_clear s k (here_of (total_in s) k)) (sym header_is ∙ z))

  pub by-filler : (r : Bool) → same (part (512 * k) 16 s) (header k count here t) ≡ true → r ≡ unused_clear s k here → r ≡ block_stands s k
  unfolding stands_with
  by-filler r z w = w ∙ (filler-is ∙ sym (ap (λ (b : Bool). b && unused_clear s k (here_of (total_in s) k)) (sym header_is ∙ z)))

-- ---- whole blocks
pub record Whole (len : ℕ) : Type 0 where
  pub whole : len % 512 ≡ 0
  pub some : 512 ≤ len
  pub most : len ≤ 51200

pub whole-passes : (len : ℕ) → whole_blocks len ≡ true → Whole len
unfolding whole_blocks
whole-passes len h =
    let a = and_both (eqb (len % 512) 0) (between 512 51200 len) h in
    let b = and_both (leb 512 len) (leb len 51200) a.1 in
    record { whole = eqb-true (len % 512) 0 a.0; some = leb-true 512 len b.0; most = leb-true len 51200 b.1 }

pub whole_is : (len : ℕ) → Whole len → whole_blocks len ≡ true
unfolding whole_blocks
whole_is len w = ap₂ ◌&&◌ (eq-eqb (len % 512) 0 w.whole) (ap₂ ◌&&◌ (le-leb 512 len w.some) (le-leb len 51200 w.most))

-- ---- all blocks
pub record Stand (s : List ℕ) : Type 0 where
  pub fits : block_count (total_in s) ≡ count_in s
  pub few : total_in s ≤ most_terms
  pub each : all_below (count_in s) (block_stands s) ≡ true

pub blocks-pass : (s : List ℕ) → blocks_stand s ≡ true → Stand s
blocks-pass s h =
    let a = and_both (eqb (block_count (total_in s)) (count_in s)) (leb (total_in s) most_terms && all_below (count_in s) (block_stands s)) h in
    let b = and_both (leb (total_in s) most_terms) (all_below (count_in s) (block_stands s)) a.1 in
    record { fits = eqb-true (block_count (total_in s)) (count_in s) a.0; few = leb-true (total_in s) most_terms b.0; each = b.1 }

-- ---- the form
pub record Form (s : List ℕ) (ow oc : ℕ) : Type 0 where
  pub lent : ow ≡ oc
  pub whole : Whole (length s)
  pub checks : checks_stand s ≡ true
  pub stand : Stand s

pub form-passes : (s : List ℕ) (ow oc : ℕ) → form_refusal s ow oc ≡ 0 → Form s ow oc
unfolding form_refusal_with
form-passes s ow oc h =
    let a = first-none (unless (eqb ow oc) 8) (first (unless (whole_blocks (length s)) 14) (first (unless (checks_stand s) 15) (unless (blocks_stand s) 16))) h in
    let b = first-none (unless (whole_blocks (length s)) 14) (first (unless (checks_stand s) 15) (unless (blocks_stand s) 16)) a.1 in
    let d = first-none (unless (checks_stand s) 15) (unless (blocks_stand s) 16) b.1 in
    record {
      lent = eqb-true ow oc (passed (eqb ow oc) 8 (omega arith) a.0);
      whole = whole-passes (length s) (passed (whole_blocks (length s)) 14 (omega arith) b.0);
      checks = passed (checks_stand s) 15 (omega arith) d.0;
      stand = blocks-pass s (passed (blocks_stand s) 16 (omega arith) d.1);
    }

-- the refusal with other ten bytes of a setting, where the rest of the form stands
pub form-with : (t s : List ℕ) (ow oc : ℕ) → Form s ow oc → form_refusal_with t s ow oc ≡ unless (all_stand_with t s) 16
unfolding form_refusal_with
form-with t s ow oc f = rw (eq-eqb ow oc f.lent, whole_is (length s) f.whole, f.checks)

pub form-formed : (s : List ℕ) (ow oc : ℕ) → Form s ow oc → Formed s
form-formed s ow oc f =
    let w = f.whole in
    let t = f.stand in
    record { some = w.some; most = w.most; lying = record { blocks = omega (arith, t.fits); most = t.few } }
