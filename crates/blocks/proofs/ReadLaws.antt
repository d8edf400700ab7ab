-- The outcome of reading, at each of its returns. Assumes nothing.
use Rattle.std.proofs.Common.{◌≡◌, refl, sym, ap, ap₂, ◌∙◌, List, ◌++◌, ℕ, zero, suc, ◌+◌, ◌<◌, ◌≤◌, arith, leb-true, le-leb, leb, eqb, length, drop}
use borrow.Author.Tests.{lt-leb}
use lib.ListN.{length-map}
use lib.Seq.{sets, sets-eq}
use Rattle.refusal.specs.Table.{listed}
use Rattle.polynomial.specs.Terms.{Term, words, coefs}
use Rattle.polynomial.specs.Opening.{first, polynomial_refusal}
use Rattle.opening.specs.Run.{unless, setting}
use Rattle.polynomial.proofs.OpeningLaws.{first-none}
use Rattle.opening.proofs.Tests.{first_some, passed}
use Rattle.opening.proofs.ListedLaws.{Numbered, first-numbered, unless-numbered, setting-numbered, polynomial-numbered}
use Rattle.polynomial.specs.declared.setting.Setting.{Setting}
use Rattle.block.specs.Block.{weight_number, setting_in}
use Rattle.block_form.specs.Form.{total_in, whole_blocks, checks_stand, blocks_stand, form_refusal_with, form_refusal}
use Rattle.blocks.specs.Reading.{first_terms, terms_in, content_with, content_refusal, read_refusal}
use Rattle.blocks.specs.Outcome.{ReadOutcome, read_by}
use Rattle.block_form.proofs.FormLaws.{Form, form-passes}
use Rattle.blocks.proofs.PlaceLaws.{length-first}

-- ---- the refusal, test by test
module _ (s : List ℕ) (ow : ℕ) (t : Setting) (e : t ≡ setting_in s) where
  pub stop-setting : (r : ℕ) → r ≡ setting t → (r ≡ 0 → ⊥) → r ≡ content_refusal s ow
  unfolding content_with
  stop-setting r f h = rw (← (f ∙ ap setting e)) (first_some r _ h)

  module _ (z : setting t ≡ 0) (total : ℕ) (w : total ≡ total_in s) (r : ℕ) (f : r ≡ polynomial_refusal t (first_terms s total)) where
    set_is : setting (setting_in s) ≡ 0
    set_is = sym (ap setting e) ∙ z

    terms-are : r ≡ polynomial_refusal (setting_in s) (terms_in s)
    terms-are = f ∙ ap₂ (λ (u : Setting) (k : ℕ). polynomial_refusal u (first_terms s k)) e w

    pub stop-terms : (r ≡ 0 → ⊥) → r ≡ content_refusal s ow
    unfolding content_with
    stop-terms h = rw (set_is, ← terms-are) (first_some r _ h)

    module _ (g : r ≡ 0) where
      pub stop-room : ow < total → 10 ≡ content_refusal s ow
      unfolding content_with
      stop-room h = rw (set_is, sym terms-are ∙ g, lt-leb (total_in s) ow (omega arith))

      pub no_stop : total ≤ ow → 0 ≡ content_refusal s ow
      unfolding content_with
      no_stop h = rw (set_is, sym terms-are ∙ g, le-leb (total_in s) ow (omega arith))

-- the refusal is one of the table's
pub read-numbered : (s : List ℕ) (ow oc : ℕ) → Numbered (read_refusal s ow oc)
unfolding form_refusal_with content_with listed
read-numbered s ow oc =
    let t = setting_in s in
    first-numbered _ _
    (first-numbered _ _ (unless-numbered (eqb ow oc) 8 refl)
    (first-numbered _ _ (unless-numbered (whole_blocks (length s)) 14 refl)
    (first-numbered _ _ (unless-numbered (checks_stand s) 15 refl) (unless-numbered (blocks_stand s) 16 refl))))
    (first-numbered _ _ (setting-numbered t)
    (first-numbered _ _ (polynomial-numbered t (terms_in s)) (unless-numbered (leb (total_in s) ow) 10 refl)))

-- ---- what is not refused
pub record Content (s : List ℕ) (ow : ℕ) : Type 0 where
  pub set : setting (setting_in s) ≡ 0
  pub good : polynomial_refusal (setting_in s) (terms_in s) ≡ 0
  pub room : total_in s ≤ ow

pub content-passes : (s : List ℕ) (ow : ℕ) → content_refusal s ow ≡ 0 → Content s ow
unfolding content_with
content-passes s ow h =
    let t = setting_in s in
    let r = polynomial_refusal t (terms_in s) in
    let a = first-none (setting t) (first r (unless (leb (total_in s) ow) 10)) h in
    let b = first-none r (unless (leb (total_in s) ow) 10) a.1 in
    record {
      set = a.0;
      good = b.0;
      room = leb-true (total_in s) ow (passed (leb (total_in s) ow) 10 (omega arith) b.1);
    }

pub record Readable (s : List ℕ) (ow oc : ℕ) : Type 0 where
  pub form : Form s ow oc
  pub content : Content s ow

pub read-passes : (s : List ℕ) (ow oc : ℕ) → read_refusal s ow oc ≡ 0 → Readable s ow oc
read-passes s ow oc h =
    let a = first-none (form_refusal s ow oc) (content_refusal s ow) h in
    record { form = form-passes s ow oc a.0; content = content-passes s ow a.1 }

-- ---- the outcome
pub read-refused : (r : ℕ) (t : Setting) (ts : List (Term ℕ)) (ws cs : List ℕ) → (r ≡ 0 → ⊥) → ◌≡◌ {A = ReadOutcome} (record { answer = record { number = r; finished = 0; p = 0; order = 0; n = 0; weights = 0; terms = 0 }; ws = ws; cs = cs }) (read_by r t ts ws cs)
read-refused zero t ts ws cs h = absurd (h refl)
read-refused (suc r) t ts ws cs h = refl

-- what is put over the first places of a list
over : (l vs : List ℕ) (n : ℕ) → length vs ≡ n → n ≤ length l → sets l 0 vs ≡ vs ++ drop n l
over l vs n e h = sets-eq vs l 0 (omega arith) ∙ ap (λ (k : ℕ). vs ++ drop k l) (let q : 0 + length vs ≡ n = omega arith in q)

pub read_done : (r : ℕ) (s ws cs ws' cs' : List ℕ) (t : Setting) (weights total : ℕ) → r ≡ read_refusal s (length ws) (length cs) → r ≡ 0 → t ≡ setting_in s → weights ≡ weight_number t.weights → total ≡ total_in s
    → ws' ≡ sets ws 0 (words (terms_in s)) → cs' ≡ sets cs 0 (coefs (terms_in s))
    → ◌≡◌ {A = ReadOutcome} (record { answer = record { number = 0; finished = 0; p = t.p; order = t.order; n = t.n; weights = weights; terms = total }; ws = ws'; cs = cs' }) (read_by r (setting_in s) (terms_in s) ws cs)
read_done r s ws cs ws' cs' t weights total e z et ev en ew ec =
    let q = read-passes s (length ws) (length cs) (sym e ∙ z) in
    let ts = terms_in s in
    let l : length ts ≡ total_in s = length-first s (total_in s) in
    let lw : length (words ts) ≡ length ts = length-map ts (λ u. u.mono) in
    let lc : length (coefs ts) ≡ length ts = length-map ts (λ u. u.coef) in
    let fw : ws' ≡ words ts ++ drop (length ts) ws = ew ∙ over ws (words ts) (length ts) lw (omega (arith, q.content.room)) in
    let fc : cs' ≡ coefs ts ++ drop (length ts) cs = ec ∙ over cs (coefs ts) (length ts) lc (omega (arith, q.content.room, q.form.lent)) in
    ap (λ (v : ℕ). record { answer = record { number = 0; finished = 0; p = t.p; order = t.order; n = t.n; weights = v; terms = total }; ws = ws'; cs = cs' }) ev
    ∙ (ap₂ (λ (u : Setting) (k : ℕ). record { answer = record { number = 0; finished = 0; p = u.p; order = u.order; n = u.n; weights = weight_number u.weights; terms = k }; ws = ws'; cs = cs' }) et (en ∙ sym l)
    ∙ (ap₂ (λ (x y : List ℕ). record { answer = record { number = 0; finished = 0; p = (setting_in s).p; order = (setting_in s).order; n = (setting_in s).n; weights = weight_number (setting_in s).weights; terms = length ts }; ws = x; cs = y }) fw fc
    ∙ ap (λ (k : ℕ). read_by k (setting_in s) ts ws cs) (sym z)))
