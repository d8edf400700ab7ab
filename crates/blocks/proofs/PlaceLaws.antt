-- The terms in blocks, place by place. Assumes nothing.
use Rattle.std.proofs.Common.{◌≡◌, refl, sym, ap, ap₂, ◌∙◌, List, [], ◌∷◌, ◌++◌, append-nil, append_assoc, map, ℕ, zero, suc, ◌+◌, ◌-◌, ◌*◌, ◌<◌, ◌≤◌, min, add-one, arith, length, get_or, set, take, drop, length-append, length-set, length-take-le, length-drop, drop_of_length-le, drop-cons}
use mathlib.Core.List.{map-append}
use native.Mathlib.Decide.{dec_le}
use lib.ListN.{length-map, get_or-append}
use lib.Seq.{sets, sets-eq, length-sets, get_or_at}
use borrow.Rule.Slice.PartMut.{put_mid}
use Rattle.polynomial.specs.declared.check.Checking.{Checking}
use Rattle.polynomial.specs.declared.setting.Setting.{Setting}
use Rattle.monomial.specs.Exponents.{order_of}
use Rattle.monomial.specs.Words.{compare_words}
use Rattle.polynomial.specs.Terms.{Term, term, words, coefs}
use Rattle.polynomial.specs.Opening.{first, term_refusal, polynomial_refusal}
use Rattle.polynomial.specs.Checking.{Carried, unseen, verdict, carry_on, carried_by, polynomial_on}
use Rattle.polynomial.proofs.CheckingLaws.{carry-cut, carry-whole, stays-stopped, stop-first, late-six}
use Rattle.merge_common.proofs.Lists.{sets-snoc, sets-append, sets-mid}
use Rattle.block.specs.Block.{number_at}
use Rattle.block_form.specs.Form.{here_of, Lying}
use Rattle.blocks.specs.Reading.{place_at, term_at, first_terms, terms_from}

-- ---- places
pub place-is : (k j : ℕ) → j < 41 → place_at (41 * k + j) ≡ 512 * k + 16 + 12 * j
place-is k j h = omega arith

-- the places of block k, of as many terms as are in it
pub places-fit : (s : List ℕ) (total k n : ℕ) → Lying s total → 41 * k < total → n ≡ here_of total k → 512 * k + 16 + 12 * n ≤ length s
places-fit s total k n l h e = omega (arith, l.blocks)

-- ---- the first terms
pub length-first : (s : List ℕ) (k : ℕ) → length (first_terms s k) ≡ k
unfolding first_terms
length-first s zero = refl
length-first s (suc k) = omega (arith, length-append (first_terms s k) (term_at s k ∷ []), length-first s k)

pub first-at : (s : List ℕ) (k i : ℕ) → i < k → get_or (first_terms s k) i (term 0 0) ≡ term_at s i
unfolding first_terms
first-at s zero i h = absurd (let z : ⊥ = omega arith in z)
first-at s (suc k) i h = go (λ l. first-at s k i l) (dec_le k i)
  where
    go : (i < k → get_or (first_terms s k) i (term 0 0) ≡ term_at s i) → Dec (k ≤ i) → get_or (first_terms s k ++ (term_at s k ∷ [])) i (term 0 0) ≡ term_at s i
    go again (yes l) =
        let e : k ≡ i = omega arith in
        get_or_at (first_terms s k) (term_at s k) [] (term 0 0) i (length-first s k ∙ e) ∙ ap (term_at s) e
    go again (no l) = get_or-append (first_terms s k) (term_at s k ∷ []) (term 0 0) i (omega (arith, length-first s k)) ∙ again (omega arith)

-- ---- the terms of places in a row
abbrev pub place_term : List ℕ → (at : ℕ) → Term ℕ
place_term s at = term (number_at 8 at s) (number_at 4 (at + 8) s)

module _ (s : List ℕ) (at : ℕ) where
  pub length-from : (n : ℕ) → length (terms_from s at n) ≡ n
  unfolding terms_from
  length-from zero = refl
  length-from (suc n) = omega (arith, length-append (terms_from s at n) (place_term s (at + 12 * n) ∷ []), length-from n)

  pub from-at : (n j : ℕ) → j < n → get_or (terms_from s at n) j (term 0 0) ≡ place_term s (at + 12 * j)
  unfolding terms_from
  from-at zero j h = absurd (let z : ⊥ = omega arith in z)
  from-at (suc n) j h = go (λ l. from-at n j l) (dec_le n j)
    where
      go : (j < n → get_or (terms_from s at n) j (term 0 0) ≡ place_term s (at + 12 * j)) → Dec (n ≤ j) → get_or (terms_from s at n ++ (place_term s (at + 12 * n) ∷ [])) j (term 0 0) ≡ place_term s (at + 12 * j)
      go again (yes l) =
          let e : n ≡ j = omega arith in
          get_or_at (terms_from s at n) (place_term s (at + 12 * n)) [] (term 0 0) j (length-from n ∙ e) ∙ ap (λ (i : ℕ). place_term s (at + 12 * i)) e
      go again (no l) = get_or-append (terms_from s at n) (place_term s (at + 12 * n) ∷ []) (term 0 0) j (omega (arith, length-from n)) ∙ again (omega arith)

  -- term j, where it is read, and those after it
  pub lead : (n j word coef : ℕ) → j < n → word ≡ number_at 8 (at + 12 * j) s → coef ≡ number_at 4 (at + 12 * j + 8) s → drop j (terms_from s at n) ≡ term word coef ∷ drop (j + 1) (terms_from s at n)
  lead n j word coef h ew ec =
      drop-cons (terms_from s at n) j (term 0 0) (omega (arith, length-from n))
      ∙ ap₂ (λ (t : Term ℕ) (k : ℕ). t ∷ drop k (terms_from s at n)) (from-at n j h ∙ ap₂ term (sym ew) (sym ec)) (sym (add-one j))

-- the terms of block k follow those of the blocks before it
first-row : (s : List ℕ) (k j : ℕ) → j ≤ 41 → first_terms s (41 * k) ++ terms_from s (512 * k + 16) j ≡ first_terms s (41 * k + j)
unfolding first_terms terms_from
first-row s k zero h = append-nil (first_terms s (41 * k)) ∙ ap (first_terms s) (let e : 41 * k ≡ 41 * k + 0 = omega arith in e)
first-row s k (suc j) h =
    let e : suc (41 * k + j) ≡ 41 * k + suc j = omega arith in
    sym (append_assoc (first_terms s (41 * k)) (terms_from s (512 * k + 16) j) (place_term s (512 * k + 16 + 12 * j) ∷ []))
    ∙ (ap₂ (λ (us : List (Term ℕ)) (x : ℕ). us ++ (place_term s x ∷ [])) (first-row s k j (omega arith)) (sym (place-is k j (omega arith))) ∙ ap (first_terms s) e)

-- how many terms the first k blocks have
abbrev pub up_to : (total k : ℕ) → ℕ
up_to total k = min (41 * k) total

module _ (s : List ℕ) (total k n : ℕ) (h : 41 * k < total) (e : n ≡ here_of total k) where
  before : up_to total k ≡ 41 * k
  before = omega arith

  block_next : first_terms s (up_to total k) ++ terms_from s (512 * k + 16) n ≡ first_terms s (up_to total (k + 1))
  block_next =
      let f : 41 * k + n ≡ up_to total (k + 1) = omega (arith, e) in
      ap (λ (m : ℕ). first_terms s m ++ terms_from s (512 * k + 16) n) before
      ∙ (first-row s k n (omega (arith, e)) ∙ ap (first_terms s) f)

  -- ---- the opening check over a block more
  pub check-next : (t : Setting) {a b : Checking} → carried_by a ≡ polynomial_on t (unseen 0) (first_terms s (up_to total k)) → carried_by b ≡ polynomial_on t (carried_by a) (terms_from s (512 * k + 16) n) → carried_by b ≡ polynomial_on t (unseen 0) (first_terms s (up_to total (k + 1)))
  check-next t ea eb =
      eb
      ∙ (ap (λ (c : Carried ℕ). polynomial_on t c (terms_from s (512 * k + 16) n)) ea
      ∙ (sym (carry-cut (term_refusal (order_of t.order) t.n t.weights t.p) (compare_words (order_of t.order)) (unseen 0) (first_terms s (up_to total k)) (terms_from s (512 * k + 16) n))
      ∙ ap (polynomial_on t (unseen 0)) block_next))

  -- ---- a block more copied, by a field of the terms
  put_row : (f : Term ℕ → ℕ) (l₀ l ys : List ℕ) → length l ≡ length l₀ → 41 * k + n ≤ length l₀ → l ≡ sets l₀ 0 (map f (first_terms s (up_to total k))) → ys ≡ map f (terms_from s (512 * k + 16) n) → put_mid (41 * k) n l ys ≡ sets l₀ 0 (map f (first_terms s (up_to total (k + 1))))
  put_row f l₀ l ys long fits is ey =
      let us = map f (first_terms s (up_to total k)) in
      let vs = map f (terms_from s (512 * k + 16) n) in
      let lu : 0 + length us ≡ 41 * k = omega (arith, length-map (first_terms s (up_to total k)) f, length-first s (up_to total k), before) in
      let lv : n ≡ length vs = sym (length-map (terms_from s (512 * k + 16) n) f ∙ length-from s (512 * k + 16) n) in
      sets-mid l (41 * k) n vs lv ey (omega (arith, lv, long))
      ∙ (ap₂ (λ (m : List ℕ) (i : ℕ). sets m i vs) is (sym lu)
      ∙ (sym (sets-append l₀ 0 us vs)
      ∙ ap (sets l₀ 0) (sym (map-append f (first_terms s (up_to total k)) (terms_from s (512 * k + 16) n)) ∙ ap (map f) block_next)))

-- the first k blocks are looked at, and no term of them is bad
pub record Passed (s : List ℕ) (t : Setting) (total : ℕ) (checking : Checking) (k : ℕ) : Type 0 where
  pub on : carried_by checking ≡ polynomial_on t (unseen 0) (first_terms s (up_to total k))
  pub good : checking.stop ≡ 0

pub check-start : (s : List ℕ) (t : Setting) (total : ℕ) (a : Checking) → carried_by a ≡ unseen 0 → Passed s t total a 0
unfolding first_terms carry_on
check-start s t total a e = record {
  on = e ∙ ap (λ (m : ℕ). polynomial_on t (unseen 0) (first_terms s m)) (let z : 0 ≡ up_to total 0 = omega arith in z);
  good = ap (λ (c : Carried ℕ). c.stop) e;
}

-- the terms after the first m
more : List ℕ → (m d : ℕ) → List (Term ℕ)
more s m zero = []
more s m (suc d) = more s m d ++ (term_at s (m + d) ∷ [])

first-more : (s : List ℕ) (m d : ℕ) → first_terms s (m + d) ≡ first_terms s m ++ more s m d
unfolding first_terms more
first-more s m zero = ap (first_terms s) (let e : m + 0 ≡ m = omega arith in e) ∙ sym (append-nil (first_terms s m))
first-more s m (suc d) =
    ap (first_terms s) (let e : m + suc d ≡ suc (m + d) = omega arith in e)
    ∙ (ap (λ (us : List (Term ℕ)). us ++ (term_at s (m + d) ∷ [])) (first-more s m d) ∙ append_assoc (first_terms s m) (more s m d) (term_at s (m + d) ∷ []))

module _ (s : List ℕ) (t : Setting) (total m : ℕ) (a : Checking) (ea : carried_by a ≡ polynomial_on t (unseen 0) (first_terms s m)) where
  abbrev judge : Term ℕ → ℕ
  judge u = term_refusal (order_of t.order) t.n t.weights t.p u

  -- a bad term among the first m gives the refusal
  pub check-stops : m ≤ total → (a.stop ≡ 0 → ⊥) → a.stop ≡ polynomial_refusal t (first_terms s total)
  check-stops h f =
      let rest = more s m (total - m) in
      let q : total ≡ m + (total - m) = omega arith in
      let e : first_terms s total ≡ first_terms s m ++ rest = ap (first_terms s) q ∙ first-more s m (total - m) in
      stop-first a.stop a.late f
      ∙ (ap (λ (c : Carried ℕ). verdict c) (stays-stopped judge (compare_words (order_of t.order)) (carried_by a) rest f
      ∙ (ap (λ (c : Carried ℕ). polynomial_on t c rest) ea
      ∙ (sym (carry-cut judge (compare_words (order_of t.order)) (unseen 0) (first_terms s m) rest) ∙ ap (polynomial_on t (unseen 0)) (sym e))))
      ∙ carry-whole judge (compare_words (order_of t.order)) 0 (first_terms s total))

  -- and else, after all of them, what the order came to, which is 0 or 6
  module _ (e : m ≡ total) (z : a.stop ≡ 0) where
    ends : carried_by a ≡ polynomial_on t (unseen 0) (first_terms s total)
    ends = ea ∙ ap (λ (k : ℕ). polynomial_on t (unseen 0) (first_terms s k)) e

    pub check-late : a.late ≡ polynomial_refusal t (first_terms s total)
    check-late =
        sym (ap (λ (r : ℕ). first r a.late) z)
        ∙ (ap (λ (c : Carried ℕ). verdict c) ends ∙ carry-whole judge (compare_words (order_of t.order)) 0 (first_terms s total))

    pub check-six : (a.late ≡ 0 → ⊥) → 6 ≡ polynomial_refusal t (first_terms s total)
    check-six f =
        let l : a.late ≡ (polynomial_on t (unseen 0) (first_terms s total)).late = ap (λ (c : Carried ℕ). c.late) ends in
        sym (l ∙ late-six judge (compare_words (order_of t.order)) (unseen 0) (first_terms s total) refl (λ q. f (l ∙ q))) ∙ check-late

-- ---- the terms of a row copied
-- the first j terms are put
pub record Got (s : List ℕ) (at : ℕ) (ow₀ oc₀ ow oc : List ℕ) (j : ℕ) : Type 0 where
  pub low : j ≤ length ow₀
  pub long-words : length ow ≡ length ow₀
  pub long-coefs : length oc ≡ length oc₀
  pub words_are : ow ≡ sets ow₀ 0 (words (terms_from s at j))
  pub coefs-are : oc ≡ sets oc₀ 0 (coefs (terms_from s at j))

pub got-none : (s : List ℕ) (at : ℕ) (ow oc : List ℕ) → Got s at ow oc ow oc 0
unfolding terms_from
got-none s at ow oc = record { low = omega arith; long-words = refl; long-coefs = refl; words_are = refl; coefs-are = refl }

-- one number more is put, of a list that a field of the terms makes
put_one : (f : Term ℕ → ℕ) (s : List ℕ) (at : ℕ) (l : List ℕ) (j : ℕ) → set (sets l 0 (map f (terms_from s at j))) j (f (place_term s (at + 12 * j))) ≡ sets l 0 (map f (terms_from s at (j + 1)))
unfolding terms_from
put_one f s at l j =
    let ms = map f (terms_from s at j) in
    let v = place_term s (at + 12 * j) in
    let e : 0 + length ms ≡ j = omega (arith, length-map (terms_from s at j) f, length-from s at j) in
    ap (λ (k : ℕ). set (sets l 0 ms) k (f v)) (sym e)
    ∙ (sym (sets-snoc l 0 ms (f v))
    ∙ ap (sets l 0) (sym (map-append f (terms_from s at j) (v ∷ [])) ∙ ap (λ (k : ℕ). map f (terms_from s at k)) (sym (add-one j))))

-- a list that is filled whole
filled : (l vs : List ℕ) → length vs ≡ length l → sets l 0 vs ≡ vs
filled l vs e = sets-eq vs l 0 (omega (arith, e)) ∙ (ap (λ (us : List ℕ). vs ++ us) (drop_of_length-le l (omega (arith, e))) ∙ append-nil vs)

module _ (s : List ℕ) (at : ℕ) (ow₀ oc₀ ow oc : List ℕ) (j : ℕ) (g : Got s at ow₀ oc₀ ow oc j) where
  pub got-more : (word coef : ℕ) → j < length ow₀ → word ≡ number_at 8 (at + 12 * j) s → coef ≡ number_at 4 (at + 12 * j + 8) s → Got s at ow₀ oc₀ (set ow j word) (set oc j coef) (j + 1)
  got-more word coef h ew ec = record {
    low = omega arith;
    long-words = length-set ow j word ∙ g.long-words;
    long-coefs = length-set oc j coef ∙ g.long-coefs;
    words_are = ap₂ (λ (l : List ℕ) (v : ℕ). set l j v) g.words_are ew ∙ put_one (λ (t : Term ℕ). t.mono) s at ow₀ j;
    coefs-are = ap₂ (λ (l : List ℕ) (v : ℕ). set l j v) g.coefs-are ec ∙ put_one (λ (t : Term ℕ). t.coef) s at oc₀ j;
  }

  pub got-all : length oc₀ ≡ length ow₀ → length ow₀ ≤ j → (ow ≡ words (terms_from s at (length ow₀))) × (oc ≡ coefs (terms_from s at (length ow₀)))
  got-all a h =
      let e : j ≡ length ow₀ = omega (arith, g.low) in
      let ts = terms_from s at (length ow₀) in
      let l : length ts ≡ length ow₀ = length-from s at (length ow₀) in (
        g.words_are ∙ (ap (λ (k : ℕ). sets ow₀ 0 (words (terms_from s at k))) e ∙ filled ow₀ (words ts) (length-map ts (λ u. u.mono) ∙ l)),
        g.coefs-are ∙ (ap (λ (k : ℕ). sets oc₀ 0 (coefs (terms_from s at k))) e ∙ filled oc₀ (coefs ts) (length-map ts (λ u. u.coef) ∙ (l ∙ sym a))),
      )

-- ---- the terms of all blocks copied
-- those of the first k blocks are put
pub record Filled (s : List ℕ) (total : ℕ) (ow₀ oc₀ ow oc : List ℕ) (k : ℕ) : Type 0 where
  pub long-words : length ow ≡ length ow₀
  pub long-coefs : length oc ≡ length oc₀
  pub words_are : ow ≡ sets ow₀ 0 (words (first_terms s (up_to total k)))
  pub coefs-are : oc ≡ sets oc₀ 0 (coefs (first_terms s (up_to total k)))

pub filled-none : (s : List ℕ) (total : ℕ) (ow oc : List ℕ) → Filled s total ow oc ow oc 0
unfolding first_terms
filled-none s total ow oc =
    let z : 0 ≡ up_to total 0 = omega arith in
    record { long-words = refl; long-coefs = refl; words_are = ap (λ (m : ℕ). sets ow 0 (words (first_terms s m))) z; coefs-are = ap (λ (m : ℕ). sets oc 0 (coefs (first_terms s m))) z }

module _ (s : List ℕ) (total : ℕ) (ow₀ oc₀ ow oc : List ℕ) (k : ℕ) (g : Filled s total ow₀ oc₀ ow oc k) where
  module _ (n : ℕ) (h : 41 * k < total) (e : n ≡ here_of total k) (fits : total ≤ length ow₀) (alike : length ow₀ ≡ length oc₀) where
    cut : 41 * k + n - 41 * k ≡ n
    cut = omega arith

    in-words : 41 * k + n ≤ length ow
    in-words = omega (arith, e, g.long-words)

    in-coefs : 41 * k + n ≤ length oc
    in-coefs = omega (arith, e, g.long-coefs)

    -- the part that is lent for block k
    part-long : (l : List ℕ) → 41 * k + n ≤ length l → length (take (41 * k + n - 41 * k) (drop (41 * k) l)) ≡ n
    part-long l f = ap (λ (m : ℕ). length (take m (drop (41 * k) l))) cut ∙ length-take-le n (drop (41 * k) l) (omega (arith, length-drop (41 * k) l))

    pub filled-more : (ws cs : List ℕ) → ws ≡ words (terms_from s (512 * k + 16) (length (take (41 * k + n - 41 * k) (drop (41 * k) ow)))) → cs ≡ coefs (terms_from s (512 * k + 16) (length (take (41 * k + n - 41 * k) (drop (41 * k) ow)))) → Filled s total ow₀ oc₀ (put_mid (41 * k) (41 * k + n - 41 * k) ow ws) (put_mid (41 * k) (41 * k + n - 41 * k) oc cs) (k + 1)
    filled-more ws cs ew ec =
        let q = part-long ow in-words in
        let fw = ap (λ (i : ℕ). put_mid (41 * k) i ow ws) cut ∙ put_row s total k n h e (λ (t : Term ℕ). t.mono) ow₀ ow ws g.long-words (omega (arith, in-words, g.long-words)) g.words_are (ew ∙ ap (λ (i : ℕ). words (terms_from s (512 * k + 16) i)) q) in
        let fc = ap (λ (i : ℕ). put_mid (41 * k) i oc cs) cut ∙ put_row s total k n h e (λ (t : Term ℕ). t.coef) oc₀ oc cs g.long-coefs (omega (arith, in-coefs, g.long-coefs)) g.coefs-are (ec ∙ ap (λ (i : ℕ). coefs (terms_from s (512 * k + 16) i)) q) in
        record {
          long-words = ap length fw ∙ length-sets ow₀ 0 (words (first_terms s (up_to total (k + 1))));
          long-coefs = ap length fc ∙ length-sets oc₀ 0 (coefs (first_terms s (up_to total (k + 1))));
          words_are = fw;
          coefs-are = fc;
        }

  pub filled-all : total ≤ 41 * k → (ow ≡ sets ow₀ 0 (words (first_terms s total))) × (oc ≡ sets oc₀ 0 (coefs (first_terms s total)))
  filled-all h =
      let e : up_to total k ≡ total = omega arith in
      (g.words_are ∙ ap (λ (m : ℕ). sets ow₀ 0 (words (first_terms s m))) e, g.coefs-are ∙ ap (λ (m : ℕ). sets oc₀ 0 (coefs (first_terms s m))) e)
