-- Blocks put one after the other, and the outcome of writing at each of its returns. Assumes nothing.
use Rattle.std.proofs.Common.{◌≡◌, refl, sym, ap, ap₂, ◌∙◌, true, ◌&&◌, List, ◌++◌, ℕ, zero, suc, ◌+◌, ◌-◌, ◌*◌, ◌<◌, ◌≤◌, min, add-one, arith, eqb-true, leb-true, eq-eqb, ne_eqb, le-leb, leb, eqb, length, take, drop, length-append, length-take, length-drop, take_all}
use native.Mathlib.Decide.{dec_le}
use borrow.Author.Tests.{lt-leb}
use lib.Seq.{sets, sets-eq, length-sets}
use Rattle.limits.specs.Limits.{most_terms, weight_count}
use Rattle.refusal.specs.Table.{listed}
use Rattle.monomial.proofs.Places.{and_both}
use Rattle.polynomial.specs.Terms.{Term, terms}
use Rattle.polynomial.specs.Opening.{first, polynomial_refusal}
use Rattle.polynomial.proofs.TermLists.{length-terms, terms-drop, terms-take}
use Rattle.opening.specs.Run.{unless, setting}
use Rattle.polynomial.proofs.OpeningLaws.{first-none}
use Rattle.opening.proofs.Tests.{first_some, passed}
use Rattle.opening.proofs.SettingLaws.{Set, setting-passes}
use Rattle.opening.proofs.ListedLaws.{Numbered, first-numbered, unless-numbered, setting-numbered, polynomial-numbered}
use Rattle.polynomial.specs.declared.setting.Setting.{Setting}
use Rattle.block.specs.Block.{block, terms_of, block_count, first_blocks_with, first_blocks, blocks_of}
use Rattle.block.proofs.ByteLaws.{joined}
use Rattle.block.proofs.BlockLaws.{length-block}
use Rattle.block_form.specs.Form.{here_of}
use Rattle.blocks.specs.Outcome.{sizes_good, write_refusal, WriteOutcome, written_by}

-- ---- the terms of a block
pub length-terms_of : (k : ℕ) (ts : List (Term ℕ)) → length (terms_of k ts) ≡ here_of (length ts) k
length-terms_of k ts = length-take 41 (drop (41 * k) ts) ∙ ap (min 41) (length-drop (41 * k) ts)

pub terms_of-few : (k : ℕ) (ts : List (Term ℕ)) → length (terms_of k ts) ≤ 41
terms_of-few k ts = omega (arith, length-terms_of k ts)

take-here : (l : List (Term ℕ)) → take (min 41 (length l)) l ≡ take 41 l
take-here l = go (dec_le 41 (length l))
  where
    go : Dec (41 ≤ length l) → take (min 41 (length l)) l ≡ take 41 l
    go (yes h) = let e : min 41 (length l) ≡ 41 = omega arith in ap (λ (n : ℕ). take n l) e
    go (no h) = take_all (min 41 (length l)) l (omega arith) ∙ sym (take_all 41 l (omega arith))

-- the terms of the parts that are lent for block k
pub terms-part : (ws cs : List ℕ) (k here : ℕ) → length cs ≡ length ws → here ≡ here_of (length ws) k → terms (take (41 * k + here - 41 * k) (drop (41 * k) ws)) (take (41 * k + here - 41 * k) (drop (41 * k) cs)) ≡ terms_of k (terms ws cs)
terms-part ws cs k here e h =
    let ts = terms ws cs in
    let m : 41 * k + here - 41 * k ≡ min 41 (length (drop (41 * k) ts)) = omega (arith, h, length-drop (41 * k) ts, length-terms ws cs e) in
    terms-take (41 * k + here - 41 * k) (drop (41 * k) ws) (drop (41 * k) cs)
    ∙ (ap₂ (λ (n : ℕ) (l : List (Term ℕ)). take n l) m (terms-drop (41 * k) ws cs) ∙ take-here (drop (41 * k) ts))

pub part-long : (l : List ℕ) (k here : ℕ) → here ≡ here_of (length l) k → length (take (41 * k + here - 41 * k) (drop (41 * k) l)) ≡ here
part-long l k here h = omega (arith, h, length-take (41 * k + here - 41 * k) (drop (41 * k) l), length-drop (41 * k) l)

-- ---- blocks put
pub length-blocks : (count : ℕ) (t : Setting) (ts : List (Term ℕ)) (k : ℕ) → length (first_blocks count t ts k) ≡ 512 * k
unfolding first_blocks_with
length-blocks count t ts zero = refl
length-blocks count t ts (suc k) =
    omega (arith, length-append (first_blocks count t ts k) (block k count t (terms_of k ts)), length-blocks count t ts k, length-block k count t (terms_of k ts) (terms_of-few k ts))

-- the first k blocks are put
pub record Blocked (count : ℕ) (t : Setting) (ts : List (Term ℕ)) (s₀ s : List ℕ) (k : ℕ) : Type 0 where
  pub low : k ≤ count
  pub long : length s ≡ length s₀
  pub is : s ≡ sets s₀ 0 (first_blocks count t ts k)

pub blocked-none : (count : ℕ) (t : Setting) (ts : List (Term ℕ)) (s : List ℕ) → Blocked count t ts s s 0
unfolding first_blocks_with
blocked-none count t ts s = record { low = omega arith; long = refl; is = refl }

pub blocked-more : (count : ℕ) (t : Setting) (ts us : List (Term ℕ)) (s₀ s s' : List ℕ) (k : ℕ) → Blocked count t ts s₀ s k → k < count → us ≡ terms_of k ts → s' ≡ sets s (512 * k) (block k count t us) → Blocked count t ts s₀ s' (k + 1)
unfolding first_blocks_with
blocked-more count t ts us s₀ s s' k b h e f =
    let g : s' ≡ sets s (512 * k) (block k count t (terms_of k ts)) = f ∙ ap (λ (vs : List (Term ℕ)). sets s (512 * k) (block k count t vs)) e in
    record {
      low = omega arith;
      long = ap length g ∙ (length-sets s (512 * k) (block k count t (terms_of k ts)) ∙ b.long);
      is =
          joined s₀ s s' 0 (first_blocks count t ts k) (block k count t (terms_of k ts)) (512 * k) (omega (arith, length-blocks count t ts k)) b.is g
          ∙ ap (λ (n : ℕ). sets s₀ 0 (first_blocks count t ts n)) (sym (add-one k));
    }

pub blocked-all : (count : ℕ) (t : Setting) (ts : List (Term ℕ)) (s₀ s : List ℕ) (k : ℕ) → Blocked count t ts s₀ s k → count ≤ k → s ≡ sets s₀ 0 (first_blocks count t ts count)
blocked-all count t ts s₀ s k b h = let e : k ≡ count = omega (arith, b.low) in b.is ∙ ap (λ (n : ℕ). sets s₀ 0 (first_blocks count t ts n)) e

-- ---- the refusal, test by test
module _ (t : Setting) (ws cs : List ℕ) (room : ℕ) where
  pub stop-setting : (r : ℕ) → r ≡ setting t → (r ≡ 0 → ⊥) → r ≡ write_refusal t ws cs room
  unfolding write_refusal
  stop-setting r e h = rw (← e) (first_some r _ h)

  module _ (z : setting t ≡ 0) where
    pub stop-weights : (length t.weights ≡ weight_count → ⊥) → 8 ≡ write_refusal t ws cs room
    unfolding write_refusal
    stop-weights h = rw (z, ne_eqb (length t.weights) weight_count h)

    module _ (six : length t.weights ≡ weight_count) where
      pub stop-lengths : (length ws ≡ length cs → ⊥) → 8 ≡ write_refusal t ws cs room
      unfolding write_refusal
      stop-lengths h = rw (z, eq-eqb (length t.weights) weight_count six, ne_eqb (length ws) (length cs) h)

      module _ (l : length ws ≡ length cs) where
        sizes : sizes_good (length t.weights) (length ws) (length cs) ≡ true
        sizes = ap₂ ◌&&◌ (eq-eqb (length t.weights) weight_count six) (eq-eqb (length ws) (length cs) l)

        pub stop-terms : (r : ℕ) → r ≡ polynomial_refusal t (terms ws cs) → (r ≡ 0 → ⊥) → r ≡ write_refusal t ws cs room
        unfolding write_refusal
        stop-terms r e h = rw (z, sizes, ← e) (first_some r _ h)

        module _ (g : polynomial_refusal t (terms ws cs) ≡ 0) where
          pub stop-many : most_terms < length ws → 11 ≡ write_refusal t ws cs room
          unfolding write_refusal
          stop-many h = rw (z, sizes, g, lt-leb (length ws) most_terms h)

          module _ (few : length ws ≤ most_terms) where
            pub stop-room : room < 512 * block_count (length ws) → 10 ≡ write_refusal t ws cs room
            unfolding write_refusal
            stop-room h = rw (z, sizes, g, le-leb (length ws) most_terms few, lt-leb (512 * block_count (length ws)) room h)

            pub no_stop : 512 * block_count (length ws) ≤ room → 0 ≡ write_refusal t ws cs room
            unfolding write_refusal
            no_stop h = rw (z, sizes, g, le-leb (length ws) most_terms few, le-leb (512 * block_count (length ws)) room h)

-- the refusal is one of the table's
pub write-numbered : (t : Setting) (ws cs : List ℕ) (room : ℕ) → Numbered (write_refusal t ws cs room)
unfolding write_refusal listed
write-numbered t ws cs room =
    first-numbered _ _ (setting-numbered t)
    (first-numbered _ _ (unless-numbered (sizes_good (length t.weights) (length ws) (length cs)) 8 refl)
    (first-numbered _ _ (polynomial-numbered t (terms ws cs))
    (first-numbered _ _ (unless-numbered (leb (length ws) most_terms) 11 refl)
    (unless-numbered (leb (512 * block_count (length ws)) room) 10 refl))))

-- ---- what is not refused
pub record Writable (t : Setting) (ws cs : List ℕ) (room : ℕ) : Type 0 where
  pub set : Set t
  pub passes-setting : setting t ≡ 0
  pub six : length t.weights ≡ weight_count
  pub lent : length ws ≡ length cs
  pub good : polynomial_refusal t (terms ws cs) ≡ 0
  pub few : length ws ≤ most_terms
  pub enough : 512 * block_count (length ws) ≤ room

pub write-passes : (t : Setting) (ws cs : List ℕ) (room : ℕ) → write_refusal t ws cs room ≡ 0 → Writable t ws cs room
unfolding write_refusal
write-passes t ws cs room h =
    let r = polynomial_refusal t (terms ws cs) in
    let few = unless (leb (length ws) most_terms) 11 in
    let full = unless (leb (512 * block_count (length ws)) room) 10 in
    let sizes = sizes_good (length t.weights) (length ws) (length cs) in
    let lent = unless sizes 8 in
    let a = first-none (setting t) (first lent (first r (first few full))) h in
    let b = first-none lent (first r (first few full)) a.1 in
    let d = first-none r (first few full) b.1 in
    let e = first-none few full d.1 in
    let g = and_both (eqb (length t.weights) weight_count) (eqb (length ws) (length cs)) (passed sizes 8 (omega arith) b.0) in
    record {
      set = setting-passes t a.0;
      passes-setting = a.0;
      six = eqb-true (length t.weights) weight_count g.0;
      lent = eqb-true (length ws) (length cs) g.1;
      good = d.0;
      few = leb-true (length ws) most_terms (passed (leb (length ws) most_terms) 11 (omega arith) e.0);
      enough = leb-true (512 * block_count (length ws)) room (passed (leb (512 * block_count (length ws)) room) 10 (omega arith) e.1);
    }

-- ---- the outcome
pub write-refused : (r : ℕ) (t : Setting) (ts : List (Term ℕ)) (bytes : List ℕ) → (r ≡ 0 → ⊥) → ◌≡◌ {A = WriteOutcome} (record { answer = record { number = r; finished = 0; blocks = 0 }; bytes = bytes }) (written_by r t ts bytes)
write-refused zero t ts bytes h = absurd (h refl)
write-refused (suc r) t ts bytes h = refl

pub write_done : (r : ℕ) (t : Setting) (ws cs bytes bytes' : List ℕ) (count : ℕ) → r ≡ write_refusal t ws cs (length bytes) → r ≡ 0 → count ≡ block_count (length ws) → bytes' ≡ sets bytes 0 (first_blocks count t (terms ws cs) count)
    → ◌≡◌ {A = WriteOutcome} (record { answer = record { number = 0; finished = 0; blocks = count }; bytes = bytes' }) (written_by r t (terms ws cs) bytes)
write_done r t ws cs bytes bytes' count e z c f =
    let ts = terms ws cs in
    let w = write-passes t ws cs (length bytes) (sym e ∙ z) in
    let l : length ts ≡ length ws = length-terms ws cs (sym w.lent) in
    let n : count ≡ block_count (length ts) = c ∙ ap block_count (sym l) in
    let g : bytes' ≡ sets bytes 0 (blocks_of t ts) = f ∙ ap (λ (k : ℕ). sets bytes 0 (first_blocks k t ts k)) n in
    let room : 0 + length (blocks_of t ts) ≤ length bytes = omega (arith, w.enough, length-blocks (block_count (length ts)) t ts (block_count (length ts)), ap block_count l) in
    ap₂ (λ (k : ℕ) (b : List ℕ). record { answer = record { number = 0; finished = 0; blocks = k }; bytes = b }) n (g ∙ (sets-eq (blocks_of t ts) bytes 0 room ∙ ap (λ (k : ℕ). blocks_of t ts ++ drop k bytes) (let q : 0 + length (blocks_of t ts) ≡ length (blocks_of t ts) = omega arith in q)))
    ∙ ap (λ (k : ℕ). written_by k t ts bytes) (sym z)
