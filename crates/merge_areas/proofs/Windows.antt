-- The terms at places a up to e of two slices. Assumes nothing.
use mathlib.Core.Path.{◌≡◌, sym, ap, ap₂, ◌∙◌}
use mathlib.Core.List.{List, [], ◌∷◌, ◌++◌}
use Prim.Native.Nat.{ℕ, ◌+◌, ◌-◌, ◌<◌, ◌≤◌}
use native.Mathlib.Omega.{arith}
use lib.ListN.{length, take, drop, get_or}
use lib.Seq.{drop-cons, drop-drop, take-add}
use Rattle.polynomial.specs.Terms.{Term, term, terms, words, coefs}
use Rattle.polynomial.proofs.TermLists.{length-terms, terms-append, words-terms, coefs-terms}
use Rattle.merge_common.specs.Lent.{part}
use Rattle.merge_common.proofs.Lists.{length_part}
use Rattle.merge_common.proofs.ReadBack.{part_same}
use Rattle.merge_areas.specs.Ways.{between}

-- a part in two
part-split : (l : List ℕ) (a b e : ℕ) → a ≤ b → b ≤ e → part a (e - a) l ≡ part a (b - a) l ++ part b (e - b) l
part-split l a b e h k =
    let q : e - a ≡ (b - a) + (e - b) = omega arith in
    let r : a + (b - a) ≡ b = omega arith in
    ap (λ (n : ℕ). take n (drop a l)) q ∙ (take-add (b - a) (e - b) (drop a l) ∙ ap (λ (x : List ℕ). part a (b - a) l ++ take (e - b) x) (drop-drop (b - a) a l ∙ ap (λ (n : ℕ). drop n l) r))

module _ (ws cs : List ℕ) (long : length cs ≡ length ws) where
  part-long : (a e : ℕ) → a ≤ e → e ≤ length ws → length (part a (e - a) cs) ≡ length (part a (e - a) ws)
  part-long a e k h = length_part a (e - a) cs (omega arith) ∙ sym (length_part a (e - a) ws (omega arith))

  pub length-between : (a e : ℕ) → a ≤ e → e ≤ length ws → length (between ws cs a e) ≡ e - a
  unfolding between
  length-between a e k h = length-terms (part a (e - a) ws) (part a (e - a) cs) (part-long a e k h) ∙ length_part a (e - a) ws (omega arith)

  pub words-between : (a e : ℕ) → a ≤ e → e ≤ length ws → words (between ws cs a e) ≡ part a (e - a) ws
  unfolding between
  words-between a e k h = words-terms (part a (e - a) ws) (part a (e - a) cs) (part-long a e k h)

  pub coefs-between : (a e : ℕ) → a ≤ e → e ≤ length ws → coefs (between ws cs a e) ≡ part a (e - a) cs
  unfolding between
  coefs-between a e k h = coefs-terms (part a (e - a) ws) (part a (e - a) cs) (part-long a e k h)

  -- in two parts
  pub split : (a b e : ℕ) → a ≤ b → b ≤ e → e ≤ length ws → between ws cs a e ≡ between ws cs a b ++ between ws cs b e
  unfolding between
  split a b e h k l =
      ap₂ terms (part-split ws a b e h k) (part-split cs a b e h k)
      ∙ sym (terms-append (part a (b - a) ws) (part a (b - a) cs) (part b (e - b) ws) (part b (e - b) cs) (part-long a b h (omega arith)))

  pub between-one : (a : ℕ) → a < length ws → between ws cs a (a + 1) ≡ term (get_or ws a 0) (get_or cs a 0) ∷ []
  unfolding between
  between-one a h =
      let q : a + 1 - a ≡ 1 = omega arith in
      ap (λ (n : ℕ). terms (part a n ws) (part a n cs)) q
      ∙ ap₂ (λ (x y : List ℕ). terms (take 1 x) (take 1 y)) (drop-cons ws a 0 h) (drop-cons cs a 0 (let k : a < length cs = omega arith in k))

  pub at_front_lem : (a e : ℕ) → a < e → e ≤ length ws → between ws cs a e ≡ term (get_or ws a 0) (get_or cs a 0) ∷ between ws cs (a + 1) e
  at_front_lem a e h l = split a (a + 1) e (omega arith) (omega arith) l ∙ ap (λ (x : List (Term ℕ)). x ++ between ws cs (a + 1) e) (between-one a (omega arith))

  pub at_back_lem : (a e : ℕ) → a < e → e ≤ length ws → between ws cs a e ≡ between ws cs a (e - 1) ++ term (get_or ws (e - 1) 0) (get_or cs (e - 1) 0) ∷ []
  at_back_lem a e h l =
      let q : e ≡ e - 1 + 1 = omega arith in
      split a (e - 1) e (omega arith) (omega arith) l ∙ ap (λ (x : List (Term ℕ)). between ws cs a (e - 1) ++ x) (ap (between ws cs (e - 1)) q ∙ between-one (e - 1) (omega arith))

pub between_none : (ws cs : List ℕ) (a e : ℕ) → e ≤ a → between ws cs a e ≡ []
unfolding between
between_none ws cs a e h = let z : e - a ≡ 0 = omega arith in ap (λ (n : ℕ). terms (part a n ws) (part a n cs)) z

-- the same terms, where the places have the same numbers
pub between-like : (ws cs ws' cs' : List ℕ) (a e : ℕ) → length cs ≡ length ws → length ws' ≡ length ws → length cs' ≡ length cs → e ≤ length ws
    → ((t : ℕ) → a ≤ t → t < e → get_or ws' t 0 ≡ get_or ws t 0) → ((t : ℕ) → a ≤ t → t < e → get_or cs' t 0 ≡ get_or cs t 0) → between ws' cs' a e ≡ between ws cs a e
unfolding between
between-like ws cs ws' cs' a e long qw qc h sw sc = ap₂ terms (part_same ws ws' a (e - a) qw (λ t u v. sw t u (omega arith))) (part_same cs cs' a (e - a) qc (λ t u v. sc t u (omega arith)))
