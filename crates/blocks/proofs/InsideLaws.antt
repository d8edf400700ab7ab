-- What lies where in the blocks of a polynomial. Assumes nothing.
use Rattle.std.proofs.Common.{◌≡◌, refl, sym, ap, ◌∙◌, List, [], ◌∷◌, ◌++◌, ℕ, zero, suc, ◌+◌, ◌-◌, ◌*◌, ◌<◌, ◌≤◌, arith, length, get_or, take, drop, length-drop, take_all}
use native.Mathlib.Decide.{dec_le}
use lib.ListN.{length-replicate}
use lib.Seq.{take-append-le, drop-append-le, drop-append-add}
use Rattle.monomial.specs.Layout.{bytes}
use Rattle.monomial.proofs.ByteLaws.{length-bytes}
use Rattle.polynomial.specs.Terms.{Term, term}
use Rattle.merge_common.specs.Lent.{part}
use Rattle.polynomial.specs.declared.setting.Setting.{Setting}
use Rattle.block.specs.Block.{header, place, places, unused, check_of, body, block_with, block, terms_of, first_blocks_with, first_blocks}
use Rattle.block.proofs.BlockLaws.{length-header, length-places, length-body, length-block}
use Rattle.blocks.proofs.WriteLaws.{length-blocks, terms_of-few}

-- ---- parts of two lists in a row
pub part_left : (xs ys : List ℕ) (at n : ℕ) → at + n ≤ length xs → part at n (xs ++ ys) ≡ part at n xs
part_left xs ys at n h = ap (take n) (drop-append-le at xs ys (omega arith)) ∙ take-append-le n (drop at xs) ys (omega (arith, length-drop at xs))

pub part_right : (xs ys : List ℕ) (k at n : ℕ) → length xs ≡ k → part (k + at) n (xs ++ ys) ≡ part at n ys
part_right xs ys k at n e = ap (λ (m : ℕ). part (m + at) n (xs ++ ys)) (sym e) ∙ ap (take n) (drop-append-add xs ys at)

pub part-all : (xs : List ℕ) (n : ℕ) → length xs ≡ n → part 0 n xs ≡ xs
part-all xs n e = take_all n xs (omega arith)

-- ---- inside one block
module _ (number count : ℕ) (t : Setting) (ts : List (Term ℕ)) (few : length ts ≤ 41) where
  long-body : length (body number count t ts) ≡ 508
  long-body = length-body number count t ts few

  pub body-in : (at n : ℕ) → at + n ≤ 508 → part at n (block number count t ts) ≡ part at n (body number count t ts)
  unfolding block_with
  body-in at n h = part_left (body number count t ts) (bytes 4 (check_of (body number count t ts))) at n (omega (arith, long-body))

  pub header-in : (at n : ℕ) → at + n ≤ 16 → part at n (block number count t ts) ≡ part at n (header number count (length ts) t)
  header-in at n h =
      body-in at n (omega arith)
      ∙ part_left (header number count (length ts) t) (places ts ++ unused (length ts)) at n (omega (arith, length-header number count (length ts) t))

  pub places-in : (at n : ℕ) → at + n ≤ 12 * length ts → part (16 + at) n (block number count t ts) ≡ part at n (places ts)
  places-in at n h =
      body-in (16 + at) n (omega arith)
      ∙ (part_right (header number count (length ts) t) (places ts ++ unused (length ts)) 16 at n (length-header number count (length ts) t)
      ∙ part_left (places ts) (unused (length ts)) at n (omega (arith, length-places ts)))

  pub filler-in : part (16 + 12 * length ts) (12 * (41 - length ts)) (block number count t ts) ≡ unused (length ts)
  filler-in =
      let n = 12 * (41 - length ts) in
      body-in (16 + 12 * length ts) n (omega arith)
      ∙ (part_right (header number count (length ts) t) (places ts ++ unused (length ts)) 16 (12 * length ts) n (length-header number count (length ts) t)
      ∙ (ap (λ (k : ℕ). part k n (places ts ++ unused (length ts))) (let e : 12 * length ts ≡ 12 * length ts + 0 = omega arith in e)
      ∙ (part_right (places ts) (unused (length ts)) (12 * length ts) 0 n (length-places ts) ∙ part-all (unused (length ts)) n (length-replicate n 0))))

  pub check-in : part 508 4 (block number count t ts) ≡ bytes 4 (check_of (body number count t ts))
  unfolding block_with
  check-in =
      part_right (body number count t ts) (bytes 4 (check_of (body number count t ts))) 508 0 4 long-body
      ∙ part-all (bytes 4 (check_of (body number count t ts))) 4 (length-bytes 4 (check_of (body number count t ts)))

-- ---- inside the places
pub word_in : (ts : List (Term ℕ)) (i : ℕ) → i < length ts → part (12 * i) 8 (places ts) ≡ bytes 8 (get_or ts i (term 0 0)).mono
unfolding places bytes
word_in [] i h = absurd (let z : ⊥ = omega arith in z)
word_in (t ∷ ts) zero h = refl
word_in (t ∷ ts) (suc i) h =
    let e : 12 * suc i ≡ 12 + 12 * i = omega arith in
    ap (λ (k : ℕ). part k 8 (place t ++ places ts)) e ∙ (part_right (place t) (places ts) 12 (12 * i) 8 refl ∙ word_in ts i (omega arith))

pub coef-in : (ts : List (Term ℕ)) (i : ℕ) → i < length ts → part (12 * i + 8) 4 (places ts) ≡ bytes 4 (get_or ts i (term 0 0)).coef
unfolding places bytes
coef-in [] i h = absurd (let z : ⊥ = omega arith in z)
coef-in (t ∷ ts) zero h = refl
coef-in (t ∷ ts) (suc i) h =
    let e : 12 * suc i + 8 ≡ 12 + (12 * i + 8) = omega arith in
    ap (λ (k : ℕ). part k 4 (place t ++ places ts)) e ∙ (part_right (place t) (places ts) 12 (12 * i + 8) 4 refl ∙ coef-in ts i (omega arith))

-- ---- inside the blocks
module _ (count : ℕ) (t : Setting) (ts : List (Term ℕ)) where
  pub block_in : (m k : ℕ) → k < m → part (512 * k) 512 (first_blocks count t ts m) ≡ block k count t (terms_of k ts)
  unfolding first_blocks_with
  block_in zero k h = absurd (let z : ⊥ = omega arith in z)
  block_in (suc m) k h = go (λ l. block_in m k l) (dec_le m k)
    where
      go : (k < m → part (512 * k) 512 (first_blocks count t ts m) ≡ block k count t (terms_of k ts)) → Dec (m ≤ k) → part (512 * k) 512 (first_blocks count t ts m ++ block m count t (terms_of m ts)) ≡ block k count t (terms_of k ts)
      go again (yes l) =
          let e : k ≡ m = omega arith in
          let f : 512 * k ≡ 512 * m + 0 = omega arith in
          ap (λ (n : ℕ). part n 512 (first_blocks count t ts m ++ block m count t (terms_of m ts))) f
          ∙ (part_right (first_blocks count t ts m) (block m count t (terms_of m ts)) (512 * m) 0 512 (length-blocks count t ts m)
          ∙ (part-all (block m count t (terms_of m ts)) 512 (length-block m count t (terms_of m ts) (terms_of-few m ts)) ∙ ap (λ (n : ℕ). block n count t (terms_of n ts)) (sym e)))
      go again (no l) = part_left (first_blocks count t ts m) (block m count t (terms_of m ts)) (512 * k) 512 (omega (arith, length-blocks count t ts m)) ∙ again (omega arith)
