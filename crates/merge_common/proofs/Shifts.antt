-- Numbers moved up within a list, the last one first. Assumes nothing.
use mathlib.Core.Path.{◌≡◌, refl, sym, ap, ap₂, ◌∙◌}
use mathlib.Core.List.{List, [], ◌∷◌, ◌++◌, append_assoc}
use mathlib.Core.Logic.{inl}
use Prim.Native.Nat.{ℕ, suc, ◌+◌, ◌-◌, ◌<◌, ◌≤◌}
use native.Mathlib.Nat.{le_of_eq}
use native.Mathlib.Omega.{arith}
use lib.ListN.{length, take, drop, set, get_or, length-set, drop_of_length-le, take-append-drop}
use lib.Seq.{sets, sets-eq, set_comm, drop-cons, drop-drop}
use Rattle.merge_common.specs.Lent.{part}
use Rattle.merge_common.proofs.Lists.{get_d-sets-other, length_part, get_d_part}

-- a store in front of a run of places
set-sets : (l : List ℕ) (j : ℕ) (vs : List ℕ) (i v : ℕ) → i < j → set (sets l j vs) i v ≡ sets (set l i v) j vs
set-sets l j [] i v h = refl
set-sets l j (u ∷ vs) i v h = set-sets (set l j u) (suc j) vs i v (omega arith) ∙ ap (λ (x : List ℕ). sets x (suc j) vs) (set_comm l j i u v (λ e. let z : ⊥ = omega arith in z))

-- all but the first i of the n numbers at `from` are put from `to` on
pub record Left (l : List ℕ) (from to n : ℕ) (o : List ℕ) (i : ℕ) : Type 0 where
  pub low : i ≤ n
  pub is : o ≡ sets l (to + i) (drop i (part from n l))
  pub long : length o ≡ length l

module _ (l : List ℕ) (from to n : ℕ) (up : from ≤ to) (room : to + n ≤ length l) where
  q-long : length (part from n l) ≡ n
  q-long = length_part from n l (omega arith)

  pub left-all : Left l from to n l n
  left-all = record { low = omega arith; is = ap (sets l (to + n)) (sym (drop_of_length-le (part from n l) {i = n} (le_of_eq q-long))); long = refl }

  pub left_less : (o : List ℕ) (i : ℕ) → Left l from to n o i → 0 < i → Left l from to n (set o (to + (i - 1)) (get_or o (from + (i - 1)) 0)) (i - 1)
  left_less o i b h =
      let j : ℕ = i - 1 in
      let q : List ℕ = part from n l in
      let lo = b.low in
      let e : to + i ≡ suc (to + j) = omega arith in
      let s : i ≡ suc j = omega arith in
      let v : get_or o (from + j) 0 ≡ get_or q j 0 = ap (λ (x : List ℕ). get_or x (from + j) 0) b.is ∙ (get_d-sets-other l (to + i) (drop i q) (from + j) (inl (omega arith)) ∙ sym (get_d_part from n l j (omega arith))) in
      record {
        low = omega arith;
        is =
            ap₂ (λ (x : List ℕ) (y : ℕ). set x (to + j) y) b.is v
            ∙ (set-sets l (to + i) (drop i q) (to + j) (get_or q j 0) (omega arith)
            ∙ (ap₂ (λ (x y : ℕ). sets (set l (to + j) (get_or q j 0)) x (drop y q)) e s ∙ ap (sets l (to + j)) (sym (drop-cons q j 0 (omega (arith, q-long))))));
        long = length-set o (to + j) (get_or o (from + j) 0) ∙ b.long;
      }

  pub left-none : (o : List ℕ) (i : ℕ) → Left l from to n o i → i ≤ 0 → o ≡ sets l to (part from n l)
  left-none o i b h =
      let z : i ≡ 0 = omega arith in
      let e : to + i ≡ to = omega arith in
      b.is ∙ ap₂ (λ (x y : ℕ). sets l x (drop y (part from n l))) e z

-- what stands there already is put
pub sets_same : (l : List ℕ) (a n : ℕ) → a + n ≤ length l → l ≡ sets l a (part a n l)
sets_same l a n h =
    let vs : List ℕ = part a n l in
    sym (sets-eq vs l a (omega (arith, length_part a n l h))
    ∙ (append_assoc (take a l) vs (drop (a + length vs) l)
    ∙ (ap (λ (x : List ℕ). take a l ++ (vs ++ x)) (ap (λ (m : ℕ). drop (a + m) l) (length_part a n l h) ∙ sym (drop-drop n a l))
    ∙ (ap (λ (x : List ℕ). take a l ++ x) (take-append-drop n (drop a l)) ∙ take-append-drop a l))))

-- there is no gap
pub no_gap : (l : List ℕ) (from k j : ℕ) → from ≤ k → k ≤ j → j ≤ length l → j - k ≡ 0 → l ≡ sets l from (part from (k - from) l)
no_gap l from k j a b c e = sets_same l from (k - from) (omega arith)
