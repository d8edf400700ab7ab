-- Lists with a run of places put again, and parts of them. Assumes nothing.
use mathlib.Core.Path.{◌≡◌, refl, sym, ap, ap₂, ◌∙◌}
use mathlib.Core.List.{List, [], ◌∷◌, ◌++◌, map, append_assoc}
use mathlib.Core.Logic.{◌⊎◌, inl, inr, ⊎_elim}
use Prim.Native.Nat.{ℕ, zero, suc, ◌+◌, ◌-◌, ◌<◌, ◌≤◌}
use native.Mathlib.Nat.{add-zero, add-suc, suc-add, le_of_lt, le_of_eq}
use native.Mathlib.Numerals.{add-one}
use native.Mathlib.Omega.{arith}
use lib.ListN.{length, take, drop, set, get_or, replicate, length-set, length-drop, length-replicate, drop_of_length-le}
use borrow.Rule.Slice.PartMut.{put_mid}
use lib.Seq.{sets, sets-eq, drop-drop, take_all, take-suc, length-take-le, drop-cons, get_or-set_other, get_or-take, get_or-drop}
use Rattle.merge_common.specs.Lent.{rest_of, part, Apart}

module _ {A : Type 0} where
  pub sets-append : (l : List A) (i : ℕ) (us vs : List A) → sets l i (us ++ vs) ≡ sets (sets l i us) (i + length us) vs
  sets-append l i [] vs = ap (λ (n : ℕ). sets l n vs) (sym (add-zero i))
  sets-append l i (u ∷ us) vs = sets-append (set l i u) (suc i) us vs ∙ ap (λ (n : ℕ). sets (sets (set l i u) (suc i) us) n vs) (suc-add i (length us) ∙ sym (add-suc i (length us)))

  pub sets-snoc : (l : List A) (i : ℕ) (us : List A) (v : A) → sets l i (us ++ (v ∷ [])) ≡ set (sets l i us) (i + length us) v
  sets-snoc l i us v = sets-append l i us (v ∷ [])

  -- one more element of s is put
  pub sets-take : (l : List A) (to : ℕ) (s : List A) (i : ℕ) (d : A) → i < length s → set (sets l to (take i s)) (to + i) (get_or s i d) ≡ sets l to (take (i + 1) s)
  sets-take l to s i d h =
      ap (λ (n : ℕ). set (sets l to (take i s)) (to + n) (get_or s i d)) (sym (length-take-le i s (le_of_lt h)))
      ∙ (sym (sets-snoc l to (take i s) (get_or s i d)) ∙ ap (sets l to) (sym (take-suc s i d h) ∙ ap (λ (n : ℕ). take n s) (sym (add-one i))))

  -- what is put into a part of l as a whole
  pub sets-mid : (l : List A) (to n : ℕ) (vs : List A) {ys : List A} → n ≡ length vs → ys ≡ vs → to + length vs ≤ length l → put_mid to n l ys ≡ sets l to vs
  sets-mid l to n vs en ey h =
      ap₂ (λ (m : ℕ) (y : List A). take to l ++ (y ++ drop m (drop to l))) en ey
      ∙ (ap (λ (r : List A). take to l ++ (vs ++ r)) (drop-drop (length vs) to l) ∙ (sym (append_assoc (take to l) vs (drop (to + length vs) l)) ∙ sym (sets-eq vs l to h)))

  -- a part of l that is filled with x
  pub sets-filled : (l : List A) (to n : ℕ) (x : A) {ys : List A} → to + n ≤ length l → ys ≡ replicate (length (take (to + n - to) (drop to l))) x → put_mid to (to + n - to) l ys ≡ sets l to (replicate n x)
  sets-filled l to n x h e =
      let k : to + n - to ≡ n = omega arith in
      let m : length (take (to + n - to) (drop to l)) ≡ n = ap (λ (i : ℕ). length (take i (drop to l))) k ∙ length-take-le n (drop to l) (omega (arith, length-drop to l)) in
      let z = length-replicate n x in
      sets-mid l to (to + n - to) (replicate n x) (k ∙ sym z) (e ∙ ap (λ (i : ℕ). replicate i x) m) (omega (arith, z, h))

  -- the part of l from a on
  pub part-from : (l : List A) (a : ℕ) → take (length l - a) (drop a l) ≡ drop a l
  part-from l a = take_all (length l - a) (drop a l) (le_of_eq (length-drop a l))

-- ---- which list is not used up
pub rest-left : (a b : List ℕ) (i : ℕ) → i < length a → rest_of (drop i a) b ≡ drop i a
rest-left a b i h = rw (drop-cons a i 0 h)

pub rest-right : (a b : List ℕ) (i : ℕ) → length a ≤ i → rest_of (drop i a) b ≡ b
rest-right a b i h = rw (drop_of_length-le a h)

-- ---- places that stores leave alone
pub get_d-sets-other : (l : List ℕ) (to : ℕ) (vs : List ℕ) (i : ℕ) → (i < to) ⊎ (to + length vs ≤ i) → get_or (sets l to vs) i 0 ≡ get_or l i 0
get_d-sets-other l to [] i h = refl
get_d-sets-other l to (v ∷ vs) i h =
    get_d-sets-other (set l to v) (suc to) vs i (⊎_elim (λ k. inl (omega arith)) (λ k. inr (omega arith)) h)
    ∙ get_or-set_other l to i v 0 (⊎_elim (λ k e. omega arith) (λ k e. omega arith) h)

pub length_part : (a n : ℕ) (l : List ℕ) → a + n ≤ length l → length (part a n l) ≡ n
length_part a n l h = length-take-le n (drop a l) (omega (arith, length-drop a l))

pub get_d_part : (a n : ℕ) (l : List ℕ) (i : ℕ) → i < n → get_or (part a n l) i 0 ≡ get_or l (a + i) 0
get_d_part a n l i h = get_or-take n (drop a l) i 0 h ∙ get_or-drop a l i 0

-- ---- the first i numbers of s are put into l from `to` on, which makes it o
pub record Begun {A : Type 0} (s l : List A) (to : ℕ) (o : List A) (i : ℕ) : Type 0 where
  pub low : i ≤ length s
  pub is : o ≡ sets l to (take i s)
  pub long : length o ≡ length l

pub begun_more : (s l : List ℕ) (to : ℕ) (o : List ℕ) (i v : ℕ) → Begun s l to o i → i < length s → v ≡ get_or s i 0 → Begun s l to (set o (to + i) v) (i + 1)
begun_more s l to o i v b h e = record {
  low = omega arith;
  is = ap₂ (λ (x : List ℕ) (y : ℕ). set x (to + i) y) b.is e ∙ sets-take l to s i 0 h;
  long = length-set o (to + i) v ∙ b.long;
}

pub begun_all : {A : Type 0} (s l : List A) (to : ℕ) (o : List A) (i : ℕ) → Begun s l to o i → length s ≤ i → o ≡ sets l to s
begun_all s l to o i b h = b.is ∙ ap (sets l to) (take_all i s h)

-- what is moved within a list is read as it was, if the places lie apart
pub begun-reads : (l : List ℕ) (from to n : ℕ) (o : List ℕ) (i : ℕ) → Begun (part from n l) l to o i → from + n ≤ length l → Apart from n to n → i < n → get_or o (from + i) 0 ≡ get_or (part from n l) i 0
begun-reads l from to n o i b h out k =
    let q : List ℕ = part from n l in
    let len : length (take i q) ≡ i = length-take-le i q (omega (arith, length_part from n l h)) in
    ap (λ (x : List ℕ). get_or x (from + i) 0) b.is
    ∙ (get_d-sets-other l to (take i q) (from + i) (⊎_elim (λ u. inl (omega arith)) (λ u. inr (omega arith)) out) ∙ sym (get_d_part from n l i k))

-- one more of what is moved within a list
pub begun-on : (l : List ℕ) (from to n : ℕ) (o : List ℕ) (i : ℕ) → Begun (part from n l) l to o i → from + n ≤ length l → Apart from n to n → i < n → Begun (part from n l) l to (set o (to + i) (get_or o (from + i) 0)) (i + 1)
begun-on l from to n o i b h out k = begun_more (part from n l) l to o i (get_or o (from + i) 0) b (omega (arith, length_part from n l h)) (begun-reads l from to n o i b h out k)

-- a place of a list that each number of another makes
pub get_d-each : (f : ℕ → ℕ) (l : List ℕ) (i : ℕ) → i < length l → get_or (map f l) i 0 ≡ f (get_or l i 0)
get_d-each f [] i h = absurd (let z : ⊥ = omega arith in z)
get_d-each f (a ∷ l) zero h = refl
get_d-each f (a ∷ l) (suc i) h = get_d-each f l i (let k : i < length l = omega arith in k)
