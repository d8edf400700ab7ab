-- Two lists as one, the second past the first: what is read and what is put in one of them, in both. Assumes nothing.
use Prim.Native.Nat.{ℕ, suc, ◌+◌, ◌-◌, ◌<◌, ◌≤◌}
use mathlib.Core.Path.{◌≡◌, refl, sym, ap, ◌∙◌}
use mathlib.Core.List.{List, [], ◌∷◌, ◌++◌}
use mathlib.Core.Logic.{◌⊎◌, inl, inr, ⊎_elim}
use native.Mathlib.Decide.{dec_le}
use native.Mathlib.Omega.{arith}
use lib.ListN.{length, get_or, set, take, drop, length-drop, length-append, get_or-append}
use lib.Seq.{sets, take-append-le, drop-append-le, drop-append-add, get_or-append-add, set-append_left}
use Rattle.merge_common.specs.Lent.{part}
use Rattle.merge_common.proofs.Lists.{get_d-sets-other}

-- ---- in the first list: at the same place
pub get_d-left : (l r : List ℕ) (i : ℕ) → i < length l → get_or (l ++ r) i 0 ≡ get_or l i 0
get_d-left l r i h = get_or-append l r 0 i h

pub part_left : (l r : List ℕ) (a n : ℕ) → a + n ≤ length l → part a n (l ++ r) ≡ part a n l
part_left l r a n h = ap (take n) (drop-append-le a l r (omega arith)) ∙ take-append-le n (drop a l) r (omega (arith, length-drop a l))

pub set-left : (l r : List ℕ) (a v : ℕ) → a < length l → set (l ++ r) a v ≡ set l a v ++ r
set-left l r a v h = set-append_left l r a v h

-- ---- in the second list: as many places on as the first one has
pub get_d-right : (l r : List ℕ) (i : ℕ) → get_or (l ++ r) (length l + i) 0 ≡ get_or r i 0
get_d-right l r i = get_or-append-add l r i 0

pub part_right : (l r : List ℕ) (a n : ℕ) → part (length l + a) n (l ++ r) ≡ part a n r
part_right l r a n = ap (take n) (drop-append-add l r a)

pub set-right : (l r : List ℕ) (a v : ℕ) → set (l ++ r) (length l + a) v ≡ l ++ set r a v
set-right [] r a v = ap (λ (k : ℕ). set r k v) (let e : 0 + a ≡ a = omega arith in e)
set-right (x ∷ l) r a v = ap (λ (k : ℕ). set (x ∷ l ++ r) k v) (let e : suc (length l) + a ≡ suc (length l + a) = omega arith in e) ∙ ap (λ (y : List ℕ). x ∷ y) (set-right l r a v)

-- the same by the place in both: the first list has m places
module _ (l r : List ℕ) {m : ℕ} (e : length l ≡ m) (a : ℕ) (h : m ≤ a) where
  here : a ≡ length l + (a - m)
  here = omega arith

  pub get_d_past : get_or (l ++ r) a 0 ≡ get_or r (a - m) 0
  get_d_past = ap (λ (k : ℕ). get_or (l ++ r) k 0) here ∙ get_d-right l r (a - m)

  pub part-past : (n : ℕ) → part a n (l ++ r) ≡ part (a - m) n r
  part-past n = ap (λ (k : ℕ). part k n (l ++ r)) here ∙ part_right l r (a - m) n

  pub set_past : (v : ℕ) → set (l ++ r) a v ≡ l ++ set r (a - m) v
  set_past v = ap (λ (k : ℕ). set (l ++ r) k v) here ∙ set-right l r (a - m) v

-- both are as long as the two
pub joined-long : (l r : List ℕ) {m n : ℕ} → length l ≡ m → length r ≡ n → length (l ++ r) ≡ m + n
joined-long l r el er = omega (arith, length-append l r)

-- ---- lists that are the same but for the places from lo up to hi
abbrev pub SameBut : (lo hi : ℕ) (s s' : List ℕ) → Type 0
SameBut lo hi s s' = (i : ℕ) → (i < lo) ⊎ (hi ≤ i) → get_or s' i 0 ≡ get_or s i 0

pub same-sets : (lo hi : ℕ) (s : List ℕ) (a : ℕ) (vs : List ℕ) → lo ≤ a → a + length vs ≤ hi → SameBut lo hi s (sets s a vs)
same-sets lo hi s a vs low high i h = get_d-sets-other s a vs i (⊎_elim (λ u. inl (omega arith)) (λ u. inr (omega arith)) h)

pub same-wider : {lo hi : ℕ} (s s' : List ℕ) (lo' hi' : ℕ) → lo' ≤ lo → hi ≤ hi' → SameBut lo hi s s' → SameBut lo' hi' s s'
same-wider s s' lo' hi' low high f i h = f i (⊎_elim (λ u. inl (omega arith)) (λ u. inr (omega arith)) h)

pub same_left : {lo hi : ℕ} (l l' r : List ℕ) → length l' ≡ length l → SameBut lo hi l l' → SameBut lo hi (l ++ r) (l' ++ r)
same_left {lo} {hi} l l' r e f i h = by (dec_le (length l) i)
  where
    by : Dec (length l ≤ i) → get_or (l' ++ r) i 0 ≡ get_or (l ++ r) i 0
    by (yes u) = get_d_past l' r e i u ∙ sym (get_d_past l r refl i u)
    by (no u) = get_d-left l' r i (omega arith) ∙ (f i h ∙ sym (get_d-left l r i (omega arith)))
