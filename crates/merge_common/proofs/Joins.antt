-- What a turn makes of a term of each list: by the comparison, and by the flags of the code. Assumes nothing.
use mathlib.Core.Path.{◌≡◌, refl, sym, ap, ap₂, ◌∙◌, subst}
use mathlib.Core.Bool.{Bool, true, false, not, ◌||◌}
use Prim.Native.Nat.{ℕ, ◌+◌, ◌%◌, ◌≤◌, compare, Ordering}
use native.Mathlib.Omega.{arith}
use lib.Dec.{eqb}
use Rattle.monomial.specs.TotalOrder.{turned}
use Rattle.monomial.proofs.OrderLaws.{numbers-order}
use Rattle.polynomial.specs.Opening.{is_larger}
use Rattle.polynomial.proofs.MergeLaws.{Stands, less, same, more, stands}
use Rattle.merge_common.specs.Lent.{flag, chosen}
use Rattle.merge_common.specs.Joining.{made, joined, joined_last, joined_by}
use Rattle.merge_common.specs.declared.merging.Joined.{Joined}
use Rattle.merge_common.proofs.Steps.{flag_small}

-- by which of two is larger
pub by_order : {C : Type 0} (cmp : ℕ → ℕ → Ordering) (x y : ℕ) → (cmp x y ≡ Ordering.lt → C) → (cmp x y ≡ Ordering.eq → C) → (cmp x y ≡ Ordering.gt → C) → C
by_order {C} cmp x y l s m = go (stands cmp x y)
  where
    go : Stands cmp x y → C
    go (less h) = l h
    go (same h) = s h
    go (more h) = m h

-- x is larger for l, y is for m
pub record Flags (x y : ℕ) (l m : Bool) : Type 0 where
  pub x-larger : l ≡ is_larger (compare x y)
  pub y-larger : m ≡ is_larger (compare y x)

back : (x y : ℕ) {o : Ordering} → compare x y ≡ o → compare y x ≡ turned o
back x y h = numbers-order.turn x y ∙ ap turned h

-- the same by two numbers that compare as x and y do
pub flags_as : (a b x y : ℕ) {l m : Bool} → compare a b ≡ compare x y → l ≡ is_larger (compare a b) → m ≡ is_larger (compare b a) → Flags x y l m
flags_as a b x y like el em = record {
  x-larger = el ∙ ap is_larger like;
  y-larger = em ∙ ap is_larger (back a b like ∙ sym (back x y refl));
}

-- the number of what is chosen
pub chosen-as : {K : Type 0} (number : K → ℕ) (f : Bool) (x y : K) {w : K} → w ≡ chosen (flag f) x y → number w ≡ chosen (flag f) (number x) (number y)
chosen-as number true x y e = ap number e
chosen-as number false x y e = ap number e

module _ (x c y d p : ℕ) where
  -- ---- by the comparison
  pub joined-less : compare x y ≡ Ordering.lt → joined x c y d p ≡ made y d 0 1
  unfolding joined
  joined-less h = rw (h, joined)

  pub joined_same : compare x y ≡ Ordering.eq → joined x c y d p ≡ made x ((c + d) % p) 1 1
  unfolding joined
  joined_same h = rw (h, joined)

  pub joined-more : compare x y ≡ Ordering.gt → joined x c y d p ≡ made x c 1 0
  unfolding joined
  joined-more h = rw (h, joined)

  pub last_less : compare x y ≡ Ordering.lt → joined_last x c y d p ≡ made x c 1 0
  unfolding joined_last
  last_less h = rw (h, joined_last)

  pub last-same : compare x y ≡ Ordering.eq → joined_last x c y d p ≡ made x ((c + d) % p) 1 1
  unfolding joined_last
  last-same h = rw (h, joined_last)

  pub last_more : compare x y ≡ Ordering.gt → joined_last x c y d p ≡ made y d 0 1
  unfolding joined_last
  last_more h = rw (h, joined_last)

  -- ---- by the flags l and m: x is taken for l, y for m, and both for neither
  abbrev flagged : Bool → Bool → Joined ℕ
  flagged l m = record {
    key = chosen (flag m) y x;
    coef = chosen (flag (l || m)) (chosen (flag l) c d) ((c + d) % p);
    left = flag (not m);
    right = flag (not l);
    kept = flag (not (eqb (chosen (flag (l || m)) (chosen (flag l) c d) ((c + d) % p)) 0));
  }

  by_flags : Stands compare x y → flagged (is_larger (compare x y)) (is_larger (compare y x)) ≡ joined x c y d p
  by_flags (less h) = ap₂ (λ (o q : Ordering). flagged (is_larger o) (is_larger q)) h (back x y h) ∙ sym (joined-less h)
  by_flags (same h) = ap₂ (λ (o q : Ordering). flagged (is_larger o) (is_larger q)) h (back x y h) ∙ sym (joined_same h)
  by_flags (more h) = ap₂ (λ (o q : Ordering). flagged (is_larger o) (is_larger q)) h (back x y h) ∙ sym (joined-more h)

  by-flags-last : Stands compare x y → flagged (is_larger (compare y x)) (is_larger (compare x y)) ≡ joined_last x c y d p
  by-flags-last (less h) = ap₂ (λ (o q : Ordering). flagged (is_larger q) (is_larger o)) h (back x y h) ∙ sym (last_less h)
  by-flags-last (same h) = ap₂ (λ (o q : Ordering). flagged (is_larger q) (is_larger o)) h (back x y h) ∙ sym (last-same h)
  by-flags-last (more h) = ap₂ (λ (o q : Ordering). flagged (is_larger q) (is_larger o)) h (back x y h) ∙ sym (last_more h)

  -- x is taken for l, y for m: for the larger one, or for the smaller
  taken : {above below : Bool} → Flags x y above below → (last : Bool) {l m : Bool} → l ≡ chosen (flag last) below above → m ≡ chosen (flag last) above below → flagged l m ≡ joined_by last x c y d p
  taken f true el em = rw (el, em, f.y-larger, f.x-larger) (by-flags-last (stands compare x y))
  taken f false el em = rw (el, em, f.y-larger, f.x-larger) (by_flags (stands compare x y))

  -- u is the sum of the coefficients, v the one of the term that is taken, s the one that is stored
  pub joined_by_is : {above below : Bool} → Flags x y above below → (last : Bool) {l m : Bool} → l ≡ chosen (flag last) below above → m ≡ chosen (flag last) above below → {u v s w i j z : ℕ}
      → u ≡ (c + d) % p → v ≡ chosen (flag l) c d → s ≡ chosen (flag (l || m)) v u → w ≡ chosen (flag m) y x → i ≡ flag (not m) → j ≡ flag (not l) → z ≡ flag (not (eqb s 0))
      → ◌≡◌ {A = Joined ℕ} (record { key = w; coef = s; left = i; right = j; kept = z }) (joined_by last x c y d p)
  joined_by_is f last el em eu ev es ew ei ej ez = rw (ez, ew, ei, ej, es, ev, eu) (taken f last el em)

-- ---- at most one term of each is used, and one made
abbrev pub Small : Joined ℕ → Type 0
Small t = (t.left ≤ 1) × (t.right ≤ 1) × (t.kept ≤ 1)

small-made : {t : Joined ℕ} (w v l r : ℕ) → l ≤ 1 → r ≤ 1 → t ≡ made w v l r → Small t
small-made w v l r hl hr e = subst Small (sym e) (hl, hr, flag_small (not (eqb v 0)))

module _ (x c y d p : ℕ) {t : Joined ℕ} where
  pub joined_small : t ≡ joined x c y d p → Small t
  joined_small e =
      by_order compare x y (λ h. small-made y d 0 1 (omega arith) (omega arith) (e ∙ joined-less x c y d p h))
      (λ h. small-made x ((c + d) % p) 1 1 (omega arith) (omega arith) (e ∙ joined_same x c y d p h))
      (λ h. small-made x c 1 0 (omega arith) (omega arith) (e ∙ joined-more x c y d p h))

  pub last-small : t ≡ joined_last x c y d p → Small t
  last-small e =
      by_order compare x y (λ h. small-made x c 1 0 (omega arith) (omega arith) (e ∙ last_less x c y d p h))
      (λ h. small-made x ((c + d) % p) 1 1 (omega arith) (omega arith) (e ∙ last-same x c y d p h))
      (λ h. small-made y d 0 1 (omega arith) (omega arith) (e ∙ last_more x c y d p h))
