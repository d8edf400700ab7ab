-- A merge under way, over lists alone: what a turn makes of what is left of the two. Assumes nothing.
use mathlib.Core.Path.{◌≡◌, refl, sym, ap, ◌∙◌, subst}
use mathlib.Core.Bool.{Bool, true, false, not}
use mathlib.Core.List.{List, [], ◌∷◌}
use Prim.Native.Nat.{ℕ, zero, suc, ◌+◌, ◌%◌, ◌<◌, ◌≤◌, compare, Ordering}
use native.Mathlib.Nat.{add-zero}
use native.Mathlib.Omega.{arith}
use borrow.Author.Tests.{clash, ne_eqb}
use lib.Dec.{eqb}
use lib.ListN.{length}
use Rattle.monomial.specs.TotalOrder.{TotalOrder}
use Rattle.polynomial.specs.Terms.{Term, term}
use Rattle.polynomial.specs.Merge.{keep, merge, merge_count}
use Rattle.polynomial.specs.Opening.{is_larger}
use Rattle.polynomial.proofs.MergeLaws.{merge_less, merge-same, merge-more, compared-less, compared_same, compared-more}
use Rattle.merge_common.specs.Lent.{flag}
use Rattle.merge_common.specs.Joining.{joined}
use Rattle.merge_common.specs.declared.merging.Joined.{Joined}
use Rattle.merge_common.proofs.Joins.{by_order, joined-less, joined_same, joined-more}

-- ---- by branches
pub more_by : (cmp : ℕ → ℕ → Ordering) (a b : ℕ) → is_larger (cmp a b) ≡ true → cmp a b ≡ Ordering.gt
more_by cmp a b h = by_order cmp a b (λ k. absurd (clash (sym (ap is_larger k) ∙ h))) (λ k. absurd (clash (sym (ap is_larger k) ∙ h))) (λ k. k)

pub less_by : (cmp : ℕ → ℕ → Ordering) → TotalOrder ℕ cmp → (a b : ℕ) → is_larger (cmp a b) ≡ false → (a ≡ b → ⊥) → cmp a b ≡ Ordering.lt
less_by cmp O a b h ne = by_order cmp a b (λ k. k) (λ k. absurd (ne (O.same a b k))) (λ k. absurd (clash (sym h ∙ ap is_larger k)))

pub same_by : (cmp : ℕ → ℕ → Ordering) → TotalOrder ℕ cmp → (a b : ℕ) → a ≡ b → cmp a b ≡ Ordering.eq
same_by cmp O a b e = ap (cmp a) (sym e) ∙ O.like a

-- ---- by the term that a turn makes
pub keep_some : (w v : ℕ) (ts : List (Term ℕ)) → 0 < v → keep w v ts ≡ term w v ∷ ts
unfolding keep
keep_some w zero ts h = absurd (let z : ⊥ = omega arith in z)
keep_some w (suc v) ts h = refl

-- how many terms a coefficient makes
pub kept-is : (w v : ℕ) → flag (not (eqb v 0)) ≡ length (keep w v [])
unfolding keep
kept-is w zero = refl
kept-is w (suc v) = ap (λ (b : Bool). flag (not b)) (ne_eqb (suc v) 0 (λ e. let z : ⊥ = omega arith in z))

-- where i and j terms are used, `left i` and `right j` are left, and a turn makes t of their leads
pub record Turn (p : ℕ) (left right : ℕ → List (Term ℕ)) (i j : ℕ) (t : Joined ℕ) : Type 0 where
  pub whole : merge compare p (left i) (right j) ≡ keep t.key t.coef (merge compare p (left (i + t.left)) (right (j + t.right)))
  pub count : merge_count compare (left i) (right j) ≡ suc (merge_count compare (left (i + t.left)) (right (j + t.right)))
  pub kept : t.kept ≡ length (keep t.key t.coef [])
  pub some : 1 ≤ t.left + t.right

module _ (p : ℕ) (left right : ℕ → List (Term ℕ)) (i j x c y d : ℕ) (ex : left i ≡ term x c ∷ left (i + 1)) (ey : right j ≡ term y d ∷ right (j + 1)) (hc : 0 < c) (hd : 0 < d) where
  pub turn : {t : Joined ℕ} → t ≡ joined x c y d p → Turn p left right i j t
  turn {t} e =
      by_order compare x y
      (λ h.
      subst (Turn p left right i j) (sym (e ∙ joined-less x c y d p h))
      (record { whole = rw (add-zero, ex, ey, keep_some y d _ hd) (merge_less compare p (term x c) (left (i + 1)) (term y d) (right (j + 1)) h); count = rw (add-zero, ex, ey) (ap length (compared-less compare (term x c) (left (i + 1)) (term y d) (right (j + 1)) h)); kept = kept-is y d; some = omega arith }))
      (λ h.
      subst (Turn p left right i j) (sym (e ∙ joined_same x c y d p h))
      (record { whole = rw (ex, ey) (merge-same compare p (term x c) (left (i + 1)) (term y d) (right (j + 1)) h); count = rw (ex, ey) (ap length (compared_same compare (term x c) (left (i + 1)) (term y d) (right (j + 1)) h)); kept = kept-is x ((c + d) % p); some = omega arith }))
      (λ h.
      subst (Turn p left right i j) (sym (e ∙ joined-more x c y d p h))
      (record { whole = rw (add-zero, ex, ey, keep_some x c _ hc) (merge-more compare p (term x c) (left (i + 1)) (term y d) (right (j + 1)) h); count = rw (add-zero, ex, ey) (ap length (compared-more compare (term x c) (left (i + 1)) (term y d) (right (j + 1)) h)); kept = kept-is x c; some = omega arith }))
