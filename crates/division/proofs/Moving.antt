-- What some terms are replaced by: the laws of `moved`. Assumes nothing.
use mathlib.Core.Path.{◌≡◌, refl, sym, ap, ◌∙◌}
use mathlib.Core.List.{List, [], ◌∷◌}
use Prim.Native.Nat.{ℕ, zero, suc, ◌+◌, ◌*◌, ◌%◌, Ordering}
use native.Mathlib.Nat.{add-mul, zero-mul, mul-zero, mul-add, mul_assoc}
use native.Mathlib.Omega.{arith}
use Rattle.residue.proofs.Remainder.{mod-mul, add-both}
use Rattle.monomial.specs.TotalOrder.{TotalOrder}
use Rattle.polynomial.specs.Terms.{Term, term, All, Under}
use Rattle.polynomial.specs.Merge.{keep, merge}
use Rattle.polynomial.proofs.MergeLaws.{along, turned_lt}
use Rattle.division.specs.Rewriting.{moved}
use Rattle.division.specs.Edits.{scaled}
use Rattle.division.proofs.Scaling.{plain}

module _ {A : Type 0} (share : A → A → ℕ) where
  pub moved-nil : (m : A) → moved share m [] ≡ 0
  unfolding moved
  moved-nil m = refl

  pub moved-cons : (m : A) (t : Term A) (ts : List (Term A)) → moved share m (t ∷ ts) ≡ t.coef * share t.mono m + moved share m ts
  unfolding moved
  moved-cons m t ts = refl

  moved-keep : (m w : A) (c : ℕ) (ts : List (Term A)) → moved share m (keep w c ts) ≡ c * share w m + moved share m ts
  unfolding keep moved
  moved-keep m w zero ts = omega (arith, zero-mul (share w m))
  moved-keep m w (suc c) ts = refl

  module _ (p : ℕ) where
    mul-both : (a b k : ℕ) → (a + b) % p * k % p ≡ (a * k + b * k) % p
    mul-both a b k = mod-mul p (a + b) k ∙ plain p (add-mul a b k)

    -- times c
    pub moved-scaled : (m : A) (c : ℕ) (ts : List (Term A)) → moved share m (scaled p c ts) % p ≡ c * moved share m ts % p
    moved-scaled m c [] = plain p (moved-nil m ∙ (sym (mul-zero c) ∙ ap (λ (n : ℕ). c * n) (sym (moved-nil m))))
    moved-scaled m c (t ∷ ts) =
        let k = share t.mono m in
        plain p (moved-cons m (term t.mono (c * t.coef % p)) (scaled p c ts))
        ∙ (add-both p (c * t.coef % p * k) (c * (t.coef * k)) (moved share m (scaled p c ts)) (c * moved share m ts) (mod-mul p (c * t.coef) k ∙ plain p (mul_assoc c t.coef k)) (moved-scaled m c ts)
        ∙ plain p (sym (mul-add c (t.coef * k) (moved share m ts)) ∙ ap (λ (n : ℕ). c * n) (sym (moved-cons m t ts))))

    -- and of a sum
    module _ (cmp : A → A → Ordering) (O : TotalOrder A cmp) where
      pub moved-merge : (m : A) (xs ys : List (Term A)) → moved share m (merge cmp p xs ys) % p ≡ (moved share m xs + moved share m ys) % p
      moved-merge m =
          along cmp p (λ xs ys zs qs. moved share m zs % p ≡ (moved share m xs + moved share m ys) % p)
          (λ ys. plain p (omega (arith, moved-nil m)))
          (λ x xs. plain p (omega (arith, moved-nil m)))
          (λ x xs y ys zs qs h r.
          let s : ℕ = y.coef * share y.mono m in
          plain p (moved-cons m y zs)
          ∙ (add-both p s s (moved share m zs) (moved share m (x ∷ xs) + moved share m ys) refl r
          ∙ plain p (let e : s + (moved share m (x ∷ xs) + moved share m ys) ≡ moved share m (x ∷ xs) + moved share m (y ∷ ys) = omega (arith, moved-cons m y ys) in e)))
          (λ x xs y ys zs qs h r.
          let k : ℕ = share x.mono m in
          let like : y.coef * k ≡ y.coef * share y.mono m = ap (λ (a : A). y.coef * share a m) (O.same x.mono y.mono h) in
          plain p (moved-keep m x.mono ((x.coef + y.coef) % p) zs)
          ∙ (add-both p ((x.coef + y.coef) % p * k) (x.coef * k + y.coef * k) (moved share m zs) (moved share m xs + moved share m ys) (mul-both x.coef y.coef k) r
          ∙ plain p (let e : x.coef * k + y.coef * k + (moved share m xs + moved share m ys) ≡ moved share m (x ∷ xs) + moved share m (y ∷ ys) = omega (arith, like, moved-cons m x xs, moved-cons m y ys) in e)))
          (λ x xs y ys zs qs h r.
          let s : ℕ = x.coef * share x.mono m in
          plain p (moved-cons m x zs)
          ∙ (add-both p s s (moved share m zs) (moved share m xs + moved share m (y ∷ ys)) refl r
          ∙ plain p (let e : s + (moved share m xs + moved share m (y ∷ ys)) ≡ moved share m (x ∷ xs) + moved share m (y ∷ ys) = omega (arith, moved-cons m x xs) in e)))

  -- ---- what the terms are replaced by is below them
  module _ (cmp : A → A → Ordering) (O : TotalOrder A cmp) (Divided : A → Type 0) (below : (α m : A) → Divided α → (cmp α m ≡ Ordering.gt → ⊥) → share α m ≡ 0) where
    not-both : (a b : A) → cmp a b ≡ Ordering.gt → cmp b a ≡ Ordering.gt → ⊥
    not-both a b h k = let z : ◌≡◌ {A = Ordering} Ordering.gt Ordering.lt = sym k ∙ turned_lt cmp O a b h in let e : ◌≡◌ {A = ℕ} 0 1 = cc in omega arith

    -- nothing is moved to a monomial that is above all terms
    pub moved-under : (m : A) (ts : List (Term A)) → All (λ t. Divided t.mono) ts → Under cmp m ts → moved share m ts ≡ 0
    moved-under m [] d u = moved-nil m
    moved-under m (t ∷ ts) d u =
        let z : t.coef * share t.mono m ≡ 0 = ap (λ (k : ℕ). t.coef * k) (below t.mono m d.0 (λ h. not-both m t.mono u.0 h)) ∙ mul-zero t.coef in
        omega (arith, z, moved-cons m t ts, moved-under m ts d.1 u.1)

    -- nor to the largest of them
    pub moved-lead : (t : Term A) (ts : List (Term A)) → All (λ u. Divided u.mono) (t ∷ ts) → Under cmp t.mono ts → moved share t.mono (t ∷ ts) ≡ 0
    moved-lead t ts d u =
        let z : t.coef * share t.mono t.mono ≡ 0 = ap (λ (k : ℕ). t.coef * k) (below t.mono t.mono d.0 (λ h. not-both t.mono t.mono h h)) ∙ mul-zero t.coef in
        omega (arith, z, moved-cons t.mono t ts, moved-under t.mono ts d.1 u)
