-- Coefficients: the merge adds them, and a canonical list is determined by them. Assumes nothing.
use mathlib.Core.Path.{◌≡◌, refl, sym, ap, ap₂, ◌∙◌}
use mathlib.Core.List.{List, [], ◌∷◌}
use Prim.Native.Nat.{ℕ, zero, suc, ◌+◌, ◌%◌, ◌<◌, Ordering}
use native.Mathlib.Nat.{mod-mod, mod-eq_of_lt, add-mod-mod, mod-add-mod, zero-mod}
use native.Mathlib.Omega.{arith}
use Rattle.residue.specs.Modular.{sum}
use Rattle.residue.proofs.Remainder.{add-both, cancel}
use Rattle.monomial.specs.TotalOrder.{TotalOrder}
use Rattle.polynomial.specs.Terms.{Term, term, here, Under, Falling, total, coef_at, Same, Canonical}
use Rattle.polynomial.specs.Merge.{keep, merge}
use Rattle.polynomial.proofs.MergeLaws.{Stands, less, same, more, stands, along, turned_lt, turned-gt, under_more}

pub here-zero : (t : Ordering) → here t 0 ≡ 0
here-zero Prim.Native.Nat.Ordering.lt = refl
here-zero Prim.Native.Nat.Ordering.eq = refl
here-zero Prim.Native.Nat.Ordering.gt = refl

pub here-sum : (p : ℕ) (t : Ordering) (a b : ℕ) → here t ((a + b) % p) % p ≡ (here t a + here t b) % p
here-sum p Prim.Native.Nat.Ordering.lt a b = refl
here-sum p Prim.Native.Nat.Ordering.eq a b = mod-mod (a + b) p
here-sum p Prim.Native.Nat.Ordering.gt a b = refl

-- a sum modulo p, of sums
regroup : (a b c d : ℕ) → a + b + (c + d) ≡ a + c + (b + d)
regroup a b c d = omega arith

module _ {A : Type 0} (cmp : A → A → Ordering) where
  pub total-nil : (m : A) → total cmp m [] ≡ 0
  unfolding total
  total-nil m = refl

  pub total-cons : (m : A) (t : Term A) (ts : List (Term A)) → total cmp m (t ∷ ts) ≡ here (cmp t.mono m) t.coef + total cmp m ts
  unfolding total
  total-cons m t ts = refl

  pub total-keep : (m w : A) (c : ℕ) (ts : List (Term A)) → total cmp m (keep w c ts) ≡ here (cmp w m) c + total cmp m ts
  unfolding keep total
  total-keep m w zero ts = omega (arith, here-zero (cmp w m))
  total-keep m w (suc c) ts = refl

  module _ (O : TotalOrder A cmp) where
    -- a step of the merge at a monomial: x's and y's own shares, and what is left of each list
    pub total-merge : (p : ℕ) (m : A) (xs ys : List (Term A)) → total cmp m (merge cmp p xs ys) % p ≡ (total cmp m xs + total cmp m ys) % p
    total-merge p m =
        along cmp p (λ xs ys zs qs. total cmp m zs % p ≡ (total cmp m xs + total cmp m ys) % p)
        (λ ys. ap (λ (n : ℕ). n % p) (omega (arith, total-nil m)))
        (λ x xs. ap (λ (n : ℕ). n % p) (omega (arith, total-nil m)))
        (λ x xs y ys zs qs h r.
        let s : ℕ = here (cmp y.mono m) y.coef in
        ap (λ (n : ℕ). n % p) (total-cons m y zs)
        ∙ (add-both p s s (total cmp m zs) (total cmp m (x ∷ xs) + total cmp m ys) refl r
        ∙ ap (λ (n : ℕ). n % p) (let e : s + (total cmp m (x ∷ xs) + total cmp m ys) ≡ total cmp m (x ∷ xs) + total cmp m (y ∷ ys) = omega (arith, total-cons m y ys) in e)))
        (λ x xs y ys zs qs h r.
        let t : Ordering = cmp x.mono m in
        let like : here t y.coef ≡ here (cmp y.mono m) y.coef = ap (λ (k : A). here (cmp k m) y.coef) (O.same x.mono y.mono h) in
        ap (λ (n : ℕ). n % p) (total-keep m x.mono ((x.coef + y.coef) % p) zs)
        ∙ (add-both p (here t ((x.coef + y.coef) % p)) (here t x.coef + here t y.coef) (total cmp m zs) (total cmp m xs + total cmp m ys) (here-sum p t x.coef y.coef) r
        ∙ ap (λ (n : ℕ). n % p) (let e : here t x.coef + here t y.coef + (total cmp m xs + total cmp m ys) ≡ total cmp m (x ∷ xs) + total cmp m (y ∷ ys) = omega (arith, like, total-cons m x xs, total-cons m y ys) in e)))
        (λ x xs y ys zs qs h r.
        let s : ℕ = here (cmp x.mono m) x.coef in
        ap (λ (n : ℕ). n % p) (total-cons m x zs)
        ∙ (add-both p s s (total cmp m zs) (total cmp m xs + total cmp m (y ∷ ys)) refl r
        ∙ ap (λ (n : ℕ). n % p) (let e : s + (total cmp m xs + total cmp m (y ∷ ys)) ≡ total cmp m (x ∷ xs) + total cmp m (y ∷ ys) = omega (arith, total-cons m x xs) in e)))

    -- the merge is the sum of the two polynomials modulo p
    pub merge-coef : (p : ℕ) (m : A) (xs ys : List (Term A)) → coef_at cmp p m (merge cmp p xs ys) ≡ sum p (coef_at cmp p m xs) (coef_at cmp p m ys)
    merge-coef p m xs ys = total-merge p m xs ys ∙ sym (mod-add-mod (total cmp m xs) p (total cmp m ys % p) ∙ add-mod-mod (total cmp m xs) (total cmp m ys) p)

    -- ---- canonical lists

    -- a monomial that is larger than all has no coefficient
    pub total-under : (m : A) (ts : List (Term A)) → Under cmp m ts → total cmp m ts ≡ 0
    total-under m [] u = total-nil m
    total-under m (t ∷ ts) u =
        let e : here (cmp t.mono m) t.coef ≡ 0 = ap (λ (o : Ordering). here o t.coef) (turned_lt cmp O m t.mono u.0) in
        omega (arith, total-cons m t ts, total-under m ts u.1)

    -- the lead's coefficient is the polynomial's
    pub coef-lead : (p : ℕ) (t : Term A) (ts : List (Term A)) → Canonical cmp p (t ∷ ts) → coef_at cmp p t.mono (t ∷ ts) ≡ t.coef
    coef-lead p t ts c =
        let e : here (cmp t.mono t.mono) t.coef ≡ t.coef = ap (λ (o : Ordering). here o t.coef) (O.like t.mono) in
        ap (λ (n : ℕ). n % p) (let q : total cmp t.mono (t ∷ ts) ≡ t.coef = omega (arith, total-cons t.mono t ts, total-under t.mono ts c.falling.0) in q)
        ∙ mod-eq_of_lt c.reduced.0.1

    pub canonical-tail : (p : ℕ) (t : Term A) (ts : List (Term A)) → Canonical cmp p (t ∷ ts) → Canonical cmp p ts
    canonical-tail p t ts c = record { falling = c.falling.1; reduced = c.reduced.1 }

    -- where the lead of one is larger than all of the other, the two are not the same polynomial
    apart : (p : ℕ) (t : Term A) (ts us : List (Term A)) → Canonical cmp p (t ∷ ts) → Under cmp t.mono us → coef_at cmp p t.mono (t ∷ ts) ≡ coef_at cmp p t.mono us → ⊥
    apart p t ts us c u e =
        let z : t.coef ≡ 0 = sym (coef-lead p t ts c) ∙ (e ∙ (ap (λ (n : ℕ). n % p) (total-under t.mono us u) ∙ zero-mod p)) in
        let h = c.reduced.0.0 in
        omega arith

    -- all of a falling list is under what its lead is under
    under-lead : (m : A) (t : Term A) (ts : List (Term A)) → Falling cmp (t ∷ ts) → cmp m t.mono ≡ Prim.Native.Nat.Ordering.gt → Under cmp m (t ∷ ts)
    under-lead m t ts f h = (h, under_more cmp O m t.mono h ts f.0)

    -- two canonical lists of the same polynomial are equal
    pub canonical-unique : (p : ℕ) → 0 < p → (f g : List (Term A)) → Canonical cmp p f → Canonical cmp p g → Same cmp p f g → f ≡ g
    canonical-unique p h [] [] a b e = refl
    canonical-unique p h [] (y ∷ ys) a b e = absurd (apart p y ys [] b tt (sym (e y.mono)))
    canonical-unique p h (x ∷ xs) [] a b e = absurd (apart p x xs [] a tt (e x.mono))
    canonical-unique p h (x ∷ xs) (y ∷ ys) a b e = go (stands cmp x.mono y.mono) (λ k. canonical-unique p h xs ys (canonical-tail p x xs a) (canonical-tail p y ys b) k)
      where
        leads : x.mono ≡ y.mono → x ≡ y
        leads q =
            let c : x.coef ≡ y.coef = sym (coef-lead p x xs a) ∙ (e x.mono ∙ (ap (λ (m : A). coef_at cmp p m (y ∷ ys)) q ∙ coef-lead p y ys b)) in
            ap₂ term q c

        tails : x ≡ y → Same cmp p xs ys
        tails q m =
            let s : ℕ = here (cmp x.mono m) x.coef in
            let t : here (cmp y.mono m) y.coef ≡ s = ap (λ (u : Term A). here (cmp u.mono m) u.coef) (sym q) in
            cancel p h (total cmp m xs) (total cmp m ys) s
            (ap (λ (n : ℕ). n % p) (let i : total cmp m xs + s ≡ total cmp m (x ∷ xs) = omega (arith, total-cons m x xs) in i)
            ∙ (e m ∙ ap (λ (n : ℕ). n % p) (let i : total cmp m (y ∷ ys) ≡ total cmp m ys + s = omega (arith, total-cons m y ys) in i)))

        go : Stands cmp x.mono y.mono → (Same cmp p xs ys → xs ≡ ys) → ◌≡◌ {A = List (Term A)} (x ∷ xs) (y ∷ ys)
        go (less k) r = absurd (apart p y ys (x ∷ xs) b (under-lead y.mono x xs a.falling (turned-gt cmp O x.mono y.mono k)) (sym (e y.mono)))
        go (same k) r = let q = leads (O.same x.mono y.mono k) in ap₂ ◌∷◌ q (r (tails q))
        go (more k) r = absurd (apart p x xs (y ∷ ys) a (under-lead x.mono y ys b.falling k) (e x.mono))
