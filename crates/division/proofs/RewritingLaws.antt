-- A polynomial has at most one remainder, remainders add up, and a remainder above a monomial is determined by the polynomial above it. Assumes nothing.
use mathlib.Core.Path.{◌≡◌, refl, sym, ap, ◌∙◌, subst}
use mathlib.Core.List.{List, [], ◌∷◌}
use Prim.Native.Nat.{ℕ, ◌+◌, ◌-◌, ◌*◌, ◌%◌, ◌<◌, Ordering}
use native.Mathlib.Nat.{mod-eq_of_lt, zero-mod, mul-add, add-mul, one-mul, mul-mod_right}
use native.Mathlib.Omega.{arith}
use Rattle.residue.specs.Prime.{Prime}
use Rattle.residue.proofs.Remainder.{add_same, add-both}
use Rattle.monomial.specs.TotalOrder.{TotalOrder}
use Rattle.polynomial.specs.Terms.{Term, All, Under, total, Canonical}
use Rattle.polynomial.specs.Merge.{merge}
use Rattle.polynomial.proofs.MergeLaws.{Stands, less, same, more, stands, under_more, merge-all, merge-canonical, turned-gt}
use Rattle.polynomial.proofs.CoefLaws.{total-nil, total-merge, total-under, coef-lead}
use Rattle.division.specs.Rewriting.{moved, Rewrites, Irreducible}
use Rattle.division.specs.Edits.{scaled}
use Rattle.division.proofs.Scaling.{plain, mul_left, total-scaled, scaled-canonical, all-scaled}
use Rattle.division.proofs.Moving.{moved-nil, moved-scaled, moved-merge, moved-under, moved-lead}

module _ {A : Type 0} (cmp : A → A → Ordering) (O : TotalOrder A cmp) (p : ℕ) (prime : Prime p) (Divided : A → Type 0) (share : A → A → ℕ) where
  abbrev To : (f r : A → ℕ) → Type 0
  To f r = Rewrites cmp p Divided share f r

  pos : 0 < p
  pos = omega (arith, prime.above)

  -- the same polynomials modulo p
  pub rewrites-same : {f r g s : A → ℕ} → ((m : A) → f m % p ≡ g m % p) → ((m : A) → r m % p ≡ s m % p) → To f r → To g s
  rewrites-same {f} {r} {g} {s} h k a = record {
    terms = a.terms;
    canonical = a.canonical;
    divided = a.divided;
    sums = λ m. sym (add_same p (f m) (g m) (moved share m a.terms) (h m)) ∙ (a.sums m ∙ add_same p (r m) (s m) (total cmp m a.terms) (k m));
  }

  -- the sum of two polynomials has the sum of their remainders
  pub rewrites-add : {f r g s : A → ℕ} → To f r → To g s → To (λ m. f m + g m) (λ m. r m + s m)
  rewrites-add {f} {r} {g} {s} a b = record {
    terms = merge cmp p a.terms b.terms;
    canonical = merge-canonical cmp O p pos a.terms b.terms a.canonical b.canonical;
    divided = merge-all cmp p (λ u. Divided u.mono) (λ x y e u v w. u) a.terms b.terms a.divided b.divided;
    sums = λ m.
        let C = moved share m a.terms in
        let D = moved share m b.terms in
        let X = total cmp m a.terms in
        let Y = total cmp m b.terms in
        let both = merge cmp p a.terms b.terms in
        add-both p (f m + g m) (f m + g m) (moved share m both) (C + D) refl (moved-merge share p cmp O m a.terms b.terms)
        ∙ (plain p (let e : f m + g m + (C + D) ≡ f m + C + (g m + D) = omega arith in e)
        ∙ (add-both p (f m + C) (r m + X) (g m + D) (s m + Y) (a.sums m) (b.sums m)
        ∙ (plain p (let e : r m + X + (s m + Y) ≡ r m + s m + (X + Y) = omega arith in e)
        ∙ sym (add-both p (r m + s m) (r m + s m) (total cmp m both) (X + Y) refl (total-merge cmp O p m a.terms b.terms)))));
  }

  -- and c times a polynomial c times its remainder
  pub rewrites-scaled : (c : ℕ) → 0 < c → c < p → {f r : A → ℕ} → To f r → To (λ m. c * f m) (λ m. c * r m)
  rewrites-scaled c some small {f} {r} a = record {
    terms = scaled p c a.terms;
    canonical = scaled-canonical cmp p prime c some small a.terms a.canonical;
    divided = all-scaled cmp p Divided c a.terms a.divided;
    sums = λ m.
        let C = moved share m a.terms in
        let X = total cmp m a.terms in
        add-both p (c * f m) (c * f m) (moved share m (scaled p c a.terms)) (c * C) refl (moved-scaled share p m c a.terms)
        ∙ (plain p (sym (mul-add c (f m) C))
        ∙ (mul_left p c (f m + C) (r m + X) (a.sums m)
        ∙ (plain p (mul-add c (r m) X) ∙ sym (add-both p (c * r m) (c * r m) (total cmp m (scaled p c a.terms)) (c * X) refl (total-scaled cmp p m c a.terms)))));
  }

  -- ---- what the divided terms are replaced by is below them
  module _ (below : (α m : A) → Divided α → (cmp α m ≡ Ordering.gt → ⊥) → share α m ≡ 0) where
    module _ (Upper : A → Type 0) (upward : (a b : A) → cmp a b ≡ Ordering.gt → Upper b → Upper a) where
      -- the terms that were taken off have none at an upper monomial: the largest would be left over
      none-upper : (r : A → ℕ) → Irreducible p Divided r → (ts : List (Term A)) → Canonical cmp p ts → All (λ t. Divided t.mono) ts → ((m : A) → Upper m → moved share m ts % p ≡ (r m + total cmp m ts) % p) → (m : A) → Upper m → r m % p ≡ 0
      none-upper r ir [] c d h m u = plain p (let e : r m ≡ r m + total cmp m [] = omega (arith, total-nil cmp m) in e) ∙ (sym (h m u) ∙ (plain p (moved-nil share m) ∙ zero-mod p))
      none-upper r ir (t ∷ ts) c d h m u = by (stands cmp m t.mono)
        where
          -- all terms are below m
          low : cmp m t.mono ≡ Ordering.gt → r m % p ≡ 0
          low g =
              let v : Under cmp m (t ∷ ts) = (g, under_more cmp O m t.mono g ts c.falling.0) in
              plain p (let e : r m ≡ r m + total cmp m (t ∷ ts) = omega (arith, total-under cmp O m (t ∷ ts) v) in e) ∙ (sym (h m u) ∙ (plain p (moved-under share cmp O Divided below m (t ∷ ts) d v) ∙ zero-mod p))

          -- the largest of them would be upper
          high : Upper t.mono → ⊥
          high v =
              let α = t.mono in
              let left : (r α + total cmp α (t ∷ ts)) % p ≡ t.coef = add-both p (r α) 0 (total cmp α (t ∷ ts)) t.coef (ir α d.0 ∙ sym (zero-mod p)) (coef-lead cmp O p t ts c ∙ sym (mod-eq_of_lt c.reduced.0.1)) ∙ (plain p (let e : 0 + t.coef ≡ t.coef = omega arith in e) ∙ mod-eq_of_lt c.reduced.0.1) in
              let z : t.coef ≡ 0 = sym left ∙ (sym (h α v) ∙ (plain p (moved-lead share cmp O Divided below t ts d c.falling.0) ∙ zero-mod p)) in
              let q : ⊥ = omega (arith, z, c.reduced.0.0) in
              q

          by : Stands cmp m t.mono → r m % p ≡ 0
          by (less g) = absurd (high (upward t.mono m (turned-gt cmp O m t.mono g) u))
          by (same g) = absurd (high (subst Upper (O.same m t.mono g) u))
          by (more g) = low g

      -- a polynomial that is zero at the upper monomials has such a remainder
      zero-upper : (f r : A → ℕ) → Irreducible p Divided r → To f r → ((m : A) → Upper m → f m % p ≡ 0) → (m : A) → Upper m → r m % p ≡ 0
      zero-upper f r ir a z =
          none-upper r ir a.terms a.canonical a.divided
          (λ m u. plain p (let e : moved share m a.terms ≡ 0 + moved share m a.terms = omega arith in e) ∙ (sym (add_same p (f m) 0 (moved share m a.terms) (z m u ∙ sym (zero-mod p))) ∙ a.sums m))

      -- p - 1 times a number takes it off
      whole : (x : ℕ) → x + (p - 1) * x ≡ p * x
      whole x = let e : x + (p - 1) * x ≡ (1 + (p - 1)) * x = omega (arith, add-mul 1 (p - 1) x, one-mul x) in e ∙ ap (λ (n : ℕ). n * x) (let e : 1 + (p - 1) ≡ p = omega (arith, pos) in e)

      none : (x : ℕ) → p * x % p ≡ 0
      none x = mul-mod_right p x

      -- where two polynomials agree at the upper monomials, so do their remainders
      pub rewrites-agree : (f g r s : A → ℕ) → Irreducible p Divided r → Irreducible p Divided s → To f r → To g s → ((m : A) → Upper m → f m % p ≡ g m % p) → (m : A) → Upper m → r m % p ≡ s m % p
      rewrites-agree f g r s ir is a b agree m u =
          let c = p - 1 in
          let z = zero-upper (λ k. f k + c * g k) (λ k. r k + c * s k)
          (λ α d. add-both p (r α) 0 (c * s α) 0 (ir α d ∙ sym (zero-mod p)) (mul_left p c (s α) 0 (is α d ∙ sym (zero-mod p)) ∙ plain p (let e : c * 0 ≡ 0 = omega arith in e)) ∙ zero-mod p)
          (rewrites-add a (rewrites-scaled c (omega (arith, prime.above)) (omega (arith, pos)) b))
          (λ k v. add_same p (f k) (g k) (c * g k) (agree k v) ∙ (plain p (whole (g k)) ∙ none (g k))) m u in
          plain p (let e : r m ≡ r m + 0 = omega arith in e)
          ∙ (add-both p (r m) (r m) 0 (p * s m) refl (zero-mod p ∙ sym (none (s m)))
          ∙ (plain p (let e : r m + p * s m ≡ r m + c * s m + s m = omega (arith, whole (s m)) in e)
          ∙ (add_same p (r m + c * s m) 0 (s m) (z ∙ sym (zero-mod p)) ∙ plain p (let e : 0 + s m ≡ s m = omega arith in e))))
