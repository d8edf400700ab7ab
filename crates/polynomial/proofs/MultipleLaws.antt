-- The multiple of a polynomial by a term: it falls, is reduced, and has the product's coefficients, wherever multiplying by the monomial keeps the order. Assumes nothing.
use mathlib.Core.Path.{◌≡◌, refl, sym, ap, ◌∙◌}
use mathlib.Core.List.{List, [], ◌∷◌}
use mathlib.Core.Logic.{⊎_elim}
use Prim.Native.Nat.{ℕ, suc, ◌+◌, ◌*◌, ◌%◌, ◌<◌, Ordering}
use native.Mathlib.Nat.{mod-lt, mod-mod, mod-eq_of_lt, mul-add, mul-zero, mul_comm, zero-mod, pos_of_ne-zero}
use native.Mathlib.Omega.{arith}
use lib.ListN.{length}
use Rattle.residue.specs.Prime.{Prime}
use Rattle.residue.specs.Modular.{product}
use Rattle.residue.proofs.Remainder.{add-both, mod-mul}
use Rattle.residue.proofs.Inverses.{zero-product}
use Rattle.monomial.specs.TotalOrder.{TotalOrder}
use Rattle.polynomial.specs.Terms.{Term, term, All, Reduced, here, Under, Falling, total, coef_at}
use Rattle.polynomial.specs.Multiple.{multiple}
use Rattle.polynomial.proofs.CoefLaws.{total-nil, total-cons}

-- coefficients from 1 to p - 1, times one of them, modulo a prime
pub multiple-reduced : {A : Type 0} (◌·◌ : A → A → A) (p c : ℕ) (m : A) → Prime p → 0 < c → c < p → (f : List (Term A)) → Reduced p f → Reduced p (multiple ◌·◌ p c m f)
multiple-reduced ◌·◌ p c m q h l [] r = tt
multiple-reduced ◌·◌ p c m q h l (t ∷ ts) r = ((pos_of_ne-zero some, mod-lt (c * t.coef) (let z : 0 < p = omega arith in z)), multiple-reduced ◌·◌ p c m q h l ts r.1)
  where
    some : c * t.coef % p ≡ 0 → ⊥
    some e =
        ⊎_elim
        (λ z. let w : c ≡ 0 = sym (mod-eq_of_lt l) ∙ z in let k : ⊥ = omega arith in k)
        (λ z. let w : t.coef ≡ 0 = sym (mod-eq_of_lt r.0.1) ∙ z in let k : ⊥ = omega (arith, r.0.0) in k)
        (zero-product p c t.coef q e)

pub length-multiple : {A : Type 0} (◌·◌ : A → A → A) (p c : ℕ) (m : A) (f : List (Term A)) → length (multiple ◌·◌ p c m f) ≡ length f
length-multiple ◌·◌ p c m [] = refl
length-multiple ◌·◌ p c m (t ∷ ts) = ap suc (length-multiple ◌·◌ p c m ts)

pub here-product : (p c k : ℕ) (o : Ordering) → here o (c * k % p) % p ≡ c * here o k % p
here-product p c k Prim.Native.Nat.Ordering.lt = ap (λ (n : ℕ). n % p) (sym (mul-zero c))
here-product p c k Prim.Native.Nat.Ordering.eq = mod-mod (c * k) p
here-product p c k Prim.Native.Nat.Ordering.gt = ap (λ (n : ℕ). n % p) (sym (mul-zero c))

-- `Fits a` is what is asked of a monomial a, so that multiplying by m keeps the order
module _ {A : Type 0} (cmp : A → A → Ordering) (◌·◌ : A → A → A) (p c : ℕ) (m : A) (Fits : A → Type 0) (keeps : (a b : A) → Fits a → Fits b → cmp (◌·◌ m a) (◌·◌ m b) ≡ cmp a b) where
  abbrev AllFit : List (Term A) → Type 0
  AllFit f = All (λ t. Fits t.mono) f

  -- what is under a is, times m, under m·a
  pub multiple-under : (a : A) → Fits a → (f : List (Term A)) → All (λ t. Fits t.mono) f → Under cmp a f → Under cmp (◌·◌ m a) (multiple ◌·◌ p c m f)
  multiple-under a h [] l u = tt
  multiple-under a h (t ∷ ts) l u = (keeps a t.mono h l.0 ∙ u.0, multiple-under a h ts l.1 u.1)

  pub multiple-falling : (f : List (Term A)) → All (λ t. Fits t.mono) f → Falling cmp f → Falling cmp (multiple ◌·◌ p c m f)
  multiple-falling [] l u = tt
  multiple-falling (t ∷ ts) l u = (multiple-under t.mono l.0 ts l.1 u.0, multiple-falling ts l.1 u.1)

  total-multiple : (a : A) → Fits a → (f : List (Term A)) → AllFit f → total cmp (◌·◌ m a) (multiple ◌·◌ p c m f) % p ≡ c * total cmp a f % p
  total-multiple a h [] l = ap (λ (n : ℕ). n % p) (total-nil cmp (◌·◌ m a) ∙ (sym (mul-zero c) ∙ ap (λ (n : ℕ). c * n) (sym (total-nil cmp a))))
  total-multiple a h (t ∷ ts) l =
      let o : Ordering = cmp t.mono a in
      ap (λ (n : ℕ). n % p) (total-cons cmp (◌·◌ m a) (term (◌·◌ m t.mono) (c * t.coef % p)) (multiple ◌·◌ p c m ts) ∙ ap (λ (q : Ordering). here q (c * t.coef % p) + total cmp (◌·◌ m a) (multiple ◌·◌ p c m ts)) (keeps t.mono a l.0 h))
      ∙ (add-both p (here o (c * t.coef % p)) (c * here o t.coef) (total cmp (◌·◌ m a) (multiple ◌·◌ p c m ts)) (c * total cmp a ts) (here-product p c t.coef o) (total-multiple a h ts l.1)
      ∙ ap (λ (n : ℕ). n % p) (sym (mul-add c (here o t.coef) (total cmp a ts)) ∙ ap (λ (n : ℕ). c * n) (sym (total-cons cmp a t ts))))

  -- the coefficient of m·a in the multiple is c times that of a
  pub multiple-coef : (a : A) → Fits a → (f : List (Term A)) → All (λ t. Fits t.mono) f → coef_at cmp p (◌·◌ m a) (multiple ◌·◌ p c m f) ≡ product p c (coef_at cmp p a f)
  multiple-coef a h f l = total-multiple a h f l ∙ sym (ap (λ (n : ℕ). n % p) (mul_comm c (total cmp a f % p)) ∙ (mod-mul p (total cmp a f) c ∙ ap (λ (n : ℕ). n % p) (mul_comm (total cmp a f) c)))

  -- a monomial that is no multiple of m has no coefficient
  pub multiple-none : TotalOrder A cmp → (b : A) → ((a : A) → Fits a → ◌·◌ m a ≡ b → ⊥) → (f : List (Term A)) → All (λ t. Fits t.mono) f → coef_at cmp p b (multiple ◌·◌ p c m f) ≡ 0
  multiple-none O b n f l = ap (λ (k : ℕ). k % p) (none f l) ∙ zero-mod p
    where
      away : (o : Ordering) (k : ℕ) → (o ≡ Prim.Native.Nat.Ordering.eq → ⊥) → here o k ≡ 0
      away Prim.Native.Nat.Ordering.lt k h = refl
      away Prim.Native.Nat.Ordering.eq k h = absurd (h refl)
      away Prim.Native.Nat.Ordering.gt k h = refl

      none : (g : List (Term A)) → All (λ t. Fits t.mono) g → total cmp b (multiple ◌·◌ p c m g) ≡ 0
      none [] u = total-nil cmp b
      none (t ∷ ts) u =
          let e = away (cmp (◌·◌ m t.mono) b) (c * t.coef % p) (λ q. n t.mono u.0 (O.same (◌·◌ m t.mono) b q)) in
          omega (arith, total-cons cmp b (term (◌·◌ m t.mono) (c * t.coef % p)) (multiple ◌·◌ p c m ts), none ts u.1)
