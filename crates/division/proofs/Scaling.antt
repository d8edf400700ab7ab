-- A polynomial times a number: its coefficients, and its canonical list. Assumes nothing.
use mathlib.Core.Path.{◌≡◌, refl, sym, ap, ◌∙◌}
use mathlib.Core.List.{List, [], ◌∷◌}
use Prim.Native.Nat.{ℕ, ◌+◌, ◌*◌, ◌%◌, ◌<◌, Ordering}
use native.Mathlib.Nat.{mod-mod, zero-mod, mul-add, mul-zero, mul_comm, mul_assoc}
use native.Mathlib.Omega.{arith}
use Rattle.residue.specs.Prime.{Prime}
use Rattle.residue.specs.Modular.{negative, product}
use Rattle.residue.proofs.Remainder.{mul-same, add-both, cancel}
use Rattle.residue.proofs.Modular.{add-negative}
use Rattle.polynomial.specs.Terms.{Term, term, All, here, total, Canonical}
use Rattle.polynomial.specs.Multiple.{multiple}
use Rattle.polynomial.proofs.CoefLaws.{total-nil, total-cons}
use Rattle.polynomial.proofs.MultipleLaws.{here-product, multiple-reduced, multiple-falling}
use Rattle.division.specs.InExponents.{renamed}
use Rattle.division.specs.Edits.{scaled}

-- ---- numbers modulo p
module _ (p : ℕ) where
  pub plain : {x y : ℕ} → x ≡ y → x % p ≡ y % p
  plain e = ap (λ (n : ℕ). n % p) e

  pub mul_left : (c x y : ℕ) → x % p ≡ y % p → c * x % p ≡ c * y % p
  mul_left c x y h = plain (mul_comm c x) ∙ (mul-same p x y c h ∙ plain (mul_comm y c))

  -- −c, and c times −1
  negative-scales : 0 < p → (c : ℕ) → negative p c % p ≡ c * negative p 1 % p
  negative-scales pos c =
      cancel p pos (negative p c) (c * negative p 1) c
      (plain (let e : negative p c + c ≡ c + negative p c = omega arith in e)
      ∙ (add-negative p pos c
      ∙ sym (plain (let e : c * negative p 1 + c ≡ c * (1 + negative p 1) = omega (arith, mul-add c 1 (negative p 1)) in e) ∙ (mul_left c (1 + negative p 1) 0 (add-negative p pos 1 ∙ sym (zero-mod p)) ∙ (plain (mul-zero c) ∙ zero-mod p)))))

  -- "−c divided by its lead coefficient" is c times that of 1
  pub factor-scales : 0 < p → (c i : ℕ) → product p (negative p c) i % p ≡ c * product p (negative p 1) i % p
  factor-scales pos c i =
      mod-mod (negative p c * i) p
      ∙ (mul-same p (negative p c) (c * negative p 1) i (negative-scales pos c)
      ∙ (plain (mul_assoc c (negative p 1) i) ∙ mul_left c (negative p 1 * i) (negative p 1 * i % p) (sym (mod-mod (negative p 1 * i) p))))

module _ {A : Type 0} (cmp : A → A → Ordering) (p : ℕ) where
  -- the coefficients of a multiple
  pub total-multiple : (◌·◌ : A → A → A) (m q : A) (a : ℕ) (f : List (Term A)) → total cmp m (multiple ◌·◌ p a q f) % p ≡ a * total cmp m (renamed (◌·◌ q) f) % p
  total-multiple ◌·◌ m q a [] = plain p (let e : total cmp m [] ≡ a * total cmp m [] = total-nil cmp m ∙ (sym (mul-zero a) ∙ ap (λ (n : ℕ). a * n) (sym (total-nil cmp m))) in e)
  total-multiple ◌·◌ m q a (t ∷ ts) =
      let o = cmp (◌·◌ q t.mono) m in
      let T = total cmp m (renamed (◌·◌ q) ts) in
      plain p (total-cons cmp m (term (◌·◌ q t.mono) (a * t.coef % p)) (multiple ◌·◌ p a q ts))
      ∙ (add-both p (here o (a * t.coef % p)) (a * here o t.coef) (total cmp m (multiple ◌·◌ p a q ts)) (a * T) (here-product p a t.coef o) (total-multiple ◌·◌ m q a ts)
      ∙ plain p (sym (mul-add a (here o t.coef) T) ∙ ap (λ (n : ℕ). a * n) (sym (total-cons cmp m (term (◌·◌ q t.mono) t.coef) (renamed (◌·◌ q) ts)))))

  -- a multiple by a number that is k times another
  pub total-times : (◌·◌ : A → A → A) (m q : A) (a k b : ℕ) → a % p ≡ k * b % p → (f : List (Term A)) → total cmp m (multiple ◌·◌ p a q f) % p ≡ k * total cmp m (multiple ◌·◌ p b q f) % p
  total-times ◌·◌ m q a k b h f =
      let T = total cmp m (renamed (◌·◌ q) f) in
      total-multiple ◌·◌ m q a f ∙ (mul-same p a (k * b) T h ∙ (plain p (mul_assoc k b T) ∙ mul_left p k (b * T) (total cmp m (multiple ◌·◌ p b q f)) (sym (total-multiple ◌·◌ m q b f))))

  -- ---- c times a polynomial
  as-it-is : (f : List (Term A)) → renamed (λ (x : A). x) f ≡ f
  as-it-is [] = refl
  as-it-is (t ∷ ts) = ap (λ (l : List (Term A)). t ∷ l) (as-it-is ts)

  pub total-scaled : (m : A) (c : ℕ) (f : List (Term A)) → total cmp m (scaled p c f) % p ≡ c * total cmp m f % p
  total-scaled m c f = total-multiple (λ q x. x) m m c f ∙ ap (λ (g : List (Term A)). c * total cmp m g % p) (as-it-is f)

  all_any : (f : List (Term A)) → All (λ t. Unit {0}) f
  all_any [] = tt
  all_any (t ∷ ts) = (tt, all_any ts)

  pub scaled-canonical : Prime p → (c : ℕ) → 0 < c → c < p → (f : List (Term A)) → Canonical cmp p f → Canonical cmp p (scaled p c f)
  scaled-canonical prime c pos small [] h = record { falling = tt; reduced = tt }
  scaled-canonical prime c pos small (t ∷ ts) h = record {
    falling = multiple-falling cmp (λ q x. x) p c t.mono (λ a. Unit {0}) (λ a b i j. refl) (t ∷ ts) (all_any (t ∷ ts)) h.falling;
    reduced = multiple-reduced (λ q x. x) p c t.mono prime pos small (t ∷ ts) h.reduced;
  }

  pub all-scaled : (P : A → Type 0) (c : ℕ) (f : List (Term A)) → All (λ t. P t.mono) f → All (λ t. P t.mono) (scaled p c f)
  all-scaled P c [] h = tt
  all-scaled P c (t ∷ ts) h = (h.0, all-scaled P c ts h.1)
