-- The multiple of a divisor's tail that a step adds: it is canonical, of monomials that are meant, and all below the lead. Assumes nothing.
use mathlib.Core.Path.{◌≡◌, refl, sym, ◌∙◌, subst}
use mathlib.Core.Bool.{Bool, true, false, ◌||◌}
use mathlib.Core.List.{List, [], ◌∷◌}
use mathlib.Core.Logic.{⊎_elim}
use Prim.Native.Nat.{ℕ, ◌-◌, ◌*◌, ◌%◌, ◌<◌, Ordering}
use native.Mathlib.Nat.{mod-lt, mod-eq_of_lt, pos_of_ne-zero}
use native.Mathlib.Omega.{arith}
use Rattle.residue.specs.Prime.{Prime}
use Rattle.residue.specs.Modular.{product, negative, inverse_of}
use Rattle.residue.proofs.Modular.{negative-rest}
use Rattle.residue.proofs.Inverses.{inverse-below, inverse-positive, zero-product}
use Rattle.polynomial.specs.Terms.{Term, All, Under, Canonical}
use Rattle.polynomial.specs.Multiple.{multiple}
use Rattle.polynomial.proofs.MultipleLaws.{multiple-reduced, multiple-falling, multiple-under}
use Rattle.division.specs.Choice.{Fit, fits}
use Rattle.division.specs.Division.{tail_multiple, SumOf}
use Rattle.division.specs.Steps.{any_too_large}
use Rattle.division.specs.Operations.{Operations}
use Rattle.division.specs.Divisors.{Valid}

-- ---- "−c divided by its lead coefficient" is from 1 to p - 1
pub multiplier-good : (p c d : ℕ) → Prime p → 0 < c → c < p → 0 < d → d < p → (0 < product p (negative p c) (inverse_of p d)) × (product p (negative p c) (inverse_of p d) < p)
multiplier-good p c d prime hc lc hd ld = (pos_of_ne-zero some, mod-lt (negative p c * inverse_of p d) (omega (arith, prime.above)))
  where
    some : product p (negative p c) (inverse_of p d) ≡ 0 → ⊥
    some e =
        ⊎_elim
        (λ z. let w : p - c ≡ 0 = negative-rest p c hc lc ∙ (sym (mod-eq_of_lt (mod-lt (p - c % p) (omega arith))) ∙ z) in let k : ⊥ = omega arith in k)
        (λ z. let w : inverse_of p d ≡ 0 = sym (mod-eq_of_lt (inverse-below p d prime hd ld)) ∙ z in let k : ⊥ = omega (arith, inverse-positive p d prime hd ld) in k)
        (zero-product p (negative p c) (inverse_of p d) prime e)

or-none : (a b : Bool) → (a || b) ≡ false → (a ≡ false) × (b ≡ false)
or-none false b h = (refl, h)
or-none true b h = absurd (let z : ◌≡◌ {A = ℕ} 0 1 = cc in let q : ⊥ = omega arith in q)

-- no product is too large: as the test has it, and term by term
pub none-too-large : {A : Type 0} (too_large : A → A → Bool) (q : A) (f : List (Term A)) → any_too_large too_large q f ≡ false → All (λ t. too_large q t.mono ≡ false) f
unfolding any_too_large
none-too-large too_large q [] h = tt
none-too-large too_large q (t ∷ ts) h = let e = or-none (too_large q t.mono) (any_too_large too_large q ts) h in (e.0, none-too-large too_large q ts e.1)

-- what holds of each term in two ways
pub all-zip : {A : Type 0} {P Q R : Term A → Type 0} → ((t : Term A) → P t → Q t → R t) → (ts : List (Term A)) → All P ts → All Q ts → All R ts
all-zip f [] a b = tt
all-zip f (t ∷ ts) a b = (f t a.0 b.0, all-zip f ts a.1 b.1)

module _ {A : Type 0} (cmp : A → A → Ordering) (p : ℕ) (Is : A → Type 0) where
  -- what a step adds once it has removed the lead t
  pub record Added (t : Term A) (h : List (Term A)) : Type 0 where
    pub canonical : Canonical cmp p h
    pub are : All (λ u. Is u.mono) h
    pub under : Under cmp t.mono h

module _ {A : Type 0} (cmp : A → A → Ordering) (divides : A → A → Bool) (quotient ◌·◌ : A → A → A) (too_large : A → A → Bool) (Is : A → Type 0) (ops : Operations A cmp divides quotient ◌·◌ too_large Is) (p : ℕ) (prime : Prime p) where
  pub tail-added : (t g : Term A) (tail : List (Term A)) → Is t.mono → 0 < t.coef → t.coef < p → Valid cmp p Is (g ∷ tail) → divides g.mono t.mono ≡ true → any_too_large too_large (quotient t.mono g.mono) tail ≡ false
      → Added cmp p Is t (tail_multiple quotient ◌·◌ p t g tail)
  tail-added t g tail is pos small d fit none = record {
    canonical = record {
      falling = multiple-falling cmp ◌·◌ p c q Fits keeps tail all_fit d.canonical.falling.1;
      reduced = multiple-reduced ◌·◌ p c q prime good.0 good.1 tail d.canonical.reduced.1;
    };
    are = products tail all_fit;
    under = subst (λ (m : A). Under cmp m (multiple ◌·◌ p c q tail)) (ops.back t.mono g.mono is d.are.0 fit) (multiple-under cmp ◌·◌ p c q Fits keeps g.mono (d.are.0, ops.back_fits t.mono g.mono is d.are.0 fit) tail all_fit d.canonical.falling.0);
  }
    where
      q : A
      q = quotient t.mono g.mono

      c : ℕ
      c = product p (negative p t.coef) (inverse_of p g.coef)

      good : (0 < c) × (c < p)
      good = multiplier-good p t.coef g.coef prime pos small d.canonical.reduced.0.0 d.canonical.reduced.0.1

      q-is : Is q
      q-is = ops.quotient_is t.mono g.mono is d.are.0 fit

      Fits : A → Type 0
      Fits a = Is a × (too_large q a ≡ false)

      keeps : (a b : A) → Fits a → Fits b → cmp (◌·◌ q a) (◌·◌ q b) ≡ cmp a b
      keeps a b h k = ops.keeps q a b q-is h.0 k.0 h.1 k.1

      all_fit : All (λ u. Fits u.mono) tail
      all_fit = all-zip {P = λ u. Is u.mono} {Q = λ u. too_large q u.mono ≡ false} {R = λ u. Fits u.mono} (λ u h k. (h, k)) tail d.are.1 (none-too-large too_large q tail none)

      products : (f : List (Term A)) → All (λ u. Fits u.mono) f → All (λ u. Is u.mono) (multiple ◌·◌ p c q f)
      products [] u = tt
      products (x ∷ xs) u = (ops.product_is q x.mono q-is u.0.0 u.0.1, products xs u.1)

-- A step that finds the lead t, with ts after it, and adds a multiple of a divisor's tail to these, which gives h.
pub record DividedStep {A : Type 0} (cmp : A → A → Ordering) (choose : A → Fit A) (quotient ◌·◌ : A → A → A) (too_large : A → A → Bool) (Is : A → Type 0) (p : ℕ) (t : Term A) (ts : List (Term A)) (g : Term A) (tail h : List (Term A)) : Type 0 where
  pub is : Is t.mono
  pub not-zero : 0 < t.coef
  pub small : t.coef < p
  pub rest : Valid cmp p Is ts
  pub number : ℕ
  pub fit : choose t.mono ≡ fits number g tail
  pub none-large : any_too_large too_large (quotient t.mono g.mono) tail ≡ false
  pub sum : SumOf cmp p ts (tail_multiple quotient ◌·◌ p t g tail) h
