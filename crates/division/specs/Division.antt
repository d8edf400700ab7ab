-- The division algorithm on polynomials, apart from buckets (document 01, "Reductions"), over any type of monomials with a comparison, quotient and product, and any choice of a divisor. Assumes nothing.
use Prim.Native.Nat.{ℕ, zero, suc, ◌+◌, ◌%◌, Ordering}
use Rattle.std.specs.Prelude.{◌≡◌, List, [], ◌∷◌}
use Rattle.residue.specs.Modular.{product, negative, inverse_of}
use Rattle.polynomial.specs.Terms.{Term, total, coef_at, Canonical}
use Rattle.polynomial.specs.Multiple.{multiple}
use Rattle.division.specs.Choice.{Fit, unfit, fits}

module _ {A : Type 0} (quotient ◌·◌ : A → A → A) (p : ℕ) where
  -- the lead c·α, and a divisor's lead and tail: "its tail times −c divided by its lead coefficient, and times the quotient monomial"
  abbrev pub tail_multiple : Term A → Term A → List (Term A) → List (Term A)
  tail_multiple t g tail = multiple ◌·◌ p (product p (negative p t.coef) (inverse_of p g.coef)) (quotient t.mono g.mono) tail

-- h is the canonical list of f + g
pub record SumOf {A : Type 0} (cmp : A → A → Ordering) (p : ℕ) (f g h : List (Term A)) : Type 0 where
  pub canonical : Canonical cmp p h
  pub coefficients : (m : A) → coef_at cmp p m h ≡ (total cmp m f + total cmp m g) % p

module _ {A : Type 0} (cmp : A → A → Ordering) (quotient ◌·◌ : A → A → A) (p : ℕ) where
  -- A step removes the lead t: where a divisor fits, the multiple of its tail is added to what is left, and else the lead goes to the remainder. `Rest` is what comes after the step.
  abbrev pub StepBy : (Rest : (f r : List (Term A)) → Type 0) → Fit A → Term A → (ts r : List (Term A)) → Type 0
  StepBy Rest unfit t ts r = (s : List (Term A)) × (r ≡ t ∷ s) × Rest ts s
  StepBy Rest (fits k g tail) t ts r = (h : List (Term A)) × SumOf cmp p ts (tail_multiple quotient ◌·◌ p t g tail) h × Rest h r

module _ {A : Type 0} (cmp : A → A → Ordering) (choose : A → Fit A) (quotient ◌·◌ : A → A → A) (p : ℕ) where
  -- dividing f takes n steps, and leaves the remainder r
  unfoldable pub Division : (n : ℕ) → (f r : List (Term A)) → Type 0
  Division zero f r = (f ≡ []) × (r ≡ [])
  Division (suc n) [] r = ⊥
  Division (suc n) (t ∷ ts) r = StepBy cmp quotient ◌·◌ p (λ f s. Division n f s) (choose t.mono) t ts r
