-- Steps of a division against a division to its end: where some steps lead from g to h, each division of g does these first, and then divides h. Assumes nothing.
use mathlib.Core.Path.{◌≡◌, refl, ap, ◌∙◌, subst}
use mathlib.Core.List.{List, [], ◌∷◌, ◌++◌}
use Prim.Native.Nat.{ℕ, zero, suc, ◌+◌, ◌<◌, Ordering}
use native.Mathlib.Omega.{arith}
use Rattle.monomial.specs.TotalOrder.{TotalOrder}
use Rattle.polynomial.specs.Terms.{Term}
use Rattle.division.specs.Choice.{Fit, unfit, fits}
use Rattle.division.specs.Division.{tail_multiple, StepBy, SumOf, Division}
use Rattle.division.proofs.DivisionLaws.{not-empty, sum-unique}

module _ {A : Type 0} (cmp : A → A → Ordering) (O : TotalOrder A cmp) (choose : A → Fit A) (quotient ◌·◌ : A → A → A) (p : ℕ) (pos : 0 < p) (h : List (Term A)) where
  -- of a division in k steps to s, what is left after the first n steps, which come to h with the remainder r so far
  pub record Rest (n : ℕ) (r : List (Term A)) (k : ℕ) (s : List (Term A)) : Type 0 where
    pub steps : ℕ
    pub terms : List (Term A)
    pub divided : Division cmp choose quotient ◌·◌ p steps h terms
    pub steps-are : k ≡ n + steps
    pub terms-are : s ≡ r ++ terms

  -- each division of g does n steps to h, with the remainder r so far
  abbrev pub Begins : (n : ℕ) → (g r : List (Term A)) → Type 0
  Begins n g r = (k : ℕ) (s : List (Term A)) → Division cmp choose quotient ◌·◌ p k g s → Rest n r k s

  pub begins-none : Begins 0 h []
  begins-none k s d = record { steps = k; terms = s; divided = d; steps-are = omega arith; terms-are = refl }

  pub begins-kept : (n : ℕ) (t : Term A) (ts r : List (Term A)) → choose t.mono ≡ unfit → Begins n ts r → Begins (suc n) (t ∷ ts) (t ∷ r)
  unfolding Division
  begins-kept n t ts r e rest zero s d = absurd (not-empty t ts d.0)
  begins-kept n t ts r e rest (suc k) s d =
      let (u, a, b) = subst (λ (x : Fit A). StepBy cmp quotient ◌·◌ p (λ f v. Division cmp choose quotient ◌·◌ p k f v) x t ts s) e d in
      let c = rest k u b in
      record { steps = c.steps; terms = c.terms; divided = c.divided; steps-are = omega (arith, c.steps-are); terms-are = a ∙ ap (λ (l : List (Term A)). t ∷ l) c.terms-are }

  pub begins-divided : (n : ℕ) (t : Term A) (ts r : List (Term A)) (j : ℕ) (g : Term A) (tail i : List (Term A)) → choose t.mono ≡ fits j g tail → SumOf cmp p ts (tail_multiple quotient ◌·◌ p t g tail) i → Begins n i r → Begins (suc n) (t ∷ ts) r
  unfolding Division
  begins-divided n t ts r j g tail i e sum rest zero s d = absurd (not-empty t ts d.0)
  begins-divided n t ts r j g tail i e sum rest (suc k) s d =
      let (v, a, b) = subst (λ (x : Fit A). StepBy cmp quotient ◌·◌ p (λ f u. Division cmp choose quotient ◌·◌ p k f u) x t ts s) e d in
      let c = rest k s (subst (λ (x : List (Term A)). Division cmp choose quotient ◌·◌ p k x s) (sum-unique cmp O p pos a sum) b) in
      record { steps = c.steps; terms = c.terms; divided = c.divided; steps-are = omega (arith, c.steps-are); terms-are = c.terms-are }
