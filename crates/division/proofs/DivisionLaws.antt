-- The division algorithm has at most one result, and removes its leads in one way. Assumes nothing.
use mathlib.Core.Path.{◌≡◌, refl, sym, ap, ◌∙◌, subst}
use mathlib.Core.List.{List, [], ◌∷◌}
use Prim.Native.Nat.{ℕ, zero, suc, ◌<◌, Ordering}
use lib.ListN.{length}
use native.Mathlib.Omega.{arith}
use Rattle.monomial.specs.TotalOrder.{TotalOrder}
use Rattle.polynomial.specs.Terms.{Term, Canonical}
use Rattle.polynomial.specs.Merge.{merge}
use Rattle.polynomial.proofs.MergeLaws.{merge-canonical}
use Rattle.polynomial.proofs.CoefLaws.{total-merge, canonical-unique}
use Rattle.division.specs.Choice.{Fit, unfit, fits}
use Rattle.division.specs.Division.{StepBy, SumOf, Division}
use Rattle.division.specs.Combination.{AfterBy, LeadsOf}

pub not-empty : {A : Type 0} (t : Term A) (ts : List (Term A)) → ◌≡◌ {A = List (Term A)} (t ∷ ts) [] → ⊥
not-empty t ts e = let z : suc (length ts) ≡ 0 = ap length e in omega (arith, z)

module _ {A : Type 0} (cmp : A → A → Ordering) (O : TotalOrder A cmp) (p : ℕ) (pos : 0 < p) where
  -- a sum has one canonical list
  pub sum-unique : {f g h k : List (Term A)} → SumOf cmp p f g h → SumOf cmp p f g k → h ≡ k
  sum-unique {h = h} {k = k} a b = canonical-unique cmp O p pos h k a.canonical b.canonical (λ m. a.coefficients m ∙ sym (b.coefficients m))

  -- the sum of canonical lists is their merge
  pub sum-merge : (f g h : List (Term A)) → Canonical cmp p f → Canonical cmp p g → SumOf cmp p f g h → h ≡ merge cmp p f g
  sum-merge f g h a b s = canonical-unique cmp O p pos h (merge cmp p f g) s.canonical (merge-canonical cmp O p pos f g a b) (λ m. s.coefficients m ∙ sym (total-merge cmp O p m f g))

module _ {A : Type 0} (cmp : A → A → Ordering) (O : TotalOrder A cmp) (choose : A → Fit A) (quotient ◌·◌ : A → A → A) (p : ℕ) (pos : 0 < p) where
  -- the steps and the remainder are determined by the polynomial and the choice of divisors
  pub division-unique : (n k : ℕ) (f r s : List (Term A)) → Division cmp choose quotient ◌·◌ p n f r → Division cmp choose quotient ◌·◌ p k f s → (n ≡ k) × (r ≡ s)
  unfolding Division
  division-unique zero zero f r s d e = (refl, d.1 ∙ sym e.1)
  division-unique zero (suc k) [] r s d e = absurd e
  division-unique zero (suc k) (t ∷ ts) r s d e = absurd (not-empty t ts d.0)
  division-unique (suc n) zero [] r s d e = absurd d
  division-unique (suc n) zero (t ∷ ts) r s d e = absurd (not-empty t ts e.0)
  division-unique (suc n) (suc k) [] r s d e = absurd d
  division-unique (suc n) (suc k) (t ∷ ts) r s d e = step (choose t.mono) (λ f u v a b. division-unique n k f u v a b) d e
    where
      step : (x : Fit A) → ((f u v : List (Term A)) → Division cmp choose quotient ◌·◌ p n f u → Division cmp choose quotient ◌·◌ p k f v → (n ≡ k) × (u ≡ v)) → StepBy cmp quotient ◌·◌ p (λ f s. Division cmp choose quotient ◌·◌ p n f s) x t ts r → StepBy cmp quotient ◌·◌ p (λ f s. Division cmp choose quotient ◌·◌ p k f s) x t ts s → (suc n ≡ suc k) × (r ≡ s)
      step unfit rest (u, a, d) (v, b, e) =
          let q = rest ts u v d e in
          (ap suc q.0, a ∙ (ap (λ (x : List (Term A)). t ∷ x) q.1 ∙ sym b))
      step (fits j g tail) rest (h, a, d) (i, b, e) =
          let q = rest h r s d (subst (λ (x : List (Term A)). Division cmp choose quotient ◌·◌ p k x s) (sum-unique cmp O p pos b a) e) in
          (ap suc q.0, q.1)

  pub leads-unique : (n : ℕ) (f ls ks : List (Term A)) → LeadsOf cmp choose quotient ◌·◌ p n f ls → LeadsOf cmp choose quotient ◌·◌ p n f ks → ls ≡ ks
  unfolding LeadsOf
  leads-unique zero f ls ks d e = d ∙ sym e
  leads-unique (suc n) [] ls ks d e = absurd d
  leads-unique (suc n) (t ∷ ts) ls ks (us, a, d) (vs, b, e) = a ∙ (ap (λ (x : List (Term A)). t ∷ x) (after (choose t.mono) (λ f x y. leads-unique n f us vs x y) d e) ∙ sym b)
    where
      after : (x : Fit A) → ((f : List (Term A)) → LeadsOf cmp choose quotient ◌·◌ p n f us → LeadsOf cmp choose quotient ◌·◌ p n f vs → us ≡ vs) → AfterBy cmp quotient ◌·◌ p (λ f. LeadsOf cmp choose quotient ◌·◌ p n f us) x t ts → AfterBy cmp quotient ◌·◌ p (λ f. LeadsOf cmp choose quotient ◌·◌ p n f vs) x t ts → us ≡ vs
      after unfit rest d e = rest ts d e
      after (fits j g tail) rest (h, a, d) (i, b, e) = rest h d (subst (λ (x : List (Term A)). LeadsOf cmp choose quotient ◌·◌ p n x vs) (sum-unique cmp O p pos b a) e)
