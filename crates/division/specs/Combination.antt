-- What a division means, apart from how it is done: the polynomial is the remainder and a sum of multiples of divisors, and the leads that it removes, one by one. `Is` says which monomials are meant. Assumes nothing.
use Prim.Native.Nat.{ℕ, zero, suc, Ordering}
use Rattle.std.specs.Prelude.{◌≡◌, List, [], ◌∷◌, ◌++◌}
use Rattle.polynomial.specs.Terms.{Term, Same}
use Rattle.polynomial.specs.Multiple.{multiple}
use Rattle.division.specs.Choice.{Fit, unfit, fits}
use Rattle.division.specs.Division.{tail_multiple, SumOf}
use Rattle.division.specs.Divisors.{Among}

-- the polynomial `of` times the term `by`
pub record Multiplier (A : Type 0) : Type 0 where
  pub by : Term A
  pub of : List (Term A)

-- each is a multiple of one of the divisors, by a monomial that is meant
unfoldable pub AllByDivisors : {A : Type 0} → (Is : A → Type 0) → List (List (Term A)) → List (Multiplier A) → Type 0
AllByDivisors Is gs [] = Unit {0}
AllByDivisors Is gs (m ∷ ms) = (Is m.by.mono × Among m.of gs) × AllByDivisors Is gs ms

-- the terms of all multiples
unfoldable pub combined : {A : Type 0} → (◌·◌ : A → A → A) → (p : ℕ) → List (Multiplier A) → List (Term A)
combined ◌·◌ p [] = []
combined ◌·◌ p (m ∷ ms) = multiple ◌·◌ p m.by.coef m.by.mono m.of ++ combined ◌·◌ p ms

-- f is r and a sum of multiples of the divisors gs, as polynomials modulo p
pub record Combination {A : Type 0} (cmp : A → A → Ordering) (◌·◌ : A → A → A) (Is : A → Type 0) (p : ℕ) (gs : List (List (Term A))) (f r : List (Term A)) : Type 0 where
  pub multipliers : List (Multiplier A)
  pub by-divisors : AllByDivisors Is gs multipliers
  pub same : Same cmp p f (r ++ combined ◌·◌ p multipliers)

module _ {A : Type 0} (cmp : A → A → Ordering) (quotient ◌·◌ : A → A → A) (p : ℕ) where
  -- what comes after the lead t is removed, as in `StepBy`
  abbrev pub AfterBy : (Rest : (f : List (Term A)) → Type 0) → Fit A → Term A → (ts : List (Term A)) → Type 0
  AfterBy Rest unfit t ts = Rest ts
  AfterBy Rest (fits k g tail) t ts = (h : List (Term A)) × SumOf cmp p ts (tail_multiple quotient ◌·◌ p t g tail) h × Rest h

module _ {A : Type 0} (cmp : A → A → Ordering) (choose : A → Fit A) (quotient ◌·◌ : A → A → A) (p : ℕ) where
  -- the first n steps of dividing f remove the leads ls, in this order
  unfoldable pub LeadsOf : (n : ℕ) → (f ls : List (Term A)) → Type 0
  LeadsOf zero f ls = ls ≡ []
  LeadsOf (suc n) [] ls = ⊥
  LeadsOf (suc n) (t ∷ ts) ls = (ks : List (Term A)) × (ls ≡ t ∷ ks) × AfterBy cmp quotient ◌·◌ p (λ f. LeadsOf n f ks) (choose t.mono) t ts
