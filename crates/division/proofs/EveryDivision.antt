-- Every division ends, whichever divisor is taken for a lead monomial, where the falling chains of monomials do. Assumes nothing.
use mathlib.Core.Path.{◌≡◌, refl, subst}
use mathlib.Core.Bool.{Bool, false}
use mathlib.Core.List.{List, [], ◌∷◌}
use Prim.Native.Nat.{ℕ, suc, ◌<◌, Ordering}
use native.Mathlib.Omega.{arith}
use Rattle.residue.specs.Prime.{Prime}
use Rattle.monomial.specs.TotalOrder.{TotalOrder}
use Rattle.polynomial.specs.Terms.{Term, Under}
use Rattle.polynomial.specs.Merge.{merge}
use Rattle.polynomial.proofs.MergeLaws.{merge-canonical}
use Rattle.polynomial.proofs.CoefLaws.{total-merge}
use Rattle.division.specs.Choice.{Fit, unfit, fits, Choice}
use Rattle.division.specs.Division.{tail_multiple, SumOf, Division}
use Rattle.division.specs.Operations.{Operations}
use Rattle.division.specs.Divisors.{Valid, AllOf}
use Rattle.division.proofs.AnyDivision.{division-none, division-kept, division-divided, valid-tail, tail-adds, next-valid, next_under}
use Rattle.division.specs.Chains.{Ends, ends}

module _ {A : Type 0} (cmp : A → A → Ordering) (choose : A → Fit A) (quotient ◌·◌ : A → A → A) (p : ℕ) (divides : A → A → Bool) (gs : List (List (Term A))) (choice : Choice divides gs choose) (O : TotalOrder A cmp) (Is : A → Type 0) (ops : Operations A cmp divides quotient ◌·◌ (λ a b. false) Is) (prime : Prime p) (divisors : AllOf (Valid cmp p Is) gs) where
  -- f has a remainder
  abbrev pub Divides : List (Term A) → Type 0
  Divides f = (k : ℕ) × (r : List (Term A)) × Division cmp choose quotient ◌·◌ p k f r

  pos : 0 < p
  pos = omega (arith, prime.above)

  -- what is below α has one, where each polynomial with a lead below α has one
  abbrev From : A → Type 0
  From α = (t : Term A) (ts : List (Term A)) → t.mono ≡ α → Valid cmp p Is (t ∷ ts) → Divides (t ∷ ts)

  below : (α : A) → ((β : A) → Is β → cmp α β ≡ Ordering.gt → From β) → (h : List (Term A)) → Valid cmp p Is h → Under cmp α h → Divides h
  below α rest [] v u = (0, [], division-none cmp choose quotient ◌·◌ p)
  below α rest (t ∷ ts) v u = rest t.mono v.are.0 u.0 t ts refl v

  -- so a polynomial with the lead α has one: a step goes below it
  step : (α : A) → ((β : A) → Is β → cmp α β ≡ Ordering.gt → From β) → From α
  step α rest t ts e v = by (choose t.mono) refl
    where
      lower : (h : List (Term A)) → Valid cmp p Is h → Under cmp t.mono h → Divides h
      lower h w u = below α rest h w (subst (λ (x : A). Under cmp x h) e u)

      by : (x : Fit A) → choose t.mono ≡ x → Divides (t ∷ ts)
      by unfit q =
          let (k, r, d) = lower ts (valid-tail cmp choose quotient ◌·◌ p divides gs choice O Is ops prime divisors t ts v) v.canonical.falling.0 in
          (suc k, t ∷ r, division-kept cmp choose quotient ◌·◌ p k t ts r q d)
      by (fits j g tail) q =
          let M = tail_multiple quotient ◌·◌ p t g tail in
          let h = merge cmp p ts M in
          let a = tail-adds cmp choose quotient ◌·◌ p divides gs choice O Is ops prime divisors t g tail j v.are.0 v.canonical.reduced.0.0 v.canonical.reduced.0.1 q in
          let w = valid-tail cmp choose quotient ◌·◌ p divides gs choice O Is ops prime divisors t ts v in
          let s : SumOf cmp p ts M h = record { canonical = merge-canonical cmp O p pos ts M w.canonical a.canonical; coefficients = λ m. total-merge cmp O p m ts M } in
          let (k, r, d) = lower h (next-valid cmp choose quotient ◌·◌ p divides gs choice O Is ops prime divisors t ts v j g tail h q s) (next_under cmp choose quotient ◌·◌ p divides gs choice O Is ops prime divisors t ts v j g tail h q s) in
          (suc k, r, division-divided cmp choose quotient ◌·◌ p k t ts r j g tail h q s d)

  pub division-ends : ((a : A) → Is a → Ends Is cmp a) → (f : List (Term A)) → Valid cmp p Is f → Divides f
  division-ends chains [] v = (0, [], division-none cmp choose quotient ◌·◌ p)
  division-ends chains (t ∷ ts) v = (elim (chains t.mono v.are.0) as (λ x e. From x) [ ends x (h → ih) ↦ step x ih ]) t ts refl v
