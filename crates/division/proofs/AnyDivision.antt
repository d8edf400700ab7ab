-- Theorems on every division, apart from any algorithm: the polynomial is the remainder and a sum of multiples of divisors, the remainder is canonical, no term of it is divisible, and the leads fall strictly. They ask for operations under which no product is too large. Assumes nothing.
use mathlib.Core.Path.{◌≡◌, refl, sym, subst}
use mathlib.Core.Bool.{Bool, false}
use mathlib.Core.List.{List, [], ◌∷◌}
use Prim.Native.Nat.{ℕ, zero, suc, ◌<◌, Ordering}
use native.Mathlib.Omega.{arith}
use Rattle.residue.specs.Prime.{Prime}
use Rattle.monomial.specs.TotalOrder.{TotalOrder}
use Rattle.polynomial.specs.Terms.{Term, All, Under, Falling, Canonical}
use Rattle.polynomial.specs.Merge.{merge}
use Rattle.polynomial.proofs.MergeLaws.{all_map, merge-all, merge-under, under_more}
use Rattle.polynomial.proofs.CoefLaws.{canonical-tail}
use Rattle.division.specs.Choice.{Fit, unfit, fits, Choice}
use Rattle.division.specs.Division.{tail_multiple, StepBy, SumOf, Division}
use Rattle.division.specs.Steps.{any_too_large}
use Rattle.division.specs.Operations.{Operations}
use Rattle.division.specs.Divisors.{Valid, AllOf, Undivided}
use Rattle.division.specs.Combination.{Combination, AfterBy, LeadsOf}
use Rattle.division.proofs.DivisionLaws.{sum-merge}
use Rattle.division.proofs.TailLaws.{Added, DividedStep, tail-added}
use Rattle.division.proofs.FitLaws.{choice-sound}
use Rattle.division.proofs.Combining.{combination-none, combination-kept, combination-divided}

pub none-large : {A : Type 0} (q : A) (f : List (Term A)) → any_too_large (λ a b. false) q f ≡ false
unfolding any_too_large
none-large q [] = refl
none-large q (t ∷ ts) = none-large q ts

module _ {A : Type 0} (cmp : A → A → Ordering) (choose : A → Fit A) (quotient ◌·◌ : A → A → A) (p : ℕ) where
  abbrev Div : ℕ → (f r : List (Term A)) → Type 0
  Div n f r = Division cmp choose quotient ◌·◌ p n f r

  abbrev Run : ℕ → (f ls : List (Term A)) → Type 0
  Run n f ls = LeadsOf cmp choose quotient ◌·◌ p n f ls

  -- ---- the rules of the two relations
  pub division-none : Division cmp choose quotient ◌·◌ p 0 [] []
  unfolding Division
  division-none = (refl, refl)

  pub division-kept : (n : ℕ) (t : Term A) (ts s : List (Term A)) → choose t.mono ≡ unfit → Division cmp choose quotient ◌·◌ p n ts s → Division cmp choose quotient ◌·◌ p (suc n) (t ∷ ts) (t ∷ s)
  unfolding Division
  division-kept n t ts s e d = subst (λ (x : Fit A). StepBy cmp quotient ◌·◌ p (λ f u. Div n f u) x t ts (t ∷ s)) (sym e) (s, refl, d)

  pub division-divided : (n : ℕ) (t : Term A) (ts r : List (Term A)) (j : ℕ) (g : Term A) (tail h : List (Term A)) → choose t.mono ≡ fits j g tail → SumOf cmp p ts (tail_multiple quotient ◌·◌ p t g tail) h → Division cmp choose quotient ◌·◌ p n h r → Division cmp choose quotient ◌·◌ p (suc n) (t ∷ ts) r
  unfolding Division
  division-divided n t ts r j g tail h e a d = subst (λ (x : Fit A). StepBy cmp quotient ◌·◌ p (λ f u. Div n f u) x t ts r) (sym e) (h, a, d)

  pub leads-none : (f : List (Term A)) → LeadsOf cmp choose quotient ◌·◌ p 0 f []
  unfolding LeadsOf
  leads-none f = refl

  pub leads-kept : (n : ℕ) (t : Term A) (ts ks : List (Term A)) → choose t.mono ≡ unfit → LeadsOf cmp choose quotient ◌·◌ p n ts ks → LeadsOf cmp choose quotient ◌·◌ p (suc n) (t ∷ ts) (t ∷ ks)
  unfolding LeadsOf
  leads-kept n t ts ks e d = (ks, refl, subst (λ (x : Fit A). AfterBy cmp quotient ◌·◌ p (λ f. Run n f ks) x t ts) (sym e) d)

  pub leads-divided : (n : ℕ) (t : Term A) (ts ks : List (Term A)) (j : ℕ) (g : Term A) (tail h : List (Term A)) → choose t.mono ≡ fits j g tail → SumOf cmp p ts (tail_multiple quotient ◌·◌ p t g tail) h → LeadsOf cmp choose quotient ◌·◌ p n h ks → LeadsOf cmp choose quotient ◌·◌ p (suc n) (t ∷ ts) (t ∷ ks)
  unfolding LeadsOf
  leads-divided n t ts ks j g tail h e a d = (ks, refl, subst (λ (x : Fit A). AfterBy cmp quotient ◌·◌ p (λ f. Run n f ks) x t ts) (sym e) (h, a, d))

  -- a remainder's terms are those for which no divisor is taken
  abbrev pub Unfit : List (Term A) → Type 0
  Unfit r = All (λ u. choose u.mono ≡ unfit) r

  pub division-unfit : (n : ℕ) (f r : List (Term A)) → Division cmp choose quotient ◌·◌ p n f r → All (λ u. choose u.mono ≡ unfit) r
  unfolding Division
  division-unfit zero f r d = subst Unfit (sym d.1) tt
  division-unfit (suc n) [] r d = absurd d
  division-unfit (suc n) (t ∷ ts) r d = by (choose t.mono) refl d (λ f s e. division-unfit n f s e)
    where
      by : (x : Fit A) → choose t.mono ≡ x → StepBy cmp quotient ◌·◌ p (λ f u. Div n f u) x t ts r → ((f s : List (Term A)) → Div n f s → Unfit s) → Unfit r
      by unfit e (s, a, b) rest = subst Unfit (sym a) (e, rest ts s b)
      by (fits j g tail) e (h, a, b) rest = rest h r b

module _ {A : Type 0} (cmp : A → A → Ordering) (choose : A → Fit A) (quotient ◌·◌ : A → A → A) (p : ℕ) (divides : A → A → Bool) (gs : List (List (Term A))) (choice : Choice divides gs choose) where
  -- no term of a remainder is divisible by a divisor's lead
  pub division-irreducible : (n : ℕ) (f r : List (Term A)) → Division cmp choose quotient ◌·◌ p n f r → All (λ u. Undivided divides gs u.mono) r
  division-irreducible n f r d = all_map {P = λ u. choose u.mono ≡ unfit} {Q = λ u. Undivided divides gs u.mono} (λ u e. choice.none u.mono e) r (division-unfit cmp choose quotient ◌·◌ p n f r d)

  -- ---- a division under operations that always fit
  module _ (O : TotalOrder A cmp) (Is : A → Type 0) (ops : Operations A cmp divides quotient ◌·◌ (λ a b. false) Is) (prime : Prime p) (divisors : AllOf (Valid cmp p Is) gs) where
    pos : 0 < p
    pos = omega (arith, prime.above)

    pub valid-tail : (t : Term A) (ts : List (Term A)) → Valid cmp p Is (t ∷ ts) → Valid cmp p Is ts
    valid-tail t ts v = record { canonical = canonical-tail cmp O p t ts v.canonical; are = v.are.1 }

    -- what is added for a monomial that is meant
    pub tail-adds : (t g : Term A) (tail : List (Term A)) (j : ℕ) → Is t.mono → 0 < t.coef → t.coef < p → choose t.mono ≡ fits j g tail → Added cmp p Is t (tail_multiple quotient ◌·◌ p t g tail)
    tail-adds t g tail j is some small e =
        let d = choice-sound cmp p Is divides gs divisors choose choice t.mono j g tail e in
        tail-added cmp divides quotient ◌·◌ (λ a b. false) Is ops p prime t g tail is some small d.0 d.1 (none-large (quotient t.mono g.mono) tail)

    module _ (t : Term A) (ts : List (Term A)) (v : Valid cmp p Is (t ∷ ts)) (j : ℕ) (g : Term A) (tail h : List (Term A)) (e : choose t.mono ≡ fits j g tail) (s : SumOf cmp p ts (tail_multiple quotient ◌·◌ p t g tail) h) where
      step_of : DividedStep cmp choose quotient ◌·◌ (λ a b. false) Is p t ts g tail h
      step_of = record { is = v.are.0; not-zero = v.canonical.reduced.0.0; small = v.canonical.reduced.0.1; rest = valid-tail t ts v; number = j; fit = e; none-large = none-large (quotient t.mono g.mono) tail; sum = s }

      adds : Added cmp p Is t (tail_multiple quotient ◌·◌ p t g tail)
      adds = tail-adds t g tail j v.are.0 v.canonical.reduced.0.0 v.canonical.reduced.0.1 e

      merged : h ≡ merge cmp p ts (tail_multiple quotient ◌·◌ p t g tail)
      merged = sum-merge cmp O p pos ts (tail_multiple quotient ◌·◌ p t g tail) h (valid-tail t ts v).canonical adds.canonical s

      pub next-valid : Valid cmp p Is h
      next-valid = record { canonical = s.canonical; are = subst (All (λ u. Is u.mono)) (sym merged) (merge-all cmp p (λ u. Is u.mono) (λ x y k a b i. a) ts (tail_multiple quotient ◌·◌ p t g tail) v.are.1 adds.are) }

      -- what comes after the step is below the lead
      pub next_under : Under cmp t.mono h
      next_under = subst (Under cmp t.mono) (sym merged) (merge-under cmp p t.mono ts (tail_multiple quotient ◌·◌ p t g tail) v.canonical.falling.0 adds.under)

    -- what holds of nothing, and is kept by each step, holds of a polynomial and its remainder
    module _
        (R : (f r : List (Term A)) → Type 0)
        (nothing : R [] [])
        (kept : (t : Term A) (ts s : List (Term A)) → Valid cmp p Is (t ∷ ts) → R ts s → R (t ∷ ts) (t ∷ s))
        (divided : (t : Term A) (ts : List (Term A)) (g : Term A) (tail h r : List (Term A)) → DividedStep cmp choose quotient ◌·◌ (λ a b. false) Is p t ts g tail h → Under cmp t.mono h → R h r → R (t ∷ ts) r) where
      pub division-along : (n : ℕ) (f r : List (Term A)) → Valid cmp p Is f → Division cmp choose quotient ◌·◌ p n f r → R f r
      unfolding Division
      division-along zero f r v d = subst (λ (g : List (Term A)). R g r) (sym d.0) (subst (R []) (sym d.1) nothing)
      division-along (suc n) [] r v d = absurd d
      division-along (suc n) (t ∷ ts) r v d = by (choose t.mono) refl d (λ f s w e. division-along n f s w e)
        where
          by : (x : Fit A) → choose t.mono ≡ x → StepBy cmp quotient ◌·◌ p (λ f u. Division cmp choose quotient ◌·◌ p n f u) x t ts r → ((f s : List (Term A)) → Valid cmp p Is f → Division cmp choose quotient ◌·◌ p n f s → R f s) → R (t ∷ ts) r
          by unfit e (s, a, b) rest = subst (R (t ∷ ts)) (sym a) (kept t ts s v (rest ts s (valid-tail t ts v) b))
          by (fits j g tail) e (h, a, b) rest = divided t ts g tail h r (step_of t ts v j g tail h e a) (next_under t ts v j g tail h e a) (rest h r (next-valid t ts v j g tail h e a) b)

    -- the polynomial is the remainder and a sum of multiples of divisors
    pub division-combines : (n : ℕ) (f r : List (Term A)) → Valid cmp p Is f → Division cmp choose quotient ◌·◌ p n f r → Combination cmp ◌·◌ Is p gs f r
    division-combines =
        division-along (Combination cmp ◌·◌ Is p gs) (combination-none cmp ◌·◌ Is p gs [])
        (λ t ts s v c. combination-kept cmp ◌·◌ Is p gs t ts s c)
        (λ t ts g tail h r a u c. combination-divided cmp ◌·◌ Is p gs divides quotient (λ x y. false) ops prime divisors choose choice t ts g tail h a r c)

    -- the remainder is canonical, and below what the polynomial is below
    abbrev Lower : (f r : List (Term A)) → Type 0
    Lower f r = Canonical cmp p r × ((m : A) → Under cmp m f → Under cmp m r)

    pub division-canonical : (n : ℕ) (f r : List (Term A)) → Valid cmp p Is f → Division cmp choose quotient ◌·◌ p n f r → Canonical cmp p r
    division-canonical n f r v d =
        (division-along Lower (record { falling = tt; reduced = tt }, λ m u. tt)
        (λ t ts s v c. (record { falling = (c.1 t.mono v.canonical.falling.0, c.0.falling); reduced = (v.canonical.reduced.0, c.0.reduced) }, λ m u. (u.0, c.1 m u.1)))
        (λ t ts g tail h r a u c. (c.0, λ m w. c.1 m (under_more cmp O m t.mono w.0 h u)))
        n f r v d).0

    -- all leads that a division removes are below what the polynomial is below, and fall strictly
    leads-below : (n : ℕ) (f ls : List (Term A)) → Valid cmp p Is f → LeadsOf cmp choose quotient ◌·◌ p n f ls → Falling cmp ls × ((m : A) → Under cmp m f → Under cmp m ls)
    unfolding LeadsOf
    leads-below zero f ls v d = (subst (Falling cmp) (sym d) tt, λ m u. subst (Under cmp m) (sym d) tt)
    leads-below (suc n) [] ls v d = absurd d
    leads-below (suc n) (t ∷ ts) ls v (ks, a, d) = by (choose t.mono) refl d (λ f w e. leads-below n f ks w e)
      where
        goes : (f : List (Term A)) → Under cmp t.mono f → Falling cmp ks × ((m : A) → Under cmp m f → Under cmp m ks) → Falling cmp ls × ((m : A) → Under cmp m (t ∷ ts) → Under cmp m ls)
        goes f u r =
            let b = r.1 t.mono u in
            (subst (Falling cmp) (sym a) (b, r.0), λ m w. subst (Under cmp m) (sym a) (w.0, under_more cmp O m t.mono w.0 ks b))

        by : (x : Fit A) → choose t.mono ≡ x → AfterBy cmp quotient ◌·◌ p (λ f. LeadsOf cmp choose quotient ◌·◌ p n f ks) x t ts → ((f : List (Term A)) → Valid cmp p Is f → LeadsOf cmp choose quotient ◌·◌ p n f ks → Falling cmp ks × ((m : A) → Under cmp m f → Under cmp m ks)) → Falling cmp ls × ((m : A) → Under cmp m (t ∷ ts) → Under cmp m ls)
        by unfit e b rest = goes ts v.canonical.falling.0 (rest ts (valid-tail t ts v) b)
        by (fits j g tail) e (h, i, b) rest = goes h (next_under t ts v j g tail h e i) (rest h (next-valid t ts v j g tail h e i) b)

    pub leads-fall : (n : ℕ) (f ls : List (Term A)) → Valid cmp p Is f → LeadsOf cmp choose quotient ◌·◌ p n f ls → Falling cmp ls
    leads-fall n f ls v d = (leads-below n f ls v d).0
