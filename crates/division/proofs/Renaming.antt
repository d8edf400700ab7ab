-- A step of a division is one with the monomials named again, where the names agree with comparison, divisibility, quotient and product. Assumes nothing.
use mathlib.Core.Path.{◌≡◌, refl, sym, ap, ap₂, ◌∙◌, subst}
use mathlib.Core.Bool.{Bool, true, false}
use mathlib.Core.List.{List, [], ◌∷◌, map}
use Prim.Native.Nat.{ℕ, zero, suc, ◌+◌, ◌*◌, ◌%◌, Ordering}
use native.Mathlib.Omega.{arith}
use Rattle.residue.specs.Prime.{Prime}
use Rattle.residue.specs.Modular.{product, negative, inverse_of}
use Rattle.monomial.specs.TotalOrder.{TotalOrder}
use Rattle.polynomial.specs.Terms.{Term, term, All, Reduced, Under, Falling, total, coef_at, Canonical}
use Rattle.polynomial.specs.Merge.{keep, merge}
use Rattle.polynomial.specs.Multiple.{multiple}
use Rattle.polynomial.proofs.MergeLaws.{along, merge_less, merge-same, merge-more, merge-nil, merge-all}
use Rattle.polynomial.proofs.CoefLaws.{total-merge}
use Rattle.division.specs.Choice.{Fit, unfit, fits, first_from, chosen}
use Rattle.division.specs.Division.{tail_multiple}
use Rattle.division.specs.Operations.{Operations}
use Rattle.division.specs.Divisors.{Valid, AllOf}
use Rattle.division.specs.InExponents.{renamed}
use Rattle.division.proofs.DivisionLaws.{sum-merge}
use Rattle.division.proofs.TailLaws.{DividedStep, tail-added}
use Rattle.division.proofs.FitLaws.{Sound}
use Rattle.division.proofs.AnyDivision.{none-large}

module _ {A B : Type 0} (name : A → B) (Is : A → Type 0) where
  -- the names agree with the operations, on the monomials that are meant
  pub record Agrees (cmp : A → A → Ordering) (divides : A → A → Bool) (quotient ◌·◌ : A → A → A) (cmp' : B → B → Ordering) (divides' : B → B → Bool) (quotient' ◌·'◌ : B → B → B) : Type 0 where
    pub compares : (a b : A) → Is a → Is b → cmp' (name a) (name b) ≡ cmp a b
    pub divide : (a b : A) → Is a → Is b → divides' (name b) (name a) ≡ divides b a
    pub quotients : (a b : A) → Is a → Is b → divides b a ≡ true → quotient' (name a) (name b) ≡ name (quotient a b)
    pub products : (a b : A) → Is a → Is b → ◌·'◌ (name a) (name b) ≡ name (◌·◌ a b)

  abbrev Are : List (Term A) → Type 0
  Are ts = All (λ t. Is t.mono) ts

  abbrev one : Term A → Term B
  one t = term (name t.mono) t.coef

  abbrev pub fit_renamed : Fit A → Fit B
  fit_renamed unfit = unfit
  fit_renamed (fits k g tail) = fits k (one g) (renamed name tail)

  -- ---- lists
  keep-renamed : (m : A) (c : ℕ) (ts : List (Term A)) → keep (name m) c (renamed name ts) ≡ renamed name (keep m c ts)
  unfolding keep
  keep-renamed m zero ts = refl
  keep-renamed m (suc c) ts = refl

  pub reduced-renamed : (p : ℕ) (f : List (Term A)) → Reduced p f → Reduced p (renamed name f)
  reduced-renamed p [] r = tt
  reduced-renamed p (t ∷ ts) r = (r.0, reduced-renamed p ts r.1)

  module _ (cmp : A → A → Ordering) (cmp' : B → B → Ordering) (agree : (a b : A) → Is a → Is b → cmp' (name a) (name b) ≡ cmp a b) where
    pub under-renamed : (m : A) → Is m → (f : List (Term A)) → All (λ t. Is t.mono) f → Under cmp m f → Under cmp' (name m) (renamed name f)
    under-renamed m i [] a u = tt
    under-renamed m i (t ∷ ts) a u = (agree m t.mono i a.0 ∙ u.0, under-renamed m i ts a.1 u.1)

    falling-renamed : (f : List (Term A)) → Are f → Falling cmp f → Falling cmp' (renamed name f)
    falling-renamed [] a u = tt
    falling-renamed (t ∷ ts) a u = (under-renamed t.mono a.0 ts a.1 u.0, falling-renamed ts a.1 u.1)

    pub canonical-renamed : (p : ℕ) (f : List (Term A)) → All (λ t. Is t.mono) f → Canonical cmp p f → Canonical cmp' p (renamed name f)
    canonical-renamed p f a c = record { falling = falling-renamed f a c.falling; reduced = reduced-renamed p f c.reduced }

    merge-renamed : (p : ℕ) (xs ys : List (Term A)) → Are xs → Are ys → merge cmp' p (renamed name xs) (renamed name ys) ≡ renamed name (merge cmp p xs ys)
    unfolding merge
    merge-renamed p =
        along cmp p (λ xs ys zs qs. Are xs → Are ys → merge cmp' p (renamed name xs) (renamed name ys) ≡ renamed name zs)
        (λ ys u v. refl)
        (λ x xs u v. merge-nil cmp' p (renamed name (x ∷ xs)))
        (λ x xs y ys zs qs h r u v. merge_less cmp' p (one x) (renamed name xs) (one y) (renamed name ys) (agree x.mono y.mono u.0 v.0 ∙ h) ∙ ap (λ (l : List (Term B)). one y ∷ l) (r u v.1))
        (λ x xs y ys zs qs h r u v.
        merge-same cmp' p (one x) (renamed name xs) (one y) (renamed name ys) (agree x.mono y.mono u.0 v.0 ∙ h)
        ∙ (ap (keep (name x.mono) ((x.coef + y.coef) % p)) (r u.1 v.1) ∙ keep-renamed x.mono ((x.coef + y.coef) % p) zs))
        (λ x xs y ys zs qs h r u v. merge-more cmp' p (one x) (renamed name xs) (one y) (renamed name ys) (agree x.mono y.mono u.0 v.0 ∙ h) ∙ ap (λ (l : List (Term B)). one x ∷ l) (r u.1 v))

  -- ---- multiples, and the divisor that fits
  module _ (cmp : A → A → Ordering) (divides : A → A → Bool) (quotient ◌·◌ : A → A → A) (cmp' : B → B → Ordering) (divides' : B → B → Bool) (quotient' ◌·'◌ : B → B → B) (agrees : Agrees cmp divides quotient ◌·◌ cmp' divides' quotient' ◌·'◌) where
    multiple-renamed : (p c : ℕ) (q : A) → Is q → (f : List (Term A)) → Are f → multiple ◌·'◌ p c (name q) (renamed name f) ≡ renamed name (multiple ◌·◌ p c q f)
    multiple-renamed p c q i [] a = refl
    multiple-renamed p c q i (t ∷ ts) a = ap₂ (λ (m : B) (l : List (Term B)). term m (c * t.coef % p) ∷ l) (agrees.products q t.mono i a.0) (multiple-renamed p c q i ts a.1)

    tail-renamed : (p : ℕ) (t g : Term A) (tail : List (Term A)) → Is t.mono → Is g.mono → divides g.mono t.mono ≡ true → Is (quotient t.mono g.mono) → Are tail → tail_multiple quotient' ◌·'◌ p (one t) (one g) (renamed name tail) ≡ renamed name (tail_multiple quotient ◌·◌ p t g tail)
    tail-renamed p t g tail i j d k a =
        let c = product p (negative p t.coef) (inverse_of p g.coef) in
        ap (λ (m : B). multiple ◌·'◌ p c m (renamed name tail)) (agrees.quotients t.mono g.mono i j d) ∙ multiple-renamed p c (quotient t.mono g.mono) k tail a

    -- document 01's rule, by the new names
    first-renamed : (p j : ℕ) (α : A) → Is α → (gs : List (List (Term A))) → AllOf (Valid cmp p Is) gs → first_from divides' j (name α) (map (renamed name) gs) ≡ fit_renamed (first_from divides j α gs)
    unfolding first_from AllOf
    first-renamed p j α i [] u = refl
    first-renamed p j α i ([] ∷ gs) u = first-renamed p (suc j) α i gs u.1
    first-renamed p j α i ((g ∷ tail) ∷ gs) u = ap (λ (b : Bool). elim b [ true ↦ fits j (one g) (renamed name tail) | false ↦ first_from divides' (suc j) (name α) (map (renamed name) gs) ]) (agrees.divide α g.mono i u.0.are.0) ∙ both (divides g.mono α) (first-renamed p (suc j) α i gs u.1)
      where
        both : (b : Bool) → first_from divides' (suc j) (name α) (map (renamed name) gs) ≡ fit_renamed (first_from divides (suc j) α gs) → elim b [ true ↦ fits j (one g) (renamed name tail) | false ↦ first_from divides' (suc j) (name α) (map (renamed name) gs) ] ≡ fit_renamed (elim b [ true ↦ fits j g tail | false ↦ first_from divides (suc j) α gs ])
        both true e = refl
        both false e = e

    pub chosen-renamed : (p : ℕ) (gs : List (List (Term A))) → AllOf (Valid cmp p Is) gs → (α : A) → Is α → chosen divides' (map (renamed name) gs) (name α) ≡ fit_renamed (chosen divides gs α)
    unfolding chosen
    chosen-renamed p gs divisors α i = first-renamed p 1 α i gs divisors

    -- ---- a step of a division, where the choices agree
    module _ (O : TotalOrder A cmp) (O' : TotalOrder B cmp') (too_large : A → A → Bool) (ops : Operations A cmp divides quotient ◌·◌ too_large Is) (p : ℕ) (prime : Prime p) (choose : A → Fit A) (sound : Sound cmp p Is divides choose) (choose' : B → Fit B) (same : (α : A) → Is α → choose' (name α) ≡ fit_renamed (choose α)) where
      -- a step that divides is one by the new names; no product need be too large there
      module _ (Is' : B → Type 0) (named : (a : A) → Is a → Is' (name a)) where
        are-renamed : (ts : List (Term A)) → Are ts → All (λ t. Is' t.mono) (renamed name ts)
        are-renamed [] a = tt
        are-renamed (t ∷ ts) a = (named t.mono a.0, are-renamed ts a.1)

        pub renamed_step : (t : Term A) (ts : List (Term A)) (g : Term A) (tail h : List (Term A)) → DividedStep cmp choose quotient ◌·◌ too_large Is p t ts g tail h
            → DividedStep cmp' choose' quotient' ◌·'◌ (λ a b. false) Is' p (term (name t.mono) t.coef) (renamed name ts) (term (name g.mono) g.coef) (renamed name tail) (renamed name h)
        renamed_step t ts g tail h a =
            let u = tail_multiple quotient ◌·◌ p t g tail in
            let (v, b) = sound t.mono a.number g tail a.fit in
            let c = tail-added cmp divides quotient ◌·◌ too_large Is ops p prime t g tail a.is a.not-zero a.small v b a.none-large in
            let m = sum-merge cmp O p (omega (arith, prime.above)) ts u h a.rest.canonical c.canonical a.sum in
            let are : Are h = subst Are (sym m) (merge-all cmp p (λ x. Is x.mono) (λ x y q i j k. i) ts u a.rest.are c.are) in
            let tail-is = tail-renamed p t g tail a.is v.are.0 b (ops.quotient_is t.mono g.mono a.is v.are.0 b) v.are.1 in
            let is : renamed name h ≡ merge cmp' p (renamed name ts) (renamed name u) = ap (renamed name) m ∙ sym (merge-renamed cmp cmp' agrees.compares p ts u a.rest.are c.are) in
            record {
              is = named t.mono a.is;
              not-zero = a.not-zero;
              small = a.small;
              rest = record { canonical = canonical-renamed cmp cmp' agrees.compares p ts a.rest.are a.rest.canonical; are = are-renamed ts a.rest.are };
              number = a.number;
              fit = same t.mono a.is ∙ ap fit_renamed a.fit;
              none-large = none-large (quotient' (name t.mono) (name g.mono)) (renamed name tail);
              sum = record {
                canonical = canonical-renamed cmp cmp' agrees.compares p h are a.sum.canonical;
                coefficients = λ k. ap (coef_at cmp' p k) is ∙ (total-merge cmp' O' p k (renamed name ts) (renamed name u) ∙ ap (λ (l : List (Term B)). (total cmp' k (renamed name ts) + total cmp' k l) % p) (sym tail-is));
              };
            }
