-- What is held, and how a reduction ends, with the monomials named again. Assumes nothing.
use mathlib.Core.Path.{◌≡◌, refl, sym, ap, ap₂, ◌∙◌, subst}
use mathlib.Core.Bool.{Bool, ◌||◌}
use mathlib.Core.List.{List, [], ◌∷◌}
use mathlib.Core.Logic.{◌⊎◌, inl, inr}
use Prim.Native.Nat.{ℕ, suc, ◌+◌, ◌%◌, Ordering}
use native.Mathlib.Nat.{zero-mod}
use native.Mathlib.Omega.{arith}
use lib.ListN.{length}
use Rattle.monomial.specs.TotalOrder.{TotalOrder}
use Rattle.polynomial.specs.Terms.{Term, term, All, here, total, coef_at, Same}
use Rattle.polynomial.proofs.CoefLaws.{total-nil, total-cons}
use Rattle.geobucket.specs.Buckets.{held, total_in}
use Rattle.geobucket.specs.TrueSum.{sum_at, IsZero, IsLead}
use Rattle.division.specs.Choice.{Fit, fits}
use Rattle.division.specs.Steps.{any_too_large}
use Rattle.division.specs.Operations.{Operations}
use Rattle.division.specs.Ending.{Stopping, finished, at-limit, over, too_many, no_place, Ending, first-too-many, by-steps}
use Rattle.division.specs.InExponents.{renamed}
use Rattle.division.proofs.FitLaws.{Sound}
use Rattle.division.proofs.Renaming.{Agrees, fit_renamed}

-- m has a like monomial in the list, or its coefficient is 0
pub like-or-none : {A : Type 0} (cmp : A → A → Ordering) (Q : A → Type 0) (m : A) (ts : List (Term A)) → All (λ t. Q t.mono) ts → ((a : A) × Q a × (cmp a m ≡ Ordering.eq)) ⊎ (total cmp m ts ≡ 0)
like-or-none cmp Q m [] u = inr (total-nil cmp m)
like-or-none {A} cmp Q m (t ∷ ts) u = by (cmp t.mono m) refl (like-or-none cmp Q m ts u.1)
  where
    by : (o : Ordering) → cmp t.mono m ≡ o → ((a : A) × Q a × (cmp a m ≡ Ordering.eq)) ⊎ (total cmp m ts ≡ 0) → ((a : A) × Q a × (cmp a m ≡ Ordering.eq)) ⊎ (total cmp m (t ∷ ts) ≡ 0)
    by Ordering.lt e (inl r) = inl r
    by Ordering.lt e (inr z) = inr (omega (arith, total-cons cmp m t ts, ap (λ (o : Ordering). here o t.coef) e, z))
    by Ordering.eq e r = inl (t.mono, u.0, e)
    by Ordering.gt e (inl r) = inl r
    by Ordering.gt e (inr z) = inr (omega (arith, total-cons cmp m t ts, ap (λ (o : Ordering). here o t.coef) e, z))

-- the list ts has the terms that the buckets bs hold
pub record OneList {A : Type 0} (cmp : A → A → Ordering) (Is : A → Type 0) (bs : List (List (Term A))) (ts : List (Term A)) : Type 0 where
  pub are : All (λ t. Is t.mono) ts
  pub totals : (m : A) → total cmp m ts ≡ total_in cmp m bs
  pub count : length ts ≡ held bs

module _ {A B : Type 0} (name : A → B) (Is : A → Type 0) where
  pub renamed-long : (ts : List (Term A)) → length (renamed name ts) ≡ length ts
  renamed-long [] = refl
  renamed-long (t ∷ ts) = ap suc (renamed-long ts)

  pub renamed-all : (P : Term A → Type 0) (Q : Term B → Type 0) → ((t : Term A) → P t → Q (term (name t.mono) t.coef)) → (ts : List (Term A)) → All P ts → All Q (renamed name ts)
  renamed-all P Q h [] u = tt
  renamed-all P Q h (t ∷ ts) u = (h t u.0, renamed-all P Q h ts u.1)

  -- m is the name of a monomial that is meant
  abbrev Named : B → Type 0
  Named m = (a : A) × Is a × (name a ≡ m)

  module _ (cmp : A → A → Ordering) (cmp' : B → B → Ordering) (O' : TotalOrder B cmp') (agree : (a b : A) → Is a → Is b → cmp' (name a) (name b) ≡ cmp a b) where
    total-renamed : (m : A) → Is m → (ts : List (Term A)) → All (λ t. Is t.mono) ts → total cmp' (name m) (renamed name ts) ≡ total cmp m ts
    unfolding total
    total-renamed m i [] u = refl
    total-renamed m i (t ∷ ts) u = ap₂ (λ (o : Ordering) (k : ℕ). here o t.coef + k) (agree t.mono m u.0 i) (total-renamed m i ts u.1)

    named-or-none : (m : B) (ts : List (Term A)) → All (λ t. Is t.mono) ts → Named m ⊎ (total cmp' m (renamed name ts) ≡ 0)
    named-or-none m ts u = go (like-or-none cmp' Named m (renamed name ts) (renamed-all (λ t. Is t.mono) (λ t. Named t.mono) (λ t i. (t.mono, i, refl)) ts u))
      where
        go : ((b : B) × Named b × (cmp' b m ≡ Ordering.eq)) ⊎ (total cmp' m (renamed name ts) ≡ 0) → Named m ⊎ (total cmp' m (renamed name ts) ≡ 0)
        go (inl (b, (a, i, e), q)) = inl (a, i, e ∙ O'.same b m q)
        go (inr z) = inr z

    -- the same polynomial by the new names
    pub same-renamed : (p : ℕ) (xs ys : List (Term A)) → All (λ t. Is t.mono) xs → All (λ t. Is t.mono) ys → Same cmp p xs ys → Same cmp' p (renamed name xs) (renamed name ys)
    same-renamed p xs ys u v e m = go (named-or-none m xs u) (named-or-none m ys v)
      where
        at : Named m → coef_at cmp' p m (renamed name xs) ≡ coef_at cmp' p m (renamed name ys)
        at (a, i, q) = subst (λ (k : B). coef_at cmp' p k (renamed name xs) ≡ coef_at cmp' p k (renamed name ys)) q (ap (λ (k : ℕ). k % p) (total-renamed a i xs u) ∙ (e a ∙ sym (ap (λ (k : ℕ). k % p) (total-renamed a i ys v))))

        go : Named m ⊎ (total cmp' m (renamed name xs) ≡ 0) → Named m ⊎ (total cmp' m (renamed name ys) ≡ 0) → coef_at cmp' p m (renamed name xs) ≡ coef_at cmp' p m (renamed name ys)
        go (inl a) y = at a
        go (inr z) (inl a) = at a
        go (inr z) (inr w) = ap (λ (k : ℕ). k % p) (z ∙ sym w)

    -- ---- what is held
    module _ (O : TotalOrder A cmp) (p : ℕ) (bs : List (List (Term A))) (ts : List (Term A)) (held-as : OneList cmp Is bs ts) where
      sum-at : (a : A) → Is a → sum_at cmp' p (renamed name ts ∷ []) (name a) ≡ sum_at cmp p bs a
      unfolding total_in
      sum-at a i = ap (λ (k : ℕ). k % p) (let e : total cmp' (name a) (renamed name ts) + 0 ≡ total_in cmp a bs = omega (arith, total-renamed a i ts held-as.are, held-as.totals a) in e)

      sum-named : (m : B) → Named m ⊎ (sum_at cmp' p (renamed name ts ∷ []) m ≡ 0)
      unfolding total_in
      sum-named m = go (named-or-none m ts held-as.are)
        where
          go : Named m ⊎ (total cmp' m (renamed name ts) ≡ 0) → Named m ⊎ ((total cmp' m (renamed name ts) + 0) % p ≡ 0)
          go (inl a) = inl a
          go (inr z) = inr (ap (λ (k : ℕ). k % p) (let e : total cmp' m (renamed name ts) + 0 ≡ 0 = omega (arith, z) in e) ∙ zero-mod p)

      -- a coefficient that is 0 for each monomial that is meant and stands as m does is 0 for m
      none-at : (m : B) → ((a : A) → Is a → name a ≡ m → sum_at cmp p bs a ≡ 0) → sum_at cmp' p (renamed name ts ∷ []) m ≡ 0
      none-at m z = go (sum-named m)
        where
          go : Named m ⊎ (sum_at cmp' p (renamed name ts ∷ []) m ≡ 0) → sum_at cmp' p (renamed name ts ∷ []) m ≡ 0
          go (inl (a, i, e)) = subst (λ (k : B). sum_at cmp' p (renamed name ts ∷ []) k ≡ 0) e (sum-at a i ∙ z a i e)
          go (inr e) = e

      zero-renamed : IsZero cmp p bs → IsZero cmp' p (renamed name ts ∷ [])
      zero-renamed z = record { zero-at = λ m. none-at m (λ a i e. z.zero-at a) }

      lead_is : (t : Term A) → IsLead cmp p bs t → Is t.mono
      lead_is t l = go (like-or-none cmp Is t.mono ts held-as.are)
        where
          go : ((a : A) × Is a × (cmp a t.mono ≡ Ordering.eq)) ⊎ (total cmp t.mono ts ≡ 0) → Is t.mono
          go (inl (a, i, e)) = subst Is (O.same a t.mono e) i
          go (inr z) =
              let e : sum_at cmp p bs t.mono ≡ 0 = ap (λ (k : ℕ). k % p) (sym (held-as.totals t.mono) ∙ z) ∙ zero-mod p in
              absurd (let q : ⊥ = omega (arith, e, l.coef-is, l.not-zero) in q)

      lead-renamed : (t : Term A) → IsLead cmp p bs t → IsLead cmp' p (renamed name ts ∷ []) (term (name t.mono) t.coef)
      lead-renamed t l = record {
        coef-is = sum-at t.mono (lead_is t l) ∙ l.coef-is;
        not-zero = l.not-zero;
        largest = λ m h. none-at m (λ a i e. l.largest a (sym (agree a t.mono i (lead_is t l)) ∙ (ap (λ (k : B). cmp' k (name t.mono)) e ∙ h)));
      }

      held-renamed : held (renamed name ts ∷ []) ≡ held bs
      unfolding held
      held-renamed = let e : length (renamed name ts) + 0 ≡ held bs = omega (arith, renamed-long ts, held-as.count) in e

      -- ---- how a reduction ends
      module _
          (divides : A → A → Bool) (quotient ◌·◌ : A → A → A) (too_large : A → A → Bool) (divides' : B → B → Bool) (quotient' ◌·'◌ : B → B → B) (too_large' : B → B → Bool)
          (agrees : Agrees name Is cmp divides quotient ◌·◌ cmp' divides' quotient' ◌·'◌) (large : (a b : A) → Is a → Is b → too_large' (name a) (name b) ≡ too_large a b)
          (ops : Operations A cmp divides quotient ◌·◌ too_large Is) (choose : A → Fit A) (sound : Sound cmp p Is divides choose) (choose' : B → Fit B) (same : (α : A) → Is α → choose' (name α) ≡ fit_renamed name Is (choose α)) (places limit : ℕ) where
        large-renamed : (q : A) → Is q → (f : List (Term A)) → All (λ t. Is t.mono) f → any_too_large too_large' (name q) (renamed name f) ≡ any_too_large too_large q f
        unfolding any_too_large
        large-renamed q i [] u = refl
        large-renamed q i (t ∷ f) u = ap₂ (λ (x y : Bool). x || y) (large q t.mono i u.0) (large-renamed q i f u.1)

        any-renamed : (t : Term A) → Is t.mono → (j : ℕ) (g : Term A) (tail : List (Term A)) → choose t.mono ≡ fits j g tail → any_too_large too_large' (quotient' (name t.mono) (name g.mono)) (renamed name tail) ≡ any_too_large too_large (quotient t.mono g.mono) tail
        any-renamed t i j g tail u =
            let (v, b) = sound t.mono j g tail u in
            ap (λ (q : B). any_too_large too_large' q (renamed name tail)) (agrees.quotients t.mono g.mono i v.are.0 b) ∙ large-renamed (quotient t.mono g.mono) (ops.quotient_is t.mono g.mono i v.are.0 b) tail v.are.1

        stopping-renamed : (k leads : ℕ) (r : List (Term A)) → Stopping cmp choose quotient too_large p places limit k leads r bs → Stopping cmp' choose' quotient' too_large' p places limit k leads (renamed name r) (renamed name ts ∷ [])
        stopping-renamed k leads r (finished e l z h) = finished e l (zero-renamed z) (held-renamed ∙ h)
        stopping-renamed k leads r (at-limit t e l a) = at-limit (term (name t.mono) t.coef) e l (lead-renamed t a)
        stopping-renamed k leads r (over t j g tail e l a u b) =
            over (term (name t.mono) t.coef) j (term (name g.mono) g.coef) (renamed name tail) e l (lead-renamed t a) (same t.mono (lead_is t a) ∙ ap (fit_renamed name Is) u) (any-renamed t (lead_is t a) j g tail u ∙ b)
        stopping-renamed k leads r (too_many t j g tail e l a u b h) =
            too_many (term (name t.mono) t.coef) j (term (name g.mono) g.coef) (renamed name tail) e l (lead-renamed t a) (same t.mono (lead_is t a) ∙ ap (fit_renamed name Is) u) (any-renamed t (lead_is t a) j g tail u ∙ b) (omega (arith, held-renamed, renamed-long tail, h))
        stopping-renamed k leads r (no_place t e l a u h) = no_place (term (name t.mono) t.coef) e l (lead-renamed t a) (same t.mono (lead_is t a) ∙ ap (fit_renamed name Is) u) (omega (arith, renamed-long r, h))

        pub ending-renamed : (k leads : ℕ) (f r : List (Term A)) → Ending cmp choose quotient too_large p places limit k leads f r bs → Ending cmp' choose' quotient' too_large' p places limit k leads (renamed name f) (renamed name r) (renamed name ts ∷ [])
        ending-renamed k leads f r (first-too-many e h l q w) = first-too-many e (omega (arith, renamed-long f, h)) l (ap (renamed name) q) (held-renamed ∙ w)
        ending-renamed k leads f r (by-steps h s) = by-steps (omega (arith, renamed-long f, h)) (stopping-renamed k leads r s)
