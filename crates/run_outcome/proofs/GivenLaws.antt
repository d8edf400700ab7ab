-- What a run is to give out is determined, and it can be read at each lead and full sum. Assumes nothing.
use mathlib.Core.Path.{◌≡◌, refl, sym, ap, ap₂, ◌∙◌, subst}
use mathlib.Core.List.{List, [], ◌∷◌, ◌++◌, append-nil, append_assoc}
use mathlib.Core.Logic.{inl, inr}
use Prim.Native.Nat.{ℕ, ◌<◌, ◌≤◌, Ordering}
use native.Mathlib.Omega.{arith}
use lib.ListN.{length}
use Rattle.monomial.specs.declared.order.Order.{Order}
use Rattle.monomial.specs.Exponents.{compare_in}
use Rattle.monomial.specs.TotalOrder.{turned}
use Rattle.monomial.specs.Layout.{Layout, exponents, word_of}
use Rattle.monomial.proofs.LayoutLaws.{word-exponents}
use Rattle.monomial.proofs.OrderLaws.{exponents-order}
use Rattle.polynomial.specs.Terms.{Term, term, All, Reduced}
use Rattle.polynomial.proofs.CoefLaws.{canonical-unique}
use Rattle.call.specs.Places.{non_zero}
use Rattle.call.proofs.PlaceLaws.{non_zero-append, non_zero-reduced}
use Rattle.division.specs.InExponents.{in_exponents}
use Rattle.run_outcome.specs.Runs.{Operation, adds, leads, sums}
use Rattle.run_outcome.specs.GivenOut.{brought_by, Largest, LeadPlace, SumPlaces, GivenOut, LeadAt, SumAt}

module _ (o : Order) (n : ℕ) (vs : List ℕ) (p : ℕ) where
  reduced-back : (f : List (Term ℕ)) → Reduced p (in_exponents o n f) → Reduced p f
  reduced-back [] r = tt
  reduced-back (t ∷ ts) r = (r.0, reduced-back ts r.1)

  -- ---- operations one after the other
  record Split (xs ys : List Operation) (brought given written : List (Term ℕ)) : Type 0 where
    earlier : List (Term ℕ)
    later : List (Term ℕ)
    is : written ≡ earlier ++ later
    first : GivenOut o n vs p xs brought given earlier
    second : GivenOut o n vs p ys (brought ++ brought_by xs) (given ++ non_zero earlier) later

  split : (xs ys : List Operation) (b g w : List (Term ℕ)) → GivenOut o n vs p (xs ++ ys) b g w → Split xs ys b g w
  unfolding GivenOut
  split [] ys b g w h = record {
    earlier = [];
    later = w;
    is = refl;
    first = refl;
    second = subst (λ (x : List (Term ℕ)). GivenOut o n vs p ys x (g ++ []) w) (sym (append-nil b)) (subst (λ (x : List (Term ℕ)). GivenOut o n vs p ys b x w) (sym (append-nil g)) h);
  }
  split (adds f ∷ xs) ys b g w h =
      let r = split xs ys (b ++ f) g w h in
      record { earlier = r.earlier; later = r.later; is = r.is; first = r.first; second = subst (λ (x : List (Term ℕ)). GivenOut o n vs p ys x (g ++ non_zero r.earlier) r.later) (append_assoc b f (brought_by xs)) r.second }
  split (leads ∷ xs) ys b g w h =
      let t = h.0 in
      let r = split xs ys b (g ++ non_zero (t ∷ [])) h.1 h.4 in
      record {
        earlier = t ∷ r.earlier;
        later = r.later;
        is = h.2 ∙ ap (λ (x : List (Term ℕ)). t ∷ x) r.is;
        first = (t, r.earlier, refl, h.3, r.first);
        second = subst (λ (x : List (Term ℕ)). GivenOut o n vs p ys (b ++ brought_by xs) x r.later) (append_assoc g (non_zero (t ∷ [])) (non_zero r.earlier) ∙ ap (λ (x : List (Term ℕ)). g ++ x) (sym (non_zero-append (t ∷ []) r.earlier))) r.second;
      }
  split (sums ∷ xs) ys b g w h =
      let f = h.0 in
      let r = split xs ys b (g ++ f) h.1 h.4 in
      let whole : non_zero (f ++ (term 0 0 ∷ r.earlier)) ≡ f ++ non_zero r.earlier = non_zero-append f (term 0 0 ∷ r.earlier) ∙ ap (λ (x : List (Term ℕ)). x ++ non_zero r.earlier) (non_zero-reduced p f (reduced-back f h.3.canonical.reduced)) in
      record {
        earlier = f ++ (term 0 0 ∷ r.earlier);
        later = r.later;
        is = h.2 ∙ (ap (λ (x : List (Term ℕ)). f ++ (term 0 0 ∷ x)) r.is ∙ sym (append_assoc f (term 0 0 ∷ r.earlier) r.later));
        first = (f, r.earlier, refl, h.3, r.first);
        second = subst (λ (x : List (Term ℕ)). GivenOut o n vs p ys (b ++ brought_by xs) x r.later) (append_assoc g f (non_zero r.earlier) ∙ ap (λ (x : List (Term ℕ)). g ++ x) (sym whole)) r.second;
      }

  pub lead-at : (before rest : List Operation) (written : List (Term ℕ)) → GivenOut o n vs p (before ++ (leads ∷ rest)) [] [] written → LeadAt o n vs p before written
  unfolding GivenOut
  lead-at before rest written h =
      let r = split before (leads ∷ rest) [] [] written h in
      let s = r.second in
      record { earlier = r.earlier; place = s.0; later = s.1; split = r.is ∙ ap (λ (x : List (Term ℕ)). r.earlier ++ x) s.2; before-it = r.first; lead_is = s.3 }

  pub sum-at : (before rest : List Operation) (written : List (Term ℕ)) → GivenOut o n vs p (before ++ (sums ∷ rest)) [] [] written → SumAt o n vs p before written
  unfolding GivenOut
  sum-at before rest written h =
      let r = split before (sums ∷ rest) [] [] written h in
      let s = r.second in
      record { earlier = r.earlier; sum = s.0; later = s.1; split = r.is ∙ ap (λ (x : List (Term ℕ)). r.earlier ++ x) s.2; before-it = r.first; sum_is = s.3 }

  -- zero is given where the true sum is zero
  pub lead_zero : (sum : List ℕ → ℕ) (t : Term ℕ) → LeadPlace o n vs p sum t → ((α : List ℕ) → sum α ≡ 0) → t ≡ term 0 0
  lead_zero sum t (inl l) z = absurd (let q : ⊥ = omega (arith, l.coef-is, l.not-zero, z (exponents o n t.mono)) in q)
  lead_zero sum t (inr r) z = r.0

  pub zero-lead : (sum : List ℕ → ℕ) (t : Term ℕ) → LeadPlace o n vs p sum t → t ≡ term 0 0 → (α : List ℕ) → sum α ≡ 0
  zero-lead sum t (inl l) e α = absurd (let q : ⊥ = omega (arith, l.not-zero, ap (λ (x : Term ℕ). x.coef) e) in q)
  zero-lead sum t (inr r) e α = r.1 α

  -- ---- no other places fit
  module _ (fits : n ≤ 6) (pos : 0 < p) where
    like-words : (v w : ℕ) → Layout o n vs v → Layout o n vs w → exponents o n v ≡ exponents o n w → v ≡ w
    like-words v w a b e = sym (word-exponents o n vs v fits a) ∙ (ap (word_of o vs) e ∙ word-exponents o n vs w fits b)

    term_is : (t u : Term ℕ) → t.mono ≡ u.mono → t.coef ≡ u.coef → t ≡ u
    term_is t u a b = ap₂ (λ (m c : ℕ). term m c) a b

    largest-only : (sum : List ℕ → ℕ) (t u : Term ℕ) → Largest o n vs p sum t → Largest o n vs p sum u → t ≡ u
    largest-only sum t u l k = by (compare_in o vs (exponents o n t.mono) (exponents o n u.mono)) refl
      where
        by : (c : Ordering) → compare_in o vs (exponents o n t.mono) (exponents o n u.mono) ≡ c → t ≡ u
        by Ordering.gt e = absurd (let q : ⊥ = omega (arith, k.largest (exponents o n t.mono) e, l.coef-is, l.not-zero) in q)
        by Ordering.lt e = absurd (let q : ⊥ = omega (arith, l.largest (exponents o n u.mono) ((exponents-order o vs).turn (exponents o n t.mono) (exponents o n u.mono) ∙ ap turned e), k.coef-is, k.not-zero) in q)
        by Ordering.eq e =
            let same = (exponents-order o vs).same (exponents o n t.mono) (exponents o n u.mono) e in
            term_is t u (like-words t.mono u.mono l.is k.is same) (sym l.coef-is ∙ (ap sum same ∙ k.coef-is))

    lead-only : (sum : List ℕ → ℕ) (t u : Term ℕ) → LeadPlace o n vs p sum t → LeadPlace o n vs p sum u → t ≡ u
    lead-only sum t u (inl l) (inl k) = largest-only sum t u l k
    lead-only sum t u (inl l) (inr k) = lead_zero sum t (inl l) k.1 ∙ sym k.0
    lead-only sum t u (inr l) k = l.0 ∙ sym (lead_zero sum u k l.1)

    words-only : (f g : List (Term ℕ)) → All (λ t. Layout o n vs t.mono) f → All (λ t. Layout o n vs t.mono) g → in_exponents o n f ≡ in_exponents o n g → f ≡ g
    words-only [] [] a b e = refl
    words-only [] (u ∷ g) a b e = absurd (let q : ⊥ = omega (arith, ap length e) in q)
    words-only (t ∷ f) [] a b e = absurd (let q : ⊥ = omega (arith, ap length e) in q)
    words-only (t ∷ f) (u ∷ g) a b e = ap₂ (λ (x : Term ℕ) (l : List (Term ℕ)). x ∷ l) (term_is t u (like-words t.mono u.mono a.0 b.0 (ap (λ (l : List (Term (List ℕ))). (front l).mono) e)) (ap (λ (l : List (Term (List ℕ))). (front l).coef) e)) (words-only f g a.1 b.1 (ap rest e))
      where
        front : List (Term (List ℕ)) → Term (List ℕ)
        front [] = term [] 0
        front (x ∷ xs) = x

        rest : List (Term (List ℕ)) → List (Term (List ℕ))
        rest [] = []
        rest (x ∷ xs) = xs

    sum-only : (sum : List ℕ → ℕ) (f g : List (Term ℕ)) → SumPlaces o n vs p sum f → SumPlaces o n vs p sum g → f ≡ g
    sum-only sum f g s r = words-only f g s.are r.are (canonical-unique (compare_in o vs) (exponents-order o vs) p pos (in_exponents o n f) (in_exponents o n g) s.canonical r.canonical (λ α. s.coefs-are α ∙ sym (r.coefs-are α)))

    pub given-only : (os : List Operation) (b g w v : List (Term ℕ)) → GivenOut o n vs p os b g w → GivenOut o n vs p os b g v → w ≡ v
    unfolding GivenOut
    given-only [] b g w v h k = h ∙ sym k
    given-only (adds f ∷ os) b g w v h k = given-only os (b ++ f) g w v h k
    given-only (leads ∷ os) b g w v h k =
        let e = lead-only _ h.0 k.0 h.3 k.3 in
        h.2 ∙ (ap₂ (λ (x : Term ℕ) (l : List (Term ℕ)). x ∷ l) e (given-only os b (g ++ non_zero (h.0 ∷ [])) h.1 k.1 h.4 (subst (λ (x : Term ℕ). GivenOut o n vs p os b (g ++ non_zero (x ∷ [])) k.1) (sym e) k.4)) ∙ sym k.2)
    given-only (sums ∷ os) b g w v h k =
        let e = sum-only _ h.0 k.0 h.3 k.3 in
        h.2 ∙ (ap₂ (λ (x l : List (Term ℕ)). x ++ (term 0 0 ∷ l)) e (given-only os b (g ++ h.0) h.1 k.1 h.4 (subst (λ (x : List (Term ℕ)). GivenOut o n vs p os b (g ++ x) k.1) (sym e) k.4)) ∙ sym k.2)
