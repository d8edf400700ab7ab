-- The opening check of a polynomial that is cut into parts, by document 01's conditions on the whole. Assumes nothing.
use mathlib.Core.Path.{◌≡◌, refl, sym, ap, ◌∙◌, subst}
use mathlib.Core.List.{List, [], ◌∷◌, ◌++◌}
use mathlib.Core.Logic.{inl}
use Prim.Native.Nat.{ℕ, ◌<◌, ◌≤◌, Ordering}
use lib.ListN.{length}
use Rattle.refusal.specs.Judgement.{Judged}
use Rattle.refusal.proofs.JudgementLaws.{judged-once, all-judged}
use Rattle.monomial.specs.Exponents.{order_of}
use Rattle.monomial.specs.Words.{compare_words}
use Rattle.monomial.proofs.OrderLaws.{words-order}
use Rattle.monomial.specs.Layout.{Below}
use Rattle.polynomial.specs.declared.setting.Setting.{Setting}
use Rattle.polynomial.specs.Terms.{Term}
use Rattle.polynomial.specs.Opening.{term_refusal, terms_refusal, is_larger, polynomial_refusal}
use Rattle.polynomial.specs.Checking.{unseen, verdict, together, polynomial_over}
use Rattle.polynomial.proofs.CheckingLaws.{check-parts, cut-six, late-bad}
use Rattle.opening.specs.Judgement.{GoodCoef, GoodWord, places_conditions, polynomial_conditions, place_of, BadOrder}
use Rattle.opening.proofs.PolynomialsJudged.{polynomial-judged, places-judged, first-zero}
use Rattle.opening.proofs.BadPlaces.{places-all}

-- `last` is the word that stands as the last one before the first part: it does not matter
module _ (t : Setting) (last : ℕ) where
  abbrev judge : Term ℕ → ℕ
  judge = term_refusal (order_of t.order) t.n t.weights t.p

  abbrev cmp : ℕ → ℕ → Ordering
  cmp = compare_words (order_of t.order)

  whole : (parts : List (List (Term ℕ))) → verdict (polynomial_over t (unseen last) parts) ≡ polynomial_refusal t (together parts)
  whole parts = check-parts judge cmp last parts

  -- parts get the number of the first condition on the polynomial that does not hold
  pub parts-judged : t.n ≤ 6 → Below 17 t.weights → (parts : List (List (Term ℕ))) → Judged (polynomial_conditions t (together parts)) (verdict (polynomial_over t (unseen last) parts))
  parts-judged few small parts = subst (λ (r : ℕ). Judged (polynomial_conditions t (together parts)) r) (sym (whole parts)) (polynomial-judged t few small (together parts))

  -- no place is bad
  none-bad : (us : List (Term ℕ)) → ((j : ℕ) → j < length us → GoodCoef t (place_of t us j) × GoodWord t (place_of t us j)) → terms_refusal judge us ≡ 0
  none-bad us b = judged-once (places_conditions t us) (terms_refusal judge us) 0 (places-judged t us) (all-judged (places_conditions t us) (places-all t us b))

  coef-bad : (u : Term ℕ) → (GoodCoef t u → ⊥) → judge u ≡ 4
  unfolding terms_refusal
  coef-bad u bad = sym (first-zero (judge u)) ∙ judged-once (places_conditions t (u ∷ [])) (terms_refusal judge (u ∷ [])) 4 (places-judged t (u ∷ [])) (inl (bad, refl))

  -- "A polynomial with an early order fault and a late bad coefficient still gets 4", however it is cut: the terms before that coefficient would get 6 by themselves
  pub late-four : (us vs : List (Term ℕ)) (u : Term ℕ) → BadOrder t us → (GoodCoef t u → ⊥)
      → (parts : List (List (Term ℕ))) → together parts ≡ us ++ (u ∷ vs) → verdict (polynomial_over t (unseen last) parts) ≡ 4
  late-four us vs u b bad parts e =
      whole parts
      ∙ (ap (polynomial_refusal t) e
      ∙ late-bad judge cmp us u vs 3 (none-bad us b.places) (coef-bad u bad))

  -- equal neighbours get 6 where no place is bad, however the terms are cut, between the two of them or elsewhere
  pub equal-six : (us vs : List (Term ℕ)) (u v : Term ℕ) → u.mono ≡ v.mono
      → ((j : ℕ) → j < length (us ++ (u ∷ (v ∷ vs))) → GoodCoef t (place_of t (us ++ (u ∷ (v ∷ vs))) j) × GoodWord t (place_of t (us ++ (u ∷ (v ∷ vs))) j))
      → (parts : List (List (Term ℕ))) → together parts ≡ us ++ (u ∷ (v ∷ vs)) → verdict (polynomial_over t (unseen last) parts) ≡ 6
  equal-six us vs u v e b =
      cut-six judge cmp last us u v vs
      (ap (λ (w : ℕ). is_larger (compare_words (order_of t.order) u.mono w)) (sym e) ∙ ap is_larger ((words-order (order_of t.order)).like u.mono))
      (none-bad (us ++ (u ∷ (v ∷ vs))) b)
