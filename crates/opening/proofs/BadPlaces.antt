-- 4, 5 and 6 of a polynomial, by its places: each comes where it is said to, and there alone. Assumes nothing.
use mathlib.Core.Path.{◌≡◌, refl, subst}
use mathlib.Core.List.{List, [], ◌∷◌}
use mathlib.Core.Logic.{◌⊎◌, inl, inr, ⊎_elim}
use Prim.Native.Nat.{ℕ, zero, suc, ◌<◌, ◌≤◌}
use native.Mathlib.Omega.{arith}
use lib.ListN.{length}
use Rattle.refusal.specs.Judgement.{Judged, AllHold, condition}
use Rattle.refusal.proofs.JudgementLaws.{judged-once, judged-then, judged-stops, judged-parts}
use Rattle.monomial.specs.Layout.{Below}
use Rattle.polynomial.specs.declared.setting.Setting.{Setting}
use Rattle.polynomial.specs.Terms.{Term}
use Rattle.polynomial.specs.Opening.{polynomial_refusal}
use Rattle.opening.specs.Judgement.{GoodCoef, GoodWord, GoodOrder, places_conditions, polynomial_conditions, place_of, BadPlace, BadOrder}
use Rattle.opening.proofs.PolynomialsJudged.{polynomial-judged}

module _ (t : Setting) where
  -- ---- the list of conditions, and the places
  places-bad : (us : List (Term ℕ)) (r : ℕ) → (r ≡ 0 → ⊥) → Judged (places_conditions t us) r → BadPlace t us r
  places-bad [] r some j = absurd (some j)
  places-bad (u ∷ us) r some (inl a) = record { at = 0; there = omega arith; before = λ j l. absurd (let z : ⊥ = omega arith in z); is = inl (a.1, a.0) }
  places-bad (u ∷ us) r some (inr a) = by a.0 a.1 (λ j. places-bad us r some j)
    where
      later : GoodCoef t u → GoodWord t u → BadPlace t us r → BadPlace t (u ∷ us) r
      later c w q = record { at = suc q.at; there = omega (arith, q.there); before = earlier; is = q.is }
        where
          earlier : (j : ℕ) → j < suc q.at → GoodCoef t (place_of t (u ∷ us) j) × GoodWord t (place_of t (u ∷ us) j)
          earlier zero l = (c, w)
          earlier (suc j) l = q.before j (omega (arith, l))

      by : GoodCoef t u → Judged (condition 5 (GoodWord t u) ∷ places_conditions t us) r → (Judged (places_conditions t us) r → BadPlace t us r) → BadPlace t (u ∷ us) r
      by c (inl b) f = record { at = 0; there = omega arith; before = λ j l. absurd (let z : ⊥ = omega arith in z); is = inr (b.1, (c, b.0)) }
      by c (inr b) f = later c b.0 (f b.1)

  bad-places : (us : List (Term ℕ)) (r i : ℕ) → i < length us → ((j : ℕ) → j < i → GoodCoef t (place_of t us j) × GoodWord t (place_of t us j))
      → ((r ≡ 4) × (GoodCoef t (place_of t us i) → ⊥)) ⊎ ((r ≡ 5) × (GoodCoef t (place_of t us i) × (GoodWord t (place_of t us i) → ⊥))) → Judged (places_conditions t us) r
  bad-places [] r i l b e = absurd (let z : ⊥ = omega arith in z)
  bad-places (u ∷ us) r zero l b (inl e) = inl (e.1, e.0)
  bad-places (u ∷ us) r zero l b (inr e) = inr (e.1.0, inl (e.1.1, e.0))
  bad-places (u ∷ us) r (suc i) l b e =
      let g = b 0 (omega arith) in
      inr (g.0, inr (g.1, bad-places us r i (omega arith) (λ j m. b (suc j) (omega (arith, m))) e))

  -- all places are good
  all-places : (us : List (Term ℕ)) → AllHold (places_conditions t us) → (j : ℕ) → j < length us → GoodCoef t (place_of t us j) × GoodWord t (place_of t us j)
  all-places [] a j l = absurd (let z : ⊥ = omega arith in z)
  all-places (u ∷ us) a zero l = (a.0, a.1.0)
  all-places (u ∷ us) a (suc j) l = all-places us a.1.1 j (omega arith)

  pub places-all : (us : List (Term ℕ)) → ((j : ℕ) → j < length us → GoodCoef t (place_of t us j) × GoodWord t (place_of t us j)) → AllHold (places_conditions t us)
  places-all [] b = tt
  places-all (u ∷ us) b = let g = b 0 (omega arith) in (g.0, (g.1, places-all us (λ j m. b (suc j) (omega (arith, m)))))

  which : {us : List (Term ℕ)} {r : ℕ} → BadPlace t us r → (r ≡ 4) ⊎ (r ≡ 5)
  which b = ⊎_elim (λ e. inl e.0) (λ e. inr e.0) b.is

  -- ---- the refusal, both ways
  module _ (few : t.n ≤ 6) (small : Below 17 t.weights) (us : List (Term ℕ)) where
    parts : (r : ℕ) → polynomial_refusal t us ≡ r → Judged (places_conditions t us) r ⊎ (AllHold (places_conditions t us) × Judged (condition 6 (GoodOrder t us) ∷ []) r)
    parts r e = judged-parts (places_conditions t us) (condition 6 (GoodOrder t us) ∷ []) r (subst (λ (s : ℕ). Judged (polynomial_conditions t us) s) e (polynomial-judged t few small us))

    only : (r : ℕ) → Judged (polynomial_conditions t us) r → polynomial_refusal t us ≡ r
    only r j = judged-once (polynomial_conditions t us) (polynomial_refusal t us) r (polynomial-judged t few small us) j

    pub bad-place : (r : ℕ) → (r ≡ 4) ⊎ (r ≡ 5) → polynomial_refusal t us ≡ r → BadPlace t us r
    bad-place r n e = by (parts r e)
      where
        not-zero : r ≡ 0 → ⊥
        not-zero z = ⊎_elim (λ q. let w : ⊥ = omega arith in w) (λ q. let w : ⊥ = omega arith in w) n

        not-six : r ≡ 6 → ⊥
        not-six z = ⊎_elim (λ q. let w : ⊥ = omega arith in w) (λ q. let w : ⊥ = omega arith in w) n

        late : Judged (condition 6 (GoodOrder t us) ∷ []) r → ⊥
        late (inl b) = not-six b.1
        late (inr b) = not-zero b.1

        by : Judged (places_conditions t us) r ⊎ (AllHold (places_conditions t us) × Judged (condition 6 (GoodOrder t us) ∷ []) r) → BadPlace t us r
        by (inl j) = places-bad us r not-zero j
        by (inr a) = absurd (late a.1)

    pub place-bad : (r : ℕ) → BadPlace t us r → polynomial_refusal t us ≡ r
    place-bad r b =
        only r
        (judged-stops (places_conditions t us) (condition 6 (GoodOrder t us) ∷ []) r
        (λ z. ⊎_elim (λ q. let w : ⊥ = omega arith in w) (λ q. let w : ⊥ = omega arith in w) (which b))
        (bad-places us r b.at b.there b.before b.is))

    pub bad-order : polynomial_refusal t us ≡ 6 → BadOrder t us
    bad-order e = by (parts 6 e)
      where
        none : (r : ℕ) → r ≡ 6 → (r ≡ 4) ⊎ (r ≡ 5) → ⊥
        none r z n = ⊎_elim (λ q. let w : ⊥ = omega arith in w) (λ q. let w : ⊥ = omega arith in w) n

        rises : Judged (condition 6 (GoodOrder t us) ∷ []) 6 → GoodOrder t us → ⊥
        rises (inl b) = b.0
        rises (inr b) = absurd (let z : ◌≡◌ {A = ℕ} 6 0 = b.1 in let w : ⊥ = omega arith in w)

        by : Judged (places_conditions t us) 6 ⊎ (AllHold (places_conditions t us) × Judged (condition 6 (GoodOrder t us) ∷ []) 6) → BadOrder t us
        by (inl j) = absurd (none 6 refl (which (places-bad us 6 (λ z. let w : ⊥ = omega arith in w) j)))
        by (inr a) = record { places = all-places us a.0; not-falling = rises a.1 }

    pub order-bad : BadOrder t us → polynomial_refusal t us ≡ 6
    order-bad b = only 6 (judged-then (places_conditions t us) (condition 6 (GoodOrder t us) ∷ []) 6 (places-all us b.places) (inl (b.not-falling, refl)))
