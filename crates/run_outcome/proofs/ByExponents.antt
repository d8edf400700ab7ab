-- The true sum of words of the layout, by their exponents: what holds of the buckets by words holds of what was brought in less what was given out by exponents. Assumes nothing.
use mathlib.Core.Path.{◌≡◌, refl, sym, ap, ap₂, ◌∙◌, subst}
use mathlib.Core.Bool.{Bool, true, false, ◌&&◌, true≢false}
use mathlib.Core.List.{List, [], ◌∷◌}
use mathlib.Core.Logic.{◌⊎◌, inl, inr}
use Prim.Native.Nat.{ℕ, ◌+◌, ◌-◌, ◌%◌, ◌<◌, ◌≤◌, Ordering}
use native.Mathlib.Nat.{mod-eq_of_lt, mod-lt}
use native.Mathlib.Omega.{arith}
use borrow.Author.Tests.{eq-eqb, eqb-true}
use lib.Dec.{eqb}
use lib.ListN.{length}
use Rattle.residue.proofs.Remainder.{cancel, sub_back}
use Rattle.monomial.specs.declared.order.Order.{Order}
use Rattle.monomial.specs.Exponents.{compare_in}
use Rattle.monomial.specs.Layout.{Layout, exponents, word_of, Below, below}
use Rattle.monomial.specs.Words.{compare_words}
use Rattle.monomial.proofs.Places.{and_both, below_true, true_below, Below-more}
use Rattle.monomial.proofs.KeyLaws.{compare-layout}
use Rattle.monomial.proofs.LayoutLaws.{exponents-word, layout-word, length-exponents, exponents-small}
use Rattle.monomial.proofs.OrderLaws.{exponents-order}
use Rattle.polynomial.specs.Terms.{Term, All, here, total, coef_at, Canonical}
use Rattle.geobucket.specs.Buckets.{total_in}
use Rattle.geobucket.specs.Search.{Lead, none, lead}
use Rattle.geobucket.specs.TrueSum.{sum_at}
use Rattle.geobucket.specs.TrueSum.{Right}
use Rattle.division.specs.InExponents.{in_exponents}
use Rattle.division.proofs.HeldTerms.{OfLead}
use Rattle.division.proofs.Renaming.{canonical-renamed}
use Rattle.run_outcome.specs.Runs.{place_of}
use Rattle.run_outcome.specs.GivenOut.{coef_of, true_sum, LeadPlace, SumPlaces}

-- B less G is T, modulo p
difference : (p : ℕ) → 0 < p → (B G T : ℕ) → (G + T) % p ≡ B % p → (B % p + (p - G % p)) % p ≡ T % p
difference p pos B G T h =
    let x = B % p + (p - G % p) in
    let whole : (x % p + G) % p ≡ (T + G) % p = sub_back p pos (B % p) G ∙ (mod-eq_of_lt (mod-lt B pos) ∙ (sym h ∙ ap (λ (k : ℕ). k % p) (let e : G + T ≡ T + G = omega arith in e))) in
    sym (mod-eq_of_lt (mod-lt x pos)) ∙ cancel p pos (x % p) T G whole

module _ (o : Order) (n : ℕ) (vs : List ℕ) (fits : n ≤ 6) (light : Below 17 vs) where
  -- ---- the exponents α are those of a word of the layout, or of none
  record Reached (α : List ℕ) : Type 0 where
    word : ℕ
    is : Layout o n vs word
    exponents-are : exponents o n word ≡ α

  abbrev Missed : List ℕ → Type 0
  Missed α = (w : ℕ) → Layout o n vs w → compare_in o vs (exponents o n w) α ≡ Ordering.eq → ⊥

  test-passed : (w : ℕ) → Layout o n vs w → (eqb (length (exponents o n w)) n && below 128 (exponents o n w)) ≡ true
  test-passed w is = ap₂ (λ (x y : Bool). x && y) (eq-eqb (length (exponents o n w)) n (length-exponents o n w fits)) (below_true 128 (exponents o n w) (exponents-small o n vs w fits is))

  reach : (α : List ℕ) → Reached α ⊎ Missed α
  reach α = by (eqb (length α) n && below 128 α) refl
    where
      by : (b : Bool) → (eqb (length α) n && below 128 α) ≡ b → Reached α ⊎ Missed α
      by true e =
          let h = and_both (eqb (length α) n) (below 128 α) e in
          let long = eqb-true (length α) n h.0 in
          let small = true_below 128 α h.1 in
          inl (record { word = word_of o vs α; is = layout-word o n vs α long fits small; exponents-are = exponents-word o n vs α long fits (Below-more 128 256 α (omega arith) small) })
      by false e = inr (λ w is c. true≢false (sym (test-passed w is) ∙ (ap (λ (β : List ℕ). eqb (length β) n && below 128 β) ((exponents-order o vs).same (exponents o n w) α c) ∙ e)))

  -- ---- the coefficients of exponents, added up
  total-reached : (m : ℕ) → Layout o n vs m → (f : List (Term ℕ)) → All (λ t. Layout o n vs t.mono) f → total (compare_in o vs) (exponents o n m) (in_exponents o n f) ≡ total (compare_words o) m f
  unfolding total
  total-reached m i [] a = refl
  total-reached m i (t ∷ ts) a = ap₂ (λ (x : Ordering) (k : ℕ). here x t.coef + k) (sym (compare-layout o n vs t.mono m fits light a.0 i)) (total-reached m i ts a.1)

  not-here : (x : Ordering) (c : ℕ) → (x ≡ Ordering.eq → ⊥) → here x c ≡ 0
  not-here Ordering.lt c h = refl
  not-here Ordering.eq c h = absurd (h refl)
  not-here Ordering.gt c h = refl

  total-missed : (α : List ℕ) → Missed α → (f : List (Term ℕ)) → All (λ t. Layout o n vs t.mono) f → total (compare_in o vs) α (in_exponents o n f) ≡ 0
  unfolding total
  total-missed α h [] a = refl
  total-missed α h (t ∷ ts) a = ap₂ (λ (x y : ℕ). x + y) (not-here (compare_in o vs (exponents o n t.mono) α) t.coef (h t.mono a.0)) (total-missed α h ts a.1)

  -- ---- what was brought in less what was given out, of buckets that hold the rest
  module _ (p : ℕ) (pos : 0 < p) (brought given : List (Term ℕ)) (bs : List (List (Term ℕ))) (are-brought : All (λ t. Layout o n vs t.mono) brought) (are-given : All (λ t. Layout o n vs t.mono) given) (kept : (m : ℕ) → (total (compare_words o) m given + total_in (compare_words o) m bs) % p ≡ total (compare_words o) m brought % p) where
    true-reached : (m : ℕ) → Layout o n vs m → true_sum o n vs p brought given (exponents o n m) ≡ sum_at (compare_words o) p bs m
    true-reached m i =
        ap₂ (λ (x y : ℕ). (x % p + (p - y % p)) % p) (total-reached m i brought are-brought) (total-reached m i given are-given)
        ∙ difference p pos (total (compare_words o) m brought) (total (compare_words o) m given) (total_in (compare_words o) m bs) (kept m)

    true-missed : (α : List ℕ) → Missed α → true_sum o n vs p brought given α ≡ 0
    true-missed α h =
        ap₂ (λ (x y : ℕ). (x % p + (p - y % p)) % p) (total-missed α h brought are-brought) (total-missed α h given are-given)
        ∙ (difference p pos 0 0 0 refl ∙ mod-eq_of_lt pos)

    true-zero : (α : List ℕ) → ((m : ℕ) → Layout o n vs m → exponents o n m ≡ α → sum_at (compare_words o) p bs m ≡ 0) → true_sum o n vs p brought given α ≡ 0
    true-zero α z = by (reach α)
      where
        by : Reached α ⊎ Missed α → true_sum o n vs p brought given α ≡ 0
        by (inl r) = subst (λ (β : List ℕ). true_sum o n vs p brought given β ≡ 0) r.exponents-are (true-reached r.word r.is ∙ z r.word r.is r.exponents-are)
        by (inr h) = true-missed α h

    pub lead-place : (a : Lead ℕ) → OfLead (Layout o n vs) a → Right (compare_words o) p bs a → LeadPlace o n vs p (true_sum o n vs p brought given) (place_of a)
    lead-place none i r = inr (refl, λ α. true-zero α (λ m l e. r.zero-at m))
    lead-place (lead at t) i r =
        inl (record {
          is = i;
          not-zero = r.not-zero;
          coef-is = true-reached t.mono i ∙ r.coef-is;
          largest = λ α h. true-zero α (λ m l e. r.largest m (compare-layout o n vs m t.mono fits light l i ∙ (ap (λ (β : List ℕ). compare_in o vs β (exponents o n t.mono)) e ∙ h)));
        })

    pub sum-places : (f : List (Term ℕ)) → All (λ t. Layout o n vs t.mono) f → Canonical (compare_words o) p f → ((m : ℕ) → coef_at (compare_words o) p m f ≡ sum_at (compare_words o) p bs m) → SumPlaces o n vs p (true_sum o n vs p brought given) f
    sum-places f are c s = record {
      are = are;
      canonical = canonical-renamed (exponents o n) (Layout o n vs) (compare_words o) (compare_in o vs) (λ a b i j. sym (compare-layout o n vs a b fits light i j)) p f are c;
      coefs-are = λ α. by α (reach α);
    }
      where
        by : (α : List ℕ) → Reached α ⊎ Missed α → coef_of o n vs p f α ≡ true_sum o n vs p brought given α
        by α (inl r) =
            subst (λ (β : List ℕ). coef_of o n vs p f β ≡ true_sum o n vs p brought given β) r.exponents-are
            (ap (λ (k : ℕ). k % p) (total-reached r.word r.is f are) ∙ (s r.word ∙ sym (true-reached r.word r.is)))
        by α (inr h) = ap (λ (k : ℕ). k % p) (total-missed α h f are) ∙ (mod-eq_of_lt pos ∙ sym (true-missed α h))
