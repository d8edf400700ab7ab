-- What the meaning of a remainder bars. Where no monomial that is meant, times that of g, gives that of t, the term t is no sum of multiples of g; so x1 is no sum of multiples of x2, by exponents or in words. Assumes nothing.
use mathlib.Core.Path.{◌≡◌, refl, sym, ap, ◌∙◌}
use mathlib.Core.List.{List, [], ◌∷◌, ◌++◌}
use mathlib.Core.Logic.{⊎_elim}
use Prim.Native.Nat.{ℕ, ◌+◌, ◌*◌, ◌%◌, ◌<◌, Ordering}
use native.Mathlib.Nat.{zero-mod}
use native.Mathlib.Omega.{arith}
use lib.ListN.{length, get_or}
use Rattle.monomial.specs.declared.order.Order.{Order}
use Rattle.monomial.specs.TotalOrder.{TotalOrder}
use Rattle.monomial.specs.Exponents.{product}
use Rattle.monomial.specs.Layout.{word_of, exponents, Layout}
use Rattle.monomial.specs.Words.{compare_words}
use Rattle.monomial.proofs.LayoutLaws.{exponents-word, layout-word}
use Rattle.monomial.proofs.WordLaws.{product-exponents}
use Rattle.monomial.proofs.OrderLaws.{words-order}
use Rattle.polynomial.specs.Terms.{Term, term, here, total}
use Rattle.polynomial.specs.Multiple.{multiple}
use Rattle.polynomial.proofs.CoefLaws.{coef-lead}
use Rattle.division.specs.Divisors.{Among}
use Rattle.division.specs.Combination.{Multiplier, AllByDivisors, combined, Combination}

module _ {A : Type 0} (cmp : A → A → Ordering) (O : TotalOrder A cmp) (◌·◌ : A → A → A) (Is : A → Type 0) (p : ℕ) (g t : Term A) (never : (q : A) → Is q → ◌·◌ q g.mono ≡ t.mono → ⊥) where
  none_here : (q : A) → Is q → (c : ℕ) → here (cmp (◌·◌ q g.mono) t.mono) c ≡ 0
  none_here q i c = by (cmp (◌·◌ q g.mono) t.mono) refl
    where
      by : (o : Ordering) → cmp (◌·◌ q g.mono) t.mono ≡ o → here o c ≡ 0
      by Ordering.lt e = refl
      by Ordering.eq e = absurd (never q i (O.same _ _ e))
      by Ordering.gt e = refl

  none-combined : (ms : List (Multiplier A)) → AllByDivisors Is ((g ∷ []) ∷ []) ms → total cmp t.mono (combined ◌·◌ p ms) ≡ 0
  unfolding AllByDivisors combined Among total
  none-combined [] a = refl
  none-combined (m ∷ ms) a =
      let e : m.of ≡ g ∷ [] = ⊎_elim (λ x. x) (λ x. absurd x) a.0.1 in
      let z : here (cmp (◌·◌ m.by.mono g.mono) t.mono) (m.by.coef * g.coef % p) + total cmp t.mono (combined ◌·◌ p ms) ≡ 0 = omega (arith, none_here m.by.mono a.0.0 (m.by.coef * g.coef % p), none-combined ms a.1) in
      ap (λ (f : List (Term A)). total cmp t.mono (multiple ◌·◌ p m.by.coef m.by.mono f ++ combined ◌·◌ p ms)) e ∙ z

  pub never-multiple : 0 < t.coef → t.coef < p → Combination cmp ◌·◌ Is p ((g ∷ []) ∷ []) (t ∷ []) [] → ⊥
  never-multiple pos small c =
      let l = coef-lead cmp O p t [] (record { falling = (tt, tt); reduced = ((pos, small), tt) }) in
      let z : t.coef ≡ 0 = sym l ∙ (c.same t.mono ∙ (ap (λ (k : ℕ). k % p) (none-combined c.multipliers c.by-divisors) ∙ zero-mod p)) in
      omega (arith, z, pos)

-- no product with x2 is x1
pub never-x1 : (α : List ℕ) → product α (0 ∷ 1 ∷ []) ≡ 1 ∷ 0 ∷ [] → ⊥
never-x1 [] e = let z : ◌≡◌ {A = ℕ} 0 2 = ap length e in omega (arith, z)
never-x1 (a ∷ []) e = let z : ◌≡◌ {A = ℕ} 1 2 = ap length e in omega (arith, z)
never-x1 (a ∷ (b ∷ α)) e = let z : b + 1 ≡ 0 = ap (λ (l : List ℕ). get_or l 1 0) e in omega (arith, z)

-- In words: their sum as numbers could take x2 to x1, but by no word of the layout.
pub absurd-in-words : (o : Order) (vs : List ℕ) → Combination (compare_words o) ◌+◌ (λ w. Layout o 2 vs w) 7 ((term (word_of o vs (0 ∷ 1 ∷ [])) 1 ∷ []) ∷ []) (term (word_of o vs (1 ∷ 0 ∷ [])) 1 ∷ []) [] → ⊥
absurd-in-words o vs = never-multiple (compare_words o) (words-order o) ◌+◌ (λ w. Layout o 2 vs w) 7 (term (word_of o vs (0 ∷ 1 ∷ [])) 1) (term (word_of o vs (1 ∷ 0 ∷ [])) 1) never (omega arith) (omega arith)
  where
    x2 : exponents o 2 (word_of o vs (0 ∷ 1 ∷ [])) ≡ 0 ∷ 1 ∷ []
    x2 = exponents-word o 2 vs (0 ∷ 1 ∷ []) refl (omega arith) (omega arith, (omega arith, tt))

    x1 : exponents o 2 (word_of o vs (1 ∷ 0 ∷ [])) ≡ 1 ∷ 0 ∷ []
    x1 = exponents-word o 2 vs (1 ∷ 0 ∷ []) refl (omega arith) (omega arith, (omega arith, tt))

    never : (q : ℕ) → Layout o 2 vs q → q + word_of o vs (0 ∷ 1 ∷ []) ≡ word_of o vs (1 ∷ 0 ∷ []) → ⊥
    never q l e =
        never-x1 (exponents o 2 q)
        (ap (product (exponents o 2 q)) (sym x2)
        ∙ (sym (product-exponents o 2 vs q (word_of o vs (0 ∷ 1 ∷ [])) (omega arith) l (layout-word o 2 vs (0 ∷ 1 ∷ []) refl (omega arith) (omega arith, (omega arith, tt))))
        ∙ (ap (exponents o 2) e ∙ x1)))
