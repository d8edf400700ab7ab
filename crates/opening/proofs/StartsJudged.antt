-- The test of the starts is the statement on them. Assumes nothing.
use mathlib.Core.Path.{◌≡◌, refl, sym, ap, ◌∙◌}
use mathlib.Core.Bool.{true}
use mathlib.Core.List.{List, [], ◌∷◌}
use Prim.Native.Nat.{ℕ, suc, ◌+◌, ◌-◌, ◌<◌, ◌≤◌}
use native.Mathlib.Omega.{arith}
use borrow.Author.Tests.{le-leb, eq-eqb, eqb-true}
use lib.Dec.{leb, eqb}
use lib.ListN.{length, get_or}
use Rattle.conditions.proofs.Tests.{both, clash}
use Rattle.monomial.proofs.Places.{and_both}
use Rattle.polynomial.specs.Opening.{rise_to, starts_good}
use Rattle.polynomial.proofs.StartLaws.{good-within}
use Rattle.opening.specs.Judgement.{GoodStarts}

-- the last of s and the starts after it
last-place : (s : ℕ) (ss : List ℕ) → get_or (s ∷ ss) (length (s ∷ ss) - 1) 0 ≡ get_or (s ∷ ss) (length ss) 0
last-place s ss = ap (λ (k : ℕ). get_or (s ∷ ss) k 0) (let e : length (s ∷ ss) - 1 ≡ length ss = omega arith in e)

module _ (len : ℕ) where
  rise-last : (s : ℕ) (ss : List ℕ) → rise_to s ss len ≡ true → get_or (s ∷ ss) (length ss) 0 ≡ len
  unfolding rise_to
  rise-last s [] h = eqb-true s len h
  rise-last s (t ∷ ss) h = rise-last t ss (and_both (leb s t) (rise_to t ss len) h).1

  last-rise : (s : ℕ) (ss : List ℕ) → get_or (s ∷ ss) (length ss) 0 ≡ len → ((k : ℕ) → k + 1 < length (s ∷ ss) → get_or (s ∷ ss) k 0 ≤ get_or (s ∷ ss) (k + 1) 0) → rise_to s ss len ≡ true
  unfolding rise_to
  last-rise s [] e f = eq-eqb s len e
  last-rise s (t ∷ ss) e f = both (leb s t) (rise_to t ss len) (le-leb s t (f 0 (omega arith))) (last-rise t ss e (λ k l. later k l))
    where
      later : (k : ℕ) → k + 1 < length (t ∷ ss) → get_or (t ∷ ss) k 0 ≤ get_or (t ∷ ss) (k + 1) 0
      later k l =
          let q = f (suc k) (omega (arith, l)) in
          let m : get_or (s ∷ (t ∷ ss)) (suc k + 1) 0 ≡ get_or (t ∷ ss) (k + 1) 0 = ap (λ (j : ℕ). get_or (s ∷ (t ∷ ss)) j 0) (let z : suc k + 1 ≡ suc (k + 1) = omega arith in z) in
          omega (arith, q, m)

  pub starts-good : (ss : List ℕ) → starts_good ss len ≡ true → GoodStarts ss len
  unfolding starts_good
  starts-good [] h = absurd (clash refl h)
  starts-good (s ∷ ss) h =
      let e = and_both (eqb s 0) (rise_to s ss len) h in
      record { some = omega arith; first-is = eqb-true s 0 e.0; last-is = last-place s ss ∙ rise-last s ss e.1; none-falls = λ k l. (good-within (s ∷ ss) len h k l).rise }

  pub good-starts : (ss : List ℕ) → GoodStarts ss len → starts_good ss len ≡ true
  unfolding starts_good
  good-starts [] g = absurd (let z = g.some in let q : ⊥ = omega arith in q)
  good-starts (s ∷ ss) g = both (eqb s 0) (rise_to s ss len) (eq-eqb s 0 g.first-is) (last-rise s ss (sym (last-place s ss) ∙ g.last-is) g.none-falls)
