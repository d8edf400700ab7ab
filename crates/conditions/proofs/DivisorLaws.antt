-- The divisors: what divisors that pass are, and their test by the order of the starts. Assumes nothing.
use mathlib.Core.Path.{◌≡◌, refl, sym, ap}
use mathlib.Core.Bool.{Bool, true, false}
use mathlib.Core.List.{List, [], ◌∷◌}
use Prim.Native.Nat.{ℕ, zero, suc, ◌+◌, ◌-◌, ◌<◌, ◌≤◌}
use native.Mathlib.Numerals.{add-one}
use native.Mathlib.Omega.{arith}
use borrow.Author.Tests.{leb-true, lt-ltb, ltb-true}
use lib.Dec.{ltb}
use lib.ListN.{length, get_or, take, drop, length-drop}
use lib.Seq.{take_all}
use Rattle.std.specs.List.{IsAllAdjacentAnswer}
use Rattle.monomial.proofs.Places.{and_both}
use Rattle.conditions.specs.Divisors.{none_zero, divisors_good}
use Rattle.conditions.proofs.Tests.{both, clash}

-- ---- what passes
rising : (ss : List ℕ) → none_zero ss ≡ true → (k : ℕ) → k + 1 < length ss → get_or ss k 0 < get_or ss (suc k) 0
unfolding none_zero
rising [] h k l = absurd (let z : ⊥ = omega arith in z)
rising (s ∷ []) h k l = absurd (let z : ⊥ = omega arith in z)
rising (s ∷ (t ∷ ss)) h zero l = leb-true (suc s) t (and_both (ltb s t) (none_zero (t ∷ ss)) h).0
rising (s ∷ (t ∷ ss)) h (suc k) l = rising (t ∷ ss) (and_both (ltb s t) (none_zero (t ∷ ss)) h).1 k (let m : k + 1 < suc (length ss) = omega arith in m)

pub divisors-rise : (ss : List ℕ) → divisors_good ss ≡ true → (k : ℕ) → 1 ≤ k → k + 1 < length ss → get_or ss k 0 < get_or ss (k + 1) 0
divisors-rise [] h k one l = absurd (let z : ⊥ = omega arith in z)
divisors-rise (s ∷ ss) h zero one l = absurd (let z : ⊥ = omega arith in z)
divisors-rise (s ∷ ss) h (suc k) one l = rw (add-one (suc k)) (rising ss h k (let m : k + 1 < length ss = omega arith in m))

-- what a good shape is

rise-none : (s : ℕ) (ss : List ℕ) → ((k : ℕ) → k + 1 < length (s ∷ ss) → get_or (s ∷ ss) k 0 < get_or ss k 0) → none_zero (s ∷ ss) ≡ true
unfolding none_zero
rise-none s [] h = refl
rise-none s (t ∷ ss) h = both (ltb s t) (none_zero (t ∷ ss)) (lt-ltb s t (h 0 (omega arith))) (rise-none t ss (λ k l. h (suc k) (omega (arith, l))))

pub rise-good : (ss : List ℕ) → ((k : ℕ) → 1 ≤ k → k + 1 < length ss → get_or ss k 0 < get_or ss (k + 1) 0) → divisors_good ss ≡ true
unfolding none_zero
rise-good [] h = refl
rise-good (s ∷ []) h = refl
rise-good (s ∷ (t ∷ ss)) h = rise-none t ss (λ k l. let q = h (suc k) (omega arith) (omega (arith, l)) in let e : get_or (s ∷ (t ∷ ss)) (suc k + 1) 0 ≡ get_or ss k 0 = ap (λ (j : ℕ). get_or (s ∷ (t ∷ ss)) j 0) (add-one (suc k)) in omega (arith, q, e))

-- ---- the test by the order of the starts
pub no-starts : (ss : List ℕ) → length ss ≡ 0 → true ≡ divisors_good ss
unfolding none_zero
no-starts [] h = refl
no-starts (s ∷ ss) h = absurd (let z : ⊥ = omega arith in z)

pub sorted-zero : (ss : List ℕ) (r : Bool) → IsAllAdjacentAnswer (λ x y b. b ≡ ltb x y) ss r → r ≡ none_zero ss
unfolding none_zero
sorted-zero [] true h = refl
sorted-zero (s ∷ ss) true h = sym (rise-none s ss (λ k l. let e : get_or (s ∷ ss) (k + 1) 0 ≡ get_or ss k 0 = ap (λ (j : ℕ). get_or (s ∷ ss) j 0) (add-one k) in omega (arith, ltb-true (get_or (s ∷ ss) k 0) (get_or (s ∷ ss) (k + 1) 0) (sym (h k 0 l)), e)))
sorted-zero ss false h = by (none_zero ss) refl
  where
    by : (b : Bool) → none_zero ss ≡ b → false ≡ b
    by false e = refl
    by true e = absurd (clash (sym (h.2 0)) (lt-ltb (get_or ss h.0 0) (get_or ss (h.0 + 1) 0) (rw (add-one h.0) (rising ss e h.0 h.1))))

-- the starts behind the first, as a part up to the end
pub behind-first : (ss : List ℕ) → none_zero (take (length ss - 1) (drop 1 ss)) ≡ divisors_good ss
behind-first ss = ap none_zero (take_all (length ss - 1) (drop 1 ss) (omega (arith, length-drop 1 ss)))
