-- The starts of lent polynomials: their test by the first, the order and the last, and what good starts give. Assumes nothing.
use mathlib.Core.Path.{◌≡◌, refl, sym, ap, ◌∙◌}
use mathlib.Core.Bool.{Bool, true, false, ◌&&◌}
use mathlib.Core.List.{List, [], ◌∷◌}
use Prim.Native.Nat.{ℕ, zero, suc, ◌+◌, ◌-◌, ◌<◌, ◌≤◌, zero-le, suc-le-suc}
use native.Mathlib.Nat.{le_of_suc-le-suc}
use native.Mathlib.Numerals.{add-one}
use native.Mathlib.Omega.{arith}
use borrow.Author.Tests.{le-leb, eq-eqb, ne_eqb, leb-true, eqb-true}
use lib.Dec.{leb, eqb}
use lib.ListN.{length, get_or, drop, length-drop}
use lib.Seq.{length-take-le}
use Rattle.std.specs.List.Sorted.{IsNonDecreasing}
use Rattle.monomial.proofs.Places.{and_both}
use Rattle.polynomial.specs.Opening.{rise_to, starts_good, part_of, Within}

pub none-bad : (ss : List ℕ) (len : ℕ) → length ss ≡ 0 → false ≡ starts_good ss len
unfolding starts_good
none-bad [] len h = refl
none-bad (s ∷ ss) len h = absurd (let z : ⊥ = omega arith in z)

pub first-bad : (ss : List ℕ) (len : ℕ) → (length ss ≡ 0 → ⊥) → (get_or ss 0 0 ≡ 0 → ⊥) → false ≡ starts_good ss len
unfolding starts_good
first-bad [] len h k = absurd (h refl)
first-bad (s ∷ ss) len h k = sym (ap (λ (b : Bool). b && rise_to s ss len) (ne_eqb s 0 k))

-- ---- the test by the first start, the order and the last start
rise-ends : (s : ℕ) (ss : List ℕ) (len : ℕ) → ((k : ℕ) → k < length ss → get_or (s ∷ ss) k 0 ≤ get_or ss k 0) → rise_to s ss len ≡ eqb (get_or (s ∷ ss) (length ss) 0) len
unfolding rise_to
rise-ends s [] len h = refl
rise-ends s (t ∷ ss) len h = ap (λ (b : Bool). b && rise_to t ss len) (le-leb s t (h 0 (suc-le-suc zero-le))) ∙ rise-ends t ss len (λ k l. h (suc k) (suc-le-suc l))

-- `last` is the last of the starts
pub sorted-good : (ss : List ℕ) (len last : ℕ) → 0 < length ss → get_or ss 0 0 ≡ 0 → IsNonDecreasing ss → last ≡ get_or ss (length ss - 1) 0 → eqb last len ≡ starts_good ss len
unfolding starts_good
sorted-good [] len last some z h e = absurd (let z : ⊥ = omega arith in z)
sorted-good (s ∷ ss) len last some z h e =
    ap (λ (k : ℕ). eqb k len) (e ∙ ap (λ (k : ℕ). get_or (s ∷ ss) k 0) (let q : length (s ∷ ss) - 1 ≡ length ss = omega arith in q))
    ∙ (sym (rise-ends s ss len (λ k l. h k (suc k) 0 (omega arith) (suc-le-suc l)))
    ∙ sym (ap (λ (b : Bool). b && rise_to s ss len) (eq-eqb s 0 z)))

-- ---- what good starts give: each polynomial is a part of the slices
rise-within : (s : ℕ) (ss : List ℕ) (len : ℕ) → rise_to s ss len ≡ true → (k : ℕ) → k < length ss → (get_or (s ∷ ss) k 0 ≤ get_or ss k 0) × (get_or ss k 0 ≤ len)
unfolding rise_to
rise-within s [] len h k l = absurd (let z : ⊥ = omega arith in z)
rise-within s (t ∷ ss) len h zero l =
    let e = and_both (leb s t) (rise_to t ss len) h in
    (leb-true s t e.0, below t ss e.1)
  where
    below : (u : ℕ) (us : List ℕ) → rise_to u us len ≡ true → u ≤ len
    below u [] q = let w = eqb-true u len q in omega arith
    below u (v ∷ us) q = let f = and_both (leb u v) (rise_to v us len) q in let a = leb-true u v f.0 in let b = below v us f.1 in omega arith
rise-within s (t ∷ ss) len h (suc k) l = rise-within t ss len (and_both (leb s t) (rise_to t ss len) h).1 k (le_of_suc-le-suc l)

pub good-within : (ss : List ℕ) (len : ℕ) → starts_good ss len ≡ true → (k : ℕ) → k + 1 < length ss → Within ss k len
unfolding starts_good
good-within [] len h k l = absurd (let z : ⊥ = omega arith in z)
good-within (s ∷ ss) len h k l =
    let e = rise-within s ss len (and_both (eqb s 0) (rise_to s ss len) h).1 k (let m : k < length ss = omega arith in m) in
    let q : get_or (s ∷ ss) (k + 1) 0 ≡ get_or ss k 0 = ap (λ (n : ℕ). get_or (s ∷ ss) n 0) (add-one k) in
    record { there = l; rise = omega (arith, e.0); ends = omega (arith, e.1) }

-- starts of which one falls are not good
pub falls-bad : (ss : List ℕ) (len k : ℕ) → k + 1 < length ss → get_or ss (k + 1) 0 < get_or ss k 0 → false ≡ starts_good ss len
falls-bad ss len k l h = by (starts_good ss len) refl
  where
    by : (b : Bool) → starts_good ss len ≡ b → false ≡ b
    by false e = refl
    by true e = absurd (let w = good-within ss len e k l in let f = w.rise in omega arith)

-- the terms of polynomial k
pub part-long : (starts : List ℕ) (k : ℕ) (l : List ℕ) → Within starts k (length l) → length (part_of starts k l) ≡ get_or starts (k + 1) 0 - get_or starts k 0
part-long starts k l w = length-take-le (get_or starts (k + 1) 0 - get_or starts k 0) (drop (get_or starts k 0) l) (let e = w.ends in omega (arith, w.rise, length-drop (get_or starts k 0) l))
