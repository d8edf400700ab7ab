-- The weights that the run of a script takes stand for the script's own: 24 is judged of both alike, and then they put exponents in the same order. Assumes nothing.
use Prim.Native.Nat.{ℕ, zero, suc, ◌+◌, ◌-◌, ◌*◌, ◌≤◌, ◌<◌, compare}
use native.Mathlib.Omega.{arith}
use mathlib.Core.Path.{◌≡◌, refl, sym, ap, ap₂, ◌∙◌, subst}
use mathlib.Core.List.{List, [], ◌∷◌, ◌++◌, map}
use mathlib.Core.Option.{Option, none, some}
use lib.ListN.{length, get_or, replicate, length-append, length-map, length-replicate}
use lib.Seq.{take_all}
use Rattle.limits.specs.Limits.{largest_weight}
use Rattle.monomial.specs.declared.order.Order.{Order}
use Rattle.monomial.specs.declared.order.Order.TheVariants.{Lex, DegLex, DegRevLex}
use Rattle.monomial.specs.Exponents.{weighted, or_else, lex, rev_lex, compare_in}
use Rattle.monomial.proofs.Places.{weighted-ones}
use Rattle.opening.specs.Judgement.{Between}
use Rattle.opening.specs.Judgement as O
use Rattle.grammar.specs.Grammar.{GoodWeights}
use Rattle.grammar.specs.Parts.{capped_weight, six_weights}
use Rattle.listing.specs.Judgement.{weights_by, InRange, LineInRange}

-- ---- 24
one_at : (k i : ℕ) → i < k → get_or (replicate {A = ℕ} k 1) i 0 ≡ 1
one_at zero i h = absurd (let z : ⊥ = omega arith in z)
one_at (suc k) zero h = refl
one_at (suc k) (suc i) h = one_at k i (omega arith)

in-front : (vs us : List ℕ) (i : ℕ) → i < length vs → get_or (map capped_weight vs ++ us) i 0 ≡ capped_weight (get_or vs i 0)
in-front [] us i h = absurd (let z : ⊥ = omega arith in z)
in-front (v ∷ vs) us zero h = refl
in-front (v ∷ vs) us (suc i) h = in-front vs us i (omega arith)

behind : (vs : List ℕ) (k i : ℕ) → length vs ≤ i → i < length vs + k → get_or (map capped_weight vs ++ replicate k 1) i 0 ≡ 1
behind [] k i l h = one_at k i (omega arith)
behind (v ∷ vs) k zero l h = absurd (let z : ⊥ = omega arith in z)
behind (v ∷ vs) k (suc i) l h = behind vs k i (omega arith) (omega arith)

range_at : (vs : List ℕ) → InRange vs → (i : ℕ) → i < length vs → Between 1 largest_weight (get_or vs i 0)
range_at [] r i h = absurd (let z : ⊥ = omega arith in z)
range_at (v ∷ vs) r zero h = r.0
range_at (v ∷ vs) r (suc i) h = range_at vs r.1 i (omega arith)

at-range : (vs : List ℕ) → ((i : ℕ) → i < length vs → Between 1 largest_weight (get_or vs i 0)) → InRange vs
at-range [] f = tt
at-range (v ∷ vs) f = (f 0 (omega arith), at-range vs (λ i h. f (suc i) (omega arith)))

-- a weight over 16 is one over 16 still
uncapped : (v : ℕ) → Between 1 largest_weight (capped_weight v) → Between 1 largest_weight v
uncapped v b = (omega (arith, b.0), omega (arith, b.1))

capped-between : (v : ℕ) → Between 1 largest_weight v → Between 1 largest_weight (capped_weight v)
capped-between v b = (omega (arith, b.0), omega (arith, b.1))

module _ (vs : List ℕ) (few : length vs ≤ 6) where
  abbrev k : ℕ
  k = 6 - length vs

  abbrev laid : List ℕ
  laid = map capped_weight vs ++ replicate (6 - length vs) 1

  six-is : six_weights (some vs) ≡ laid
  six-is = ap (λ (l : List ℕ). map capped_weight l ++ replicate (6 - length vs) 1) (take_all 6 vs few)

  laid-long : length laid ≡ 6
  laid-long = omega (arith, few, length-append (map capped_weight vs) (replicate {A = ℕ} k 1), length-map vs capped_weight, length-replicate {A = ℕ} k 1)

  own_range : O.GoodWeights (length vs) laid → InRange vs
  own_range g = at-range vs (λ i h. uncapped (get_or vs i 0) (subst (Between 1 largest_weight) (in-front vs (replicate k 1) i h) (g.in-range i (omega (arith, laid-long, few)) h)))

  laid-good : InRange vs → O.GoodWeights (length vs) laid
  laid-good r = record {
    in-range = λ i l h. subst (Between 1 largest_weight) (sym (in-front vs (replicate k 1) i h)) (capped-between (get_or vs i 0) (range_at vs r i h));
    beyond-one = λ i l h. behind vs k i h (omega (arith, laid-long, few, l));
  }

pub weights-alike : (n : ℕ) (weights : Option (List ℕ)) → n ≤ 6 → GoodWeights n weights → (O.GoodWeights n (six_weights weights) → LineInRange weights) × (LineInRange weights → O.GoodWeights n (six_weights weights))
weights-alike n none few g = (λ h. tt, λ h. record { in-range = λ i l m. let e : get_or (replicate {A = ℕ} 6 1) i 0 ≡ 1 = one_at 6 i l in (omega (arith, e), omega (arith, e)); beyond-one = λ i l m. one_at 6 i l })
weights-alike n (some vs) few g =
    let l : length vs ≤ 6 = omega (arith, few, g.1) in (
      λ h. own_range vs l (subst (λ (m : ℕ). O.GoodWeights m (laid vs l)) (sym g.1) (subst (O.GoodWeights n) (six-is vs l) h)),
      λ r. subst (O.GoodWeights n) (sym (six-is vs l)) (subst (λ (m : ℕ). O.GoodWeights m (laid vs l)) g.1 (laid-good vs l r)),
    )

-- ---- the order
uncapped-all : (vs : List ℕ) → InRange vs → map capped_weight vs ≡ vs
uncapped-all [] r = refl
uncapped-all (v ∷ vs) r = ap₂ ◌∷◌ (let e : capped_weight v ≡ v = omega (arith, r.0.1) in e) (uncapped-all vs r.1)

-- weights beyond the exponents do not matter
weighted-front : (vs us α : List ℕ) → length α ≤ length vs → weighted (vs ++ us) α ≡ weighted vs α
weighted-front [] us [] h = none-weighted us
  where
    none-weighted : (us : List ℕ) → weighted us [] ≡ 0
    none-weighted [] = refl
    none-weighted (u ∷ us) = refl
weighted-front [] us (a ∷ α) h = absurd (let z : ⊥ = omega arith in z)
weighted-front (v ∷ vs) us [] h = refl
weighted-front (v ∷ vs) us (a ∷ α) h = ap (λ (x : ℕ). v * a + x) (weighted-front vs us α (omega arith))

same-weight : (n : ℕ) (weights : Option (List ℕ)) → n ≤ 6 → GoodWeights n weights → LineInRange weights → (α : List ℕ) → length α ≡ n → weighted (six_weights weights) α ≡ weighted (weights_by n weights) α
same-weight n none few g r α h = weighted-ones 6 α (omega (arith, h, few)) ∙ sym (weighted-ones n α (omega (arith, h)))
same-weight n (some vs) few g r α h =
    let l : length vs ≤ 6 = omega (arith, few, g.1) in
    ap (λ (ws : List ℕ). weighted ws α) (six-is vs l ∙ ap (λ (ws : List ℕ). ws ++ replicate (6 - length vs) 1) (uncapped-all vs r)) ∙ weighted-front vs (replicate (6 - length vs) 1) α (omega (arith, h, g.1))

by-weight : (o : Order) (us vs α β : List ℕ) → weighted us α ≡ weighted vs α → weighted us β ≡ weighted vs β → compare_in o us α β ≡ compare_in o vs α β
by-weight Lex us vs α β e f = refl
by-weight DegLex us vs α β e f = ap₂ (λ (x y : ℕ). or_else (compare x y) (lex α β)) e f
by-weight DegRevLex us vs α β e f = ap₂ (λ (x y : ℕ). or_else (compare x y) (rev_lex α β)) e f

-- for exponents of the script's variables
pub same-order : (o : Order) (n : ℕ) (weights : Option (List ℕ)) → n ≤ 6 → GoodWeights n weights → LineInRange weights → (α β : List ℕ) → length α ≡ n → length β ≡ n → compare_in o (six_weights weights) α β ≡ compare_in o (weights_by n weights) α β
same-order o n weights few g r α β h k = by-weight o (six_weights weights) (weights_by n weights) α β (same-weight n weights few g r α h) (same-weight n weights few g r β k)
