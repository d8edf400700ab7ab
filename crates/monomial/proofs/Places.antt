-- Lists worked on place by place: how `each`, `below`, `divides` and `weighted` go with `++`, `reverse`, `take` and `drop`. Assumes nothing.
use mathlib.Core.Path.{◌≡◌, refl, sym, ap, ap₂, ◌∙◌}
use mathlib.Core.Bool.{Bool, true, false, ◌&&◌, and_assoc, and_comm, and-true}
use mathlib.Core.List.{List, [], ◌∷◌, ◌++◌, reverse, reverse-cons, reverse-reverse}
use Prim.Native.Nat.{ℕ, zero, suc, ◌+◌, ◌-◌, ◌*◌, ◌<◌, ◌≤◌}
use native.Mathlib.Nat.{zero-add, zero-mul}
use native.Mathlib.Omega.{arith}
use borrow.Author.Tests.{lt-ltb, le-ltb, le-leb, lt-leb, ltb-true}
use native.Mathlib.Decide.{dec_le}
use lib.Dec.{leb, ltb}
use lib.ListN.{length, get_or, take, drop, replicate, length-append}
use Rattle.monomial.specs.declared.order.Order.{Order}
use Rattle.monomial.specs.declared.order.Order.TheVariants.{Lex, DegLex, DegRevLex}
use Rattle.monomial.specs.Exponents.{degree, weighted, each, quotient, divides}
use Rattle.monomial.specs.Layout.{Below, below, upward}

-- ---- lengths
pub length-reverse : (α : List ℕ) → length (reverse α) ≡ length α
length-reverse [] = refl
length-reverse (a ∷ α) = ap length (reverse-cons a α) ∙ omega (arith, length-append (reverse α) (a ∷ []), length-reverse α)

pub length-each : (f : ℕ → ℕ → ℕ) (α β : List ℕ) → length α ≡ length β → length (each f α β) ≡ length α
length-each f [] β h = refl
length-each f (a ∷ α) [] h = sym h
length-each f (a ∷ α) (b ∷ β) h = ap suc (length-each f α β (omega arith))

-- ---- each
module _ (f : ℕ → ℕ → ℕ) where
  each_none : (α : List ℕ) → each f α [] ≡ []
  each_none [] = refl
  each_none (a ∷ α) = refl

  pub each_append : (α β γ δ : List ℕ) → length α ≡ length β → each f (α ++ γ) (β ++ δ) ≡ each f α β ++ each f γ δ
  each_append [] [] γ δ h = refl
  each_append [] (b ∷ β) γ δ h = absurd (let z : ⊥ = omega arith in z)
  each_append (a ∷ α) [] γ δ h = absurd (let z : ⊥ = omega arith in z)
  each_append (a ∷ α) (b ∷ β) γ δ h = ap (λ (l : List ℕ). f a b ∷ l) (each_append α β γ δ (omega arith))

  each-reverse : (α β : List ℕ) → length α ≡ length β → each f (reverse α) (reverse β) ≡ reverse (each f α β)
  each-reverse [] [] h = refl
  each-reverse [] (b ∷ β) h = absurd (let z : ⊥ = omega arith in z)
  each-reverse (a ∷ α) [] h = absurd (let z : ⊥ = omega arith in z)
  each-reverse (a ∷ α) (b ∷ β) h =
      ap₂ (each f) (reverse-cons a α) (reverse-cons b β)
      ∙ (each_append (reverse α) (reverse β) (a ∷ []) (b ∷ []) (omega (arith, length-reverse α, length-reverse β))
      ∙ (ap (λ (l : List ℕ). l ++ (f a b ∷ [])) (each-reverse α β (omega arith)) ∙ sym (reverse-cons (f a b) (each f α β))))

  pub each_take : (n : ℕ) (α β : List ℕ) → each f (take n α) (take n β) ≡ take n (each f α β)
  each_take zero α β = refl
  each_take (suc n) [] β = refl
  each_take (suc n) (a ∷ α) [] = refl
  each_take (suc n) (a ∷ α) (b ∷ β) = ap (λ (l : List ℕ). f a b ∷ l) (each_take n α β)

  pub each-drop : (n : ℕ) (α β : List ℕ) → each f (drop n α) (drop n β) ≡ drop n (each f α β)
  each-drop zero α β = refl
  each-drop (suc n) [] β = refl
  each-drop (suc n) (a ∷ α) [] = each_none (drop n α)
  each-drop (suc n) (a ∷ α) (b ∷ β) = each-drop n α β

-- ---- below: the test and the statement
pub below_true : (k : ℕ) (α : List ℕ) → Below k α → below k α ≡ true
below_true k [] h = refl
below_true k (a ∷ α) h = rw (lt-ltb a k h.0, below_true k α h.1)

pub and_both : (a b : Bool) → (a && b) ≡ true → (a ≡ true) × (b ≡ true)
and_both true b h = (refl, h)
and_both false b h = let z : ◌≡◌ {A = ℕ} 0 1 = cc in absurd (let q : ⊥ = omega arith in q)

pub true_below : (k : ℕ) (α : List ℕ) → below k α ≡ true → Below k α
true_below k [] h = tt
true_below k (a ∷ α) h = let e = and_both (ltb a k) (below k α) h in (ltb-true a k e.0, true_below k α e.1)

pub below-append : (k : ℕ) (α β : List ℕ) → below k (α ++ β) ≡ (below k α && below k β)
below-append k [] β = refl
below-append k (a ∷ α) β = ap (λ (t : Bool). ltb a k && t) (below-append k α β) ∙ sym (and_assoc (ltb a k) (below k α) (below k β))

pub below-reverse : (k : ℕ) (α : List ℕ) → below k (reverse α) ≡ below k α
below-reverse k [] = refl
below-reverse k (a ∷ α) =
    ap (below k) (reverse-cons a α)
    ∙ (below-append k (reverse α) (a ∷ [])
    ∙ (ap₂ ◌&&◌ (below-reverse k α) (and-true (ltb a k)) ∙ and_comm (below k α) (ltb a k)))

pub below-zeros : (k n : ℕ) → below (suc k) (replicate n 0) ≡ true
below-zeros k zero = refl
below-zeros k (suc n) = rw (lt-ltb 0 (suc k) (omega arith), below-zeros k n)

-- numbers below 1 are zeros
pub zeros : (α : List ℕ) → Below 1 α → α ≡ replicate (length α) 0
zeros [] h = refl
zeros (a ∷ α) h = ap₂ ◌∷◌ (let e : a ≡ 0 = omega arith in e) (zeros α h.1)

pub Below-more : (j k : ℕ) (α : List ℕ) → j ≤ k → Below j α → Below k α
Below-more j k [] h l = tt
Below-more j k (a ∷ α) h l = (let e : a < k = omega arith in e, Below-more j k α h l.1)

-- ---- divides, by each
pub divides-each : (β α : List ℕ) → length β ≡ length α → divides β α ≡ below 1 (quotient β α)
divides-each [] [] h = refl
divides-each [] (a ∷ α) h = absurd (let z : ⊥ = omega arith in z)
divides-each (b ∷ β) [] h = absurd (let z : ⊥ = omega arith in z)
divides-each (b ∷ β) (a ∷ α) h = ap₂ ◌&&◌ (go (dec_le b a)) (divides-each β α (omega arith))
  where
    go : Dec (b ≤ a) → leb b a ≡ ltb (b - a) 1
    go (yes l) = le-leb b a l ∙ sym (lt-ltb (b - a) 1 (omega arith))
    go (no l) = lt-leb b a (omega arith) ∙ sym (le-ltb (b - a) 1 (omega arith))

-- ---- weighted
pub weighted-none : (vs : List ℕ) → weighted vs [] ≡ 0
weighted-none [] = refl
weighted-none (v ∷ vs) = refl

pub weighted-append : (vs us α β : List ℕ) → length vs ≡ length α → weighted (vs ++ us) (α ++ β) ≡ weighted vs α + weighted us β
weighted-append [] us [] β h = sym (zero-add (weighted us β))
weighted-append [] us (a ∷ α) β h = absurd (let z : ⊥ = omega arith in z)
weighted-append (v ∷ vs) us [] β h = absurd (let z : ⊥ = omega arith in z)
weighted-append (v ∷ vs) us (a ∷ α) β h = omega (arith, weighted-append vs us α β (omega arith))

weighted-reverse : (vs α : List ℕ) → length vs ≡ length α → weighted (reverse vs) (reverse α) ≡ weighted vs α
weighted-reverse [] [] h = refl
weighted-reverse [] (a ∷ α) h = absurd (let z : ⊥ = omega arith in z)
weighted-reverse (v ∷ vs) [] h = absurd (let z : ⊥ = omega arith in z)
weighted-reverse (v ∷ vs) (a ∷ α) h =
    ap₂ weighted (reverse-cons v vs) (reverse-cons a α)
    ∙ omega (arith, weighted-append (reverse vs) (v ∷ []) (reverse α) (a ∷ []) (omega (arith, length-reverse vs, length-reverse α)), weighted-reverse vs α (omega arith))

pub weighted-zeros : (vs : List ℕ) (n : ℕ) → weighted vs (replicate n 0) ≡ 0
weighted-zeros [] n = refl
weighted-zeros (v ∷ vs) zero = refl
weighted-zeros (v ∷ vs) (suc n) = omega (arith, weighted-zeros vs n)

-- one exponent more
pub weighted-more : (vs α : List ℕ) (a : ℕ) → weighted vs (α ++ (a ∷ [])) ≡ weighted vs α + get_or vs (length α) 0 * a
weighted-more [] α a = omega (arith, zero-mul a)
weighted-more (v ∷ vs) [] a = omega (arith, weighted-none vs)
weighted-more (v ∷ vs) (b ∷ α) a = omega (arith, weighted-more vs α a)

-- exponents of 0 at the end add nothing
pub weighted-enough : (vs : List ℕ) (n : ℕ) (α : List ℕ) → Below 1 (drop n α) → weighted vs (take n α) ≡ weighted vs α
weighted-enough [] n α h = refl
weighted-enough (v ∷ vs) zero α h = sym (ap (weighted (v ∷ vs)) (zeros α h) ∙ weighted-zeros (v ∷ vs) (length α))
weighted-enough (v ∷ vs) (suc n) [] h = refl
weighted-enough (v ∷ vs) (suc n) (a ∷ α) h = ap (λ (m : ℕ). v * a + m) (weighted-enough vs n α h)

-- with weights of 1 the weighted degree is the degree
pub weighted-ones : (k : ℕ) (α : List ℕ) → length α ≤ k → weighted (replicate k 1) α ≡ degree α
weighted-ones zero [] h = refl
weighted-ones zero (a ∷ α) h = absurd (let z : ⊥ = omega arith in z)
weighted-ones (suc k) [] h = refl
weighted-ones (suc k) (a ∷ α) h = omega (arith, weighted-ones k α (omega arith))

-- ---- the fields as they lie, and back
pub upward-upward : (o : Order) (α : List ℕ) → upward o (upward o α) ≡ α
upward-upward Lex α = reverse-reverse α
upward-upward DegLex α = reverse-reverse α
upward-upward DegRevLex α = refl

pub length-upward : (o : Order) (α : List ℕ) → length (upward o α) ≡ length α
length-upward Lex α = length-reverse α
length-upward DegLex α = length-reverse α
length-upward DegRevLex α = refl

pub each-upward : (f : ℕ → ℕ → ℕ) (o : Order) (α β : List ℕ) → length α ≡ length β → each f (upward o α) (upward o β) ≡ upward o (each f α β)
each-upward f Lex α β h = each-reverse f α β h
each-upward f DegLex α β h = each-reverse f α β h
each-upward f DegRevLex α β h = refl

pub below-upward : (k : ℕ) (o : Order) (α : List ℕ) → below k (upward o α) ≡ below k α
below-upward k Lex α = below-reverse k α
below-upward k DegLex α = below-reverse k α
below-upward k DegRevLex α = refl

pub weighted-upward : (o : Order) (vs α : List ℕ) → length vs ≡ length α → weighted (upward o vs) (upward o α) ≡ weighted vs α
weighted-upward Lex vs α h = weighted-reverse vs α h
weighted-upward DegLex vs α h = weighted-reverse vs α h
weighted-upward DegRevLex vs α h = refl
