-- Falling chains of monomials in n variables end, in each of the three orders, where each weight is at least 1. Assumes nothing.
use mathlib.Core.Path.{◌≡◌, refl, sym, ◌∙◌, subst}
use mathlib.Core.List.{List, [], ◌∷◌}
use Prim.Native.Nat.{ℕ, zero, suc, ◌-◌, ◌<◌, ◌≤◌, compare, Ordering}
use native.Mathlib.Nat.{mul-le-mul_right, one-mul}
use native.Mathlib.Omega.{arith}
use lib.ListN.{length}
use Rattle.monomial.specs.declared.order.Order.{Order}
use Rattle.monomial.specs.declared.order.Order.TheVariants.{Lex, DegLex, DegRevLex}
use Rattle.monomial.specs.Exponents.{degree, weighted, Positive, or_else, lex, rev_lex, compare_in}
use Rattle.monomial.proofs.Comparing.{compare_same, compare-larger}
use Rattle.monomial.proofs.OrderLaws.{rev-same}
use Rattle.division.specs.Chains.{Ends, ends}

-- an answer that is not "larger"
not-lt : Ordering.lt ≡ Ordering.gt → ⊥
not-lt e = let z : ◌≡◌ {A = ℕ} 0 1 = cc in omega arith

not-eq : Ordering.eq ≡ Ordering.gt → ⊥
not-eq e = let z : ◌≡◌ {A = ℕ} 0 1 = cc in omega arith

-- of two answers one after the other, the first says "larger", or it says "equal" and the second does
data Larger (s t : Ordering) : Type 0 where
  by_first : s ≡ Ordering.gt → Larger s t
  by-second : s ≡ Ordering.eq → t ≡ Ordering.gt → Larger s t

larger : (s t : Ordering) → or_else s t ≡ Ordering.gt → Larger s t
larger Ordering.lt t g = absurd (not-lt g)
larger Ordering.eq t g = by-second refl g
larger Ordering.gt t g = by_first refl

-- exponents of n variables, of a degree up to d
record In (n d : ℕ) (α : List ℕ) : Type 0 where
  pub long : length α ≡ n
  pub low : degree α ≤ d

-- ---- Lex: by the first exponent, then by the others
module _ (n : ℕ) (rest : (α : List ℕ) → length α ≡ n → Ends (λ β. length β ≡ n) lex α) where
  abbrev Long : List ℕ → Type 0
  Long α = length α ≡ suc n

  lex-cons : (k a : ℕ) → a < k → (α : List ℕ) → length (a ∷ α) ≡ suc n → Ends Long lex (a ∷ α)
  lex-cons zero a l α i = absurd (let q : ⊥ = omega (arith, l) in q)
  lex-cons (suc k) a l α i = elim (rest α (omega (arith, i))) as (λ x e. Ends Long lex (a ∷ x)) [ ends x (h → ih) ↦ ends (a ∷ x) (λ β j g. by x ih (λ c m γ j. lex-cons k c m γ j) β j g) ]
    where
      by : (x : List ℕ) → ((β : List ℕ) → length β ≡ n → lex x β ≡ Ordering.gt → Ends Long lex (a ∷ β)) → ((c : ℕ) → c < k → (γ : List ℕ) → length (c ∷ γ) ≡ suc n → Ends Long lex (c ∷ γ)) → (β : List ℕ) → length β ≡ suc n → lex (a ∷ x) β ≡ Ordering.gt → Ends Long lex β
      by x ih out [] j g = absurd (let q : ⊥ = omega (arith, j) in q)
      by x ih out (c ∷ γ) j g = go (larger (compare a c) (lex x γ) g)
        where
          go : Larger (compare a c) (lex x γ) → Ends Long lex (c ∷ γ)
          go (by_first e) = out c (omega (arith, compare-larger a c e, l)) γ j
          go (by-second e f) = subst (λ (b : ℕ). Ends Long lex (b ∷ γ)) (compare_same a c e) (ih γ (omega (arith, j)) f)

lex-ends : (n : ℕ) (α : List ℕ) → length α ≡ n → Ends (λ β. length β ≡ n) lex α
lex-ends zero [] i = ends [] (λ β j g. none β j g)
  where
    none : (β : List ℕ) → length β ≡ 0 → lex [] β ≡ Ordering.gt → Ends (λ γ. length γ ≡ 0) lex β
    none [] j g = absurd (not-eq g)
    none (b ∷ β) j g = absurd (not-lt g)
lex-ends zero (a ∷ α) i = absurd (let q : ⊥ = omega (arith, i) in q)
lex-ends (suc n) [] i = absurd (let q : ⊥ = omega (arith, i) in q)
lex-ends (suc n) (a ∷ α) i = lex-cons n (λ β j. lex-ends n β j) (suc a) a (omega arith) α i

-- ---- RevLex: by the later exponents, then a larger first one is smaller; it is at most d
module _ (n d : ℕ) where
  abbrev Rev : List ℕ → Type 0
  Rev α = Ends (In (suc n) d) rev_lex α

  rev-first : (x : List ℕ) → ((β : List ℕ) → In n d β → rev_lex x β ≡ Ordering.gt → (a : ℕ) → In (suc n) d (a ∷ β) → Rev (a ∷ β)) → (k a : ℕ) → d - a < k → In (suc n) d (a ∷ x) → Rev (a ∷ x)
  rev-first x ih zero a l i = absurd (let q : ⊥ = omega (arith, l) in q)
  rev-first x ih (suc k) a l i = ends (a ∷ x) (λ β j g. by β j g (λ c m j. rev-first x ih k c m j))
    where
      by : (β : List ℕ) → In (suc n) d β → rev_lex (a ∷ x) β ≡ Ordering.gt → ((c : ℕ) → d - c < k → In (suc n) d (c ∷ x) → Rev (c ∷ x)) → Rev β
      by [] j g out = absurd (let q : ⊥ = omega (arith, j.long) in q)
      by (c ∷ γ) j g out = go (larger (rev_lex x γ) (compare c a) g)
        where
          go : Larger (rev_lex x γ) (compare c a) → Rev (c ∷ γ)
          go (by_first e) = ih γ (record { long = omega (arith, j.long); low = omega (arith, j.low) }) e c j
          go (by-second e f) =
              let s : x ≡ γ = rev-same x γ e in
              subst (λ (z : List ℕ). Rev (c ∷ z)) s (out c (omega (arith, compare-larger c a f, l, j.low)) (subst (λ (z : List ℕ). In (suc n) d (c ∷ z)) (sym s) j))

  rev-cons : (α : List ℕ) → Ends (In n d) rev_lex α → (a : ℕ) → In (suc n) d (a ∷ α) → Rev (a ∷ α)
  rev-cons α e = elim e as (λ x e. (a : ℕ) → In (suc n) d (a ∷ x) → Rev (a ∷ x)) [ ends x (h → ih) ↦ λ a i. rev-first x ih (suc (d - a)) a (omega arith) i ]

rev_ends : (n d : ℕ) (α : List ℕ) → In n d α → Ends (In n d) rev_lex α
rev_ends zero d [] i = ends [] (λ β j g. none β j g)
  where
    none : (β : List ℕ) → In 0 d β → rev_lex [] β ≡ Ordering.gt → Ends (In 0 d) rev_lex β
    none [] j g = absurd (not-eq g)
    none (b ∷ β) j g = absurd (not-lt g)
rev_ends zero d (a ∷ α) i = absurd (let q : ⊥ = omega (arith, i.long) in q)
rev_ends (suc n) d [] i = absurd (let q : ⊥ = omega (arith, i.long) in q)
rev_ends (suc n) d (a ∷ α) i = rev-cons n d α (rev_ends n d α (record { long = omega (arith, i.long); low = omega (arith, i.low) })) a i

-- ---- by the weighted degree, which is at least the degree, then by an order whose chains end among monomials of a degree up to any d
weighted-high : (vs α : List ℕ) → Positive vs → length α ≤ length vs → degree α ≤ weighted vs α
weighted-high [] [] h l = omega arith
weighted-high [] (a ∷ α) h l = absurd (let q : ⊥ = omega (arith, l) in q)
weighted-high (v ∷ vs) [] h l = omega arith
weighted-high (v ∷ vs) (a ∷ α) h l = omega (arith, mul-le-mul_right a h.0, one-mul a, weighted-high vs α h.1 (omega (arith, l)))

module _ (n : ℕ) (vs : List ℕ) (high : (α : List ℕ) → length α ≡ n → degree α ≤ weighted vs α) (cmp : List ℕ → List ℕ → Ordering) (inner : (d : ℕ) (α : List ℕ) → In n d α → Ends (In n d) cmp α) where
  abbrev Meant : List ℕ → Type 0
  Meant α = length α ≡ n

  abbrev by-weight : List ℕ → List ℕ → Ordering
  by-weight α β = or_else (compare (weighted vs α) (weighted vs β)) (cmp α β)

  weight-ends : (k : ℕ) (α : List ℕ) → length α ≡ n → weighted vs α < k → Ends Meant by-weight α
  weight-ends zero α h l = absurd (let q : ⊥ = omega (arith, l) in q)
  weight-ends (suc k) α h l =
      (elim (inner (weighted vs α) α (record { long = h; low = high α h })) as (λ x e. length x ≡ n → weighted vs x ≡ weighted vs α → Ends Meant by-weight x) [ ends x (g → ih) ↦ λ i w. ends x (λ β j g. by x w ih β j g (λ γ i j. weight-ends k γ i j)) ]) h refl
    where
      by : (x : List ℕ) → weighted vs x ≡ weighted vs α → ((β : List ℕ) → In n (weighted vs α) β → cmp x β ≡ Ordering.gt → length β ≡ n → weighted vs β ≡ weighted vs α → Ends Meant by-weight β) → (β : List ℕ) → length β ≡ n → by-weight x β ≡ Ordering.gt → ((γ : List ℕ) → length γ ≡ n → weighted vs γ < k → Ends Meant by-weight γ) → Ends Meant by-weight β
      by x w ih β j g out = go (larger (compare (weighted vs x) (weighted vs β)) (cmp x β) g)
        where
          go : Larger (compare (weighted vs x) (weighted vs β)) (cmp x β) → Ends Meant by-weight β
          go (by_first e) = out β j (omega (arith, compare-larger (weighted vs x) (weighted vs β) e, w, l))
          go (by-second e f) =
              let s : weighted vs β ≡ weighted vs α = sym (compare_same (weighted vs x) (weighted vs β) e) ∙ w in
              ih β (record { long = j; low = omega (arith, s, high β j) }) f j s

-- ---- the three orders
ends-among : {A : Type 0} (P Q : A → Type 0) (cmp : A → A → Ordering) → ((a : A) → Q a → P a) → (a : A) → Ends P cmp a → Ends Q cmp a
ends-among P Q cmp f a e = elim e as (λ x e. Ends Q cmp x) [ ends x (h → ih) ↦ ends x (λ b q g. ih b (f b q) g) ]

-- every falling chain of monomials in n variables ends
pub order-ends : (o : Order) (n : ℕ) (vs : List ℕ) → Positive vs → n ≤ length vs → (α : List ℕ) → length α ≡ n → Ends (λ β. length β ≡ n) (compare_in o vs) α
order-ends Lex n vs v l α h = lex-ends n α h
order-ends DegLex n vs v l α h =
    weight-ends n vs (λ β i. weighted-high vs β v (omega (arith, i, l))) lex (λ d β i. ends-among (λ γ. length γ ≡ n) (In n d) lex (λ γ j. j.long) β (lex-ends n β i.long)) (suc (weighted vs α)) α h (omega arith)
order-ends DegRevLex n vs v l α h = weight-ends n vs (λ β i. weighted-high vs β v (omega (arith, i, l))) rev_lex (λ d β i. rev_ends n d β i) (suc (weighted vs α)) α h (omega arith)
