-- The three orders on exponents, and the comparison of words, are total orders; multiplying by a monomial keeps an order on exponents, and 1 is the least. Assumes nothing.
use mathlib.Core.Path.{◌≡◌, refl, sym, ap, ap₂, ◌∙◌, subst}
use mathlib.Core.Logic.{◌⊎◌, inl, inr}
use mathlib.Core.List.{List, [], ◌∷◌}
use Prim.Native.Nat.{ℕ, zero, suc, ◌+◌, ◌*◌, ◌/◌, ◌%◌, ◌^◌, ◌<◌, ◌≤◌, compare, Ordering}
use native.Mathlib.Nat.{mul-add, mul-pos}
use native.Mathlib.Omega.{arith}
use lib.Dec.{lit<}
use lib.ListN.{length}
use Rattle.monomial.specs.declared.order.Order.{Order}
use Rattle.monomial.specs.declared.order.Order.TheVariants.{Lex, DegLex, DegRevLex}
use Rattle.monomial.specs.Exponents.{weighted, Positive, product, one, or_else, lex, rev_lex, compare_in, order_of, order_number}
use Rattle.monomial.specs.Words.{low, high, degree_in, first_in, second_in, over_in, compare_two, compare_words, compare_one}
use Rattle.monomial.specs.TotalOrder.{turned, TotalOrder}
use Rattle.monomial.proofs.Comparing.{tri, Tri, less, same, more, eq-compare, compare_same, compare-add}
use Rattle.monomial.proofs.Places.{weighted-zeros}
use Rattle.monomial.proofs.WeakOrder.{Chain, WeakOrder, strict, chain-lt-left, chain-gt-right, chain-or_else, weak-or_else, or_else-eq, weak-through, weak-turned, nat-weak, nat-order}

-- ---- Lex
turn-or_else : (x x' y y' : Ordering) → y ≡ turned x → y' ≡ turned x' → or_else y y' ≡ turned (or_else x x')
turn-or_else Ordering.lt x' y y' h k = rw h
turn-or_else Ordering.eq x' y y' h k = rw h k
turn-or_else Ordering.gt x' y y' h k = rw h

lex-like : (α : List ℕ) → lex α α ≡ Ordering.eq
lex-like [] = refl
lex-like (a ∷ α) = rw (nat-weak.like a, lex-like α)

lex-turn : (α β : List ℕ) → lex β α ≡ turned (lex α β)
lex-turn [] [] = refl
lex-turn [] (b ∷ β) = refl
lex-turn (a ∷ α) [] = refl
lex-turn (a ∷ α) (b ∷ β) = turn-or_else (compare a b) (lex α β) (compare b a) (lex β α) (nat-weak.turn a b) (lex-turn α β)

lex-chain : (α β γ : List ℕ) → Chain (lex α β) (lex β γ) (lex α γ)
lex-chain [] [] [] = refl
lex-chain [] [] (c ∷ γ) = refl
lex-chain [] (b ∷ β) [] = tt
lex-chain [] (b ∷ β) (c ∷ γ) = chain-lt-left (lex (b ∷ β) (c ∷ γ))
lex-chain (a ∷ α) [] [] = refl
lex-chain (a ∷ α) [] (c ∷ γ) = tt
lex-chain (a ∷ α) (b ∷ β) [] = chain-gt-right (lex (a ∷ α) (b ∷ β))
lex-chain (a ∷ α) (b ∷ β) (c ∷ γ) = chain-or_else (compare a b) (compare b c) (compare a c) (lex α β) (lex β γ) (lex α γ) (nat-weak.chain a b c) (lex-chain α β γ)

cons_same : {a b : ℕ} {α β : List ℕ} → a ≡ b → α ≡ β → ◌≡◌ {A = List ℕ} (a ∷ α) (b ∷ β)
cons_same h k = cc

unequal : {A : Type 0} → Ordering.lt ≡ Ordering.eq → A
unequal h = absurd (let z : ◌≡◌ {A = ℕ} 0 1 = cc in omega arith)

unequal' : {A : Type 0} → Ordering.gt ≡ Ordering.eq → A
unequal' h = absurd (let z : ◌≡◌ {A = ℕ} 0 1 = cc in omega arith)

pub lex-same : (α β : List ℕ) → lex α β ≡ Ordering.eq → α ≡ β
lex-same [] [] h = refl
lex-same [] (b ∷ β) h = unequal h
lex-same (a ∷ α) [] h = unequal' h
lex-same (a ∷ α) (b ∷ β) h = let e = or_else-eq (compare a b) (lex α β) h in cons_same (compare_same a b e.0) (lex-same α β e.1)

lex-weak : WeakOrder (List ℕ) lex
lex-weak = record { like = lex-like; turn = lex-turn; chain = lex-chain }

-- ---- RevLex
pub rev-like : (α : List ℕ) → rev_lex α α ≡ Ordering.eq
rev-like [] = refl
rev-like (a ∷ α) = rw (rev-like α, nat-weak.like a)

rev-turn : (α β : List ℕ) → rev_lex β α ≡ turned (rev_lex α β)
rev-turn [] [] = refl
rev-turn [] (b ∷ β) = refl
rev-turn (a ∷ α) [] = refl
rev-turn (a ∷ α) (b ∷ β) = turn-or_else (rev_lex α β) (compare b a) (rev_lex β α) (compare a b) (rev-turn α β) (nat-weak.turn b a)

rev-chain : (α β γ : List ℕ) → Chain (rev_lex α β) (rev_lex β γ) (rev_lex α γ)
rev-chain [] [] [] = refl
rev-chain [] [] (c ∷ γ) = refl
rev-chain [] (b ∷ β) [] = tt
rev-chain [] (b ∷ β) (c ∷ γ) = chain-lt-left (rev_lex (b ∷ β) (c ∷ γ))
rev-chain (a ∷ α) [] [] = refl
rev-chain (a ∷ α) [] (c ∷ γ) = tt
rev-chain (a ∷ α) (b ∷ β) [] = chain-gt-right (rev_lex (a ∷ α) (b ∷ β))
rev-chain (a ∷ α) (b ∷ β) (c ∷ γ) = chain-or_else (rev_lex α β) (rev_lex β γ) (rev_lex α γ) (compare b a) (compare c b) (compare c a) (rev-chain α β γ) ((weak-turned nat-weak).chain a b c)

pub rev-same : (α β : List ℕ) → rev_lex α β ≡ Ordering.eq → α ≡ β
rev-same [] [] h = refl
rev-same [] (b ∷ β) h = unequal h
rev-same (a ∷ α) [] h = unequal' h
rev-same (a ∷ α) (b ∷ β) h = let e = or_else-eq (rev_lex α β) (compare b a) h in cons_same (sym (compare_same b a e.1)) (rev-same α β e.0)

rev-weak : WeakOrder (List ℕ) rev_lex
rev-weak = record { like = rev-like; turn = rev-turn; chain = rev-chain }

-- each order is a total order on exponents, with any weights
pub exponents-order : (o : Order) (vs : List ℕ) → TotalOrder (List ℕ) (compare_in o vs)
exponents-order Lex vs = strict lex-weak lex-same
exponents-order DegLex vs = strict (weak-or_else (weak-through (weighted vs) nat-weak) lex-weak) (λ α β h. lex-same α β (or_else-eq (compare (weighted vs α) (weighted vs β)) (lex α β) h).1)
exponents-order DegRevLex vs = strict (weak-or_else (weak-through (weighted vs) nat-weak) rev-weak) (λ α β h. rev-same α β (or_else-eq (compare (weighted vs α) (weighted vs β)) (rev_lex α β) h).1)

-- ---- the comparison of words
-- a number is the fields and the degree of its first word, or its first word, and what is above; that is its second word and the rest
by-degree : (x : ℕ) → x ≡ low x + 2 ^ 48 * degree_in x + 2 ^ 64 * (x / 2 ^ 64)
by-degree x = omega arith

pub by_word : (x : ℕ) → x ≡ x % 2 ^ 64 + 2 ^ 64 * (x / 2 ^ 64)
by_word x = omega arith

module _ (x y : ℕ) (over : over_in x ≡ over_in y) (second : second_in x ≡ second_in y) where
  above : x / 2 ^ 64 ≡ y / 2 ^ 64
  above = by_word (x / 2 ^ 64) ∙ (ap₂ (λ (a b : ℕ). a + 2 ^ 64 * b) second over ∙ sym (by_word (y / 2 ^ 64)))

  same_parts : low x ≡ low y → degree_in x ≡ degree_in y → x ≡ y
  same_parts h k = by-degree x ∙ (ap₂ (λ (a b : ℕ). a + 2 ^ 64 * b) (ap₂ (λ (a b : ℕ). a + 2 ^ 48 * b) h k) above ∙ sym (by-degree y))

  same-words : first_in x ≡ first_in y → x ≡ y
  same-words h = by_word x ∙ (ap₂ (λ (a b : ℕ). a + 2 ^ 64 * b) h above ∙ sym (by_word y))

two-weak : (o : Order) → WeakOrder ℕ (compare_two o)
two-weak Lex = weak-or_else (weak-through low nat-weak) (weak-or_else (weak-through second_in nat-weak) (weak-through degree_in nat-weak))
two-weak DegLex = weak-or_else (weak-through first_in nat-weak) (weak-through second_in nat-weak)
two-weak DegRevLex = weak-or_else (weak-through degree_in nat-weak) (weak-or_else (weak-turned (weak-through second_in nat-weak)) (weak-turned (weak-through low nat-weak)))

two-same : (o : Order) (x y : ℕ) → over_in x ≡ over_in y → compare_two o x y ≡ Ordering.eq → x ≡ y
two-same Lex x y a h =
    let e = or_else-eq (compare (low x) (low y)) (or_else (compare (second_in x) (second_in y)) (compare (degree_in x) (degree_in y))) h in
    let f = or_else-eq (compare (second_in x) (second_in y)) (compare (degree_in x) (degree_in y)) e.1 in
    same_parts x y a (compare_same (second_in x) (second_in y) f.0) (compare_same (low x) (low y) e.0) (compare_same (degree_in x) (degree_in y) f.1)
two-same DegLex x y a h =
    let e = or_else-eq (compare (first_in x) (first_in y)) (compare (second_in x) (second_in y)) h in
    same-words x y a (compare_same (second_in x) (second_in y) e.1) (compare_same (first_in x) (first_in y) e.0)
two-same DegRevLex x y a h =
    let e = or_else-eq (compare (degree_in x) (degree_in y)) (or_else (compare (second_in y) (second_in x)) (compare (low y) (low x))) h in
    let f = or_else-eq (compare (second_in y) (second_in x)) (compare (low y) (low x)) e.1 in
    same_parts x y a (sym (compare_same (second_in y) (second_in x) f.0)) (sym (compare_same (low y) (low x) f.1)) (compare_same (degree_in x) (degree_in y) e.0)

-- in each order what is above two words is compared first
pub over_first : (o : Order) (x y : ℕ) → compare_words o x y ≡ or_else (compare (over_in x) (over_in y)) (compare_two o x y)
over_first Lex x y = refl
over_first DegLex x y = refl
over_first DegRevLex x y = refl

-- each comparison of words is a total order on all numbers
pub words-order : (o : Order) → TotalOrder ℕ (compare_words o)
words-order o = by o
  where
    made : (q : Order) → TotalOrder ℕ (λ x y. or_else (compare (over_in x) (over_in y)) (compare_two q x y))
    made q =
        strict (weak-or_else (weak-through over_in nat-weak) (two-weak q))
        (λ x y h. let e = or_else-eq (compare (over_in x) (over_in y)) (compare_two q x y) h in two-same q x y (compare_same (over_in x) (over_in y) e.0) e.1)

    by : (q : Order) → TotalOrder ℕ (compare_words q)
    by Lex = made Lex
    by DegLex = made DegLex
    by DegRevLex = made DegRevLex

-- of two words nothing is above
pub two-words : (o : Order) (x y : ℕ) → x / 2 ^ 64 < 2 ^ 64 → y / 2 ^ 64 < 2 ^ 64 → compare_words o x y ≡ compare_two o x y
two-words o x y h k = over_first o x y ∙ ap (λ (t : Ordering). or_else t (compare_two o x y)) (eq-compare (none (x / 2 ^ 64) h ∙ sym (none (y / 2 ^ 64) k)))
  where
    none : (t : ℕ) → t < 2 ^ 64 → t / 2 ^ 64 ≡ 0
    none t l = omega arith

-- and of one word the second is 0
pub no_second : (x : ℕ) → x < 2 ^ 64 → x / 2 ^ 64 ≡ 0
no_second x h = omega arith

pub no-over : (x : ℕ) → x < 2 ^ 64 → x / 2 ^ 64 < 2 ^ 64
no-over x h = subst (λ (t : ℕ). t < 2 ^ 64) (sym (no_second x h)) (lit< tt)

pub one_word : (o : Order) (x y : ℕ) → x < 2 ^ 64 → y < 2 ^ 64 → compare_words o x y ≡ compare_one o x y
one_word o x y h k = two-words o x y (no-over x h) (no-over y k) ∙ by o
  where
    seconds : second_in x ≡ second_in y
    seconds = ap (λ (t : ℕ). t % 2 ^ 64) (no_second x h ∙ sym (no_second y k))

    degrees : compare (degree_in x) (degree_in y) ≡ compare (high x) (high y)
    degrees = ap₂ compare (let e : degree_in x ≡ high x = omega arith in e) (let e : degree_in y ≡ high y = omega arith in e)

    end : (t : Ordering) → or_else t Ordering.eq ≡ t
    end Ordering.lt = refl
    end Ordering.eq = refl
    end Ordering.gt = refl

    by : (q : Order) → compare_two q x y ≡ compare_one q x y
    by Lex = ap₂ (λ (s d : Ordering). or_else (compare (low x) (low y)) (or_else s d)) (eq-compare seconds) degrees
    by DegLex = ap₂ or_else (ap₂ compare (let e : first_in x ≡ x = omega arith in e) (let e : first_in y ≡ y = omega arith in e)) (eq-compare seconds) ∙ end (compare x y)
    by DegRevLex = ap₂ (λ (d s : Ordering). or_else d (or_else s (compare (low y) (low x)))) degrees (eq-compare (sym seconds))

-- ---- multiplying by a monomial keeps an order
pub weighted-product : (vs γ α : List ℕ) → length γ ≡ length α → weighted vs (product γ α) ≡ weighted vs γ + weighted vs α
weighted-product [] γ α h = refl
weighted-product (v ∷ vs) [] [] h = refl
weighted-product (v ∷ vs) [] (a ∷ α) h = absurd (let z : ⊥ = omega arith in z)
weighted-product (v ∷ vs) (c ∷ γ) [] h = absurd (let z : ⊥ = omega arith in z)
weighted-product (v ∷ vs) (c ∷ γ) (a ∷ α) h = omega (arith, mul-add v c a, weighted-product vs γ α (omega arith))

lex-product : (γ α β : List ℕ) → length γ ≡ length α → length γ ≡ length β → lex (product γ α) (product γ β) ≡ lex α β
lex-product [] [] [] h k = refl
lex-product [] [] (b ∷ β) h k = absurd (let z : ⊥ = omega arith in z)
lex-product [] (a ∷ α) β h k = absurd (let z : ⊥ = omega arith in z)
lex-product (c ∷ γ) [] β h k = absurd (let z : ⊥ = omega arith in z)
lex-product (c ∷ γ) (a ∷ α) [] h k = absurd (let z : ⊥ = omega arith in z)
lex-product (c ∷ γ) (a ∷ α) (b ∷ β) h k = ap₂ or_else (compare-add c a b) (lex-product γ α β (omega arith) (omega arith))

rev-product : (γ α β : List ℕ) → length γ ≡ length α → length γ ≡ length β → rev_lex (product γ α) (product γ β) ≡ rev_lex α β
rev-product [] [] [] h k = refl
rev-product [] [] (b ∷ β) h k = absurd (let z : ⊥ = omega arith in z)
rev-product [] (a ∷ α) β h k = absurd (let z : ⊥ = omega arith in z)
rev-product (c ∷ γ) [] β h k = absurd (let z : ⊥ = omega arith in z)
rev-product (c ∷ γ) (a ∷ α) [] h k = absurd (let z : ⊥ = omega arith in z)
rev-product (c ∷ γ) (a ∷ α) (b ∷ β) h k = ap₂ or_else (rev-product γ α β (omega arith) (omega arith)) (compare-add c b a)

degrees-product : (vs γ α β : List ℕ) → length γ ≡ length α → length γ ≡ length β → compare (weighted vs (product γ α)) (weighted vs (product γ β)) ≡ compare (weighted vs α) (weighted vs β)
degrees-product vs γ α β h k = rw (weighted-product vs γ α h, weighted-product vs γ β k) (compare-add (weighted vs γ) (weighted vs α) (weighted vs β))

-- with any weights
pub product-keeps : (o : Order) (vs γ α β : List ℕ) → length γ ≡ length α → length γ ≡ length β → compare_in o vs (product γ α) (product γ β) ≡ compare_in o vs α β
product-keeps Lex vs γ α β h k = lex-product γ α β h k
product-keeps DegLex vs γ α β h k = ap₂ or_else (degrees-product vs γ α β h k) (lex-product γ α β h k)
product-keeps DegRevLex vs γ α β h k = ap₂ or_else (degrees-product vs γ α β h k) (rev-product γ α β h k)

-- ---- 1 is the least monomial, where each variable has a weight of at least 1 (with a weight of 0, dp would put x below 1)
no-degree : (vs α : List ℕ) → Positive vs → length α ≤ length vs → weighted vs α ≡ 0 → α ≡ one (length α)
no-degree vs [] g f h = refl
no-degree [] (a ∷ α) g f h = absurd (let z : ⊥ = omega arith in z)
no-degree (v ∷ vs) (a ∷ α) g f h =
    cons_same
    (zero-factor v a g.0 (let e : v * a ≡ 0 = omega arith in e))
    (no-degree vs α g.1 (omega arith) (let e : weighted vs α ≡ 0 = omega arith in e))
  where
    zero-factor : (w b : ℕ) → 0 < w → w * b ≡ 0 → b ≡ 0
    zero-factor w zero p e = refl
    zero-factor w (suc b) p e = absurd (let q : 0 < w * suc b = mul-pos p (omega arith) in omega arith)

lex-least : (α : List ℕ) → (α ≡ one (length α)) ⊎ (lex (one (length α)) α ≡ Ordering.lt)
lex-least [] = inl refl
lex-least (a ∷ α) = go (tri 0 a) (lex-least α)
  where
    go : Tri 0 a → (α ≡ one (length α)) ⊎ (lex (one (length α)) α ≡ Ordering.lt) → ((a ∷ α) ≡ one (length (a ∷ α))) ⊎ (lex (one (length (a ∷ α))) (a ∷ α) ≡ Ordering.lt)
    go (less k e) r = inr (rw e)
    go (same k e) (inl q) = inl (cons_same (sym k) q)
    go (same k e) (inr q) = inr (rw e q)
    go (more k e) r = absurd (let z : ⊥ = omega arith in z)

-- by the degree first, whatever is compared after it
least-by-degree : (t : Ordering) (vs α : List ℕ) → Positive vs → length α ≤ length vs → (α ≡ one (length α)) ⊎ (or_else (compare (weighted vs (one (length α))) (weighted vs α)) t ≡ Ordering.lt)
least-by-degree t vs α g f = go (tri 0 (weighted vs α))
  where
    go : Tri 0 (weighted vs α) → (α ≡ one (length α)) ⊎ (or_else (compare (weighted vs (one (length α))) (weighted vs α)) t ≡ Ordering.lt)
    go (less k e) = inr (rw (weighted-zeros vs (length α), e))
    go (same k e) = inl (no-degree vs α g f (sym k))
    go (more k e) = absurd (let z : ⊥ = omega arith in z)

pub one-least : (o : Order) (vs α : List ℕ) → Positive vs → length α ≤ length vs → (α ≡ one (length α)) ⊎ (compare_in o vs (one (length α)) α ≡ Ordering.lt)
one-least Lex vs α g f = lex-least α
one-least DegLex vs α g f = least-by-degree (lex (one (length α)) α) vs α g f
one-least DegRevLex vs α g f = least-by-degree (rev_lex (one (length α)) α) vs α g f

-- so are numbers, as keys are compared
pub numbers-order : TotalOrder ℕ compare
numbers-order = nat-order

-- the order of an order's number
pub order-number : (o : Order) → order_of (order_number o) ≡ o
order-number Lex = refl
order-number DegLex = refl
order-number DegRevLex = refl
