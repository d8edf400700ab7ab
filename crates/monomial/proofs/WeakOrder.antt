-- Comparisons made of comparisons: numbers, one after the other, turned round, through a function. What is shown of the parts holds of the whole. Assumes nothing.
use mathlib.Core.Path.{◌≡◌, refl, sym, ap, ◌∙◌}
use Prim.Native.Nat.{ℕ, compare, Ordering}
use native.Mathlib.Omega.{arith}
use Rattle.monomial.specs.Exponents.{or_else}
use Rattle.monomial.specs.TotalOrder.{turned, TotalOrder}
use Rattle.monomial.proofs.Comparing.{Tri, less, same, more, tri, lt-compare, eq-compare, gt-compare, compare_same}

-- how a stands to c, if a stands to b as x says and b to c as y says
abbrev pub Chain : Ordering → Ordering → Ordering → Type 0
Chain Ordering.lt Ordering.lt z = z ≡ Ordering.lt
Chain Ordering.lt Ordering.eq z = z ≡ Ordering.lt
Chain Ordering.lt Ordering.gt z = Unit {0}
Chain Ordering.eq y z = z ≡ y
Chain Ordering.gt Ordering.lt z = Unit {0}
Chain Ordering.gt Ordering.eq z = z ≡ Ordering.gt
Chain Ordering.gt Ordering.gt z = z ≡ Ordering.gt

-- a total order but for like things that are not the same
pub record WeakOrder (A : Type 0) (cmp : A → A → Ordering) : Type 0 where
  pub like : (a : A) → cmp a a ≡ Ordering.eq
  pub turn : (a b : A) → cmp b a ≡ turned (cmp a b)
  pub chain : (a b c : A) → Chain (cmp a b) (cmp b c) (cmp a c)

pub strict : {A : Type 0} {cmp : A → A → Ordering} → WeakOrder A cmp → ((a b : A) → cmp a b ≡ Ordering.eq → a ≡ b) → TotalOrder A cmp
strict {A} {cmp} w s = record {
  like = w.like;
  same = s;
  turn = w.turn;
  falls = λ a b c h k. rw (h, k) at (w.chain a b c);
}

-- ---- one comparison after the other
turned-or_else : (x x' : Ordering) → turned (or_else x x') ≡ or_else (turned x) (turned x')
turned-or_else Ordering.lt x' = refl
turned-or_else Ordering.eq x' = refl
turned-or_else Ordering.gt x' = refl

pub chain-lt-right : (x : Ordering) → Chain x Ordering.lt Ordering.lt
chain-lt-right Ordering.lt = refl
chain-lt-right Ordering.eq = refl
chain-lt-right Ordering.gt = tt

pub chain-gt-right : (x : Ordering) → Chain x Ordering.gt Ordering.gt
chain-gt-right Ordering.lt = tt
chain-gt-right Ordering.eq = refl
chain-gt-right Ordering.gt = refl

pub chain-lt-left : (y : Ordering) → Chain Ordering.lt y Ordering.lt
chain-lt-left Ordering.lt = refl
chain-lt-left Ordering.eq = refl
chain-lt-left Ordering.gt = tt

pub chain-gt-left : (y : Ordering) → Chain Ordering.gt y Ordering.gt
chain-gt-left Ordering.lt = tt
chain-gt-left Ordering.eq = refl
chain-gt-left Ordering.gt = refl

pub chain-or_else : (x y z x' y' z' : Ordering) → Chain x y z → Chain x' y' z' → Chain (or_else x x') (or_else y y') (or_else z z')
chain-or_else Ordering.lt Ordering.lt z x' y' z' h k = rw h
chain-or_else Ordering.lt Ordering.eq z x' y' z' h k = rw h (chain-lt-left y')
chain-or_else Ordering.lt Ordering.gt z x' y' z' h k = tt
chain-or_else Ordering.eq Ordering.lt z x' y' z' h k = rw h (chain-lt-right x')
chain-or_else Ordering.eq Ordering.eq z x' y' z' h k = rw h k
chain-or_else Ordering.eq Ordering.gt z x' y' z' h k = rw h (chain-gt-right x')
chain-or_else Ordering.gt Ordering.lt z x' y' z' h k = tt
chain-or_else Ordering.gt Ordering.eq z x' y' z' h k = rw h (chain-gt-left y')
chain-or_else Ordering.gt Ordering.gt z x' y' z' h k = rw h

pub weak-or_else : {A : Type 0} {f g : A → A → Ordering} → WeakOrder A f → WeakOrder A g → WeakOrder A (λ a b. or_else (f a b) (g a b))
weak-or_else {A} {f} {g} v w = record {
  like = λ a. rw (v.like a, w.like a);
  turn = λ a b. rw (v.turn a b, w.turn a b) (sym (turned-or_else (f a b) (g a b)));
  chain = λ a b c. chain-or_else (f a b) (f b c) (f a c) (g a b) (g b c) (g a c) (v.chain a b c) (w.chain a b c);
}

-- both are equal where the whole is
pub or_else-eq : (x y : Ordering) → or_else x y ≡ Ordering.eq → (x ≡ Ordering.eq) × (y ≡ Ordering.eq)
or_else-eq Ordering.lt y h = let z : ◌≡◌ {A = ℕ} 0 1 = cc in absurd (let q : ⊥ = omega arith in q)
or_else-eq Ordering.eq y h = (refl, h)
or_else-eq Ordering.gt y h = let z : ◌≡◌ {A = ℕ} 0 1 = cc in absurd (let q : ⊥ = omega arith in q)

-- ---- through a function, and turned round
pub weak-through : {A B : Type 0} {cmp : B → B → Ordering} (f : A → B) → WeakOrder B cmp → WeakOrder A (λ a b. cmp (f a) (f b))
weak-through f w = record {
  like = λ a. w.like (f a);
  turn = λ a b. w.turn (f a) (f b);
  chain = λ a b c. w.chain (f a) (f b) (f c);
}

chain-swapped : (x y z : Ordering) → Chain x y z → Chain y x z
chain-swapped Ordering.lt Ordering.lt z h = h
chain-swapped Ordering.lt Ordering.eq z h = h
chain-swapped Ordering.lt Ordering.gt z h = tt
chain-swapped Ordering.eq Ordering.lt z h = h
chain-swapped Ordering.eq Ordering.eq z h = h
chain-swapped Ordering.eq Ordering.gt z h = h
chain-swapped Ordering.gt Ordering.lt z h = tt
chain-swapped Ordering.gt Ordering.eq z h = h
chain-swapped Ordering.gt Ordering.gt z h = h

pub weak-turned : {A : Type 0} {cmp : A → A → Ordering} → WeakOrder A cmp → WeakOrder A (λ a b. cmp b a)
weak-turned {A} {cmp} w = record {
  like = w.like;
  turn = λ a b. w.turn b a;
  chain = λ a b c. chain-swapped (cmp c b) (cmp b a) (cmp c a) (w.chain c b a);
}

-- ---- the numbers
nat-turn : (a b : ℕ) → compare b a ≡ turned (compare a b)
nat-turn a b = go (tri a b)
  where
    go : Tri a b → compare b a ≡ turned (compare a b)
    go (less k e) = gt-compare k ∙ sym (ap turned e)
    go (same k e) = eq-compare (sym k) ∙ sym (ap turned e)
    go (more k e) = lt-compare k ∙ sym (ap turned e)

nat-chain : (a b c : ℕ) → Chain (compare a b) (compare b c) (compare a c)
nat-chain a b c = go (tri a b) (tri b c)
  where
    go : Tri a b → Tri b c → Chain (compare a b) (compare b c) (compare a c)
    go (less k e) (less l f) = rw (e, f) (lt-compare (omega arith))
    go (less k e) (same l f) = rw (e, f) (lt-compare (omega arith))
    go (less k e) (more l f) = rw (e, f) tt
    go (same k e) t = rw e (ap (λ (n : ℕ). compare n c) k)
    go (more k e) (less l f) = rw (e, f) tt
    go (more k e) (same l f) = rw (e, f) (gt-compare (omega arith))
    go (more k e) (more l f) = rw (e, f) (gt-compare (omega arith))

pub nat-weak : WeakOrder ℕ compare
nat-weak = record { like = λ a. eq-compare refl; turn = nat-turn; chain = nat-chain }

pub nat-order : TotalOrder ℕ compare
nat-order = strict nat-weak compare_same
