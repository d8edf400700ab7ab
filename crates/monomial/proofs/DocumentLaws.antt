-- Lex and RevLex, defined by recursion, are those that document 000 defines by the variable that decides. Assumes nothing.
use mathlib.Core.Path.{◌≡◌, refl, sym, ap, ap₂, ◌∙◌}
use mathlib.Core.List.{List, [], ◌∷◌}
use Prim.Native.Nat.{ℕ, zero, suc, ◌<◌, zero-le, suc-le-suc, compare, Ordering}
use native.Mathlib.Nat.{le_of_suc-le-suc}
use native.Mathlib.Omega.{arith}
use lib.ListN.{length, get_or}
use lib.Seq.{ext_get_or}
use Rattle.monomial.specs.Exponents.{or_else, lex, rev_lex, LexLarger, RevLexLarger}
use Rattle.monomial.proofs.Comparing.{Tri, less, same, more, tri, gt-compare, eq-compare}
use Rattle.monomial.proofs.OrderLaws.{rev-same, rev-like}

-- no two outcomes are equal
clash : {A : Type 0} → ◌≡◌ {A = Ordering} Ordering.lt Ordering.gt → A
clash h = absurd (let z : ◌≡◌ {A = ℕ} 0 1 = cc in omega arith)

clash' : {A : Type 0} → ◌≡◌ {A = Ordering} Ordering.eq Ordering.gt → A
clash' h = absurd (let z : ◌≡◌ {A = ℕ} 0 1 = cc in omega arith)

-- ---- Lex
later-lex : {a b : ℕ} {α β : List ℕ} → a ≡ b → LexLarger α β → LexLarger (a ∷ α) (b ∷ β)
later-lex {a} {b} {α} {β} e r = record { at = suc r.at; within = suc-le-suc r.within; before = earlier; larger = r.larger }
  where
    earlier : (j : ℕ) → j < suc r.at → get_or (a ∷ α) j 0 ≡ get_or (b ∷ β) j 0
    earlier zero h = e
    earlier (suc j) h = r.before j (le_of_suc-le-suc h)

pub lex-larger : (α β : List ℕ) → length α ≡ length β → lex α β ≡ Ordering.gt → LexLarger α β
lex-larger [] [] l h = clash' h
lex-larger [] (b ∷ β) l h = clash h
lex-larger (a ∷ α) [] l h = absurd (let z : ⊥ = omega arith in z)
lex-larger (a ∷ α) (b ∷ β) l h = go (tri a b) (λ k. lex-larger α β (omega arith) k)
  where
    go : Tri a b → (lex α β ≡ Ordering.gt → LexLarger α β) → LexLarger (a ∷ α) (b ∷ β)
    go (less k e) r = clash (rw (e, or_else) at h)
    go (same k e) r = later-lex k (r (rw (e, or_else) at h))
    go (more k e) r = record { at = zero; within = suc-le-suc zero-le; before = λ j m. absurd (let z : ⊥ = omega arith in z); larger = k }

pub larger-lex : (α β : List ℕ) → length α ≡ length β → LexLarger α β → lex α β ≡ Ordering.gt
larger-lex [] β l r = absurd (let z : ⊥ = omega (arith, r.within) in z)
larger-lex (a ∷ α) [] l r = absurd (let z : ⊥ = omega arith in z)
larger-lex (a ∷ α) (b ∷ β) l r = go r.at r.within r.before r.larger (λ q. larger-lex α β (omega arith) q)
  where
    go : (i : ℕ) → i < length (a ∷ α) → ((j : ℕ) → j < i → get_or (a ∷ α) j 0 ≡ get_or (b ∷ β) j 0) → get_or (b ∷ β) i 0 < get_or (a ∷ α) i 0 → (LexLarger α β → lex α β ≡ Ordering.gt) → lex (a ∷ α) (b ∷ β) ≡ Ordering.gt
    go zero w e g f = ap (λ (t : Ordering). or_else t (lex α β)) (gt-compare g)
    go (suc i) w e g f =
        ap₂ or_else (eq-compare (e zero (suc-le-suc zero-le))) (f (record { at = i; within = le_of_suc-le-suc w; before = λ j h. e (suc j) (suc-le-suc h); larger = g }))

-- ---- RevLex
later-rev : {a b : ℕ} {α β : List ℕ} → RevLexLarger α β → RevLexLarger (a ∷ α) (b ∷ β)
later-rev {a} {b} {α} {β} r = record { at = suc r.at; within = suc-le-suc r.within; after = beyond; smaller = r.smaller }
  where
    beyond : (j : ℕ) → suc r.at < j → j < length (a ∷ α) → get_or (a ∷ α) j 0 ≡ get_or (b ∷ β) j 0
    beyond zero h k = absurd (let z : ⊥ = omega arith in z)
    beyond (suc j) h k = r.after j (le_of_suc-le-suc h) (le_of_suc-le-suc k)

first-rev : {a b : ℕ} {α β : List ℕ} → α ≡ β → a < b → RevLexLarger (a ∷ α) (b ∷ β)
first-rev {a} {b} {α} {β} e h = record { at = zero; within = suc-le-suc zero-le; after = beyond; smaller = h }
  where
    beyond : (j : ℕ) → zero < j → j < length (a ∷ α) → get_or (a ∷ α) j 0 ≡ get_or (b ∷ β) j 0
    beyond zero k l = absurd (let z : ⊥ = omega arith in z)
    beyond (suc j) k l = ap (λ (γ : List ℕ). get_or γ j 0) e

pub rev_lex-larger : (α β : List ℕ) → length α ≡ length β → rev_lex α β ≡ Ordering.gt → RevLexLarger α β
rev_lex-larger [] [] l h = clash' h
rev_lex-larger [] (b ∷ β) l h = clash h
rev_lex-larger (a ∷ α) [] l h = absurd (let z : ⊥ = omega arith in z)
rev_lex-larger (a ∷ α) (b ∷ β) l h = go (rev_lex α β) refl h (λ k. rev_lex-larger α β (omega arith) k)
  where
    first : Tri b a → compare b a ≡ Ordering.gt → α ≡ β → RevLexLarger (a ∷ α) (b ∷ β)
    first (less k e) g q = clash (sym e ∙ g)
    first (same k e) g q = clash' (sym e ∙ g)
    first (more k e) g q = first-rev q k

    go : (t : Ordering) → rev_lex α β ≡ t → or_else t (compare b a) ≡ Ordering.gt → (rev_lex α β ≡ Ordering.gt → RevLexLarger α β) → RevLexLarger (a ∷ α) (b ∷ β)
    go Ordering.lt e g r = clash g
    go Ordering.eq e g r = first (tri b a) g (rev-same α β e)
    go Ordering.gt e g r = later-rev (r e)

pub larger-rev_lex : (α β : List ℕ) → length α ≡ length β → RevLexLarger α β → rev_lex α β ≡ Ordering.gt
larger-rev_lex [] β l r = absurd (let z : ⊥ = omega (arith, r.within) in z)
larger-rev_lex (a ∷ α) [] l r = absurd (let z : ⊥ = omega arith in z)
larger-rev_lex (a ∷ α) (b ∷ β) l r = go r.at r.within r.after r.smaller (λ q. larger-rev_lex α β (omega arith) q)
  where
    go : (i : ℕ) → i < length (a ∷ α) → ((j : ℕ) → i < j → j < length (a ∷ α) → get_or (a ∷ α) j 0 ≡ get_or (b ∷ β) j 0) → get_or (a ∷ α) i 0 < get_or (b ∷ β) i 0 → (RevLexLarger α β → rev_lex α β ≡ Ordering.gt) → rev_lex (a ∷ α) (b ∷ β) ≡ Ordering.gt
    go zero w e s f =
        let q : α ≡ β = ext_get_or 0 α β (let m : length α ≡ length β = omega arith in m) (λ i h. e (suc i) (suc-le-suc zero-le) (suc-le-suc h)) in
        ap₂ or_else (ap (rev_lex α) (sym q) ∙ rev-like α) (gt-compare s)
    go (suc i) w e s f =
        ap (λ (t : Ordering). or_else t (compare b a))
        (f (record { at = i; within = le_of_suc-le-suc w; after = λ j h k. e (suc j) (suc-le-suc h) (suc-le-suc k); smaller = s }))
