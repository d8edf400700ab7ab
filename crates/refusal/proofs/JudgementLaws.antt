-- The judgement of a list of conditions has one result. Assumes nothing.
use Prim.Native.Nat.{ℕ}
use mathlib.Core.Path.{◌≡◌, refl, sym, ap, ◌∙◌}
use mathlib.Core.Bool.{Bool, true, false, ◌||◌}
use mathlib.Core.List.{List, [], ◌∷◌, ◌++◌}
use mathlib.Core.Logic.{◌⊎◌, inl, inr}
use native.Mathlib.Omega.{arith}
use borrow.Author.Tests.{eqb-true, eq-eqb}
use lib.Dec.{eqb}
use Rattle.refusal.specs.Table.{listed}
use Rattle.refusal.specs.Judgement.{Condition, Judged, AllHold, Counted, OneOf, one_of, NumberedBy}

-- one result only
pub judged-once : (cs : List Condition) (r s : ℕ) → Judged cs r → Judged cs s → r ≡ s
judged-once [] r s a b = a ∙ sym b
judged-once (c ∷ cs) r s (inl a) (inl b) = a.1 ∙ sym b.1
judged-once (c ∷ cs) r s (inl a) (inr b) = absurd (a.0 b.0)
judged-once (c ∷ cs) r s (inr a) (inl b) = absurd (b.0 a.0)
judged-once (c ∷ cs) r s (inr a) (inr b) = judged-once cs r s a.1 b.1

-- where all hold it is 0
pub all-judged : (cs : List Condition) → AllHold cs → Judged cs 0
all-judged [] a = refl
all-judged (c ∷ cs) a = inr (a.0, all-judged cs a.1)

-- two lists of conditions, one after the other: the second is looked at where the first holds whole
pub judged-then : (cs ds : List Condition) (r : ℕ) → AllHold cs → Judged ds r → Judged (cs ++ ds) r
judged-then [] ds r a j = j
judged-then (c ∷ cs) ds r a j = inr (a.0, judged-then cs ds r a.1 j)

-- and where one of the first does not hold, the second is not looked at
pub judged-stops : (cs ds : List Condition) (r : ℕ) → (r ≡ 0 → ⊥) → Judged cs r → Judged (cs ++ ds) r
judged-stops [] ds r some j = absurd (some j)
judged-stops (c ∷ cs) ds r some (inl a) = inl a
judged-stops (c ∷ cs) ds r some (inr a) = inr (a.0, judged-stops cs ds r some a.1)

-- a judgement of both is one of the first, or of the second where the first holds whole
pub judged-parts : (cs ds : List Condition) (r : ℕ) → Judged (cs ++ ds) r → Judged cs r ⊎ (AllHold cs × Judged ds r)
judged-parts [] ds r j = inr (tt, j)
judged-parts (c ∷ cs) ds r (inl a) = inl (inl a)
judged-parts (c ∷ cs) ds r (inr a) = by (judged-parts cs ds r a.1)
  where
    by : Judged cs r ⊎ (AllHold cs × Judged ds r) → Judged (c ∷ cs) r ⊎ (AllHold (c ∷ cs) × Judged ds r)
    by (inl j) = inl (inr (a.0, j))
    by (inr q) = inr ((a.0, q.0), q.1)

-- 0 is for a list of which all hold
pub judged-none : (cs : List Condition) → Counted cs → Judged cs 0 → AllHold cs
judged-none [] p j = tt
judged-none (c ∷ cs) p (inl a) = absurd (let e = a.1 in let l = p.0 in let z : ⊥ = omega arith in z)
judged-none (c ∷ cs) p (inr a) = (a.0, judged-none cs p.1 a.1)

pub counted-then : (cs ds : List Condition) → Counted cs → Counted ds → Counted (cs ++ ds)
counted-then [] ds p q = q
counted-then (c ∷ cs) ds p q = (p.0, counted-then cs ds p.1 q)

-- all of two lists hold where all of each do
pub hold-then : (cs ds : List Condition) → AllHold cs → AllHold ds → AllHold (cs ++ ds)
hold-then [] ds a b = b
hold-then (c ∷ cs) ds a b = (a.0, hold-then cs ds a.1 b)

pub hold-parts : (cs ds : List Condition) → AllHold (cs ++ ds) → AllHold cs × AllHold ds
hold-parts [] ds a = (tt, a)
hold-parts (c ∷ cs) ds a = let r = hold-parts cs ds a.1 in ((a.0, r.0), r.1)

-- ---- which numbers can come at all
pub one-of : (ns : List ℕ) (n r : ℕ) → one_of ns n ≡ true → r ≡ n → OneOf ns r
one-of [] n r h e = absurd (let z : ◌≡◌ {A = ℕ} 0 1 = ap (λ (b : Bool). elim b [ true ↦ 1 | false ↦ 0 ]) h in let q : ⊥ = omega arith in q)
one-of (m ∷ ns) n r h e = by (eqb n m) refl h (λ k. one-of ns n r k e)
  where
    by : (b : Bool) → eqb n m ≡ b → (b || one_of ns n) ≡ true → (one_of ns n ≡ true → OneOf ns r) → OneOf (m ∷ ns) r
    by true q k f = inl (e ∙ eqb-true n m q)
    by false q k f = inr (f k)

-- a number that is not listed does not come
pub one-of-not : (ns : List ℕ) (n r : ℕ) → one_of ns n ≡ false → OneOf ns r → r ≡ n → ⊥
one-of-not [] n r h o e = o
one-of-not (m ∷ ns) n r h o e = by (eqb n m) refl h o (λ k a. one-of-not ns n r k a e)
  where
    by : (b : Bool) → eqb n m ≡ b → (b || one_of ns n) ≡ false → OneOf (m ∷ ns) r → (one_of ns n ≡ false → OneOf ns r → ⊥) → ⊥
    by true q k a f = let z : ◌≡◌ {A = ℕ} 0 1 = cc in omega arith
    by false q k (inl a) f = let t = eq-eqb n m (sym e ∙ a) in let z : ◌≡◌ {A = ℕ} 0 1 = cc in omega arith
    by false q k (inr a) f = f k a

pub one-of-more : (ns ms : List ℕ) (r : ℕ) → OneOf ns r → OneOf (ns ++ ms) r
one-of-more [] ms r h = absurd h
one-of-more (n ∷ ns) ms r (inl h) = inl h
one-of-more (n ∷ ns) ms r (inr h) = inr (one-of-more ns ms r h)

pub judged-numbers : (ns : List ℕ) (cs : List Condition) (r : ℕ) → NumberedBy ns cs → Judged cs r → OneOf (0 ∷ ns) r
judged-numbers ns [] r b j = inl j
judged-numbers ns (c ∷ cs) r b (inl a) = inr (one-of ns c.number r b.0 a.1)
judged-numbers ns (c ∷ cs) r b (inr a) = judged-numbers ns cs r b.1 a.1

pub numbered-then : (ns : List ℕ) (cs ds : List Condition) → NumberedBy ns cs → NumberedBy ns ds → NumberedBy ns (cs ++ ds)
numbered-then ns [] ds a b = b
numbered-then ns (c ∷ cs) ds a b = (a.0, numbered-then ns cs ds a.1 b)

-- each is the number of a refusal
abbrev pub AllListed : List ℕ → Type 0
AllListed [] = Unit {0}
AllListed (n ∷ ns) = (listed n ≡ true) × AllListed ns

pub numbers-listed : (ns : List ℕ) (r : ℕ) → AllListed ns → OneOf (0 ∷ ns) r → (r ≡ 0 → ⊥) → listed r ≡ true
numbers-listed ns r l (inl z) some = absurd (some z)
numbers-listed ns r l (inr o) some = by ns l o
  where
    by : (ms : List ℕ) → AllListed ms → OneOf ms r → listed r ≡ true
    by [] k q = absurd q
    by (m ∷ ms) k (inl e) = ap listed e ∙ k.0
    by (m ∷ ms) k (inr q) = by ms k.1 q
