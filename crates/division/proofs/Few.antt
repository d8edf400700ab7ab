-- How many monomials with exponents below b there are: a falling list of them in n variables has at most b^n. Assumes nothing.
use mathlib.Core.Path.{◌≡◌, refl, sym, ap, ap₂, ◌∙◌, subst}
use mathlib.Core.List.{List, [], ◌∷◌}
use Prim.Native.Nat.{ℕ, zero, suc, ◌+◌, ◌*◌, ◌^◌, ◌<◌, ◌≤◌, Ordering}
use native.Mathlib.Nat.{pow-zero, pow-suc, mul-le-mul_left, mul_comm, mul-add, mul-one}
use native.Mathlib.Decide.{dec_le}
use native.Mathlib.Omega.{arith}
use lib.ListN.{length}
use Rattle.monomial.specs.Layout.{Below}
use Rattle.monomial.specs.TotalOrder.{TotalOrder}
use Rattle.monomial.proofs.Comparing.{Tri, less, same, more, tri}
use Rattle.polynomial.specs.Terms.{Term, All, Falling}
use Rattle.polynomial.proofs.MergeLaws.{all_map}
use Rattle.division.proofs.TailLaws.{all-zip}

-- ---- terms whose monomials have different numbers
module _ {A : Type 0} (rank : A → ℕ) where
  abbrev Other : Term A → Term A → Type 0
  Other t u = rank t.mono ≡ rank u.mono → ⊥

  abbrev Different : List (Term A) → Type 0
  Different [] = Unit {0}
  Different (t ∷ ts) = All (Other t) ts × Different ts

  -- the list without the one that has the number b, if it is there
  record Without (b : ℕ) (ts : List (Term A)) : Type 1 where
    pub rest : List (Term A)
    pub part : (P : Term A → Type 0) → All P ts → All P rest
    pub count : length ts ≤ suc (length rest)
    pub different : Different rest
    pub low : All (λ t. rank t.mono < b) rest

  without : (b : ℕ) (ts : List (Term A)) → Different ts → All (λ t. rank t.mono < suc b) ts → Without b ts
  without b [] d l = record { rest = []; part = λ P a. tt; count = omega arith; different = tt; low = tt }
  without b (t ∷ ts) d l = by (dec_le b (rank t.mono)) (without b ts d.1 l.1)
    where
      by : Dec (b ≤ rank t.mono) → Without b ts → Without b (t ∷ ts)
      by (yes h) w = record {
        rest = ts;
        part = λ P a. a.1;
        count = omega arith;
        different = d.1;
        low = all-zip {P = Other t} {Q = λ u. rank u.mono < suc b} {R = λ u. rank u.mono < b} (λ u n k. lower u n k) ts d.0 l.1;
      }
        where
          lower : (u : Term A) → Other t u → rank u.mono < suc b → rank u.mono < b
          lower u n k = go (dec_le b (rank u.mono))
            where
              go : Dec (b ≤ rank u.mono) → rank u.mono < b
              go (yes q) = absurd (n (omega (arith, h, q, k, l.0)))
              go (no q) = omega (arith, q)
      by (no h) w = record {
        rest = t ∷ w.rest;
        part = λ P a. (a.0, w.part P a.1);
        count = omega (arith, w.count);
        different = (w.part (Other t) d.0, w.different);
        low = (omega (arith, h), w.low);
      }

  few : (b : ℕ) (ts : List (Term A)) → Different ts → All (λ t. rank t.mono < b) ts → length ts ≤ b
  few zero [] d l = omega arith
  few zero (t ∷ ts) d l = absurd (let q : ⊥ = omega (arith, l.0) in q)
  few (suc b) ts d l = let w = without b ts d l in omega (arith, w.count, few b w.rest w.different w.low)

-- ---- monomials: the number with the exponents as its digits
module _ (b : ℕ) where
  abbrev rank : List ℕ → ℕ
  rank [] = 0
  rank (a ∷ α) = a + b * rank α

  rank-low : (α : List ℕ) → Below b α → rank α < b ^ length α
  rank-low [] l = omega (arith, pow-zero b)
  rank-low (a ∷ α) l = omega (arith, l.0, mul-le-mul_left b (rank-low α l.1), pow-suc b (length α), mul_comm b (b ^ length α), mul-add b (rank α) 1, mul-one b)

  -- a larger number in the higher digits makes a larger number
  higher : (a c x y : ℕ) → a < b → x < y → a + b * x ≡ c + b * y → ⊥
  higher a c x y l h e = omega (arith, l, e, mul-le-mul_left b h, mul-add b x 1, mul-one b)

  -- so it determines the exponents
  rank_same : (α γ : List ℕ) → length α ≡ length γ → Below b α → Below b γ → rank α ≡ rank γ → α ≡ γ
  rank_same [] [] h l m e = refl
  rank_same [] (c ∷ γ) h l m e = absurd (let q : ⊥ = omega (arith, h) in q)
  rank_same (a ∷ α) [] h l m e = absurd (let q : ⊥ = omega (arith, h) in q)
  rank_same (a ∷ α) (c ∷ γ) h l m e = by (tri (rank α) (rank γ)) (λ k. rank_same α γ (omega (arith, h)) l.1 m.1 k)
    where
      by : Tri (rank α) (rank γ) → (rank α ≡ rank γ → α ≡ γ) → ◌≡◌ {A = List ℕ} (a ∷ α) (c ∷ γ)
      by (less k q) r = absurd (higher a c (rank α) (rank γ) l.0 k e)
      by (same k q) r = ap₂ ◌∷◌ (omega (arith, e, ap (λ (n : ℕ). b * n) k)) (r k)
      by (more k q) r = absurd (higher c a (rank γ) (rank α) m.0 k (sym e))

  module _ (n : ℕ) (cmp : List ℕ → List ℕ → Ordering) (O : TotalOrder (List ℕ) cmp) where
    -- the exponents of n variables, each below b
    abbrev pub Small : List ℕ → Type 0
    Small α = (length α ≡ n) × Below b α

    falling-different : (ts : List (Term (List ℕ))) → Falling cmp ts → All (λ t. Small t.mono) ts → Different rank ts
    falling-different [] f s = tt
    falling-different (t ∷ ts) f s =
        (all-zip {P = λ u. cmp t.mono u.mono ≡ Prim.Native.Nat.Ordering.gt} {Q = λ u. Small u.mono} {R = Other rank t} (λ u g k. apart u g k) ts f.0 s.1, falling-different ts f.1 s.1)
      where
        apart : (u : Term (List ℕ)) → cmp t.mono u.mono ≡ Prim.Native.Nat.Ordering.gt → Small u.mono → Other rank t u
        apart u g k e =
            let q = rank_same t.mono u.mono (s.0.0 ∙ sym k.0) s.0.1 k.1 e in
            let w : ◌≡◌ {A = Ordering} Prim.Native.Nat.Ordering.gt Prim.Native.Nat.Ordering.eq = sym g ∙ (ap (cmp t.mono) (sym q) ∙ O.like t.mono) in
            let z : ◌≡◌ {A = ℕ} 0 1 = cc in
            let r : ⊥ = omega arith in
            r

    pub falling-few : (ts : List (Term (List ℕ))) → Falling cmp ts → All (λ t. Small t.mono) ts → length ts ≤ b ^ n
    falling-few ts f s =
        few rank (b ^ n) ts (falling-different ts f s)
        (all_map {P = λ t. Small t.mono} {Q = λ t. rank t.mono < b ^ n} (λ t k. subst (λ (i : ℕ). rank t.mono < b ^ i) k.0 (rank-low t.mono k.1)) ts s)
