-- The bound, by credits: a term in bucket i has 6M - 1 - 5i, and each comparison is paid by the credit that terms give up. Assumes nothing.
use mathlib.Core.Path.{◌≡◌, refl, sym, ap, ◌∙◌, subst}
use mathlib.Core.List.{List, [], ◌∷◌}
use Prim.Native.Nat.{ℕ, suc, ◌+◌, ◌-◌, ◌*◌, ◌^◌, ◌<◌, ◌≤◌, Ordering}
use native.Mathlib.Nat.{mul_comm, mul-le-mul_right, pow-le-pow_right, pow-suc, lt_of_not-le}
use native.Mathlib.Omega.{arith}
use lib.Dec.{lit<}
use lib.ListN.{length, length-append}
use Rattle.polynomial.specs.Terms.{Term}
use Rattle.polynomial.specs.Merge.{merge, compared, merge_count}
use Rattle.polynomial.proofs.MergeLaws.{merge-size, count-size}
use Rattle.geobucket.specs.Buckets.{held, Fit, carry, carry_compared, place, place_compared, add, add_compared}
use Rattle.geobucket.specs.Credit.{credit, Low}
use Rattle.geobucket.proofs.AddLaws.{carry-along, place-along}

-- a level above M would need more terms than there are
pub climbs : (i M n : ℕ) → 4 ^ i < n → n ≤ 4 ^ M → i < M
climbs i M n h k = lt_of_not-le (λ q. let e : 4 ^ M ≤ 4 ^ i = pow-le-pow_right (lit< tt) q in let z : ⊥ = omega arith in z)

next_level : (i : ℕ) → 4 * 4 ^ i ≡ 4 ^ suc i
next_level i = let e = pow-suc 4 i in omega arith

-- ---- the sums of one level, on plain numbers: F terms arrive at a bucket of B, m are left, q comparisons are made
stay-pays : (F B m w q c : ℕ) → m ≤ F + B → q ≤ 5 * F → q + (m * w + c) ≤ F * (w + 5) + (B * w + c)
stay-pays F B m w q c h k = let e : m * w ≤ (F + B) * w = mul-le-mul_right w h in omega arith

go-pays : (F B m w v q r c d : ℕ) → m ≤ F + B → q ≤ 5 * F → w ≡ v + 5 → r + d ≤ m * (v + 5) + c → q + r + (0 * w + d) ≤ F * (w + 5) + (B * w + c)
go-pays F B m w v q r c d h k e l =
    let s : m * w ≤ (F + B) * w = mul-le-mul_right w h in
    let t : m * w ≡ m * (v + 5) = ap (λ (n : ℕ). m * n) e in
    omega arith

on-pays : (F B w v r c d : ℕ) → w ≡ v + 5 → r + d ≤ F * (v + 5) + c → r + (B * w + d) ≤ F * (w + 5) + (B * w + c)
on-pays F B w v r c d e l =
    let t : F * w ≡ F * (v + 5) = ap (λ (n : ℕ). F * n) e in
    omega arith

weight-falls : (M i : ℕ) → i < M → 6 * M - 1 - 5 * i ≡ 6 * M - 1 - 5 * suc i + 5
weight-falls M i h = omega arith

module _ {A : Type 0} (cmp : A → A → Ordering) (p : ℕ) (M : ℕ) where
  -- what an addition at level i costs, and what the terms have then
  pub record Paid (i : ℕ) (f : List (Term A)) (bs cs : List (List (Term A))) (qs : List (A × A)) : Type 0 where
    pub cost : length qs + credit M i cs ≤ length f * (6 * M - 1 - 5 * i + 5) + credit M i bs
    pub low : Low M i cs

  -- what is asked: the buckets are within capacity, f is large for the level, and all terms together are few enough
  Asked : ℕ → ℕ → List (Term A) → List (List (Term A)) → Type 0
  Asked i cap f bs = (cap ≡ 4 ^ i) × (cap ≤ 4 * length f) × (length f + held bs ≤ 4 ^ M) × Fit cap bs × Low M i bs × (i ≤ M)

  none-paid : (i : ℕ) (f : List (Term A)) → Paid i f [] [] []
  unfolding credit Low
  none-paid i f = record { cost = omega arith; low = tt }

  merge-cost : (cap : ℕ) (f b : List (Term A)) → length b ≤ cap → cap ≤ 4 * length f → merge_count cmp f b ≤ 5 * length f
  merge-cost cap f b h k = omega (arith, count-size cmp p f b)

  carry-paid : (cap : ℕ) (f : List (Term A)) (bs : List (List (Term A))) (i : ℕ) → Asked i cap f bs → Paid i f bs (carry cmp p cap f bs) (carry_compared cmp p cap f bs)
  unfolding Asked credit Low Fit held
  carry-paid =
      carry-along cmp p (λ cap f bs cs qs. (i : ℕ) → Asked i cap f bs → Paid i f bs cs qs)
      (λ cap f i a. none-paid i f)
      (λ cap f b bs l i a. record {
        cost = stay-pays (length f) (length b) (length (merge cmp p f b)) (6 * M - 1 - 5 * i) (merge_count cmp f b) (credit M (suc i) bs) (merge-size cmp p f b) (merge-cost cap f b a.3.0 a.1);
        low = (λ k. a.5, a.4.1);
      })
      (λ cap f b bs cs qs l r i a.
      let s = merge-size cmp p f b in
      let up : i < M = climbs i M (length (merge cmp p f b)) (let e : 4 ^ i < length (merge cmp p f b) = omega (arith, a.0) in e) (let e : length (merge cmp p f b) ≤ 4 ^ M = omega (arith, a.2) in e) in
      let t = r (suc i) (ap (λ (n : ℕ). 4 * n) a.0 ∙ next_level i, let e : 4 * cap ≤ 4 * length (merge cmp p f b) = omega arith in e, let e : length (merge cmp p f b) + held bs ≤ 4 ^ M = omega (arith, a.2) in e, a.3.1, a.4.1, up) in
      record {
        cost = subst (λ (n : ℕ). n + (0 * (6 * M - 1 - 5 * i) + credit M (suc i) cs) ≤ length f * (6 * M - 1 - 5 * i + 5) + (length b * (6 * M - 1 - 5 * i) + credit M (suc i) bs)) (sym (length-append (compared cmp f b) qs))
            (go-pays (length f) (length b) (length (merge cmp p f b)) (6 * M - 1 - 5 * i) (6 * M - 1 - 5 * suc i) (merge_count cmp f b) (length qs) (credit M (suc i) bs) (credit M (suc i) cs) s (merge-cost cap f b a.3.0 a.1) (weight-falls M i up) t.cost);
        low = (λ k. a.5, t.low);
      })

  place-paid : (cap : ℕ) (f : List (Term A)) (bs : List (List (Term A))) (i : ℕ) → Asked i cap f bs → Paid i f bs (place cmp p cap f bs) (place_compared cmp p cap f bs)
  unfolding Asked credit Low Fit held
  place-paid =
      place-along cmp p (λ cap f bs cs qs. (i : ℕ) → Asked i cap f bs → Paid i f bs cs qs)
      (λ cap f i a. none-paid i f)
      (λ cap f b bs l i a. carry-paid cap f (b ∷ bs) i a)
      (λ cap f b bs cs qs l r i a.
      let up : i < M = climbs i M (length f) (let e : 4 ^ i < length f = omega (arith, a.0) in e) (let e : length f ≤ 4 ^ M = omega (arith, a.2) in e) in
      let t = r (suc i) (ap (λ (n : ℕ). 4 * n) a.0 ∙ next_level i, let e : 4 * cap ≤ 4 * length f = omega arith in e, let e : length f + held bs ≤ 4 ^ M = omega (arith, a.2) in e, a.3.1, a.4.1, up) in
      record {
        cost = on-pays (length f) (length b) (6 * M - 1 - 5 * i) (6 * M - 1 - 5 * suc i) (length qs) (credit M (suc i) bs) (credit M (suc i) cs) (weight-falls M i up) t.cost;
        low = (a.4.0, t.low);
      })

  -- an addition: each of its terms comes with 6M - 1
  pub add-paid : 1 ≤ M → (f : List (Term A)) (bs : List (List (Term A))) → length f + held bs ≤ 4 ^ M → Fit 4 bs → Low M 1 bs
      → (length (add_compared cmp p f bs) + credit M 1 (add cmp p f bs) ≤ (6 * M - 1) * length f + credit M 1 bs) × Low M 1 (add cmp p f bs)
  unfolding add add_compared Asked
  add-paid one [] bs h g l = (omega arith, l)
  add-paid one (t ∷ ts) bs h g l =
      let a = place-paid 4 (t ∷ ts) bs 1 (refl, omega arith, h, g, l, one) in
      let e : 6 * M - 1 - 5 * 1 + 5 ≡ 6 * M - 1 = omega arith in
      let k : length (t ∷ ts) * (6 * M - 1 - 5 * 1 + 5) ≡ (6 * M - 1) * length (t ∷ ts) = ap (λ (n : ℕ). length (t ∷ ts) * n) e ∙ mul_comm (length (t ∷ ts)) (6 * M - 1) in
      (subst (λ (n : ℕ). length (place_compared cmp p 4 (t ∷ ts) bs) + credit M 1 (place cmp p 4 (t ∷ ts) bs) ≤ n + credit M 1 bs) k a.cost, a.low)
