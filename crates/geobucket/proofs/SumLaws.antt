-- The full sum: it is the canonical list of the true sum, and is paid by the terms that it takes out of the buckets. Assumes nothing.
use mathlib.Core.Path.{◌≡◌, refl, ap, ◌∙◌}
use mathlib.Core.List.{List, [], ◌∷◌}
use Prim.Native.Nat.{ℕ, suc, ◌+◌, ◌-◌, ◌*◌, ◌%◌, ◌<◌, ◌≤◌, Ordering}
use native.Mathlib.Nat.{mul-le-mul_right, mul-le-mul_left}
use native.Mathlib.Omega.{arith}
use lib.ListN.{length, length-append}
use Rattle.residue.proofs.Remainder.{add_same}
use Rattle.monomial.specs.TotalOrder.{TotalOrder}
use Rattle.polynomial.specs.Terms.{Term, total, Canonical}
use Rattle.polynomial.specs.Merge.{merge, compared, merge_count}
use Rattle.polynomial.proofs.MergeLaws.{merge-size, merge-canonical, merge-nil, compared-nil, count-size}
use Rattle.polynomial.proofs.CoefLaws.{total-merge}
use Rattle.geobucket.specs.Buckets.{held, Canon, total_in, sum_from, sum_compared, emptied}
use Rattle.geobucket.specs.Credit.{credit, Low}

module _ {A : Type 0} (cmp : A → A → Ordering) (p : ℕ) where
  module _ (O : TotalOrder A cmp) where
    pub sum-totals : (m : A) (f : List (Term A)) (bs : List (List (Term A))) → total cmp m (sum_from cmp p f bs) % p ≡ (total cmp m f + total_in cmp m bs) % p
    unfolding sum_from total_in
    sum-totals m f [] = ap (λ (n : ℕ). n % p) (let e : total cmp m f ≡ total cmp m f + 0 = omega arith in e)
    sum-totals m f (b ∷ bs) =
        sum-totals m (merge cmp p f b) bs
        ∙ (add_same p (total cmp m (merge cmp p f b)) (total cmp m f + total cmp m b) (total_in cmp m bs) (total-merge cmp O p m f b)
        ∙ ap (λ (n : ℕ). n % p) (let e : total cmp m f + total cmp m b + total_in cmp m bs ≡ total cmp m f + (total cmp m b + total_in cmp m bs) = omega arith in e))

    pub sum-canonical : 0 < p → (f : List (Term A)) (bs : List (List (Term A))) → Canonical cmp p f → Canon cmp p bs → Canonical cmp p (sum_from cmp p f bs)
    unfolding sum_from Canon
    sum-canonical pos f [] c g = c
    sum-canonical pos f (b ∷ bs) c g = sum-canonical pos (merge cmp p f b) bs (merge-canonical cmp O p pos f b c g.0) g.1

  pub sum-size : (f : List (Term A)) (bs : List (List (Term A))) → length (sum_from cmp p f bs) ≤ length f + held bs
  unfolding sum_from held
  sum-size f [] = omega arith
  sum-size f (b ∷ bs) = omega (arith, sum-size (merge cmp p f b) bs, merge-size cmp p f b)

  -- ---- the cost
  module _ (M : ℕ) where
    -- a term that joins at level i is in the merges of the levels i to M
    unfoldable share : ℕ → List (List (Term A)) → ℕ
    share i [] = 0
    share i (b ∷ bs) = length b * (M + 1 - i) + share (suc i) bs

    step-costs : (F B m w q r c : ℕ) → m ≤ F + B → q ≤ F + B → r ≤ m * w + c → q + r ≤ F * (w + 1) + (B * (w + 1) + c)
    step-costs F B m w q r c h k l = let e : m * w ≤ (F + B) * w = mul-le-mul_right w h in omega arith

    pass-costs : (F v w r c : ℕ) → v ≤ w → r ≤ F * v + c → r ≤ F * w + (0 * w + c)
    pass-costs F v w r c h l = let e : F * v ≤ F * w = mul-le-mul_left F h in omega arith

    sum-costs : (bs : List (List (Term A))) (i : ℕ) (f : List (Term A)) → Low M i bs → length (sum_compared cmp p f bs) ≤ length f * (M + 1 - i) + share i bs
    unfolding sum_compared share Low
    sum-costs [] i f l = omega arith
    sum-costs ([] ∷ bs) i f l =
        let r : length (sum_compared cmp p f bs) ≤ length f * (M + 1 - suc i) + share (suc i) bs = sum-costs bs (suc i) f l.1 in
        rw (compared-nil cmp f, merge-nil cmp p f) (pass-costs (length f) (M + 1 - suc i) (M + 1 - i) (length (sum_compared cmp p f bs)) (share (suc i) bs) (omega arith) r)
    sum-costs ((t ∷ ts) ∷ bs) i f l =
        let b = t ∷ ts in
        let low : i ≤ M = l.0 (omega arith) in
        let w : M + 1 - suc i + 1 ≡ M + 1 - i = omega arith in
        let q : merge_count cmp f b ≤ length f + length b = omega (arith, count-size cmp p f b) in
        rw (length-append (compared cmp f b) (sum_compared cmp p (merge cmp p f b) bs), ← w)
        (step-costs (length f) (length b) (length (merge cmp p f b)) (M + 1 - suc i) (merge_count cmp f b) (length (sum_compared cmp p (merge cmp p f b) bs)) (share (suc i) bs) (merge-size cmp p f b) q (sum-costs bs (suc i) (merge cmp p f b) l.1))

    -- above level 1, a term's share is within its credit
    shared : (bs : List (List (Term A))) (i : ℕ) → 2 ≤ i → Low M i bs → share i bs ≤ credit M i bs
    unfolding share credit Low
    shared [] i h l = omega arith
    shared ([] ∷ bs) i h l = let r = shared bs (suc i) (omega arith) l.1 in omega arith
    shared ((t ∷ ts) ∷ bs) i h l =
        let low : i ≤ M = l.0 (omega arith) in
        let r = shared bs (suc i) (omega arith) l.1 in
        let e : length (t ∷ ts) * (M + 1 - i) ≤ length (t ∷ ts) * (6 * M - 1 - 5 * i) = mul-le-mul_left (length (t ∷ ts)) (omega arith) in
        omega arith

    -- the full sum is paid by the credit of the terms held: the lowest bucket's are taken over without a comparison
    pub sum-paid : 1 ≤ M → (bs : List (List (Term A))) → Low M 1 bs → length (sum_compared cmp p [] bs) ≤ credit M 1 bs
    unfolding sum_compared credit Low compared merge
    sum-paid one [] l = omega arith
    sum-paid one (b ∷ bs) l =
        let e : length b * (M + 1 - 2) ≤ length b * (6 * M - 1 - 5 * 1) = mul-le-mul_left (length b) (omega arith) in
        omega (arith, sum-costs bs 2 b l.1, shared bs 2 (omega arith) l.1)

-- emptied buckets have no credit, and hold nothing
pub emptied-credit : {A : Type 0} (M i : ℕ) (bs : List (List (Term A))) → credit M i (emptied bs) ≡ 0
unfolding emptied credit
emptied-credit M i [] = refl
emptied-credit M i (b ∷ bs) = omega (arith, emptied-credit M (suc i) bs)

pub emptied-held : {A : Type 0} (bs : List (List (Term A))) → held (emptied bs) ≡ 0
unfolding emptied held
emptied-held [] = refl
emptied-held (b ∷ bs) = omega (arith, emptied-held bs)
