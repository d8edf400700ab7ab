-- The search is paid by the terms that it removes: a pass makes fewer comparisons than there are levels, and the candidate that it ends with has as much credit. Assumes nothing.
use mathlib.Core.List.{List, [], ◌∷◌}
use Prim.Native.Nat.{ℕ, suc, ◌+◌, ◌-◌, ◌*◌, ◌<◌, ◌≤◌, Ordering}
use native.Mathlib.Nat.{mul-le-mul_right}
use native.Mathlib.Omega.{arith}
use lib.ListN.{length, length-append}
use Rattle.monomial.specs.TotalOrder.{TotalOrder}
use Rattle.polynomial.specs.Terms.{Term}
use Rattle.polynomial.specs.Merge.{keep}
use Rattle.polynomial.proofs.MergeLaws.{length-keep}
use Rattle.geobucket.specs.Buckets.{held, Canon}
use Rattle.geobucket.specs.Search.{Pass, seek, pass, search}
use Rattle.geobucket.specs.Credit.{credit, Low}
use Rattle.geobucket.proofs.SearchLaws.{shrunk-low, seek-along, search-along, passes}

-- ---- the sums of one bucket, on plain numbers: a term of the candidate's bucket has w, one of the bucket that is looked at v
ends-pays : (n w d : ℕ) → d ≤ w → n * w + 0 + d ≤ suc n * w + 0
ends-pays n w d h = omega arith

replaced-pays : (K n o m w v a c d : ℕ) → K ≤ suc n → o * v + a + d ≤ suc m * v + c → K * w + (o * v + a) + d ≤ suc n * w + (suc m * v + c)
replaced-pays K n o m w v a c d h k = let e : K * w ≤ suc n * w = mul-le-mul_right w h in omega arith

passed-pays : (l n o m w v a c d : ℕ) → l ≤ m → o * w + a + d ≤ suc n * w + c → o * w + (l * v + a) + d ≤ suc n * w + (m * v + c)
passed-pays l n o m w v a c d h k = let e : l * v ≤ m * v = mul-le-mul_right v h in omega arith

module _ {A : Type 0} (cmp : A → A → Ordering) (p : ℕ) (M : ℕ) where
  -- a pass whose candidate is in bucket i, the buckets above being those from level j on
  pub record Cheap (i j : ℕ) (xs : List (Term A)) (bs : List (List (Term A))) (s : Pass A) : Type 0 where
    pub few : length s.pairs ≤ M + 1 - j
    pub pays : length s.own * (6 * M - 1 - 5 * i) + credit M j s.above + (M - 1) ≤ suc (length xs) * (6 * M - 1 - 5 * i) + credit M j bs

  cheap : (bs : List (List (Term A))) (x : Term A) (xs : List (Term A)) (i j : ℕ) → i ≤ M → Low M j bs → Cheap i j xs bs (seek cmp p x xs bs)
  unfolding credit Low
  cheap =
      seek-along cmp p (λ x xs bs s. (i j : ℕ) → i ≤ M → Low M j bs → Cheap i j xs bs s)
      (λ x xs i j h l. record { few = omega arith; pays = ends-pays (length xs) (6 * M - 1 - 5 * i) (M - 1) (omega arith) })
      (λ x xs bs s r i j h l.
      let a = r i (suc j) h l.1 in
      record {
        few = omega (arith, a.few);
        pays = passed-pays 0 (length xs) (length s.own) 0 (6 * M - 1 - 5 * i) (6 * M - 1 - 5 * j) (credit M (suc j) s.above) (credit M (suc j) bs) (M - 1) (omega arith) a.pays;
      })
      (λ x xs y ys bs s e r i j h l.
      let low : j ≤ M = l.0 (omega arith) in
      let a = r j (suc j) low l.1 in
      record {
        few = omega (arith, a.few);
        pays = replaced-pays (length (keep x.mono x.coef xs)) (length xs) (length s.own) (length ys) (6 * M - 1 - 5 * i) (6 * M - 1 - 5 * j) (credit M (suc j) s.above) (credit M (suc j) bs) (M - 1) (length-keep x.mono x.coef xs) a.pays;
      })
      (λ x xs y ys bs s e r i j h l.
      let low : j ≤ M = l.0 (omega arith) in
      let a = r i (suc j) h l.1 in
      record {
        few = omega (arith, a.few);
        pays = passed-pays (length ys) (length xs) (length s.own) (suc (length ys)) (6 * M - 1 - 5 * i) (6 * M - 1 - 5 * j) (credit M (suc j) s.above) (credit M (suc j) bs) (M - 1) (omega arith) a.pays;
      })
      (λ x xs y ys bs s e r i j h l.
      let low : j ≤ M = l.0 (omega arith) in
      let a = r i (suc j) h l.1 in
      record {
        few = omega (arith, a.few);
        pays = passed-pays (suc (length ys)) (length xs) (length s.own) (suc (length ys)) (6 * M - 1 - 5 * i) (6 * M - 1 - 5 * j) (credit M (suc j) s.above) (credit M (suc j) bs) (M - 1) (omega arith) a.pays;
      })

  pub pass-paid : (bs : List (List (Term A))) (i : ℕ) → 1 ≤ i → Low M i bs → length (pass cmp p bs).pairs + credit M i (pass cmp p bs).buckets ≤ credit M i bs
  unfolding pass credit Low
  pass-paid [] i h l = omega arith
  pass-paid ([] ∷ bs) i h l = omega (arith, pass-paid bs (suc i) (omega arith) l.1)
  pass-paid ((x ∷ xs) ∷ bs) i h l =
      let low : i ≤ M = l.0 (omega arith) in
      let a = cheap bs x xs i (suc i) low l.1 in
      omega (arith, a.few, a.pays)

  module _ (O : TotalOrder A cmp) (pos : 0 < p) where
    pub search-paid : (bs : List (List (Term A))) → Canon cmp p bs → Low M 1 bs → length (search cmp p bs).pairs + credit M 1 (search cmp p bs).buckets ≤ credit M 1 bs
    search-paid bs =
        search-along cmp p (λ bs s. Canon cmp p bs → Low M 1 bs → length s.pairs + credit M 1 s.buckets ≤ credit M 1 bs)
        (λ bs g l. omega arith)
        (λ bs g l. pass-paid bs 1 (omega arith) l)
        (λ bs s r g l.
        let q = passes cmp p O pos bs g in
        let d = r q.canon (shrunk-low M 1 (pass cmp p bs).buckets bs q.short l) in
        omega (arith, pass-paid bs 1 (omega arith) l, length-append (pass cmp p bs).pairs s.pairs))
        (suc (held bs)) bs
