-- Rows that are laid out lie in the bucket space where document 01 says: "bucket i starts at place (4^i − 4)/3". Assumes nothing.
use Prim.Native.Nat.{ℕ, zero, suc, ◌+◌, ◌-◌, ◌*◌, ◌≤◌, ◌<◌}
use mathlib.Core.Path.{◌≡◌, sym, ap, ◌∙◌, subst}
use mathlib.Core.List.{List, [], ◌∷◌, ◌++◌, append_assoc}
use native.Mathlib.Omega.{arith}
use lib.ListN.{length, get_or, take, replicate, length-append, length-replicate}
use lib.Seq.{take_at, drop-append-add}
use Rattle.merge_common.specs.Lent.{part}
use Rattle.geobucket.specs.Buckets.{Fit}
use Rattle.space.specs.Space.{capacity, start, laid_out, place_of, padded, LiesIn}
use Rattle.space.proofs.Starts.{next_start, next-capacity, starts-are, start_up, cap-zero, six}

padded-long : (n : ℕ) (row : List ℕ) → length row ≤ n → length (padded n row) ≡ n
padded-long n row h = omega (arith, length-append row (replicate (n - length row) 0), length-replicate {A = ℕ} (n - length row) 0)

-- the first row, padded, comes first
front : (cap : ℕ) (l : List ℕ) (ls : List (List ℕ)) → laid_out cap (l ∷ ls) ≡ padded cap l ++ laid_out (4 * cap) ls
unfolding laid_out
front cap l ls = sym (append_assoc l (replicate (cap - length l) 0) (laid_out (4 * cap) ls))

next : (i : ℕ) (ls : List (List ℕ)) → Fit (4 * capacity i) ls → Fit (capacity (suc i)) ls
next i ls f = subst (λ (c : ℕ). Fit c ls) (sym (next-capacity i)) f

-- ---- rows for the buckets from i on: bucket j's lies after those between
row_at : (ls : List (List ℕ)) (i k j : ℕ) → i + k ≡ j → k < length ls → Fit (capacity i) ls → part (start j - start i) (capacity j) (laid_out (capacity i) ls) ≡ padded (capacity j) (get_or ls k [])
unfolding Fit
row_at [] i k j e h f = absurd (let z : ⊥ = omega arith in z)
row_at (l ∷ ls) i zero j e h f =
    let same : i ≡ j = omega arith in
    let none : start i - start i ≡ 0 = omega arith in
    subst (λ (m : ℕ). part (start m - start i) (capacity m) (laid_out (capacity i) (l ∷ ls)) ≡ padded (capacity m) l) same
    (ap (λ (n : ℕ). part n (capacity i) (laid_out (capacity i) (l ∷ ls))) none
    ∙ (ap (take (capacity i)) (front (capacity i) l ls) ∙ take_at (padded (capacity i) l) (laid_out (4 * capacity i) ls) (capacity i) (padded-long (capacity i) l f.0)))
row_at (l ∷ ls) i (suc k) j e h f =
    let later : start (suc i) ≤ start j = start_up (suc i) j (omega arith) in
    let past : start j - start i ≡ length (padded (capacity i) l) + (start j - start (suc i)) = omega (arith, next_start i, padded-long (capacity i) l f.0) in
    ap (λ (n : ℕ). part n (capacity j) (laid_out (capacity i) (l ∷ ls))) past
    ∙ (ap (λ (s : List ℕ). part (length (padded (capacity i) l) + (start j - start (suc i))) (capacity j) s) (front (capacity i) l ls)
    ∙ (ap (take (capacity j)) (drop-append-add (padded (capacity i) l) (laid_out (4 * capacity i) ls) (start j - start (suc i)))
    ∙ (ap (λ (c : ℕ). part (start j - start (suc i)) (capacity j) (laid_out c ls)) (sym (next-capacity i))
    ∙ row_at ls (suc i) k j (omega arith) (omega arith) (next i ls f.1))))

rows_long : (ls : List (List ℕ)) (i j : ℕ) → i + length ls ≡ j → Fit (capacity i) ls → start i + length (laid_out (capacity i) ls) ≡ start j
unfolding Fit laid_out
rows_long [] i j e f = let same : start i ≡ start j = ap start (let z : i ≡ j = omega arith in z) in omega arith
rows_long (l ∷ ls) i j e f =
    let rest : start (suc i) + length (laid_out (capacity (suc i)) ls) ≡ start j = rows_long ls (suc i) j (omega arith) (next i ls f.1) in
    let same : length (laid_out (4 * capacity i) ls) ≡ length (laid_out (capacity (suc i)) ls) = ap (λ (c : ℕ). length (laid_out c ls)) (sym (next-capacity i)) in
    let whole : length (laid_out (capacity i) (l ∷ ls)) ≡ length (padded (capacity i) l) + length (laid_out (4 * capacity i) ls) = ap length (front (capacity i) l ls) ∙ length-append (padded (capacity i) l) (laid_out (4 * capacity i) ls) in
    omega (arith, next_start i, padded-long (capacity i) l f.0)

-- ---- all six
module _ (ls : List (List ℕ)) (count : length ls ≡ 6) (f : Fit 4 ls) where
  fits : Fit (capacity 0) ls
  fits = subst (λ (c : ℕ). Fit c ls) (sym cap-zero) f

  first : laid_out (capacity 0) ls ≡ laid_out 4 ls
  first = ap (λ (c : ℕ). laid_out c ls) cap-zero

  at : (i : ℕ) → 1 ≤ i → i ≤ 6 → part (place_of i) (place_of (suc i) - place_of i) (laid_out 4 ls) ≡ padded (place_of (suc i) - place_of i) (get_or ls (i - 1) [])
  unfolding start
  at zero lo hi = absurd (let z : ⊥ = omega arith in z)
  at (suc k) lo hi =
      let here : start k - start 0 ≡ place_of (suc k) = omega (arith, starts-are k) in
      let size : capacity k ≡ place_of (suc (suc k)) - place_of (suc k) = omega (arith, next_start k, starts-are k, starts-are (suc k)) in
      let row : k ≡ suc k - 1 = omega arith in
      subst (λ (m : ℕ). part (place_of (suc k)) (place_of (suc (suc k)) - place_of (suc k)) (laid_out 4 ls) ≡ padded (place_of (suc (suc k)) - place_of (suc k)) (get_or ls m [])) row
      (subst (λ (n : ℕ). part (place_of (suc k)) n (laid_out 4 ls) ≡ padded n (get_or ls k [])) size
      (subst (λ (n : ℕ). part n (capacity k) (laid_out 4 ls) ≡ padded (capacity k) (get_or ls k [])) here
      (subst (λ (s : List ℕ). part (start k - start 0) (capacity k) s ≡ padded (capacity k) (get_or ls k [])) first (row_at ls 0 k k (omega arith) (omega arith) fits))))

  pub laid_out_lem : LiesIn ls (laid_out 4 ls)
  unfolding start
  laid_out_lem = record { long = omega (arith, rows_long ls 0 6 (omega arith) fits, ap length first, six); row_is = at }
