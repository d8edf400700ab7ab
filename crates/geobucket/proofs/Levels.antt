-- The number of levels in the bound: it is the smaller of 6 and the least whole number from 1 up whose power of 4 reaches N. Assumes nothing.
use mathlib.Core.Path.{◌≡◌, refl, sym, subst}
use mathlib.Core.Logic.{inl, inr, ⊎_elim}
use Prim.Native.Nat.{ℕ, zero, suc, ◌+◌, ◌^◌, ◌<◌, ◌≤◌}
use native.Mathlib.Decide.{dec_le}
use native.Mathlib.Omega.{arith}
use borrow.Author.Tests.{le-leb, lt-leb}
use Rattle.limits.specs.Limits.{most_terms}
use Rattle.geobucket.specs.Events.{level_from, levels}
use Rattle.geobucket.specs.Levels.{IsLevels}
use Rattle.geobucket.proofs.Credit.{climbs}

level-from : (n more i : ℕ) → 1 ≤ i → i + more ≡ 6 → ((m : ℕ) → 1 ≤ m → n ≤ 4 ^ m → i ≤ m) → IsLevels n (level_from more i n)
unfolding level_from
level-from n zero i h s below =
    let e : i ≡ 6 = omega arith in
    record { one = h; six = omega arith; reaches = inr e; least = below }
level-from n (suc more) i h s below = go (dec_le n (4 ^ i)) (λ g. level-from n more (suc i) (omega arith) (omega arith) g)
  where
    go : Dec (n ≤ 4 ^ i) → (((m : ℕ) → 1 ≤ m → n ≤ 4 ^ m → suc i ≤ m) → IsLevels n (level_from more (suc i) n)) → IsLevels n (level_from (suc more) i n)
    go (yes k) r = rw (le-leb n (4 ^ i) k, level_from) (record { one = h; six = omega arith; reaches = inl k; least = below })
    go (no k) r =
        let l : 4 ^ i < n = omega arith in
        rw (lt-leb n (4 ^ i) l, level_from) (r (λ m o q. climbs i m n l q))

pub levels-are : (n : ℕ) → IsLevels n (levels n)
levels-are n = level-from n 5 1 (omega arith) refl (λ m o q. o)

-- there is no other such number
not-above : (n M L : ℕ) → IsLevels n M → IsLevels n L → M ≤ L
not-above n M L a b = ⊎_elim (λ h. a.least L b.one h) (λ e. omega (arith, a.six)) b.reaches

pub levels-once : (n M L : ℕ) → IsLevels n M → IsLevels n L → M ≡ L
levels-once n M L a b = omega (arith, not-above n M L a b, not-above n L M b a)

-- no more terms can be held than the levels have room for: 4,096 is 4 to the power 6
pub levels-enough : (n M : ℕ) → IsLevels n M → (h : ℕ) → h ≤ n → h ≤ most_terms → h ≤ 4 ^ M
levels-enough n M a h few small = ⊎_elim (λ r. omega arith) (λ e. subst (λ (j : ℕ). h ≤ 4 ^ j) (sym e) small) a.reaches
