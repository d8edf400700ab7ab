-- The levels of the buckets, one after the other. Assumes nothing.
use mathlib.Core.Path.{◌≡◌, ap, subst}
use Prim.Native.Nat.{ℕ, suc, ◌+◌, ◌*◌, ◌<◌, ◌≤◌}
use native.Mathlib.Decide.{dec_le}
use native.Mathlib.Numerals.{add-one}
use native.Mathlib.Omega.{arith}
use Rattle.limits.specs.Limits.{bucket_places, most_terms}
use Rattle.space.specs.Space.{capacity, start}
use Rattle.buckets.specs.declared.level.Level.{Level}
use Rattle.buckets.specs.Levels.{LevelFor}
use Rattle.space.proofs.Starts.{next-capacity, cap-small, cap-last, next_start, start-end}

pub next_fits : (l : Level) → l.bucket < 6 → l.zone + l.cap * 4 ≤ 4 * bucket_places
next_fits l h = omega (arith, l.zone_is, l.cap_is, next_start l.bucket, start-end l.bucket h)

pub next-cap : (l : Level) → l.bucket < 6 → l.cap * 4 ≤ 16384
next-cap l h = omega (arith, l.cap_is, cap-small l.bucket h)

pub next_zone_is : (l : Level) → l.zone + l.cap * 4 ≡ 4 * start (l.bucket + 1)
next_zone_is l = omega (arith, l.zone_is, l.cap_is, next_start l.bucket, ap start (add-one l.bucket))

pub next_cap_is : (l : Level) → l.cap * 4 ≡ capacity (l.bucket + 1)
next_cap_is l = omega (arith, l.cap_is, next-capacity l.bucket, ap capacity (add-one l.bucket))

-- the areas and the capacity of bucket 0
pub zone-zero : 0 ≡ 4 * start 0
unfolding start
zone-zero = omega arith

pub cap_zero : 4 ≡ capacity 0
unfolding capacity
cap_zero = omega arith

-- a bucket that is too small is not the last
pub not_last : (i n : ℕ) → i < 6 → capacity i < n → n ≤ most_terms → suc i < 6
not_last i n h k m = by (dec_le 5 i)
  where
    by : Dec (5 ≤ i) → suc i < 6
    by (no u) = omega arith
    by (yes u) = let e : i ≡ 5 = omega arith in absurd (let z : ⊥ = omega (arith, ap capacity e, cap-last) in z)

-- ---- the climb to the lowest bucket that n terms fit into
pub record Climbing (n i : ℕ) : Type 0 where
  pub within : i < 6
  pub least : (j : ℕ) → j < i → capacity j < n

pub climb-start : (n : ℕ) → Climbing n 0
climb-start n = record { within = omega arith; least = λ j h. absurd (let z : ⊥ = omega arith in z) }

module _ (n i : ℕ) (c : Climbing n i) where
  pub climb-on : n ≤ most_terms → capacity i < n → Climbing n (suc i)
  climb-on m small =
      let up : suc i < 6 = not_last i n c.within small m in
      record { within = up; least = λ j h. by j (dec_le i j) small h }
    where
      by : (j : ℕ) → Dec (i ≤ j) → capacity i < n → j < suc i → capacity j < n
      by j (no u) small h = c.least j (omega arith)
      by j (yes u) small h = let e : i ≡ j = omega arith in subst (λ (x : ℕ). capacity x < n) e small

  pub climb-end : n ≤ capacity i → LevelFor n i
  climb-end h = record { within = c.within; fits = h; least = c.least }
