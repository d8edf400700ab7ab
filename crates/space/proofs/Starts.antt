-- Where the buckets start at return: document 01's "bucket i starts at place (4^i − 4)/3", its bucket i being bucket i - 1 here; and the zones that they lie in while a call runs. Assumes nothing.
use Prim.Native.Nat.{ℕ, zero, suc, ◌+◌, ◌-◌, ◌*◌, ◌/◌, ◌^◌, ◌≤◌, ◌<◌}
use mathlib.Core.Path.{◌≡◌, refl, ap, ◌∙◌, subst}
use native.Mathlib.Nat.{add-zero, add-suc, pow-suc, pow-le-pow_right}
use native.Mathlib.Decide.{dec_le}
use native.Mathlib.Omega.{arith}
use borrow.Author.Tests.{lt-ltb, le-ltb}
use lib.Dec.{lit<}
use Rattle.limits.specs.Limits.{bucket_places, work_places, most_terms}
use Rattle.space.specs.Space.{capacity, start, all_places, zone, zone_end}

pub next_start : (i : ℕ) → start (suc i) ≡ start i + capacity i
unfolding start
next_start i = refl

capacity-is : (i : ℕ) → capacity i ≡ 4 ^ suc i
unfolding capacity
capacity-is i = omega (arith, pow-suc 4 i)

pub next-capacity : (i : ℕ) → capacity (suc i) ≡ 4 * capacity i
next-capacity i = omega (arith, capacity-is i, capacity-is (suc i), pow-suc 4 (suc i))

-- a bucket's capacity is 4 more than three times its start
thrice : (i : ℕ) → 3 * start i + 4 ≡ capacity i
unfolding start capacity
thrice zero = refl
thrice (suc i) = omega (arith, thrice i, next_start i, next-capacity i)

pub starts-are : (i : ℕ) → start i ≡ (4 ^ suc i - 4) / 3
starts-are i = omega (arith, thrice i, capacity-is i)

pub six : start 6 ≡ bucket_places
unfolding start capacity
six = refl

-- each bucket ends within the space
pub ends-within : (i : ℕ) → i < 6 → start i + capacity i ≤ bucket_places
ends-within i h =
    let grows : 4 ^ suc i ≤ 4 ^ 6 = pow-le-pow_right (lit< tt) h in
    omega (arith, thrice i, thrice 5, six, next_start 5, capacity-is i, capacity-is 5)

pub start-end : (i : ℕ) → i < 6 → start (suc i) ≤ bucket_places
start-end i h = omega (arith, next_start i, ends-within i h)

start-rises : (j d : ℕ) → start j ≤ start (j + d)
start-rises j zero = let e : start (j + 0) ≡ start j = ap start (add-zero j) in omega arith
start-rises j (suc d) = let e : start (j + suc d) ≡ start (j + d) + capacity (j + d) = ap start (add-suc j d) ∙ next_start (j + d) in omega (arith, start-rises j d)

pub start_up : (j i : ℕ) → j ≤ i → start j ≤ start i
start_up j i h = let e : j + (i - j) ≡ i = omega arith in subst (λ (n : ℕ). start j ≤ start n) e (start-rises j (i - j))

-- the capacities
pub cap-zero : capacity 0 ≡ 4
unfolding capacity
cap-zero = refl

pub cap-last : capacity 5 ≡ most_terms
unfolding capacity
cap-last = refl

pub cap-small : (i : ℕ) → i < 6 → capacity i ≤ most_terms
cap-small i h = let grows : 4 ^ suc i ≤ 4 ^ 6 = pow-le-pow_right (lit< tt) h in omega (arith, capacity-is i, capacity-is 5, cap-last)

-- ---- the zones
pub five : start 5 ≡ 1364
unfolding start capacity
five = refl

-- buckets 0 to 4 have theirs in the work space
pub zone-work : (i : ℕ) → i < 5 → zone i ≡ 4 * start i
unfolding zone
zone-work i h = rw (lt-ltb i 5 h, zone)

pub end-work : (i : ℕ) → i < 5 → zone_end i ≡ 4 * start (suc i)
unfolding zone_end
end-work i h = rw (lt-ltb i 5 h, zone_end)

-- two areas of twice the capacity
pub zone-areas : (i : ℕ) → i < 5 → zone i + 4 * capacity i ≡ zone_end i
zone-areas i h = omega (arith, zone-work i h, end-work i h, next_start i)

pub end-in-work : (i : ℕ) → i < 5 → zone_end i ≤ work_places
end-in-work i h = omega (arith, end-work i h, start_up (suc i) 5 h, five)

-- bucket 5 has its place in the bucket space
pub zone-past : (i : ℕ) → 5 ≤ i → zone i ≡ work_places + start i
unfolding zone
zone-past i h = rw (le-ltb i 5 h, zone)

pub end-past : (i : ℕ) → 5 ≤ i → zone_end i ≡ work_places + start (suc i)
unfolding zone_end
end-past i h = rw (le-ltb i 5 h, zone_end)

pub zone-five : zone 5 ≡ work_places + 1364
zone-five = omega (arith, zone-past 5 (omega arith), five)

pub end-five : zone_end 5 ≡ all_places
end-five = omega (arith, end-past 5 (omega arith), six)

-- zones lie apart
pub zones-apart : (j i : ℕ) → j < i → zone_end j ≤ zone i
zones-apart j i h = by (dec_le 5 j) (dec_le 5 i)
  where
    up : start (suc j) ≤ start i
    up = start_up (suc j) i h

    by : Dec (5 ≤ j) → Dec (5 ≤ i) → zone_end j ≤ zone i
    by (yes u) (yes v) = omega (arith, end-past j u, zone-past i v, up)
    by (yes u) (no v) = absurd (let z : ⊥ = omega arith in z)
    by (no u) (yes v) = omega (arith, end-in-work j (omega arith), zone-past i v)
    by (no u) (no v) = omega (arith, end-work j (omega arith), zone-work i (omega arith), up)

pub zone-end : (i : ℕ) → i < 6 → zone_end i ≤ all_places
zone-end i h = by (dec_le 5 i)
  where
    by : Dec (5 ≤ i) → zone_end i ≤ all_places
    by (yes u) = omega (arith, end-past i u, start-end i h)
    by (no u) = omega (arith, end-in-work i (omega arith))
