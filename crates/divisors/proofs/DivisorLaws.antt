-- The search for a fitting divisor. Assumes nothing.
use mathlib.Core.Path.{◌≡◌, ◌∙◌, subst}
use mathlib.Core.Bool.{true, false}
use mathlib.Core.List.{List}
use mathlib.Core.Logic.{◌⊎◌, inl, inr}
use Prim.Native.Nat.{ℕ, ◌+◌, ◌-◌, ◌<◌, ◌≤◌}
use native.Mathlib.Decide.{dec_le}
use native.Mathlib.Omega.{arith}
use lib.ListN.{length, take, get_or}
use lib.Seq.{get_or-take, length-take-le}
use Rattle.std.specs.Prelude.{Option, Some, None, MatchOption}
use Rattle.monomial.specs.Words.{divides_word}
use Rattle.divisors.specs.Divisors.{lead_word, Leads, FirstFit, FirstOf, KeptLeads, KeptCount}

-- ---- the leads that are kept
pub same_or_not : (j k : ℕ) → (j ≡ k) ⊎ (j ≡ k → ⊥)
same_or_not j k = by (dec_le j k) (dec_le k j)
  where
    by : Dec (j ≤ k) → Dec (k ≤ j) → (j ≡ k) ⊎ (j ≡ k → ⊥)
    by (yes a) (yes b) = inl (omega arith)
    by (yes a) (no b) = inr (λ e. let z : ⊥ = omega arith in z)
    by (no a) b = inr (λ e. let z : ⊥ = omega arith in z)

-- i of n leads are put, which makes `leads`
pub record LeadsPut (words starts : List ℕ) (n : ℕ) (leads : List ℕ) (i : ℕ) : Type 0 where
  pub low : i ≤ n
  pub long : length leads ≡ 1024
  pub each : (j : ℕ) → j < i → get_or leads j 0 ≡ lead_word words starts (j + 1)

-- ---- the first that fits, of those kept and then of the others
module _ {words starts leads : List ℕ} {n : ℕ} (l : Leads words starts) (k : KeptLeads words starts leads) (c : KeptCount (length starts) n) where
  taken_at : (j : ℕ) → j < n → get_or (take n leads) j 0 ≡ lead_word words starts (j + 1)
  taken_at j h = get_or-take n leads j 0 h ∙ k.each j (omega (arith, c.few)) (omega (arith, c.high))

  many : length (take n leads) ≡ n
  many = length-take-le n leads (omega (arith, k.long, c.few))

  -- the search among those that are kept is over the first n
  module _ {α i : ℕ} (f : FirstOf (λ j. get_or (take n leads) j 0) α 0 (length (take n leads)) i) where
    unfit-kept : (j : ℕ) → 1 ≤ j → j < i + 1 → divides_word (lead_word words starts j) α ≡ false
    unfit-kept j a b =
        subst (λ (x : ℕ). divides_word (lead_word words starts x) α ≡ false) (let z : j - 1 + 1 ≡ j = omega arith in z)
        (subst (λ (x : ℕ). divides_word x α ≡ false) (taken_at (j - 1) (omega (arith, f.high, many))) (f.before (j - 1) (omega arith) (omega arith)))

    pub fit-kept : i < length (take n leads) → FirstFit words starts α (i + 1) × (i + 1 + 1 < length starts)
    fit-kept h = let q : i < n = omega (arith, many) in (
      record {
        low = omega arith;
        high = omega (arith, c.high);
        before = unfit-kept;
        here = λ r. subst (λ (x : ℕ). divides_word x α ≡ true) (taken_at i q) (f.here h);
      },
      omega (arith, c.high),
    )

    fit-past : n ≤ i → {r : ℕ} → FirstOf (lead_word words starts) α (n + 1) (length starts - 1) r → FirstFit words starts α r
    fit-past h {r} g = record {
      low = omega (arith, g.low);
      high = omega (arith, g.high, l.some);
      before = λ j a b. by j a b (dec_le (n + 1) j);
      here = λ q. g.here (omega arith);
    }
      where
        by : (j : ℕ) → 1 ≤ j → j < r → Dec (n + 1 ≤ j) → divides_word (lead_word words starts j) α ≡ false
        by j a b (yes q) = g.before j q b
        by j a b (no q) = unfit-kept j a (omega arith)

  -- what the search past those that are kept gives, where none of these fits
  pub fit-rest : {α : ℕ} → FirstOf (λ j. get_or (take n leads) j 0) α 0 (length (take n leads)) (length (take n leads)) → (r : Option ℕ) → MatchOption r (FirstOf (lead_word words starts) α (n + 1) (length starts - 1) (length starts - 1)) (λ i. FirstOf (lead_word words starts) α (n + 1) (length starts - 1) i × (i + 1 < length starts)) → MatchOption r (FirstFit words starts α (length starts - 1)) (λ i. FirstFit words starts α i × (i + 1 < length starts))
  fit-rest f None g = fit-past f (omega (arith, many)) g
  fit-rest f (Some i) g = (fit-past f (omega (arith, many)) g.0, g.1)
