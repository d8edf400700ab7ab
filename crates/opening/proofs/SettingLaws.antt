-- The setting's refusals, test by test, and what a setting that passes is. Assumes nothing.
use mathlib.Core.Path.{◌≡◌, subst}
use mathlib.Core.Bool.{true, false}
use Prim.Native.Nat.{ℕ, ◌≤◌}
use borrow.Author.Tests.{le-leb}
use Rattle.limits.specs.Limits.{largest_prime, most_variables}
use Rattle.refusal.specs.Judgement.{Judged}
use Rattle.refusal.proofs.JudgementLaws.{judged-none}
use Rattle.residue.specs.Prime.{Prime, is_prime}
use Rattle.polynomial.specs.declared.setting.Setting.{Setting}
use Rattle.opening.specs.Run.{between, weights_good, setting}
use Rattle.opening.specs.Judgement.{setting_conditions}
use Rattle.polynomial.specs.Settings.{Testable}
use lib.ListN.{length}
use Rattle.opening.proofs.WeightsJudged.{good-weights, weights-fit}
use Rattle.opening.proofs.Judgements.{setting-counted, setting-judged}

module _ (t : Setting) where
  pub no-prime : is_prime t.p ≡ false → 1 ≡ setting t
  unfolding setting
  no-prime h = simp h

  module _ (limit : t.p ≤ largest_prime) (prime : is_prime t.p ≡ true) where
    pub no-weights : between 1 3 t.order ≡ true → between 1 most_variables t.n ≡ true → weights_good t.n t.weights ≡ false → 24 ≡ setting t
    unfolding setting
    no-weights h k l = rw (le-leb t.p largest_prime limit, prime, h, k, l)

-- what a setting that passes is
pub record Set (t : Setting) : Type 0 where
  pub prime : Prime t.p
  pub limit : t.p ≤ largest_prime
  pub order-low : 1 ≤ t.order
  pub order-high : t.order ≤ 3
  pub n-low : 1 ≤ t.n
  pub n-high : t.n ≤ 6
  pub weights : weights_good t.n t.weights ≡ true

pub setting-passes : (t : Setting) → setting t ≡ 0 → Set t
setting-passes t h =
    let a = judged-none (setting_conditions t) (setting-counted t) (subst (λ (r : ℕ). Judged (setting_conditions t) r) h (setting-judged t)) in
    record {
      prime = a.0.0;
      limit = a.0.1;
      order-low = a.1.0.0;
      order-high = a.1.0.1;
      n-low = a.1.1.0.0;
      n-high = a.1.1.0.1;
      weights = good-weights t.n t.weights a.1.1.1.0;
    }

-- with six weights, the layout test can be made in it
pub setting-testable : (t : Setting) → setting t ≡ 0 → length t.weights ≡ 6 → Testable t
setting-testable t h six = let s = setting-passes t h in record { few = s.n-high; fit = weights-fit t.n t.weights s.weights six }
