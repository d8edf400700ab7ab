-- The setting of the problem. Assumes nothing.
use Rattle.std.specs.Prelude.{ℕ, ◌≤◌, List}
use Rattle.monomial.specs.Layout.{WeightsFit}
use Rattle.polynomial.specs.declared.setting.Setting.{Setting}

abbrev pub setting_of : (p order n : ℕ) (weights : List ℕ) → Setting
setting_of p order n weights = record { p = p; order = order; n = n; weights = weights }

-- what the layout test asks of a setting: at most six variables, and weights that fit in a word
pub record Testable (t : Setting) : Type 0 where
  pub few : t.n ≤ 6
  pub fit : WeightsFit t.weights
