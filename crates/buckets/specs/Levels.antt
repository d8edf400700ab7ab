-- The bucket that a number of terms goes to. Assumes nothing.
use Rattle.std.specs.Prelude.{ℕ, ◌<◌, ◌≤◌}
use Rattle.space.specs.Space.{capacity}

-- "i is the least number from 1 up with 4^i ≥ terms of f"
pub record LevelFor (n i : ℕ) : Type 0 where
  pub within : i < 6
  pub fits : n ≤ capacity i
  pub least : (j : ℕ) → j < i → capacity j < n
