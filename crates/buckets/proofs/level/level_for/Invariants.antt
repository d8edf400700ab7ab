-- `buckets::level::level_for` meets its contract.
use mathlib.Core.Path.{◌≡◌}
use Prim.Native.Nat.{◌-◌, ◌*◌}
use Rattle.space.specs.Space.{capacity, start}
use Rattle.buckets.proofs.LevelLaws.{Climbing}
use Rattle.buckets.proofs.level.level_for.Given as goal

abbrev pub invariant-loop-l : goal.invariant-loop-l
invariant-loop-l l = Climbing l.n l.l.0 × (l.l.1.0 ≡ 4 * start l.l.0) × (l.l.1.1.0 ≡ capacity l.l.0)

abbrev pub decreases-loop-l : goal.decreases-loop-l
decreases-loop-l l = 6 - l.l.0
