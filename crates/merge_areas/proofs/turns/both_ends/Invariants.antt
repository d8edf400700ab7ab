-- `merge_areas::turns::both_ends` meets its contract: each turn leads on from where the loop began.
use mathlib.Core.Path.{◌≡◌}
use lib.ListN.{length}
use Rattle.place.specs.Numbers.{key_numbers}
use Rattle.merge_areas.specs.Ways.{size, Goes}
use Rattle.merge_areas.proofs.turns.both_ends.Given as goal

abbrev pub invariant-loop-t : goal.invariant-loop-t
invariant-loop-t g l = let w = g.K.Key.width in Goes l.p (key_numbers w l.initial.ww) l.initial.wc l.initial.t (key_numbers w l.ww) l.wc l.t × (length l.ww ≡ length l.initial.ww)

abbrev pub decreases-loop-t : goal.decreases-loop-t
decreases-loop-t g l = size l.t
