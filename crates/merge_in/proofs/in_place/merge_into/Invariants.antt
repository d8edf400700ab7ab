-- `merge_in::in_place::merge_into` meets its contract: the reading is ahead of the writing.
use mathlib.Core.Path.{◌≡◌}
use Prim.Native.Nat.{◌+◌, ◌-◌}
use lib.ListN.{length}
use Rattle.place.specs.Numbers.{key_numbers}
use Rattle.merge_in.proofs.Ahead.{Ahead}
use Rattle.merge_in.proofs.in_place.merge_into.Given as goal

abbrev pub invariant-loop-i : goal.invariant-loop-i
invariant-loop-i g l =
    let w = g.K.Key.width in
    Ahead l.p (key_numbers w l.fw) l.fc (key_numbers w l.initial.sw) l.initial.sc l.h l.e (key_numbers w l.sw) l.sc l.i l.j l.k l.n × (length l.sw ≡ length l.initial.sw)

abbrev pub decreases-loop-i : goal.decreases-loop-i
decreases-loop-i g l = (length (key_numbers g.K.Key.width l.fw) - l.i) + (l.e - l.j)
