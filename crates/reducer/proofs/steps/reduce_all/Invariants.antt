-- `reducer::steps::reduce_all` meets its contract.
use Prim.Native.Nat.{◌-◌}
use Rattle.space.specs.Space.{spaces}
use Rattle.call.specs.States.{goes_on}
use Rattle.reducer.proofs.ReduceLaws.{left_by, Turning}
use Rattle.reducer.proofs.steps.reduce_all.Given as goal

abbrev pub invariant-loop-ring : goal.invariant-loop-ring
invariant-loop-ring l = Turning l.ring.order l.ring.p l.ps.words.now l.ps.coefs.now l.ps.starts.now l.limit l.initial.ow l.initial.oc (spaces l.b l.ww l.wc l.bw l.bc) l.ww l.wc l.bw l.bc l.ow l.oc l.kept l.s

abbrev pub decreases-loop-ring : goal.decreases-loop-ring
decreases-loop-ring l = left_by (goes_on l.s.course) (l.limit - l.s.finished)
