-- `engine::run::operate_all` meets its contract.
use Prim.Native.Nat.{◌*◌}
use Rattle.space.specs.Space.{spaces}
use Rattle.engine.proofs.RunLaws.{Going}
use Rattle.engine.proofs.run.operate_all.Given as goal

abbrev pub invariant-loop-code : goal.invariant-loop-code
invariant-loop-code l = Going l.ring.order l.ring.p l.ps.words.now l.ps.coefs.now l.ps.starts.now l.ops l.initial.ow l.initial.oc (spaces l.b l.ww l.wc l.bw l.bc) l.ww l.wc l.bw l.bc l.ow l.oc l.s (2 * l.code-index)
