-- `engine::run::operate_all` meets its contract.
use mathlib.Core.Path.{◌≡◌, sym, ◌∙◌}
use mathlib.Core.Logic.{inl, inr}
use Prim.Native.Nat.{◌+◌, ◌*◌, ◌<◌}
use native.Mathlib.Omega.{arith}
use lib.ListN.{length}
use Rattle.conditions.proofs.OperationLaws.{asked-at}
use Rattle.engine.proofs.RunLaws.{operable, going_start, going_on, going_end}
use Rattle.engine.proofs.run.operate_all.Goals as goal

pub loop-code-init : goal.loop-code-init
loop-code-init c = going_start c.requires.0 c.requires.1 c.new-s.ensures

pub returns-then-not-goes_on : goal.returns-then-not-goes_on
returns-then-not-goes_on c = going_end c.requires.0 c.loop-code.invariant (inr (sym c.goes_on.ensures ∙ c.if-not-goes_on.true))

pub operate-s-requires : goal.operate-s-requires
operate-s-requires c =
    let j = c.loop-code.code-index in
    let ops = c.args.ops.now in
    let h : 2 * j < length ops = omega arith in
    let is = asked-at ops j c.as_chunks.ensures.front (omega arith) c.of-operation.ensures in
    (operable c.requires.0 c.loop-code.invariant h (sym c.goes_on.ensures ∙ c.if-not-goes_on.false) is, c.loop-code.invariant.slices)

pub loop-code-preserved : goal.loop-code-preserved
loop-code-preserved c =
    let j = c.loop-code.code-index in
    let ops = c.args.ops.now in
    let e : 2 * (j + 1) ≡ 2 * j + 2 = omega arith in
    let h : 2 * j < length ops = omega arith in
    let is = asked-at ops j c.as_chunks.ensures.front (omega arith) c.of-operation.ensures in
    rw e (going_on c.requires.0 c.loop-code.invariant h (sym c.goes_on.ensures ∙ c.if-not-goes_on.false) is c.operate-s.ensures c.operate-s.auto.ww c.operate-s.auto.wc c.operate-s.auto.bw c.operate-s.auto.bc c.operate-s.auto.ow c.operate-s.auto.oc)

pub returns : goal.returns
returns c = going_end c.requires.0 c.loop-code.invariant (inl (omega (arith, c.requires.0.whole, c.loop-code-test.false)))
