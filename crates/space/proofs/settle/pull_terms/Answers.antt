-- `space::settle::pull_terms` meets its contract: after i turns the first i are put.
use mathlib.Core.Path.{refl}
use native.Mathlib.Omega.{arith}
use Rattle.space.proofs.PullLaws.{pulled-more}
use Rattle.space.proofs.settle.pull_terms.Goals as goal

pub at-requires : goal.at-requires
at-requires g c = omega (arith, c.loop-i.invariant.0.long, c.requires.0, c.loop-i-test.true)

pub put-requires : goal.put-requires
put-requires g c = omega (arith, c.loop-i.invariant.0.long, c.requires.0, c.requires.2, c.loop-i-test.true)

pub loop-i-preserved : goal.loop-i-preserved
loop-i-preserved g c =
    let k = c.loop-i-test.true in
    (pulled-more c.loop-i.invariant.0 c.requires.0 c.requires.2 k _ c.at.ensures.0 c.word.ensures c.put.ensures.0 c.put.ensures.1, pulled-more c.loop-i.invariant.1 c.requires.1 c.requires.2 k _ refl refl refl refl)
