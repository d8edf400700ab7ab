-- `multiple::multiple::highest` meets its contract: after i turns it has the highest exponents of the first i words.
use native.Mathlib.Omega.{arith}
use Rattle.multiple.proofs.HighestLaws.{highest-none, raise-asks, highest-more, highest-all}
use Rattle.multiple.proofs.multiple.highest.Goals as goal

pub loop-w-init : goal.loop-w-init
loop-w-init c = highest-none _

pub raise-high-requires : goal.raise-high-requires
raise-high-requires c = raise-asks c.requires c.loop-w.invariant c.loop-w-test.true

pub loop-w-preserved : goal.loop-w-preserved
loop-w-preserved c = highest-more c.requires c.loop-w.invariant (omega arith) c.raise-high.ensures

pub returns : goal.returns
returns c = highest-all c.loop-w.invariant (omega arith)
