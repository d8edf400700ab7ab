-- `monomial::layout::weighted_sum` meets its contract: after i turns it has the sum of the first i products.
use native.Mathlib.Omega.{arith}
use Rattle.monomial.proofs.CodeLaws.{none-summed, next-summed, all-summed}
use Rattle.monomial.proofs.layout.weighted_sum.Goals as goal

pub loop-i-init : goal.loop-i-init
loop-i-init c = none-summed _ _

pub overflow_add-sum : goal.overflow_add-sum
overflow_add-sum c = omega (arith, c.loop-i.invariant.small, c.byte_product-sum.ensures.1)

pub loop-i-preserved : goal.loop-i-preserved
loop-i-preserved c = next-summed _ _ _ _ _ c.loop-i.invariant (omega arith) c.byte_product-sum.ensures.0 c.byte_product-sum.ensures.1

pub returns : goal.returns
returns c = all-summed _ _ _ _ c.loop-i.invariant (omega arith)
