-- `monomial::exponents::word_of` meets its contract: after i turns it has the word of the first i exponents.
use mathlib.Core.Path.{◌∙◌}
use Prim.Native.Nat.{◌<◌}
use native.Mathlib.Omega.{arith}
use Rattle.monomial.specs.Layout.{fields}
use Rattle.monomial.proofs.CodeLaws.{word_none, word-step, weight-times, moved}
use Rattle.monomial.proofs.exponents.word_of.Goals as goal

pub loop-i-init : goal.loop-i-init
loop-i-init c = word_none _ _ _

pub overflow_add-word : goal.overflow_add-word
overflow_add-word c =
    let a = c.args in
    let e = c.from-e.result in
    let small : e < 256 = omega (arith, c.from-e.ensures, c.type_inv.exps c.loop-i.i) in
    omega (arith, moved e c.low_bit.result small c.low_bit.ensures.1, weight-times (fields a.order a.weights) c.loop-i.i c.from-v.result e c.requires.1 (c.from-v.ensures ∙ c.exponent.ensures) small)

pub overflow_add-word-in-loop-i : goal.overflow_add-word-in-loop-i
overflow_add-word-in-loop-i c =
    let a = c.args in
    let e = c.from-e.result in
    let small : e < 256 = omega (arith, c.from-e.ensures, c.type_inv.exps c.loop-i.i) in
    omega (arith, c.loop-i.invariant.small, c.loop-i.invariant.low, moved e c.low_bit.result small c.low_bit.ensures.1, weight-times (fields a.order a.weights) c.loop-i.i c.from-v.result e c.requires.1 (c.from-v.ensures ∙ c.exponent.ensures) small)

pub loop-i-preserved : goal.loop-i-preserved
loop-i-preserved c =
    let a = c.args in
    let e = c.from-e.result in
    let small : e < 256 = omega (arith, c.from-e.ensures, c.type_inv.exps c.loop-i.i) in
    word-step a.order (fields a.order a.weights) a.exps.now _ _ _ e _ c.loop-i.invariant (omega arith) c.requires.0 c.requires.1
    (c.from-v.ensures ∙ c.exponent.ensures) (c.from-e.ensures, small) c.low_bit.ensures
