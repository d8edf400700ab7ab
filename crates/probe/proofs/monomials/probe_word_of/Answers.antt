-- `probe_word_of` is `word_of` for at most 6 exponents and six weights up to 17.
use mathlib.Core.Bool.{not}
use mathlib.Core.Path.{◌∙◌, ap}
use mathlib.Core.List.{List}
use Prim.Native.Nat.{ℕ}
use native.Mathlib.Omega.{arith}
use borrow.Author.Tests.{le-leb, lt-leb}
use Rattle.monomial.specs.declared.order.Order.{Order}
use Rattle.monomial.specs.Layout.{word_of}
use Rattle.probe.proofs.Answering.{held, failed, yes, no, one-fails, other-fails, both_hold}
use Rattle.probe.proofs.WeightLaws.{weights-fit, same-below}
use Rattle.probe.proofs.monomials.probe_word_of.Goals as goal

pub returns-then-exps : goal.returns-then-exps
returns-then-exps c = failed _ _ (one-fails _ (lt-leb _ _ c.if-exps.true))

pub returns-then-not-weights_fit : goal.returns-then-not-weights_fit
returns-then-not-weights_fit c = failed _ _ (other-fails (le-leb _ _ c.if-exps.false) (no c.weights_fit.ensures (ap not c.if-not-weights_fit.true)))

pub weight_word-requires : goal.weight_word-requires
weight_word-requires c = weights-fit _ _ (omega arith) (yes c.weights_fit.ensures (ap not c.if-not-weights_fit.false))

pub word_of-requires : goal.word_of-requires
word_of-requires c = (c.if-exps.false, same-below _ _ _ c.weight_word.ensures (yes c.weights_fit.ensures (ap not c.if-not-weights_fit.false)))

pub returns : goal.returns
returns c =
    let a = c.args in
    let o = c.order_of-order in
    held _ (both_hold (le-leb _ _ c.if-exps.false) (yes c.weights_fit.ensures (ap not c.if-not-weights_fit.false)))
    (c.word_of.ensures
    ∙ (ap (λ (vs : List ℕ). word_of o.result vs a.exps.now) c.weight_word.ensures
    ∙ ap (λ (o : Order). word_of o a.weights.now a.exps.now) o.ensures))
