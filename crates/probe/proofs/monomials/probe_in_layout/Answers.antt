-- `probe_in_layout` is `in_layout` for at most 6 variables and six weights up to 16.
use mathlib.Core.Bool.{not}
use mathlib.Core.Path.{sym, ◌∙◌, ap}
use mathlib.Core.List.{List}
use Prim.Native.Nat.{ℕ}
use native.Mathlib.Omega.{arith}
use borrow.Author.Tests.{le-leb, lt-leb}
use Rattle.limits.specs.Limits.{largest_weight}
use Rattle.monomial.specs.declared.order.Order.{Order}
use Rattle.monomial.specs.Exponents.{order_of}
use Rattle.monomial.specs.Layout.{in_layout}
use Rattle.probe.specs.Answers.{weights_fit}
use Rattle.probe.proofs.Answering.{yes, no, first-fails, second-fails, by-third}
use Rattle.probe.proofs.WeightLaws.{weights-fit}
use Rattle.probe.proofs.monomials.probe_in_layout.Goals as goal

pub returns-then-n-gt-MOST_VARIABLES : goal.returns-then-n-gt-MOST_VARIABLES
returns-then-n-gt-MOST_VARIABLES c = let a = c.args in sym (first-fails (weights_fit largest_weight a.weights.now) (in_layout (order_of a.order) a.n a.weights.now a.w) (lt-leb a.n 6 c.if-n-gt-MOST_VARIABLES.true))

pub returns-then-not-weights_fit : goal.returns-then-not-weights_fit
returns-then-not-weights_fit c = sym (second-fails _ (le-leb _ _ c.if-n-gt-MOST_VARIABLES.false) (no c.weights_fit.ensures (ap not c.if-not-weights_fit.true)))

pub new-requires : goal.new-requires
new-requires c = (c.if-n-gt-MOST_VARIABLES.false, weights-fit _ _ (omega arith) (yes c.weights_fit.ensures (ap not c.if-not-weights_fit.false)))

pub returns : goal.returns
returns c =
    let a = c.args in
    let few = c.if-n-gt-MOST_VARIABLES.false in
    let o = c.order_of-order in
    c.holds.ensures o.result a.n few c.new.ensures.0
    ∙ (ap (λ (vs : List ℕ). in_layout o.result a.n vs a.w) c.new.ensures.1
    ∙ (ap (λ (o : Order). in_layout o a.n a.weights.now a.w) o.ensures
    ∙ by-third _ (le-leb _ _ few) (yes c.weights_fit.ensures (ap not c.if-not-weights_fit.false))))
