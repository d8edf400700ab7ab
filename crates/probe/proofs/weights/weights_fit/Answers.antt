-- `weights_fit` is the test of its definition: the number of weights, and then each weight.
use mathlib.Core.Path.{◌∙◌}
use borrow.Author.Tests.{ne_eqb}
use Rattle.std.proofs.Common.{rules, tests, leb}
use Rattle.std.proofs.lemmas.Iterator.{YieldsList-from_slice}
use Rattle.std.proofs.lemmas.Iterator.Search.{all_from_yields_List}
use Rattle.probe.proofs.WeightLaws.{other-count, each-fits}
use Rattle.probe.proofs.weights.weights_fit.Goals as goal

pub returns-then-weights-eq-WEIGHTS : goal.returns-then-weights-eq-WEIGHTS
returns-then-weights-eq-WEIGHTS c =
    let vs = c.args.weights.now in
    all_from_yields_List (λ w. leb w c.args.most) _ _ _ c.all.ensures.ran (YieldsList-from_slice vs cc) (λ x b q k. search (rules, tests))
    ∙ each-fits c.args.most vs c.if-weights-eq-WEIGHTS.true

pub returns-else-weights-eq-WEIGHTS : goal.returns-else-weights-eq-WEIGHTS
returns-else-weights-eq-WEIGHTS c = ne_eqb _ 6 c.if-weights-eq-WEIGHTS.false ∙ other-count c.args.most c.args.weights.now c.if-weights-eq-WEIGHTS.false
