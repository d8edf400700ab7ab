-- `opening::weights::weights_good` meets its contract, weight by weight.
use Rattle.std.proofs.Common.{rules, tests, ℕ, ltb, ◌∙◌}
use Rattle.std.proofs.lemmas.Iterator.{YieldsList-from_slice}
use Rattle.std.proofs.lemmas.Iterator.Consumers.{YieldsList-from_enumerate}
use Rattle.std.proofs.lemmas.Iterator.Search.{all_from_yields_List}
use Rattle.opening.specs.Run.{weight_good}
use Rattle.opening.proofs.WeightsJudged.{weigh_all}
use Rattle.opening.proofs.weights.weights_good.Goals as goal

pub returns : goal.returns
returns c =
    let n = c.args.n in
    all_from_yields_List (λ (p : ℕ × ℕ). weight_good (ltb p.0 n) p.1) _ _ c.all.result c.all.ensures.ran (YieldsList-from_enumerate (YieldsList-from_slice c.args.weights.now cc) cc) (λ x b q k. search (rules, tests))
    ∙ weigh_all n c.args.weights.now
