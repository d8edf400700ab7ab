-- `block_form::form::each_stands` meets its contract.
use Rattle.std.proofs.Common.{ℕ, ap, ◌∙◌, arith, rules, tests}
use Rattle.std.proofs.lemmas.Iterator.{YieldsList-from_range}
use Rattle.std.proofs.lemmas.Iterator.Search.{all_from_yields_List}
use Rattle.block_form.specs.Form.{all_below, block_stands}
use Rattle.block_form.proofs.FormLaws.{all-range}
use Rattle.block_form.proofs.form.each_stands.Goals as goal

pub returns : goal.returns
returns c =
    let a = c.args in
    all_from_yields_List (block_stands a.s.now) _ _ c.all.result c.all.ensures.ran (YieldsList-from_range 0 a.count a.count (cc) (omega arith)) (λ x b q k. search (rules, tests))
    ∙ (all-range (block_stands a.s.now) a.count ∙ ap (λ (n : ℕ). all_below n (block_stands a.s.now)) c.requires.count-is)
