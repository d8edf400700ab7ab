-- `block_form::form::checks_stand` meets its contract.
use Rattle.std.proofs.Common.{◌∙◌, ◌/◌, length, arith, rules, tests}
use Rattle.std.proofs.lemmas.Iterator.{YieldsList-from_range}
use Rattle.std.proofs.lemmas.Iterator.Search.{all_from_yields_List}
use Rattle.block_form.specs.Form.{check_stands}
use Rattle.block_form.proofs.FormLaws.{all-range}
use Rattle.block_form.proofs.form.checks_stand.Goals as goal

pub returns : goal.returns
returns c =
    let a = c.args in
    all_from_yields_List (check_stands a.s.now) _ _ c.all.result c.all.ensures.ran (YieldsList-from_range 0 (length a.s.now / 512) (length a.s.now / 512) (cc) (omega arith)) (λ x b q k. search (rules, tests))
    ∙ all-range (check_stands a.s.now) (length a.s.now / 512)
