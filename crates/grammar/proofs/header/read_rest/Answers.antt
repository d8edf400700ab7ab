-- `grammar::header::read_rest` meets its contract, return by return.
use mathlib.Core.Path.{sym, ◌∙◌}
use Rattle.text.proofs.ByteLaws.{prefix-code}
use Rattle.grammar.specs.Grammar.{weights-word}
use Rattle.grammar.proofs.HeaderLaws.{rest_plain, rest-cut, rest-bad, rest-good}
use Rattle.grammar.proofs.header.read_rest.Goals as goal

pub returns-in_default : goal.returns-in_default
returns-in_default c = rest_plain _ c.args.s.now (sym (prefix-code weights-word c.args.s.now) ∙ c.in_default.ensures.cases)

pub returns-in_err-numbers : goal.returns-in_err-numbers
returns-in_err-numbers c =
    let t = c.in-Some.ensures.cases in
    rw c.from_residual.ensures (rest-cut _ c.args.s.now (sym (prefix-code weights-word c.args.s.now) ∙ t.0) _ t.1 c.in_err-numbers.ensures)

pub returns-in_err-read_weights : goal.returns-in_err-read_weights
returns-in_err-read_weights c =
    let t = c.in-Some.ensures.cases in
    rw c.from_residual-in_err-read_weights.ensures (rest-bad _ c.args.s.now (sym (prefix-code weights-word c.args.s.now) ∙ t.0) _ t.1 c.in_ok-numbers.ensures c.in_err-read_weights.ensures)

pub returns : goal.returns
returns c =
    let t = c.in-Some.ensures.cases in
    rest-good _ c.args.s.now (sym (prefix-code weights-word c.args.s.now) ∙ t.0) _ t.1 c.in_ok-numbers.ensures _ c.in_ok-read_weights.ensures
