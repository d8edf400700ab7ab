-- `grammar::weights::read_spaced` meets its contract, return by return.
use mathlib.Core.Path.{sym, ◌∙◌}
use mathlib.Core.List.{[], ◌∷◌}
use borrow.Author.Tests.{eqb-true, eqb-false}
use Rattle.text.proofs.ByteLaws.{prefix-code}
use Rattle.grammar.proofs.WeightsLaws.{spaced-none, spaced-bad, spaced-good}
use Rattle.grammar.proofs.weights.read_spaced.Goals as goal

pub returns-then-is_empty : goal.returns-then-is_empty
returns-then-is_empty c = spaced-none _ _ (eqb-true _ _ (sym c.if-is_empty.ensures))

pub returns-in_err-strip_prefix : goal.returns-in_err-strip_prefix
returns-in_err-strip_prefix c =
    rw c.from_residual.ensures (spaced-bad c.args.s.now _ (eqb-false _ _ (sym c.if-is_empty.ensures)) (sym (prefix-code (32 ∷ []) c.args.s.now) ∙ c.in_err-strip_prefix.ensures.cases))

pub returns : goal.returns
returns c =
    let t = c.in_ok-strip_prefix.ensures.cases in
    spaced-good c.args.s.now _ _ _ (eqb-false _ _ (sym c.if-is_empty.ensures)) (sym (prefix-code (32 ∷ []) c.args.s.now) ∙ t.0) _ t.1 c.read_numbers.ensures
