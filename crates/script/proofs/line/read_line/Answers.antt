-- `script::line::read_line` meets its contract, return by return.
use mathlib.Core.Path.{sym, ◌∙◌}
use native.Mathlib.Omega.{arith}
use Rattle.text.proofs.ByteLaws.{prefix-code}
use Rattle.grammar.specs.Grammar.{add-word}
use Rattle.grammar.proofs.Prefix.{so}
use Rattle.script.proofs.LineLaws.{is-lead, is_sum, is_none, is-add, lead-long, sum-long, add-long, pair-room, few-pairs, add-room}
use Rattle.script.proofs.line.read_line.Goals as goal

pub put_pair-requires : goal.put_pair-requires
put_pair-requires c = pair-room _ _ _ c.requires.pairs-fit (omega (arith, lead-long c.args.s.now (so c.is_word.ensures c.if-is_word.true)))

pub with_operation-requires : goal.with_operation-requires
with_operation-requires c = few-pairs _ _ _ c.requires.pairs-fit (omega (arith, lead-long c.args.s.now (so c.is_word.ensures c.if-is_word.true))) (omega arith)

pub returns-then-is_word : goal.returns-then-is_word
returns-then-is_word c = is-lead (so c.is_word.ensures c.if-is_word.true) c.put_pair.ensures c.with_operation.ensures

pub put_pair-requires-then-is_word-2 : goal.put_pair-requires-then-is_word-2
put_pair-requires-then-is_word-2 c = pair-room _ _ _ c.requires.pairs-fit (omega (arith, sum-long c.args.s.now (so c.is_word-2.ensures c.if-is_word-2.true)))

pub with_operation-requires-then-is_word-2 : goal.with_operation-requires-then-is_word-2
with_operation-requires-then-is_word-2 c = few-pairs _ _ _ c.requires.pairs-fit (omega (arith, sum-long c.args.s.now (so c.is_word-2.ensures c.if-is_word-2.true))) (omega arith)

pub returns-then-is_word-2 : goal.returns-then-is_word-2
returns-then-is_word-2 c = is_sum (so c.is_word.ensures c.if-is_word.false) (so c.is_word-2.ensures c.if-is_word-2.true) c.put_pair-then-is_word-2.ensures c.with_operation-then-is_word-2.ensures

pub returns-in_err-terms : goal.returns-in_err-terms
returns-in_err-terms c = rw c.from_residual.ensures (is_none (so c.is_word.ensures c.if-is_word.false) (so c.is_word-2.ensures c.if-is_word-2.false) (sym (prefix-code add-word c.args.s.now) ∙ c.in_err-terms.ensures.cases))

pub read_add-requires : goal.read_add-requires
read_add-requires c = add-room c.args.s.now _ c.in_ok-terms.ensures.cases.1 (add-long c.args.s.now (sym (prefix-code add-word c.args.s.now) ∙ c.in_ok-terms.ensures.cases.0)) c.requires

pub returns : goal.returns
returns c = is-add (so c.is_word.ensures c.if-is_word.false) (so c.is_word-2.ensures c.if-is_word-2.false) (sym (prefix-code add-word c.args.s.now) ∙ c.in_ok-terms.ensures.cases.0) _ c.in_ok-terms.ensures.cases.1 c.read_add.ensures
