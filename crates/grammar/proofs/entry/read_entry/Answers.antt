-- `grammar::entry::read_entry` meets its contract, return by return.
use mathlib.Core.Path.{refl, ◌∙◌}
use Rattle.std.proofs.Common.{rules}
use Rattle.text.proofs.NumberLaws.{found-some, found-none}
use Rattle.grammar.proofs.NumbersLaws.{counted_none, counted-all}
use Rattle.grammar.proofs.EntryLaws.{no-colon, no-coef, no-exps, other-number, is-term}
use Rattle.grammar.proofs.entry.read_entry.Goals as goal

pub returns-in_err-coef : goal.returns-in_err-coef
returns-in_err-coef c = c.from_residual.ensures ∙ no-colon _ _ _ c.args.s.now c.in_err-coef.ensures

pub returns-in_err-c : goal.returns-in_err-c
returns-in_err-c c = c.from_residual-in_err-c.ensures ∙ no-coef _ _ _ c.args.s.now c.in_ok-coef.ensures (found-none _ c.in_err-c.ensures)

pub returns-in_err-m : goal.returns-in_err-m
returns-in_err-m c = c.from_residual-in_err-m.ensures ∙ no-exps _ _ _ c.args.s.now c.in_ok-coef.ensures (found-some _ _ c.in_ok-c.ensures) (counted_none c.in_err-m.ensures refl)

pub returns-then-m-shape : goal.returns-then-m-shape
returns-then-m-shape c = other-number _ _ _ c.args.s.now c.in_ok-coef.ensures (found-some _ _ c.in_ok-c.ensures) (counted-all c.in_ok-m.ensures refl) c.if-m-shape.true

pub returns : goal.returns
returns c = is-term _ _ _ c.args.s.now c.in_ok-coef.ensures (found-some _ _ c.in_ok-c.ensures) (counted-all c.in_ok-m.ensures refl) refl c.if-m-shape.false c.min.result (search rules) _ c.word_of-word.ensures
