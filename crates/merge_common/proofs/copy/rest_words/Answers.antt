-- `merge_common::copy::rest_words` meets its contract.
use mathlib.Core.Path.{sym, ◌∙◌}
use lib.ListN.{drop}
use Rattle.merge_common.proofs.Lists.{part-from, rest-left, rest-right}
use Rattle.merge_common.proofs.copy.rest_words.Goals as goal

pub returns-then-i-a : goal.returns-then-i-a
returns-then-i-a c = let x = c.args in part-from x.a.now x.i ∙ sym (rest-left x.a.now (drop x.j x.b.now) x.i c.if-i-a.true)

pub returns : goal.returns
returns c = let x = c.args in part-from x.b.now x.j ∙ sym (rest-right x.a.now (drop x.j x.b.now) x.i c.if-i-a.false)
