use Rattle.grammar.proofs.HeaderLaws.{order-lp, order-Dp, order-dp, order-none}
use Rattle.grammar.proofs.Prefix.{so}
use Rattle.grammar.proofs.header.read_order.Goals as goal

pub returns-then-is_word : goal.returns-then-is_word
returns-then-is_word c = order-lp _ (so c.is_word.ensures c.if-is_word.true)

pub returns-then-is_word-2 : goal.returns-then-is_word-2
returns-then-is_word-2 c = order-Dp _ (so c.is_word.ensures c.if-is_word.false) (so c.is_word-2.ensures c.if-is_word-2.true)

pub returns-then-is_word-3 : goal.returns-then-is_word-3
returns-then-is_word-3 c = order-dp _ (so c.is_word.ensures c.if-is_word.false) (so c.is_word-2.ensures c.if-is_word-2.false) (so c.is_word-3.ensures c.if-is_word-3.true)

pub returns : goal.returns
returns c = order-none _ (so c.is_word.ensures c.if-is_word.false) (so c.is_word-2.ensures c.if-is_word-2.false) (so c.is_word-3.ensures c.if-is_word-3.false)
