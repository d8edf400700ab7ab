-- `space::leads::lead_key` meets its contract.
use mathlib.Core.Path.{◌∙◌}
use native.Mathlib.Omega.{arith}
use Rattle.place.specs.Numbers.{key_numbers}
use Rattle.space.proofs.LeadLaws.{in-work, read-work, past_work, in-space, read-space}
use Rattle.space.proofs.leads.lead_key.Goals as goal

pub at-requires : goal.at-requires
at-requires g c = let x = c.args in let w = g.K.Key.width in omega (arith, in-work x.b.now (key_numbers w x.ww.now) (key_numbers w x.sw.now) x.i c.requires c.head_of-h.ensures c.if-i-lt5.true, c.requires.3)

pub overflow_sub-h : goal.overflow_sub-h
overflow_sub-h g c = let x = c.args in let w = g.K.Key.width in omega (arith, past_work x.b.now (key_numbers w x.ww.now) (key_numbers w x.sw.now) x.i c.requires c.head_of-h.ensures c.if-i-lt5.false)

pub at-requires-else-i-lt5 : goal.at-requires-else-i-lt5
at-requires-else-i-lt5 g c = let x = c.args in let w = g.K.Key.width in omega (arith, in-space x.b.now (key_numbers w x.ww.now) (key_numbers w x.sw.now) x.i c.requires c.head_of-h.ensures c.if-i-lt5.false, c.requires.4)

pub returns-then-i-lt5 : goal.returns-then-i-lt5
returns-then-i-lt5 g c = let x = c.args in let w = g.K.Key.width in c.at.ensures.0 ∙ read-work x.b.now (key_numbers w x.ww.now) (key_numbers w x.sw.now) x.i c.requires c.head_of-h.ensures c.if-i-lt5.true

pub returns-else-i-lt5 : goal.returns-else-i-lt5
returns-else-i-lt5 g c = let x = c.args in let w = g.K.Key.width in c.at-else-i-lt5.ensures.0 ∙ read-space x.b.now (key_numbers w x.ww.now) (key_numbers w x.sw.now) x.i c.requires c.head_of-h.ensures c.if-i-lt5.false
