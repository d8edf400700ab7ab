-- `buckets::add::add_small` meets its contract.
use native.Mathlib.Omega.{arith}
use Rattle.buckets.proofs.AddLaws.{zero-done, carry-asks, carry-done}
use Rattle.buckets.proofs.add.add_small.Goals as goal

pub returns-then-n-eq0 : goal.returns-then-n-eq0
returns-then-n-eq0 c = zero-done c.requires.0 c.requires.1 c.requires.2 c.if-n-eq0.true

pub level_for-l-requires : goal.level_for-l-requires
level_for-l-requires c = omega (arith, c.requires.2)

pub carry-requires : goal.carry-requires
carry-requires c = carry-asks c.requires.0 c.requires.1 c.requires.2 _ c.level_for-l.ensures c.if-n-eq0.false

pub shape_of-b : goal.shape_of-b
shape_of-b c = c.carry.auto.b

pub shape_of-sw : goal.shape_of-sw
shape_of-sw c = c.carry.auto.sw

pub shape_of-sc : goal.shape_of-sc
shape_of-sc c = c.carry.auto.sc

pub shape_of-ww : goal.shape_of-ww
shape_of-ww c = c.carry.auto.ww

pub shape_of-wc : goal.shape_of-wc
shape_of-wc c = c.carry.auto.wc

pub returns : goal.returns
returns c = carry-done c.requires.0 c.requires.1 c.requires.2 _ c.level_for-l.ensures c.if-n-eq0.false c.carry.ensures
