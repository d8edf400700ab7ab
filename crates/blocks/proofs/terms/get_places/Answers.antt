-- `blocks::terms::get_places` meets its contract.
use Rattle.blocks.proofs.PlaceLaws.{got-none, got-more, got-all}
use Rattle.blocks.proofs.terms.get_places.Goals as goal

pub loop-j-init : goal.loop-j-init
loop-j-init c = let a = c.args in got-none a.s.now a.at a.ow.now a.oc.now

pub loop-j-preserved : goal.loop-j-preserved
loop-j-preserved c = let a = c.args in got-more a.s.now a.at a.ow.now a.oc.now c.loop-j.ow c.loop-j.oc c.loop-j.j c.loop-j.invariant _ _ c.loop-j-test.true c.get_number.ensures.0 c.get_number-in-loop-j.ensures.0

pub shape_of-ow : goal.shape_of-ow
shape_of-ow c = c.loop-j.invariant.long-words

pub shape_of-oc : goal.shape_of-oc
shape_of-oc c = c.loop-j.invariant.long-coefs

pub returns : goal.returns
returns c = let a = c.args in got-all a.s.now a.at a.ow.now a.oc.now c.loop-j.ow c.loop-j.oc c.loop-j.j c.loop-j.invariant c.requires.0 c.loop-j-test.false
