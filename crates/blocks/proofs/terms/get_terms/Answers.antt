-- `blocks::terms::get_terms` meets its contract.
use Rattle.std.proofs.Common.{◌*◌, ◌<◌, arith}
use Rattle.blocks.proofs.PlaceLaws.{filled-none, filled-more, filled-all}
use Rattle.blocks.proofs.terms.get_terms.Goals as goal

pub loop-k-init : goal.loop-k-init
loop-k-init c = let a = c.args in filled-none a.s.now a.total a.ow.now a.oc.now

pub loop-k-preserved : goal.loop-k-preserved
loop-k-preserved c = let a = c.args in let l : 41 * c.loop-k.k < a.total = omega arith in filled-more a.s.now a.total a.ow.now a.oc.now c.loop-k.ow c.loop-k.oc c.loop-k.k c.loop-k.invariant _ l c.here_of.ensures c.requires.1 c.requires.2 _ _ c.get_places.ensures.0 c.get_places.ensures.1

pub returns : goal.returns
returns c = let a = c.args in filled-all a.s.now a.total a.ow.now a.oc.now c.loop-k.ow c.loop-k.oc c.loop-k.k c.loop-k.invariant (omega arith)
