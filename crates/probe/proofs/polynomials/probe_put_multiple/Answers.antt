-- `probe_put_multiple` is `put_multiple` in the order of the number, by the factor c modulo p.
use Rattle.probe.proofs.LendingLaws.{multiplicands, multiplied}
use Rattle.probe.proofs.polynomials.probe_put_multiple.Goals as goal

pub put_multiple-requires : goal.put_multiple-requires
put_multiple-requires c = multiplicands _ _ _ _ _ _ _ _ _ c.new.ensures c.requires

pub returns : goal.returns
returns c = multiplied _ _ _ _ _ _ _ _ _ c.new.ensures c.order_of.ensures c.put_multiple.ensures
