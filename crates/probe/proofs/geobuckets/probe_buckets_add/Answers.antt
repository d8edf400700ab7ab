-- `probe::geobuckets::probe_buckets_add` meets its contract.
use Rattle.probe.proofs.geobuckets.probe_buckets_add.Goals as goal

pub add_polynomial-requires : goal.add_polynomial-requires
add_polynomial-requires c = rw c.order_of-order.ensures c.requires

pub returns : goal.returns
returns c = rw (← c.order_of-order.ensures) c.add_polynomial.ensures.count-is
