-- `probe::geobuckets::probe_buckets_settle` meets its contract.
use Rattle.space.specs.Space.{spaces}
use Rattle.probe.proofs.Counts.{returned-in}
use Rattle.probe.proofs.geobuckets.probe_buckets_settle.Goals as goal

pub returns : goal.returns
returns c =
    let a = c.args in
    returned-in
    (spaces a.state.now a.ww.now a.wc.now a.sw.now a.sc.now)
    c.order_of.ensures
    c.settle.ensures
