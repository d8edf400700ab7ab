-- `probe::geobuckets::probe_buckets_take` meets its contract.
use Rattle.probe.proofs.geobuckets.probe_buckets_take.Goals as goal

pub remove_lead-requires : goal.remove_lead-requires
remove_lead-requires c = c.requires
