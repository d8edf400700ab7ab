-- `probe::geobuckets::probe_buckets_lead` meets its contract.
use mathlib.Core.Path.{◌∙◌}
use Rattle.probe.proofs.Counts.{found-count}
use Rattle.probe.proofs.geobuckets.probe_buckets_lead.Goals as goal

pub returns : goal.returns
returns c = c.put_lead.ensures ∙ rw (← c.order_of-order.ensures) (found-count c.find_lead-found.ensures)
