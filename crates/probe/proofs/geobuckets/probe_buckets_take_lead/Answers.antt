-- `probe::geobuckets::probe_buckets_take_lead` meets its contract.
use mathlib.Core.Path.{◌∙◌}
use Rattle.probe.proofs.Counts.{taken-count}
use Rattle.probe.proofs.geobuckets.probe_buckets_take_lead.Goals as goal

pub returns : goal.returns
returns c = c.put_lead.ensures ∙ rw (← c.order_of-order.ensures) (taken-count c.take_lead-found.ensures)
