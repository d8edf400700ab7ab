-- `search::lead::remove_lead` meets its contract.
use native.Mathlib.Omega.{arith}
use Rattle.space.proofs.SpaceLaws.{head_in}
use Rattle.search.proofs.lead.remove_lead.Goals as goal

pub overflow_add-head : goal.overflow_add-head
overflow_add-head c = let k = c.requires in omega (arith, c.head_of-head.ensures, head_in _ _ k.laid k.within k.some)
