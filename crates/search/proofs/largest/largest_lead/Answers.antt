-- `search::largest::largest_lead` meets its contract.
use mathlib.Core.Path.{sym, ◌∙◌}
use native.Mathlib.Omega.{arith}
use Rattle.search.proofs.LargestLaws.{looks-none, looks-empty, looks-met, looks-end}
use Rattle.search.proofs.largest.largest_lead.Goals.{then-len_of-ne0, else-len_of-ne0}
use Rattle.search.proofs.largest.largest_lead.Goals as goal

pub loop-i-init : goal.loop-i-init
loop-i-init c = looks-none _ _

pub loop-i-preserved : goal.loop-i-preserved
loop-i-preserved c =
    elim c.if-len_of-ne0.branch [
      | then-len_of-ne0 w ↦ rw w.t-is (looks-met c.loop-i.invariant c.loop-i-test.true (omega (arith, c.len_of.ensures, w.if-len_of-ne0.true)) w.lead_key.ensures w.meet-t.ensures)
      | else-len_of-ne0 w ↦ rw w.t-is (looks-empty c.loop-i.invariant c.loop-i-test.true (sym c.len_of.ensures ∙ w.if-len_of-ne0.false))
    ]

pub returns : goal.returns
returns c = looks-end c.loop-i.invariant c.loop-i-test.false
