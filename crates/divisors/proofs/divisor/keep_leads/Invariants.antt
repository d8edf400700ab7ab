-- `divisors::divisor::keep_leads` meets its contract: after each turn the leads before i are put.
use Rattle.divisors.proofs.DivisorLaws.{LeadsPut}
use Rattle.divisors.proofs.divisor.keep_leads.Given as goal

abbrev pub invariant-loop-i : goal.invariant-loop-i
invariant-loop-i l = LeadsPut l.ps.words.now l.ps.starts.now l.n l.leads l.i
