-- `search::lead::take_lead` meets its contract.
use mathlib.Core.List.{◌++◌}
use Prim.Native.Nat.{◌-◌, ◌≤◌, compare}
use native.Mathlib.Omega.{arith}
use lib.ListN.{get_or}
use Rattle.monomial.proofs.OrderLaws.{numbers-order}
use Rattle.polynomial.specs.Terms.{term}
use Rattle.geobucket.specs.Search.{lead}
use Rattle.space.specs.Space.{head_at, buckets_in}
use Rattle.space.proofs.SpaceLaws.{from-long}
use Rattle.search.specs.Searching.{Removal, FindDone}
use Rattle.search.proofs.FindState.{stands-canon}
use Rattle.search.proofs.TakeLaws.{removal-asks, take-lead}
use Rattle.search.proofs.WordLaws.{taken-words}
use Rattle.search.proofs.lead.take_lead.Goals.{Then-t-ne0}
use Rattle.search.proofs.lead.take_lead.Goals as goal

-- where no leads are like, and there is one
some_in : (c : Then-t-ne0) → 1 ≤ c.largest_lead-t.result.held
some_in c = omega (arith, c.if-t-ne0.true)

looked : (c : Then-t-ne0) → let a = c.args in let t = c.largest_lead-t.result in let ws = a.ww.now ++ a.sw.now in let cs = a.wc.now ++ a.sc.now in FindDone compare a.ring.p (buckets_in a.b.now ws cs) a.b.now ws cs (lead t.bucket (term t.key (get_or cs (head_at a.b.now t.bucket) 0))) (t.held - 1)
looked c = c.largest_lead-t.ensures.1 c.args.ring.p (c.args.wc.now ++ c.args.sc.now) c.requires.0 c.if-t-eq0.true (some_in c)

removing : (c : Then-t-ne0) → Removal c.args.b.now c.largest_lead-t.result.bucket
removing c = removal-asks numbers-order (stands-canon c.requires.0) (from-long _ 0 6) (looked c)

pub lead_coef-coef-requires : goal.lead_coef-coef-requires
lead_coef-coef-requires c = let r = removing (goal.at.lead_coef-coef-requires c).Then-t-ne0 in (c.requires.0.laid, r.within, r.some, c.requires.1.work-coefs, c.requires.1.coefs-long)

pub remove_lead-requires : goal.remove_lead-requires
remove_lead-requires c = removing (goal.at.remove_lead-requires c).Then-t-ne0

pub candidate-requires : goal.candidate-requires
candidate-requires c = some_in (goal.at.candidate-requires c).Then-t-ne0

pub returns-then-t-ne0 : goal.returns-then-t-ne0
returns-then-t-ne0 c =
    rw (c.in_words.ensures, c.candidate.ensures, c.lead_coef-coef.ensures) (taken-words c.args.ring.order c.requires.0 (take-lead numbers-order (stands-canon c.requires.0) (from-long _ 0 6) (looked (goal.at.returns-then-t-ne0 c).Then-t-ne0) c.remove_lead.ensures))

pub remove_lead-requires-in-Some : goal.remove_lead-requires-in-Some
remove_lead-requires-in-Some c = c.find_lead-found.ensures.removal _ c.in-Some.is
