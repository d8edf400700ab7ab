-- `space::leads::lead_coef` meets its contract.
use Prim.Native.Nat.{◌-◌, ◌<◌, ◌≤◌}
use native.Mathlib.Omega.{arith}
use Rattle.limits.specs.Limits.{bucket_places, work_places}
use Rattle.space.proofs.LeadLaws.{in-work, read-work, past_work, in-space, read-space}
use Rattle.space.proofs.leads.lead_coef.Goals.{Then-i-lt5, Else-i-lt5}
use Rattle.space.proofs.leads.lead_coef.Goals as goal

-- where the lead lies, in the work space or in the bucket space
work : (c : Then-i-lt5) → c.head_of-h.result < work_places
work c = let x = c.args in in-work x.b.now x.wc.now x.sc.now x.i c.requires c.head_of-h.ensures c.if-i-lt5.true

past : (c : Else-i-lt5) → (work_places ≤ c.head_of-h.result) × (c.head_of-h.result - work_places < bucket_places)
past c = let x = c.args in (past_work x.b.now x.wc.now x.sc.now x.i c.requires c.head_of-h.ensures c.if-i-lt5.false, in-space x.b.now x.wc.now x.sc.now x.i c.requires c.head_of-h.ensures c.if-i-lt5.false)

pub offset_bounds-wc-h : goal.offset_bounds-wc-h
offset_bounds-wc-h c = omega (arith, work c)

pub bounds-wc-h : goal.bounds-wc-h
bounds-wc-h c = omega (arith, work (goal.at.bounds-wc-h c).Then-i-lt5, c.requires.3)

pub overflow_sub-result : goal.overflow_sub-result
overflow_sub-result c = omega (arith, past c)

pub offset_bounds-sc-h : goal.offset_bounds-sc-h
offset_bounds-sc-h c = omega (arith, past c)

pub bounds-sc-h : goal.bounds-sc-h
bounds-sc-h c = omega (arith, past (goal.at.bounds-sc-h c).Else-i-lt5, c.requires.4)

pub returns-then-i-lt5 : goal.returns-then-i-lt5
returns-then-i-lt5 c = let x = c.args in read-work x.b.now x.wc.now x.sc.now x.i c.requires c.head_of-h.ensures c.if-i-lt5.true

pub returns-else-i-lt5 : goal.returns-else-i-lt5
returns-else-i-lt5 c = let x = c.args in read-space x.b.now x.wc.now x.sc.now x.i c.requires c.head_of-h.ensures c.if-i-lt5.false
