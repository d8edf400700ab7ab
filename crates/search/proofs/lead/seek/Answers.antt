-- `search::lead::seek` meets its contract.
use mathlib.Core.Path.{sym, ◌∙◌}
use Prim.Native.Nat.{◌<◌}
use native.Mathlib.Omega.{arith}
use Rattle.monomial.proofs.OrderLaws.{numbers-order}
use Rattle.space.specs.Space.{len_at}
use Rattle.search.proofs.SeekState.{slices-kept, seeks-start, seeks-end, on-empty, lead-some, lead-small, on-past, on-like, on-up}
use Rattle.search.proofs.lead.seek.Goals.{Else-len-eq0, then-key-c, else-key-c+then-larger, else-key-c+else-larger}
use Rattle.search.proofs.lead.seek.Goals as goal

-- in a turn, where the bucket is not empty
some_in : (c : Else-len-eq0) → let k = c.loop-i in 0 < len_at k.b k.i
some_in c = lead-some c.loop-i.invariant.0 c.loop-i-test.true c.len_of-len.ensures c.if-len-eq0.false

pub loop-i-init : goal.loop-i-init
loop-i-init c = (seeks-start c.requires.0, c.requires.1)

pub loop-i-preserved-then-len-eq0 : goal.loop-i-preserved-then-len-eq0
loop-i-preserved-then-len-eq0 c = (on-empty c.loop-i.invariant.0 c.loop-i-test.true (sym c.len_of-len.ensures ∙ c.if-len-eq0.true), c.loop-i.invariant.1)

pub join-c-requires : goal.join-c-requires
join-c-requires c = (c.loop-i.invariant.0.modulus, c.loop-i.invariant.0.small, lead-small c.loop-i.invariant.0 c.loop-i-test.true (some_in (goal.at.join-c-requires c).Else-len-eq0) c.lead_coef.ensures, omega (arith, c.loop-i.invariant.0.few))

pub loop-i-preserved : goal.loop-i-preserved
loop-i-preserved c =
    let v = c.loop-i.invariant in
    let some = some_in (goal.at.loop-i-preserved c).Else-len-eq0 in
    elim c.if-key-c.branch [
      | then-key-c w ↦
          rw (w.b-is, w.sc-is, w.wc-is, w.c-is) (on-like v.0 c.loop-i-test.true some numbers-order c.lead_key-key.ensures w.lead_coef.ensures w.if-key-c.true w.join-c.ensures w.put_lead_coef.ensures w.remove_lead.ensures, slices-kept v.1 w.put_lead_coef.auto.wc w.put_lead_coef.auto.sc)
      | else-key-c+then-larger w ↦
          rw (w.b-is, w.sc-is, w.wc-is, w.c-is) (on-up v.0 c.loop-i-test.true some _ w.from-gone.ensures numbers-order c.lead_key-key.ensures w.lead_coef-then-larger.ensures (sym w.larger.ensures ∙ w.if-larger.true) w.replace-c.ensures w.head_of-head.ensures w.len_of-left.ensures w.place.ensures, v.1)
      | else-key-c+else-larger w ↦
          rw (w.b-is, w.sc-is, w.wc-is, w.c-is) (on-past v.0 c.loop-i-test.true some numbers-order c.lead_key-key.ensures (sym w.larger.ensures ∙ w.if-larger.false) w.if-key-c.false w.pass_by-c.ensures, v.1)
    ]

pub returns : goal.returns
returns c = seeks-end c.requires.0 c.loop-i.invariant.0 c.loop-i-test.false
