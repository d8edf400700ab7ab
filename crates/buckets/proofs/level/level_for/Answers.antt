-- `buckets::level::level_for` meets its contract.
use native.Mathlib.Omega.{arith}
use Rattle.buckets.proofs.LevelLaws.{climb-start, climb-on, zone-zero, cap_zero}
use Rattle.buckets.proofs.level.level_for.Goals as goal

pub loop-l-init : goal.loop-l-init
loop-l-init c = (climb-start c.args.n, zone-zero, cap_zero)

pub next-l-requires : goal.next-l-requires
next-l-requires c = c.loop-l.invariant.0.within

pub loop-l-preserved : goal.loop-l-preserved
loop-l-preserved c = let k = c.loop-l in let r = c.next-l.result in (rw c.next-l.ensures (climb-on c.args.n k.l.0 k.invariant.0 c.requires (omega (arith, c.loop-l-test.true, k.invariant.2))), r.zone_is, r.cap_is)
