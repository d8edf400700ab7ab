-- `divide_odd` meets its contract: no number below d divides p but 1 and p, and once d * d is above p no other number does.
use mathlib.Core.Path.{sym}
use native.Mathlib.Nat.{mul-le-mul_right}
use native.Mathlib.Omega.{arith}
use Rattle.residue.proofs.Primality.{divisor-false}
use Rattle.trial_division.proofs.TrialDivision.{at-root}
use Rattle.trial_division.proofs.TableLaws.{odd-start, odd-next, root-small}
use Rattle.trial_division.proofs.divide_odd.divide_odd.Goals as goal

pub loop-p-init : goal.loop-p-init
loop-p-init c = odd-start _ _ c.requires.0 c.requires.1

pub returns-then-p-d-eq0 : goal.returns-then-p-d-eq0
returns-then-p-d-eq0 c =
    let k = c.loop-p in
    let e = rw (c.from.ensures, c.from-in-loop-p.ensures, c.from-in-loop-p-2.ensures) at c.loop-p-test.true in
    sym (divisor-false _ _ (omega arith) (omega (arith, e, mul-le-mul_right k.d k.invariant.odd.three)) c.if-p-d-eq0.true)

pub loop-p-preserved : goal.loop-p-preserved
loop-p-preserved c =
    let e = rw (c.from.ensures, c.from-in-loop-p.ensures, c.from-in-loop-p-2.ensures) at c.loop-p-test.true in
    odd-next _ _ c.loop-p.invariant (root-small c.loop-p.d c.args.p (omega arith) e) c.if-p-d-eq0.false

pub returns : goal.returns
returns c =
    let v = c.loop-p.invariant in
    let e = rw (c.from.ensures, c.from-in-loop-p.ensures, c.from-in-loop-p-2.ensures) at c.loop-p-test.false in
    sym (at-root _ _ v.two v.none e)
