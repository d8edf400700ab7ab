-- `divide` meets its contract: no number below d divides p but 1 and p, and once d * d is above p no other number does.
use mathlib.Core.Path.{sym}
use native.Mathlib.Omega.{arith}
use Rattle.trial_division.proofs.TableLaws.{stop, hit, below-square, dividing-start, dividing-here, dividing-end, dividing-at, dividing-digit}
use Rattle.trial_division.proofs.divide.divide.Goals as goal

pub loop-w-init : goal.loop-w-init
loop-w-init c = dividing-start _ _ _ c.requires.0 c.requires.1

pub loop-k-init : goal.loop-k-init
loop-k-init c = dividing-at c.loop-w.invariant (omega arith)

pub returns-then-from : goal.returns-then-from
returns-then-from c =
    let e = rw (c.from.ensures, c.from-in-loop-k.ensures, c.from-in-loop-k-2.ensures) at c.if-from.true in
    sym (stop _ c.loop-k.invariant.tried e)

pub returns-then-p-d-eq0 : goal.returns-then-p-d-eq0
returns-then-p-d-eq0 c =
    let e = rw (c.from.ensures, c.from-in-loop-k.ensures, c.from-in-loop-k-2.ensures) at c.if-from.false in
    sym (hit _ _ (dividing-here c.loop-k.invariant (omega arith)) (below-square _ _ c.loop-k.invariant.tried.three e) c.if-p-d-eq0.true)

pub loop-k-preserved : goal.loop-k-preserved
loop-k-preserved c = dividing-digit c.loop-k.invariant (omega arith) (omega arith) c.if-p-d-eq0.false c.digit.ensures

pub loop-w-preserved : goal.loop-w-preserved
loop-w-preserved c = dividing-at c.loop-k.invariant (omega arith)

pub returns : goal.returns
returns c = sym (dividing-end c.loop-w.invariant (omega arith))
