-- `divide_exactly` meets its contract: as `divide` does, with the quotient by the inverse in place of the remainder.
use mathlib.Core.Path.{sym}
use native.Mathlib.Nat.{mul-le-mul}
use native.Mathlib.Omega.{arith}
use Rattle.trial_division.proofs.TableLaws.{small-d, stop, exact-start, exact-end, exact-inverse, exact-hit, exact-next}
use Rattle.trial_division.proofs.divide_exactly.divide_exactly.Goals as goal

pub loop-w-init : goal.loop-w-init
loop-w-init c = rw c.from-d.ensures (exact-start _ _ _ c.requires.0 c.requires.1)

pub overflow_mul-d : goal.overflow_mul-d
overflow_mul-d c = let l = small-d _ c.loop-w.invariant.tried in omega (arith, mul-le-mul l l)

pub returns-then-d-from : goal.returns-then-d-from
returns-then-d-from c = let e = rw c.from.ensures at c.if-d-from.true in sym (stop _ c.loop-w.invariant.tried e)

pub divides-requires : goal.divides-requires
divides-requires c =
    (c.loop-w.invariant.large, omega (arith, small-d _ c.loop-w.invariant.tried), exact-inverse c.loop-w.invariant (omega arith))

pub returns-then-divides : goal.returns-then-divides
returns-then-divides c =
    let e = rw c.from.ensures at c.if-d-from.false in
    sym (exact-hit c.loop-w.invariant (omega arith) c.divides.ensures e c.if-divides.true)

pub loop-w-preserved : goal.loop-w-preserved
loop-w-preserved c = rw c.from-d-in-loop-w.ensures (exact-next c.loop-w.invariant (omega arith) c.divides.ensures c.if-divides.false)

pub returns : goal.returns
returns c = sym (exact-end c.loop-w.invariant (omega arith))
