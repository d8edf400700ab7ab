-- `operations::add_operation` meets its contract.
use Prim.Native.Nat.{◌+◌, ◌<◌, ◌≤◌}
use native.Mathlib.Omega.{arith}
use lib.ListN.{length}
use Rattle.limits.specs.Limits.{most_terms}
use Rattle.space.specs.Space.{held_in}
use Rattle.operations.proofs.OperationLaws.{held_small, add-refused, add-asks, add-operated}
use Rattle.operations.proofs.add_operation.Goals as goal

pub overflow_add-held : goal.overflow_add-held
overflow_add-held c = omega (arith, c.held.ensures, held_small c.requires.0, c.well_formed)

pub returns-then-held-fw-gt-MOST_TERMS : goal.returns-then-held-fw-gt-MOST_TERMS
returns-then-held-fw-gt-MOST_TERMS c = rw c.halt.ensures (add-refused c.requires.0 c.requires.1 (let z : most_terms < held_in c.args.b.now + length c.args.fw.now = omega (arith, c.if-held-fw-gt-MOST_TERMS.true, c.held.ensures) in z))

pub add_polynomial-r-requires : goal.add_polynomial-r-requires
add_polynomial-r-requires c = (add-asks c.requires.0 c.requires.1 (let z : held_in c.args.b.now + length c.args.fw.now ≤ most_terms = omega (arith, c.if-held-fw-gt-MOST_TERMS.false, c.held.ensures) in z), c.requires.2)

pub compare-requires : goal.compare-requires
compare-requires c = omega (arith, c.requires.0.few, c.requires.3, c.add_polynomial-r.ensures.few)

pub bring-requires : goal.bring-requires
bring-requires c = rw c.compare.ensures (omega (arith, c.requires.0.some-brought, c.requires.3, c.if-held-fw-gt-MOST_TERMS.false))

pub finish-requires : goal.finish-requires
finish-requires c = rw (c.bring.ensures, c.compare.ensures) (omega (arith, c.requires.3))

pub returns : goal.returns
returns c = rw (c.finish.ensures, c.bring.ensures, c.compare.ensures) (add-operated c.requires.0 c.requires.1 (let z : held_in c.args.b.now + length c.args.fw.now ≤ most_terms = omega (arith, c.if-held-fw-gt-MOST_TERMS.false, c.held.ensures) in z) c.requires.3 c.add_polynomial-r.ensures)
