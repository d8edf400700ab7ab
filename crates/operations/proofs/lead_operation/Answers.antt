-- `operations::lead_operation` meets its contract.
use native.Mathlib.Omega.{arith}
use mathlib.Core.Path.{◌≡◌}
use mathlib.Core.Bool.{not}
use lib.Dec.{eqb}
use Rattle.merge_common.specs.Lent.{flag}
use Prim.Native.Nat.{ℕ, ◌≤◌}
use Rattle.merge_common.proofs.Steps.{flag_small}
use Rattle.operations.proofs.OperationLaws.{lead-refused, lead-operated}
use Rattle.operations.proofs.lead_operation.Goals as goal

-- whether there is a lead, as a number
small : (coef : ℕ) {n : ℕ} → n ≡ flag (not (eqb coef 0)) → n ≤ 1
small coef e = rw e (flag_small (not (eqb coef 0)))

pub returns-then-at-ow : goal.returns-then-at-ow
returns-then-at-ow c = rw c.halt.ensures (lead-refused c.requires.0 c.requires.2 c.if-at-ow.true)

pub take_lead-found-requires : goal.take_lead-found-requires
take_lead-found-requires c = (c.requires.0.stands, c.requires.1)

pub offset_bounds-ow-at : goal.offset_bounds-ow-at
offset_bounds-ow-at c = omega (arith, c.if-at-ow.false, c.well_formed)

pub offset_bounds-oc-at : goal.offset_bounds-oc-at
offset_bounds-oc-at c = omega (arith, c.if-at-ow.false, c.well_formed)

pub give-requires : goal.give-requires
give-requires c = rw c.compare.ensures (omega (arith, c.requires.0.some-given, c.requires.3, small c.place_of-word.result.1 c.from.ensures), omega (arith, c.if-at-ow.false, c.well_formed))

pub finish-requires : goal.finish-requires
finish-requires c = rw (c.give.ensures, c.compare.ensures) (omega (arith, c.requires.3))

pub returns : goal.returns
returns c = rw (c.finish.ensures, c.give.ensures, c.compare.ensures) (lead-operated c.requires.0 c.requires.2 c.if-at-ow.false c.take_lead-found.ensures c.place_of-word.result.0 c.place_of-word.result.1 c.place_of-word.ensures c.requires.3 c.from.ensures (small c.place_of-word.result.1 c.from.ensures))
