-- `probe_part_coef` is the element of the part where the part is there.
use mathlib.Core.Bool.{not}
use Prim.Native.Nat.{ℕ}
use mathlib.Core.Path.{◌≡◌, ◌∙◌, ap}
use mathlib.Core.List.{List}
use lib.ListN.{get_or}
use Rattle.std.proofs.Common.{rules}
use Rattle.probe.proofs.Answering.{held, failed, yes, no}
use Rattle.probe.proofs.LendingLaws.{there-within}
use Rattle.probe.proofs.polynomials.probe_part_coef.Goals as goal

pub returns-then-not-is_part_there : goal.returns-then-not-is_part_there
returns-then-not-is_part_there c = failed _ _ (no c.is_part_there.ensures (ap not c.if-not-is_part_there.true))

pub part_of-requires : goal.part_of-requires
part_of-requires c = there-within _ _ _ (yes c.is_part_there.ensures (ap not c.if-not-is_part_there.false))

pub returns : goal.returns
returns c =
    let e : c.unwrap_or.result ≡ get_or c.part_of.result.now c.args.i 4294967295 = search rules in
    held _ (yes c.is_part_there.ensures (ap not c.if-not-is_part_there.false)) (e ∙ ap (λ (l : List ℕ). get_or l c.args.i 4294967295) c.part_of.ensures)
