-- `probe_divides` is `divides` where both words are packed.
use mathlib.Core.Path.{ap}
use mathlib.Core.Bool.{not}
use Rattle.probe.proofs.Answering.{yes}
use Rattle.probe.proofs.Packing.{both_so}
use Rattle.probe.proofs.monomials.probe_divides.Goals as goal

pub divides-requires : goal.divides-requires
divides-requires c = both_so _ _ (yes c.both_packed.ensures (ap not c.if-not-both_packed.false))
