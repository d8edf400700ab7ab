-- `multiple::multiple::put_scaled` meets its contract: after j turns the first j products are put.
use mathlib.Core.List.{map}
use Rattle.residue.specs.Modular.{product}
use Rattle.merge_common.proofs.Lists.{Begun}
use Rattle.multiple.proofs.multiple.put_scaled.Given as goal

abbrev pub invariant-loop-j : goal.invariant-loop-j
invariant-loop-j l = Begun (map (λ c. product l.factor.prime l.factor.value c) l.coefs) l.initial.oc l.to l.oc l.j
