-- `multiple::multiple::put_products` meets its contract: after i turns the keys of the first i products are put.
use mathlib.Core.List.{map}
use Prim.Native.Nat.{◌+◌}
use Rattle.monomial.specs.Words.{key_of}
use Rattle.merge_common.proofs.Lists.{Begun}
use Rattle.multiple.proofs.multiple.put_products.Given as goal

abbrev pub invariant-loop-i : goal.invariant-loop-i
invariant-loop-i l = Begun (map (λ w. key_of l.order (l.q + w)) l.words) l.initial.ow l.to l.ow l.i
