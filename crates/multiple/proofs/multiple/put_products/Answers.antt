-- `multiple::multiple::put_products` meets its contract: after i turns the keys of the first i products are put.
use mathlib.Core.Path.{sym, ◌∙◌}
use Prim.Native.Nat.{◌+◌}
use native.Mathlib.Omega.{arith}
use lib.ListN.{length-map}
use Rattle.monomial.specs.Words.{key_of}
use Rattle.merge_common.proofs.Lists.{begun_more, get_d-each}
use Rattle.multiple.proofs.ProductLaws.{packed-at}
use Rattle.multiple.proofs.multiple.put_products.Goals as goal

pub overflow_add-q : goal.overflow_add-q
overflow_add-q c =
    omega (arith, c.requires.0.room, (packed-at c.args.words.now c.loop-i.i c.requires.1 (omega arith)).room)

pub loop-i-preserved : goal.loop-i-preserved
loop-i-preserved c =
    let a = c.args in
    begun_more _ _ _ _ _ _ c.loop-i.invariant (omega (arith, length-map a.words.now (λ w. key_of a.order (a.q + w))))
    (c.key.ensures ∙ sym (get_d-each (λ w. key_of a.order (a.q + w)) a.words.now c.loop-i.i (omega arith)))
