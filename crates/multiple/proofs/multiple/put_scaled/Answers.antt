-- `multiple::multiple::put_scaled` meets its contract: after j turns the first j products are put.
use mathlib.Core.Path.{sym, ◌∙◌}
use native.Mathlib.Omega.{arith}
use lib.ListN.{length-map}
use Rattle.residue.specs.Modular.{product}
use Rattle.merge_common.proofs.Lists.{begun_more, get_d-each}
use Rattle.multiple.proofs.ProductLaws.{below_at}
use Rattle.multiple.proofs.multiple.put_scaled.Goals as goal

pub times-requires : goal.times-requires
times-requires c =
    (c.requires.0, below_at c.args.factor.prime c.args.coefs.now c.loop-j.j c.requires.1 (omega arith))

pub loop-j-preserved : goal.loop-j-preserved
loop-j-preserved c =
    let a = c.args in
    begun_more _ _ _ _ _ _ c.loop-j.invariant (omega (arith, length-map a.coefs.now (λ v. product a.factor.prime a.factor.value v)))
    (c.times.ensures ∙ sym (get_d-each (λ v. product a.factor.prime a.factor.value v) a.coefs.now c.loop-j.j (omega arith)))
