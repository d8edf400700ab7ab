-- `block::number::put_number` meets its contract.
use Rattle.std.proofs.Common.{ap, take, ◌∙◌, arith}
use Rattle.monomial.specs.Layout.{bytes}
use Rattle.monomial.proofs.ByteLaws.{length-bytes}
use Rattle.merge_common.proofs.Lists.{sets-mid}
use Rattle.block.proofs.ByteLaws.{bytes_put}
use Rattle.block.proofs.number.put_number.Goals as goal

pub returns : goal.returns
returns g c =
    let a = c.args in
    let l = length-bytes g.row.N a.x in
    sets-mid a.s.now a.at _ (bytes g.row.N a.x) (omega (arith, l)) (c.copy_from_slice.ensures.after ∙ (ap (take g.row.N) c.to_le_bytes.ensures ∙ bytes_put g.row.N a.x c.requires.0)) (omega (arith, l, c.requires.1))
