-- `block::number::get_number` meets its contract.
use Rattle.std.proofs.Common.{ℕ, ◌∙◌, ◌^◌, ◌<◌, subst, sym, arith}
use Rattle.wide_monomial.proofs.ExponentLaws.{all-bytes}
use Rattle.block.proofs.ByteLaws.{number_got}
use Rattle.block.proofs.FieldLaws.{number_fits}
use Rattle.block.proofs.number.get_number.Goals as goal

pub returns : goal.returns
returns g c =
    let a = c.args in
    let e = c.from_le_bytes.ensures ∙ number_got a.s.now a.at g.row.N _ c.requires.0 c.requires.1 c.copy_from_slice.ensures.after in
    (e, subst (λ (x : ℕ). x < 256 ^ g.row.N) (sym e) (number_fits a.s.now (all-bytes a.s.now (λ (i : ℕ). omega (arith, c.type_inv.s i))) g.row.N a.at c.requires.1))
