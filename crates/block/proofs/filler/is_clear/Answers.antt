-- `block::filler::is_clear` meets its contract.
use Rattle.std.proofs.Common.{◌≡◌, ℕ, ◌+◌, ◌-◌, ◌∙◌, ap, eqb, arith, rules, tests}
use Rattle.std.proofs.lemmas.Iterator.{YieldsList-from_slice}
use Rattle.std.proofs.lemmas.Iterator.Search.{all_from_yields_List}
use Rattle.merge_common.specs.Lent.{part}
use Rattle.block.specs.Block.{zeros}
use Rattle.block.proofs.BlockLaws.{zeros-all}
use Rattle.block.proofs.filler.is_clear.Goals as goal

pub returns : goal.returns
returns c =
    let a = c.args in
    let e : a.at + a.n - a.at ≡ a.n = omega arith in
    all_from_yields_List (λ (b : ℕ). eqb b 0) _ _ c.all.result c.all.ensures.ran (YieldsList-from_slice (part a.at (a.at + a.n - a.at) a.s.now) cc) (λ x b q k. search (rules, tests))
    ∙ (zeros-all (part a.at (a.at + a.n - a.at) a.s.now) ∙ ap (λ (n : ℕ). zeros (part a.at n a.s.now)) e)
