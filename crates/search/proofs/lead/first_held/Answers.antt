-- `search::lead::first_held` meets its contract.
use Prim.Native.Nat.{◌<◌}
use mathlib.Core.Path.{◌≡◌}
use Rattle.std.proofs.Common.{rules, tests}
use Rattle.std.proofs.lemmas.Iterator.{first_from_Range}
use Rattle.space.specs.Space.{len_at}
use Rattle.search.proofs.FindState.{held_first}
use Rattle.search.proofs.lead.first_held.Goals as goal

pub returns : goal.returns
returns c =
    let b = c.args.b.now in
    held_first b c.find.result (first_from_Range (record { start = 0; end = 6 }) _ _ c.find.result (λ i. 0 < len_at b i) (λ i. len_at b i ≡ 0) c.find.ensures.ran (λ x q h. search (rules, tests)) (λ x q h. search (rules, tests)))
