-- `conditions::operations::operations_good` meets its contract, pair by pair.
use Rattle.std.proofs.Common.{rules, tests, arith, ap, ◌∙◌, List, ℕ, length, get_or, ◌≡◌, ◌/◌, ◌%◌, ◌+◌, ◌*◌}
use Rattle.std.specs.List.{list_all}
use Rattle.std.proofs.lemmas.Iterator.{YieldsList-from_slice}
use Rattle.std.proofs.lemmas.Iterator.Search.{all_from_yields_List}
use Rattle.conditions.specs.Operations.{operation_good}
use Rattle.conditions.proofs.OperationLaws.{pairs-good, left-over}
use Rattle.conditions.proofs.operations.operations_good.Goals as goal

pub returns-then-is_empty : goal.returns-then-is_empty
returns-then-is_empty c =
    let m = c.args.polynomials in
    let ops = c.args.ops.now in
    let even : length ops % 2 ≡ 0 = search rules in
    all_from_yields_List (λ (pair : List ℕ). operation_good (get_or pair 0 0) (get_or pair 1 0) m) _ _ c.all.result c.all.ensures.ran (YieldsList-from_slice c.as_chunks.result.0.now cc) (λ x b q k. search (rules, tests))
    ∙ (ap (list_all (λ (pair : List ℕ). operation_good (get_or pair 0 0) (get_or pair 1 0) m)) c.as_chunks.ensures.front
    ∙ pairs-good (length ops / 2) ops m (omega arith))

pub returns-else-is_empty : goal.returns-else-is_empty
returns-else-is_empty c =
    let ops = c.args.ops.now in
    let odd : length ops ≡ 2 * (length ops / 2) + 1 = search rules in
    c.if-is_empty.false ∙ left-over (length ops / 2) ops c.args.polynomials odd
