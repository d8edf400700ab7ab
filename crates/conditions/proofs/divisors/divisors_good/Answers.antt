-- `conditions::divisors::divisors_good` meets its contract.
use Rattle.std.proofs.Common.{rules, tests, ◌∙◌, nat_lt}
use Rattle.std.proofs.lemmas.List.Sorted.{answers_always}
use Rattle.conditions.proofs.DivisorLaws.{no-starts, sorted-zero, behind-first}
use Rattle.conditions.proofs.divisors.divisors_good.Goals as goal

pub returns-then-is_empty : goal.returns-then-is_empty
returns-then-is_empty c = c.if-is_empty.true ∙ no-starts c.args.starts.now (search rules)

pub returns-else-is_empty : goal.returns-else-is_empty
returns-else-is_empty c = sorted-zero _ _ (c.is_sorted_by.ensures.cases nat_lt (answers_always _ _ _ (λ f a r f' q. search (rules, tests)))) ∙ behind-first c.args.starts.now
