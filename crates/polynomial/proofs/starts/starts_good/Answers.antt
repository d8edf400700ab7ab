-- `polynomial::starts::starts_good` meets its contract.
use borrow.Author.Tests.{eqb-true}
use Rattle.std.proofs.Common.{rules, sym, ◌∙◌}
use Rattle.std.proofs.lemmas.Bool.{MatchBool-at_true, MatchBool-at_false}
use Rattle.std.proofs.lemmas.List.Sorted.{non_decreasing_from_is_sorted}
use Rattle.polynomial.proofs.StartLaws.{none-bad, first-bad, sorted-good, falls-bad}
use Rattle.polynomial.proofs.starts.starts_good.Goals.{then-starts-eq0, else-starts-eq0}
use Rattle.polynomial.proofs.starts.starts_good.Goals as goal

pub returns-in_default : goal.returns-in_default
returns-in_default c = none-bad _ _ (search rules)

pub returns-then-is_sorted : goal.returns-then-is_sorted
returns-then-is_sorted c = elim c.if-starts-eq0.branch [
  | then-starts-eq0 w ↦ sorted-good _ _ _ (search rules) w.if-starts-eq0.true (MatchBool-at_true _ _ (sym w.value-is ∙ c.if-is_sorted.true) (non_decreasing_from_is_sorted _ _ w.is_sorted.ensures.cases)) (search rules)
  | else-starts-eq0 w ↦ absurd (w.if-starts-eq0.false (eqb-true _ _ (sym w.value-is ∙ c.if-is_sorted.true)))
]

pub returns-else-is_sorted : goal.returns-else-is_sorted
returns-else-is_sorted c = elim c.if-starts-eq0.branch [
  | then-starts-eq0 w ↦ let f = MatchBool-at_false _ _ (sym w.value-is ∙ c.if-is_sorted.false) (non_decreasing_from_is_sorted _ _ w.is_sorted.ensures.cases) in c.if-is_sorted.false ∙ falls-bad _ _ f.0 f.1 (f.2 0)
  | else-starts-eq0 w ↦ c.if-is_sorted.false ∙ first-bad _ _ (search rules) w.if-starts-eq0.false
]
