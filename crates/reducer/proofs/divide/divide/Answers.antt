-- `reducer::divide::divide` meets its contract.
use mathlib.Core.Path.{◌∙◌}
use native.Mathlib.Omega.{arith}
use Rattle.reducer.proofs.DivideLaws.{words-part, words-cons, coefs-cons, quotient_le, part-some, part-lead, held-some, held-few, factor-asks, highest-asks, over-asks, inverting, over_done, many-done, add-asks, divided-so}
use Rattle.reducer.proofs.divide.divide.Goals as goal

-- places before the test
pub part-g-requires : goal.part-g-requires
part-g-requires c = (words-part c.requires.0, c.requires.0.checked.long)

pub bounds-g-0 : goal.bounds-g-0
bounds-g-0 c = part-some (words-cons c.requires.0) c.part-g.ensures.0

pub quotient-q-requires : goal.quotient-q-requires
quotient-q-requires c = omega (arith, part-lead (words-cons c.requires.0) c.part-g.ensures.0, quotient_le c.requires.0)

pub slice_bounds-tw-count : goal.slice_bounds-tw-count
slice_bounds-tw-count c = part-some (words-cons c.requires.0) c.part-g.ensures.0

pub slice_bounds-tw-start : goal.slice_bounds-tw-start
slice_bounds-tw-start c = part-some (words-cons c.requires.0) c.part-g.ensures.0

pub slice_bounds-tc-count : goal.slice_bounds-tc-count
slice_bounds-tc-count c = part-some (coefs-cons c.requires.0) c.part-g.ensures.1

pub slice_bounds-tc-start : goal.slice_bounds-tc-start
slice_bounds-tc-start c = part-some (coefs-cons c.requires.0) c.part-g.ensures.1

pub tail_highest-requires : goal.tail_highest-requires
tail_highest-requires c = highest-asks c.requires.0 c.part-g.ensures.0 c.quotient-q.ensures

pub over-requires : goal.over-requires
over-requires c = over-asks c.requires.0 c.part-g.ensures.0 c.quotient-q.ensures c.tail_highest.ensures

pub returns-then-over : goal.returns-then-over
returns-then-over c = over_done c.requires.0 c.part-g.ensures.0 c.quotient-q.ensures c.tail_highest.ensures c.over.ensures c.if-over.true c.halt.ensures

pub overflow_sub-held : goal.overflow_sub-held
overflow_sub-held c = omega (arith, held-some c.requires.0 c.held.ensures)

pub overflow_add-held : goal.overflow_add-held
overflow_add-held c = omega (arith, held-few c.requires.0 c.held.ensures)

pub returns-then-held-tw-gt-MOST_TERMS : goal.returns-then-held-tw-gt-MOST_TERMS
returns-then-held-tw-gt-MOST_TERMS c = many-done c.requires.0 c.part-g.ensures.0 c.quotient-q.ensures c.tail_highest.ensures c.over.ensures c.if-over.false c.held.ensures c.if-held-tw-gt-MOST_TERMS.true c.halt-then-held-tw-gt-MOST_TERMS.ensures

pub lead_inverse-inverse-requires : goal.lead_inverse-inverse-requires
lead_inverse-inverse-requires c = inverting c.requires.0 c.part-g.ensures.0 c.quotient-q.ensures c.tail_highest.ensures

pub negate-requires : goal.negate-requires
negate-requires c = let a = c.requires.0 in (a.checked.modulus, a.coef-small)

pub factor_by-factor-requires : goal.factor_by-factor-requires
factor_by-factor-requires c = factor-asks c.requires.0 c.negate.ensures c.lead_inverse-inverse.ensures.0

pub remove_lead-requires : goal.remove_lead-requires
remove_lead-requires c = c.requires.0.removal

pub finish-r-requires : goal.finish-r-requires
finish-r-requires c = omega (arith, c.requires.0.few-leads)

pub add_tail-requires : goal.add_tail-requires
add_tail-requires c = (add-asks c.requires.0 c.part-g.ensures.0 c.quotient-q.ensures c.tail_highest.ensures c.over.ensures c.if-over.false c.held.ensures c.if-held-tw-gt-MOST_TERMS.false c.part-g.ensures.1 c.lead_inverse-inverse.ensures c.negate.ensures c.factor_by-factor.ensures c.remove_lead.ensures c.finish-r.ensures, c.requires.1)

pub shape_of-b : goal.shape_of-b
shape_of-b c = c.add_tail.auto.b ∙ c.remove_lead.auto.b

pub returns : goal.returns
returns c = divided-so c.requires.0 c.part-g.ensures.0 c.quotient-q.ensures c.tail_highest.ensures c.over.ensures c.if-over.false c.held.ensures c.if-held-tw-gt-MOST_TERMS.false c.part-g.ensures.1 c.lead_inverse-inverse.ensures c.negate.ensures c.factor_by-factor.ensures c.remove_lead.ensures c.finish-r.ensures c.add_tail.ensures
