-- `reducer::steps::begin` meets its contract.
use mathlib.Core.Path.{ap}
use native.Mathlib.Omega.{arith}
use Rattle.call.specs.declared.state.State.{State}
use Rattle.reducer.proofs.BeginLaws.{begin-refused, begin-asks, begin-done}
use Rattle.reducer.proofs.steps.begin.Goals as goal

pub returns-then-fw-gt-MOST_TERMS : goal.returns-then-fw-gt-MOST_TERMS
returns-then-fw-gt-MOST_TERMS c = begin-refused c.requires.0 c.if-fw-gt-MOST_TERMS.true c.new-s.ensures c.halt.ensures

pub add_polynomial-comparisons-requires : goal.add_polynomial-comparisons-requires
add_polynomial-comparisons-requires c = (begin-asks c.requires.0 c.if-fw-gt-MOST_TERMS.false c.requires.1 c.requires.2, c.requires.2)

pub compare-requires : goal.compare-requires
compare-requires c = omega (arith, ap (λ (x : State). x.comparisons) c.new-s.ensures, c.add_polynomial-comparisons.ensures.few)

pub bring-requires : goal.bring-requires
bring-requires c = omega (arith, ap (λ (x : State). x.brought) c.new-s.ensures, ap (λ (x : State). x.brought) c.compare.ensures, c.if-fw-gt-MOST_TERMS.false)

pub returns : goal.returns
returns c = begin-done c.requires.0 c.if-fw-gt-MOST_TERMS.false c.add_polynomial-comparisons.ensures c.new-s.ensures c.compare.ensures c.bring.ensures
