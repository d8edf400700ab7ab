-- `reducer::divide::add_tail` meets its contract.
use mathlib.Core.Path.{ap, ◌∙◌}
use native.Mathlib.Omega.{arith}
use Rattle.call.specs.declared.state.State.{State}
use Rattle.reducer.proofs.TailLaws.{put-asks, tail-asks, tail-done, large-asks, large-few, tail-large}
use Rattle.reducer.proofs.divide.add_tail.Goals as goal

pub add_large-r-requires : goal.add_large-r-requires
add_large-r-requires c = large-asks c.requires.0 c.requires.1 c.if-n-gt-MOST_SMALL.true

pub compare-requires : goal.compare-requires
compare-requires c = omega (arith, c.requires.0.few-comparisons, large-few c.requires.0 c.requires.1 c.if-n-gt-MOST_SMALL.true c.add_large-r.ensures)

pub bring-requires : goal.bring-requires
bring-requires c = omega (arith, ap (λ (x : State). x.brought) c.compare.ensures, c.requires.0.few-brought, c.requires.0.room)

pub returns-then-n-gt-MOST_SMALL : goal.returns-then-n-gt-MOST_SMALL
returns-then-n-gt-MOST_SMALL c = tail-large c.requires.0 c.requires.1 c.if-n-gt-MOST_SMALL.true c.add_large-r.ensures c.compare.ensures c.bring.ensures

pub put_multiple-requires : goal.put_multiple-requires
put_multiple-requires c = put-asks c.requires.0 c.requires.1 c.if-n-gt-MOST_SMALL.false

pub add_small-r-requires : goal.add_small-r-requires
add_small-r-requires c = tail-asks c.requires.0 c.requires.1 c.if-n-gt-MOST_SMALL.false c.put_multiple.ensures

pub compare-requires-2 : goal.compare-requires-2
compare-requires-2 c = omega (arith, c.requires.0.few-comparisons, c.add_small-r.ensures.few)

pub bring-requires-2 : goal.bring-requires-2
bring-requires-2 c = omega (arith, ap (λ (x : State). x.brought) c.compare-2.ensures, c.requires.0.few-brought, c.requires.0.room)

pub shape_of-ww : goal.shape_of-ww
shape_of-ww c = c.add_small-r.auto.ww ∙ c.put_multiple.auto.ow

pub shape_of-wc : goal.shape_of-wc
shape_of-wc c = c.add_small-r.auto.wc ∙ c.put_multiple.auto.oc

pub returns : goal.returns
returns c = tail-done c.requires.0 c.requires.1 c.if-n-gt-MOST_SMALL.false c.put_multiple.ensures c.add_small-r.ensures c.compare-2.ensures c.bring-2.ensures
