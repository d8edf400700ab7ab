-- `reducer::step::keep` meets its contract.
use mathlib.Core.Path.{refl, ap, ◌∙◌}
use native.Mathlib.Omega.{arith}
use Rattle.call.specs.declared.state.State.{State}
use Rattle.call.specs.States.{gave}
use Rattle.reducer.specs.Stepping.{full, put}
use Rattle.reducer.proofs.step.keep.Goals as goal

pub returns-then-at-ow : goal.returns-then-at-ow
returns-then-at-ow c = full c.if-at-ow.true c.halt.ensures refl refl refl

pub remove_lead-requires : goal.remove_lead-requires
remove_lead-requires c = c.requires.removal

pub finish-requires : goal.finish-requires
finish-requires c = omega (arith, c.requires.few-leads)

pub give-requires : goal.give-requires
give-requires c = let e = c.finish.ensures in let k = c.requires in (omega (arith, ap (λ (x : State). x.given) e, k.given-are, k.few-places, k.few-leads), omega (arith, ap (λ (x : State). x.places) e, k.few-places, k.few-leads))

pub shape_of-b : goal.shape_of-b
shape_of-b c = c.remove_lead.auto.b

pub returns : goal.returns
returns c = put c.if-at-ow.false (c.give.ensures ∙ ap (λ (x : State). gave x 1 1) c.finish.ensures) c.remove_lead.ensures refl refl
