-- `grammar::weights::read_weights` meets its contract, return by return.
use mathlib.Core.Path.{refl, ◌∙◌}
use native.Mathlib.Omega.{arith}
use Rattle.std.proofs.Common.{rules}
use Rattle.grammar.proofs.WeightsLaws.{all-capped, no-numbers, other-count, weights-are}
use Rattle.grammar.proofs.weights.read_weights.Goals as goal

pub returns-in_err-m : goal.returns-in_err-m
returns-in_err-m c = c.from_residual.ensures ∙ no-numbers _ _ c.in_err-m.ensures refl

pub returns-then-m-n : goal.returns-then-m-n
returns-then-m-n c = other-count _ _ c.in_ok-m.ensures _ refl c.if-m-n.true

pub returns : goal.returns
returns c = weights-are _ _ c.in_ok-m.ensures _ refl c.if-m-n.false refl _ (all-capped c.read_spaced.new.bytes c.map.result (omega arith) (λ i h. let k = c.map.ensures.items.at i 0 0 (omega arith) in search rules))
