-- `monomial::order::Order::compare` meets its contract: comparing keys is comparing words.
use mathlib.Core.Path.{◌∙◌}
use Rattle.monomial.proofs.CodeLaws.{by-keys}
use Rattle.monomial.proofs.order.Order.compare.Goals as goal

pub returns : goal.returns
returns c = let a = c.args in let f = c.ranges in c.cmp.ensures ∙ by-keys a.self a.x a.y _ _ f.x.fits f.y.fits c.key.ensures c.key-2.ensures
