-- `space::settle::settle` meets its contract: the four slices are each as their callee leaves them.
use mathlib.Core.Path.{◌∙◌}
use native.Mathlib.Omega.{arith}
use Rattle.wide_monomial.specs.Wide.{paired}
use Rattle.place.specs.Numbers.{keyed, key_numbers, word_numbers}
use Rattle.place.proofs.WidthLaws.{numbers-alike}
use Rattle.space.proofs.SettleLaws.{at_return}
use Rattle.space.proofs.settle.settle.Goals as goal

pub clear_places-requires : goal.clear_places-requires
clear_places-requires g c = omega (arith, c.requires.3, c.requires.4, numbers-alike keyed paired g.K.Key.width c.args.ww.now)

pub returns : goal.returns
returns g c =
    let x = c.args in
    let w = g.K.Key.width in
    let q = c.requires in
    let r = c.settle_buckets.ensures in
    at_return w x.order x.b.now (key_numbers w x.sw.now) x.sc.now (key_numbers w x.ww.now) x.wc.now q.0 q.1 q.2 q.3 q.4 _ q.4 (word_numbers w x.ww.now) (numbers-alike paired keyed w x.ww.now ∙ q.3) r.0 r.1 c.clear_places.ensures (c.fill.ensures.after (λ y e. e))
