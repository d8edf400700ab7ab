-- `space::settle::settle_buckets` meets its contract: the last bucket, and then the others.
use mathlib.Core.Path.{◌∙◌}
use native.Mathlib.Omega.{arith}
use Rattle.wide_monomial.specs.Wide.{paired}
use Rattle.place.specs.Numbers.{keyed, key_numbers, word_numbers, from_key_by}
use Rattle.place.proofs.WidthLaws.{numbers-alike, numbers-whole}
use Rattle.space.proofs.RowLaws.{settled-whole}
use Rattle.space.proofs.settle.settle_buckets.Goals as goal

pub settle_first-requires : goal.settle_first-requires
settle_first-requires g c =
    let q = c.requires in
    (q.0, numbers-whole keyed g.K.Key.width c.settle_last.new.sw c.args.sw.now (omega arith) ∙ q.1, omega arith, q.3, q.4)

pub returns : goal.returns
returns g c =
    let x = c.args in
    let w = g.K.Key.width in
    let q = c.requires in
    let last = c.settle_last.ensures in
    let first = c.settle_first.ensures in (
      settled-whole (from_key_by w x.order) x.b.now q.0 (key_numbers w x.ww.now) (word_numbers w x.sw.now) (key_numbers w x.sw.now) q.3 (numbers-alike paired keyed w x.sw.now ∙ q.1) q.1 last.0 first.0,
      settled-whole (λ c. c) x.b.now q.0 x.wc.now x.sc.now x.sc.now q.4 q.2 q.2 last.1 first.1,
    )
