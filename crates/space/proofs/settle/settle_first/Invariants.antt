-- `space::settle::settle_first` meets its contract: after i turns the first i buckets are settled.
use Rattle.place.specs.Numbers.{key_numbers, word_numbers, from_key_by}
use Rattle.space.proofs.SettleLaws.{Settling}
use Rattle.space.proofs.settle.settle_first.Given as goal

abbrev pub invariant-loop-i : goal.invariant-loop-i
invariant-loop-i g l =
    let w = g.K.Key.width in
    Settling (from_key_by w l.order) l.b (key_numbers w l.ww) (word_numbers w l.initial.sw) (word_numbers w l.sw) l.i l.start l.cap × Settling (λ c. c) l.b l.wc l.initial.sc l.sc l.i l.start l.cap
