-- `space::settle::pull_terms` meets its contract: after i turns the first i are put.
use Rattle.place.specs.Numbers.{key_numbers, word_numbers, from_key_by}
use Rattle.space.proofs.PullLaws.{Pulled}
use Rattle.space.proofs.settle.pull_terms.Given as goal

abbrev pub invariant-loop-i : goal.invariant-loop-i
invariant-loop-i g l =
    let w = g.K.Key.width in
    Pulled (from_key_by w l.order) (key_numbers w l.initial.sw) (word_numbers w l.initial.sw) l.from l.to l.n (key_numbers w l.sw) (word_numbers w l.sw) l.i × Pulled (λ c. c) l.initial.sc l.initial.sc l.from l.to l.n l.sc l.sc l.i
