-- `space::settle::settle_last` meets its contract.
use Prim.Native.Nat.{◌-◌}
use mathlib.Core.Path.{ap, ◌∙◌}
use native.Mathlib.Omega.{arith}
use lib.Seq.{sets}
use Rattle.limits.specs.Limits.{work_places}
use Rattle.merge_common.specs.Lent.{part}
use Rattle.wide_monomial.specs.Wide.{paired}
use Rattle.place.specs.Numbers.{keyed, key_numbers, word_numbers, from_key_by}
use Rattle.place.proofs.WidthLaws.{numbers-alike, numbers-whole}
use Rattle.merge_common.proofs.Lists.{sets-filled}
use Rattle.space.proofs.SettleLaws.{as_read}
use Rattle.space.specs.Rows.{last_start}
use Rattle.space.proofs.RowLaws.{LastAt, last-place, last-put}
use Rattle.space.proofs.settle.settle_last.Goals.{After-len_of-n}
use Rattle.space.proofs.settle.settle_last.Goals as goal

-- where the last bucket lies
last : (g : _) → (c : After-len_of-n g) → LastAt c.args.b.now c.head_of-h.result c.len_of-n.result
last g c = last-place c.args.b.now c.requires.0 c.head_of-h.ensures c.len_of-n.ensures

pub overflow_add-past : goal.overflow_add-past
overflow_add-past g c = omega (arith, last g c)

pub overflow_sub-left : goal.overflow_sub-left
overflow_sub-left g c = omega (arith, last g c)

pub overflow_sub-h : goal.overflow_sub-h
overflow_sub-h g c = omega (arith, last g (goal.at.overflow_sub-h g c).After-len_of-n)

pub pull_terms-requires : goal.pull_terms-requires
pull_terms-requires g c = let r = last g (goal.at.pull_terms-requires g c).After-len_of-n in (omega (arith, r.ends, c.requires.1), omega (arith, r.ends, c.requires.2), r.low)

pub clear_places-requires : goal.clear_places-requires
clear_places-requires g c =
    let r = last g (goal.at.clear_places-requires g c).After-len_of-n in
    let w = g.K.Key.width in
    omega (arith, r.short, c.requires.1, numbers-alike keyed paired w c.args.sw.now, numbers-whole paired w c.args.sw.now c.pull_terms.new.sw)

pub overflow_add-past-2 : goal.overflow_add-past-2
overflow_add-past-2 g c = omega (arith, last g (goal.at.overflow_add-past-2 g c).After-len_of-n)

pub offset_bounds-sc-past : goal.offset_bounds-sc-past
offset_bounds-sc-past g c = omega (arith, last g (goal.at.offset_bounds-sc-past g c).After-len_of-n)

pub slice_bounds-fill-end : goal.slice_bounds-fill-end
slice_bounds-fill-end g c = let r = last g (goal.at.slice_bounds-fill-end g c).After-len_of-n in omega (arith, r.short, c.requires.2)

pub returns : goal.returns
returns g c =
    let x = c.args in
    let w = g.K.Key.width in
    let q = c.pull_terms.ensures in (
      last-put (from_key_by w x.order) x.b.now c.requires.0 c.head_of-h.ensures c.len_of-n.ensures (key_numbers w x.sw.now) (word_numbers w x.sw.now) c.requires.1 q.0 c.clear_places.ensures,
      last-put (λ c. c) x.b.now c.requires.0 c.head_of-h.ensures c.len_of-n.ensures x.sc.now x.sc.now c.requires.2 (q.1 ∙ ap (sets x.sc.now last_start) (as_read (part (c.head_of-h.result - work_places) c.len_of-n.result x.sc.now))) (sets-filled _ _ _ _ (let r = last g (goal.at.returns g c).After-len_of-n in omega (arith, r.short, c.requires.2)) (c.fill.ensures.after (λ y e. e))),
    )
