-- `space::settle::settle_first` meets its contract: after i turns the first i buckets are settled.
use Prim.Native.Nat.{ℕ, ◌+◌, ◌-◌, ◌≤◌}
use mathlib.Core.Path.{◌≡◌, refl, ap, ◌∙◌}
use mathlib.Core.List.{List, map}
use native.Mathlib.Omega.{arith}
use lib.ListN.{length}
use lib.Seq.{sets}
use Rattle.limits.specs.Limits.{work_places}
use Rattle.wide_monomial.specs.Wide.{paired}
use Rattle.place.specs.Numbers.{keyed, key_numbers, word_numbers, from_key_by}
use Rattle.place.proofs.WidthLaws.{numbers-alike, numbers-whole}
use Rattle.merge_common.specs.Lent.{part}
use Rattle.merge_common.proofs.Lists.{length_part, sets-filled}
use Rattle.space.proofs.SettleLaws.{as_read, settling-none, settling-more, Fits, fits, within}
use Rattle.space.proofs.RowLaws.{settled-first}
use Rattle.space.proofs.settle.settle_first.Goals.{After-len_of-n}
use Rattle.space.proofs.settle.settle_first.Goals as goal

-- in a turn, where bucket i is known
room : (g : _) → (c : After-len_of-n g) → Fits c.loop-i.start c.loop-i.cap c.len_of-n.result
room g c = fits c.loop-i.invariant.1 c.requires.0 c.requires.4 c.requires.2 (omega (arith, c.loop-i-test.true)) c.len_of-n.ensures

bound : (g : _) → (c : After-len_of-n g) → c.head_of-h.result + c.len_of-n.result ≤ work_places
bound g c = within c.loop-i.invariant.1 c.requires.0 c.requires.4 c.requires.2 c.loop-i-test.true c.head_of-h.ensures c.len_of-n.ensures

pub loop-i-init : goal.loop-i-init
loop-i-init g c = (settling-none _ _ _ _ (numbers-alike paired keyed g.K.Key.width c.args.sw.now ∙ c.requires.1), settling-none _ _ _ _ c.requires.2)

pub overflow_add-end : goal.overflow_add-end
overflow_add-end g c = omega (arith, bound g c)

pub overflow_add-past : goal.overflow_add-past
overflow_add-past g c = omega (arith, room g c)

pub part_places-row-requires : goal.part_places-row-requires
part_places-row-requires g c = (omega arith, omega (arith, bound g (goal.at.part_places-row-requires g c).After-len_of-n, c.requires.3))

pub put_words_of-requires : goal.put_words_of-requires
put_words_of-requires g c =
    let a = (goal.at.put_words_of-requires g c).After-len_of-n in
    let w = g.K.Key.width in
    let h = c.head_of-h.result in
    let n = c.len_of-n.result in
    let e : length (key_numbers w c.part_places-row.result.now) ≡ length (part h (h + n - h) (key_numbers w c.args.ww.now)) = ap length c.part_places-row.ensures.0 in
    omega (arith, room g a, e, length_part h (h + n - h) (key_numbers w c.args.ww.now) (omega (arith, bound g a, c.requires.3)), c.loop-i.invariant.0.long, numbers-alike keyed paired w c.loop-i.sw)

pub clear_places-requires : goal.clear_places-requires
clear_places-requires g c = omega (arith, room g (goal.at.clear_places-requires g c).After-len_of-n, c.loop-i.invariant.0.long, numbers-whole paired g.K.Key.width c.put_words_of.new.dst c.loop-i.sw)

pub offset_bounds-wc-h : goal.offset_bounds-wc-h
offset_bounds-wc-h g c = omega (arith, bound g (goal.at.offset_bounds-wc-h g c).After-len_of-n)

pub slice_bounds-put-end : goal.slice_bounds-put-end
slice_bounds-put-end g c = omega (arith, bound g (goal.at.slice_bounds-put-end g c).After-len_of-n, c.requires.4)

pub put-requires : goal.put-requires
put-requires g c =
    let a = (goal.at.put-requires g c).After-len_of-n in
    let h = c.head_of-h.result in
    let n = c.len_of-n.result in
    omega (arith, room g a, length_part h (h + n - h) c.args.wc.now (omega (arith, bound g a, c.requires.4)), c.loop-i.invariant.1.long)

pub overflow_add-past-in-loop-i : goal.overflow_add-past-in-loop-i
overflow_add-past-in-loop-i g c = omega (arith, room g (goal.at.overflow_add-past-in-loop-i g c).After-len_of-n)

pub offset_bounds-sc-past : goal.offset_bounds-sc-past
offset_bounds-sc-past g c = omega (arith, room g (goal.at.offset_bounds-sc-past g c).After-len_of-n)

pub slice_bounds-fill-end : goal.slice_bounds-fill-end
slice_bounds-fill-end g c = omega (arith, room g (goal.at.slice_bounds-fill-end g c).After-len_of-n, c.loop-i.invariant.1.long)

pub overflow_add-start : goal.overflow_add-start
overflow_add-start g c = omega (arith, room g (goal.at.overflow_add-start g c).After-len_of-n)

pub overflow_mul-cap : goal.overflow_mul-cap
overflow_mul-cap g c = omega (arith, room g (goal.at.overflow_mul-cap g c).After-len_of-n)

pub loop-i-preserved : goal.loop-i-preserved
loop-i-preserved g c =
    let x = c.args in
    let w = g.K.Key.width in
    let k = c.loop-i-test.true in
    let h = c.head_of-h.result in (
      settling-more c.loop-i.invariant.0 c.requires.0 c.requires.3 (numbers-alike paired keyed w x.sw.now ∙ c.requires.1) k c.head_of-h.ensures c.len_of-n.ensures (λ r. refl)
          (c.put_words_of.ensures ∙ ap (λ (l : List ℕ). sets (word_numbers w c.loop-i.sw) c.loop-i.start (map (from_key_by w x.order) l)) c.part_places-row.ensures.0)
          c.clear_places.ensures,
      settling-more c.loop-i.invariant.1 c.requires.0 c.requires.4 c.requires.2 k c.head_of-h.ensures c.len_of-n.ensures as_read c.put.ensures (sets-filled _ _ _ _ (omega (arith, room g (goal.at.loop-i-preserved g c).After-len_of-n, c.loop-i.invariant.1.long)) (c.fill.ensures.after (λ y e. e))),
    )

pub returns : goal.returns
returns g c =
    let x = c.args in
    let w = g.K.Key.width in
    let five : c.loop-i.i ≡ 5 = omega (arith, c.loop-i-test.false) in (
      settled-first (from_key_by w x.order) x.b.now c.requires.0 (key_numbers w x.ww.now) c.requires.3 c.loop-i.invariant.0 five,
      settled-first (λ c. c) x.b.now c.requires.0 x.wc.now c.requires.4 c.loop-i.invariant.1 five,
    )
