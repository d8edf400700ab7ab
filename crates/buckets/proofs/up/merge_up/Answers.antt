-- `buckets::up::merge_up` meets its contract.
use mathlib.Core.Path.{sym, ◌∙◌}
use native.Mathlib.Omega.{arith}
use Rattle.buckets.proofs.UpLaws.{areas, merged, move_asks, moved_up}
use Rattle.buckets.proofs.up.merge_up.Goals as goal

pub len_of-n-requires : goal.len_of-n-requires
len_of-n-requires c = let a = c.requires in (a.laid.eighteen, omega (arith, a.within))

pub side_of-to-requires : goal.side_of-to-requires
side_of-to-requires c = let a = c.requires in (a.laid.eighteen, a.within)

pub move_terms-requires : goal.move_terms-requires
move_terms-requires c =
    let a = c.requires in
    let none = sym c.len_of-n.ensures ∙ c.if-n-eq0.true in
    let w = move_asks a none c.args.ww.now a.work-words c.side_of-to.ensures in
    let v = move_asks a none c.args.wc.now a.work-coefs c.side_of-to.ensures in
    (w.0, w.1, v.0, v.1, v.2)

pub returns-then-n-eq0 : goal.returns-then-n-eq0
returns-then-n-eq0 c = let m = c.move_terms.ensures in (moved_up c.requires (sym c.len_of-n.ensures ∙ c.if-n-eq0.true) c.side_of-to.ensures m.0 m.1, omega (arith, c.side_of-to.ensures, sym c.len_of-n.ensures ∙ c.if-n-eq0.true))

pub head_of-requires : goal.head_of-requires
head_of-requires c = let a = c.requires in (a.laid.eighteen, omega (arith, a.within))

pub merge_areas-requires : goal.merge_areas-requires
merge_areas-requires c = areas c.requires c.head_of.ensures c.len_of-n.ensures c.side_of-to.ensures c.if-n-eq0.false

pub returns : goal.returns
returns c = (merged c.requires c.head_of.ensures c.len_of-n.ensures c.side_of-to.ensures c.merge_areas.ensures.0, omega (arith, c.merge_areas.ensures.1, c.side_of-to.ensures, c.len_of-n.ensures))
