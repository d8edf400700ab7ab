-- `merge_common::copy::clear_places` meets its contract.
use Rattle.std.proofs.Common.{◌+◌, ◌*◌, ◌≤◌, ◌∙◌, length, arith}
use Rattle.merge_common.proofs.Lists.{sets-filled}
use Rattle.merge_common.proofs.Turns.{clear_room, cleared}
use Rattle.merge_common.proofs.copy.clear_places.Goals.{After-WORDS-w}
use Rattle.merge_common.proofs.copy.clear_places.Goals as goal

-- the words of the places are there
room : (g : _) → (c : After-WORDS-w g) → c.WORDS-w.result * c.args.at + c.WORDS-w.result * c.args.n ≤ length c.args.s.now
room g c = let x = c.args in clear_room g.K.Key.width x.s.now (c.WORDS-w.ensures ∙ g.met.K.Key.words_are) x.at x.n c.requires

pub overflow_mul-first : goal.overflow_mul-first
overflow_mul-first g c = omega (arith, room g c)

pub overflow_mul-count : goal.overflow_mul-count
overflow_mul-count g c = omega (arith, room g c)

pub overflow_add-first : goal.overflow_add-first
overflow_add-first g c = omega (arith, room g c, c.well_formed)

pub offset_bounds-s-first : goal.offset_bounds-s-first
offset_bounds-s-first g c = omega (arith, room g c, c.well_formed)

pub slice_bounds-fill-end : goal.slice_bounds-fill-end
slice_bounds-fill-end g c = room g c

pub returns : goal.returns
returns g c =
    let x = c.args in
    cleared g.K.Key.width x.s.now (c.WORDS-w.ensures ∙ g.met.K.Key.words_are) x.at x.n c.requires (sets-filled _ _ _ _ (room g (goal.at.returns g c).After-WORDS-w) (c.fill.ensures.after (λ y e. e)))
