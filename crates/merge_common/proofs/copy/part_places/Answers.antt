-- `merge_common::copy::part_places` meets its contract.
use Rattle.std.proofs.Common.{◌*◌, ◌≤◌, ◌∙◌, length, arith}
use Rattle.merge_common.proofs.Turns.{lent-room, lent-places}
use Rattle.merge_common.proofs.copy.part_places.Goals.{After-WORDS-w}
use Rattle.merge_common.proofs.copy.part_places.Goals as goal

-- the words of the part are there
room : (g : _) → (c : After-WORDS-w g) → (c.WORDS-w.result * c.args.from ≤ c.WORDS-w.result * c.args.end) × (c.WORDS-w.result * c.args.end ≤ length c.args.ww.now)
room g c = let a = c.args in lent-room g.K.Key.width a.ww.now a.from a.end c.requires.0 c.requires.1 (c.WORDS-w.ensures ∙ g.met.K.Key.words_are)

pub overflow_mul-first : goal.overflow_mul-first
overflow_mul-first g c = omega (arith, room g c)

pub overflow_mul-bound : goal.overflow_mul-bound
overflow_mul-bound g c = omega (arith, room g c)

pub offset_bounds-ww-first : goal.offset_bounds-ww-first
offset_bounds-ww-first g c = omega (arith, room g c, c.well_formed)

pub slice_bounds-result-end : goal.slice_bounds-result-end
slice_bounds-result-end g c = (room g c).1

pub returns : goal.returns
returns g c = let a = c.args in lent-places g.K.Key.width a.ww.now a.from a.end c.requires.0 c.requires.1 (c.WORDS-w.ensures ∙ g.met.K.Key.words_are)
