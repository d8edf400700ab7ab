-- `merge_common::copy::count_places` meets its contract.
use Rattle.merge_common.proofs.Turns.{places-counted}
use Rattle.merge_common.proofs.copy.count_places.Goals as goal

pub returns : goal.returns
returns g c = places-counted g.K.Key.width c.args.ww.now c.WORDS.ensures g.met.K.Key.words_are
