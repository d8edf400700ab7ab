-- `merge_common::copy::rest_places` meets its contract.
use Rattle.merge_common.proofs.Turns.{begins, rest_whole}
use Rattle.merge_common.proofs.copy.rest_places.Goals as goal

pub returns : goal.returns
returns g c =
    let x = c.args in
    let w = g.K.Key.width in
    rest_whole w x.a.now x.b.now x.i x.j c.requires.0 c.requires.1 c.rest_words.ensures (begins w x.i c.WORDS.ensures g.met.K.Key.words_are) (begins w x.j c.WORDS-2.ensures g.met.K.Key.words_are)
