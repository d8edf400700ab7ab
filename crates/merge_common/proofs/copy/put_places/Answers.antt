-- `merge_common::copy::put_places` meets its contract.
use Rattle.std.proofs.Common.{arith}
use Rattle.merge_common.proofs.Turns.{begins, places-room, places-put}
use Rattle.merge_common.proofs.copy.put_places.Goals as goal

pub overflow_mul-at : goal.overflow_mul-at
overflow_mul-at g c =
    let a = c.args in
    let w = g.K.Key.width in
    let k = begins w a.to c.WORDS.ensures g.met.K.Key.words_are in
    omega (arith, places-room w a.dst.now a.src.now a.to c.requires.0 c.requires.1 k)

pub put-requires : goal.put-requires
put-requires g c =
    let a = c.args in
    let w = g.K.Key.width in
    let k = begins w a.to c.WORDS.ensures g.met.K.Key.words_are in
    places-room w a.dst.now a.src.now a.to c.requires.0 c.requires.1 k

pub returns : goal.returns
returns g c =
    let a = c.args in
    let w = g.K.Key.width in
    let k = begins w a.to c.WORDS.ensures g.met.K.Key.words_are in
    places-put w a.dst.now a.src.now a.to c.requires.0 c.requires.1 c.put.ensures k
