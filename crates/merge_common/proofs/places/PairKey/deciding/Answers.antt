-- `merge_common::places::PairKey::deciding` meets its contract.
use Rattle.std.proofs.Common.{arith}
use Rattle.merge_common.proofs.Turns.{decides}
use Rattle.merge_common.proofs.places.PairKey.deciding.Goals as goal

pub returns : goal.returns
returns c =
    let a = c.args in
    decides a.self.first a.self.second a.other.first a.other.second (omega (arith, c.well_formed)) (omega (arith, c.well_formed)) c.choose.ensures c.choose-2.ensures
