-- `merge_common::places::PairKey::put` meets its contract.
use Rattle.std.proofs.Common.{arith}
use lib.ListN.{length-set}
use Rattle.wide_monomial.specs.Wide.{paired}
use Rattle.place.specs.Numbers.{keyed}
use Rattle.place.proofs.PairLaws.{length_pairs, pairs_set}
use Rattle.merge_common.proofs.places.PairKey.put.Goals as goal

pub bounds-ww-k-2 : goal.bounds-ww-k-2
bounds-ww-k-2 c = simp length-set (omega (arith, c.requires, length_pairs keyed c.args.ww.now))

pub returns : goal.returns
returns c =
    let a = c.args in
    let w = a.ww.now in (
      pairs_set keyed w a.k a.self.first a.self.second c.requires,
      pairs_set paired w a.k a.self.first a.self.second (omega (arith, c.requires, length_pairs keyed w, length_pairs paired w)),
    )
