-- `merge_common::places::PairKey::at` meets its contract.
use Rattle.std.proofs.Common.{sym, arith}
use Rattle.wide_monomial.specs.Wide.{paired}
use Rattle.place.specs.Numbers.{keyed}
use Rattle.place.proofs.PairLaws.{length_pairs, pair-at}
use Rattle.merge_common.proofs.places.PairKey.at.Goals as goal

pub returns : goal.returns
returns c =
    let w = c.args.ww.now in
    let k = c.args.k in
    (sym (pair-at keyed w k c.requires), sym (pair-at paired w k (omega (arith, c.requires, length_pairs keyed w, length_pairs paired w))))
