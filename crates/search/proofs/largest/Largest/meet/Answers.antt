-- `search::largest::Largest::meet` meets its contract.
use Rattle.search.proofs.LargestLaws.{met-is}
use Rattle.search.proofs.largest.Largest.meet.Goals as goal

pub returns : goal.returns
returns c = let a = c.args in met-is a.self a.bucket a.key c.larger-l.ensures c.choose.ensures c.choose-2.ensures
