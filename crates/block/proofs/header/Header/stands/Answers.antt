-- `block::header::Header::stands` meets its contract.
use Rattle.block.proofs.BlockLaws.{header-over}
use Rattle.block.proofs.header.Header.stands.Goals as goal

pub returns : goal.returns
returns c = let a = c.args in header-over a.s.now _ a.at a.self.number a.self.count a.self.here a.self.setting _ c.put.ensures c.eq.ensures
