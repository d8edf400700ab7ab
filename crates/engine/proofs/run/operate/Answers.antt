-- `engine::run::operate` meets its contract.
use Rattle.engine.proofs.RunLaws.{one-operated}
use Rattle.engine.proofs.run.operate.Goals as goal

pub returns-in-Add : goal.returns-in-Add
returns-in-Add c = one-operated _ _ _ c.in-Add.is c.part-f.ensures.0 c.part-f.ensures.1 c.requires.0.output c.add_operation.ensures
