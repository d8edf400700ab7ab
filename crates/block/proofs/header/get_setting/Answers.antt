-- `block::header::get_setting` meets its contract.
use Rattle.block.proofs.header.get_setting.Goals as goal

pub returns : goal.returns
returns c = rw (c.get_number-low.ensures.0, c.get_number-upper.ensures.0, c.get_number.ensures.0, c.get_number-2.ensures.0, c.weights_of.ensures, c.get_number-3.ensures.0)
