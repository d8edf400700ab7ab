-- `space::state::turn` meets its contract.
use Rattle.space.proofs.state.turn.Goals as goal

pub returns : goal.returns
returns c = rw c.place.ensures
