-- `refusal::refusal_of` meets its contract, number by number.
use Rattle.refusal.proofs.TableLaws.{largest}
use Rattle.refusal.proofs.refusal_of.Goals as goal

pub returns-in_default : goal.returns-in_default
returns-in_default c = largest _ c.in_default.in_default-own.rest c.requires
