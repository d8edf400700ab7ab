-- `buckets::add::put_and_add` meets its contract: the keys are put where they are taken.
use mathlib.Core.Path.{refl}
use native.Mathlib.Omega.{arith}
use Rattle.buckets.proofs.WordLaws.{small-asks, small-done}
use Rattle.buckets.proofs.add.put_and_add.Goals as goal

pub put_terms-requires : goal.put_terms-requires
put_terms-requires c = let s = c.requires in (s.0.long, omega (arith, s.2, s.1.work-words), omega (arith, s.2, s.1.work-coefs))

pub add_small-requires : goal.add_small-requires
add_small-requires c = let s = c.requires in let k = c.put_terms.ensures in small-asks s.0 s.1 k.2 k.0 k.1 refl s.2

pub returns : goal.returns
returns c = let s = c.requires in let k = c.put_terms.ensures in small-done s.0 s.1 k.2 k.0 k.1 refl s.2 c.add_small.ensures
