-- `buckets::add::add_large` meets its contract.
use mathlib.Core.Path.{refl}
use native.Mathlib.Omega.{arith}
use Rattle.buckets.proofs.LargeLaws.{keys-there, keys-last}
use Rattle.buckets.proofs.add.add_large.Goals as goal

pub put_keys-requires : goal.put_keys-requires
put_keys-requires c = omega (arith, c.requires.room)

pub slice_bounds-merge_last-end : goal.slice_bounds-merge_last-end
slice_bounds-merge_last-end c = omega (arith, c.requires.room, c.put_keys.auto.dst)

pub merge_last-requires : goal.merge_last-requires
merge_last-requires c = rw (keys-there c.requires _ refl c.put_keys.ensures.0) (keys-last c.requires)

pub returns : goal.returns
returns c = (rw (keys-there c.requires _ refl c.put_keys.ensures.0) at c.merge_last.ensures, c.put_keys.ensures.1)
