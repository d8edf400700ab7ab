-- `search::lead::seek` meets its contract.
use mathlib.Core.List.{◌∷◌, ◌++◌}
use Prim.Native.Nat.{◌+◌, compare}
use lib.ListN.{length}
use Rattle.geobucket.specs.Search.{put_back}
use Rattle.space.specs.Space.{list_from, bucket_at, Slices}
use Rattle.search.specs.Searching.{pass_from}
use Rattle.search.proofs.SeekState.{Seeks}
use Rattle.search.proofs.lead.seek.Given as goal

abbrev pub invariant-loop-i : goal.invariant-loop-i
invariant-loop-i l =
    let s = pass_from compare l.p l.initial.b l.initial.c (l.ww ++ l.sw) (l.initial.wc ++ l.initial.sc) in
    Seeks compare l.p (list_from (bucket_at l.initial.b (l.ww ++ l.sw) (l.initial.wc ++ l.initial.sc)) 0 l.initial.c.bucket ++ put_back s.at s.lead (s.own ∷ s.above)) (l.initial.c.bucket + s.at) s.lead (l.initial.c.count + length s.pairs) (l.ww ++ l.sw) l.b l.c (l.wc ++ l.sc) l.i × Slices l.ww l.wc l.sw l.sc
