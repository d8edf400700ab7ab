-- `script::lines::read_lines` meets its contract: the lines read so far, before those that are left, are what the whole text gives.
use Prim.Native.Nat.{◌-◌}
use lib.ListN.{length, take, drop}
use Rattle.monomial.specs.Layout.{fields}
use Rattle.text.specs.Bytes.{parts}
use Rattle.script.proofs.FieldLaws.{spent}
use Rattle.script.proofs.LinesLaws.{Left, Reading}
use Rattle.script.proofs.lines.read_lines.Given as goal

abbrev pub invariant-loop-line : goal.invariant-loop-line
invariant-loop-line l = Left (spent (drop (length l.yielded) (parts 10 (take (length l.s - 1) l.s)))) l.c (length l.initial.words) (length l.initial.coefs) (length l.initial.starts) (length l.initial.ops) × Reading l.shape.order (fields l.shape.order l.shape.weights) l.shape.n (parts 10 (take (length l.s - 1) l.s)) l.initial.words l.initial.coefs l.initial.starts l.initial.ops l.words l.coefs l.starts l.ops l.c (length l.yielded)
