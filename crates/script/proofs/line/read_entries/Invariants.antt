-- `script::line::read_entries` meets its contract: the terms put so far, before those of the other fields, are what all fields give. Assumes nothing.
use lib.ListN.{length, drop}
use Rattle.monomial.specs.Layout.{fields}
use Rattle.text.specs.Bytes.{parts}
use Rattle.script.proofs.FieldLaws.{Adding}
use Rattle.script.proofs.line.read_entries.Given as goal

abbrev pub invariant-loop-field : goal.invariant-loop-field
invariant-loop-field l = Adding l.shape.order (fields l.shape.order l.shape.weights) l.shape.n (parts 32 (drop 1 l.s)) l.at l.initial.words l.initial.coefs l.words l.coefs l.to (length l.yielded)
