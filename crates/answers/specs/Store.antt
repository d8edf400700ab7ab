-- What the numbers of a C answer of the block store state. Assumes nothing.
use Rattle.std.specs.Prelude.{◌≡◌, Result}
use Rattle.refusal.specs.declared.Refused.{Refused}
use Rattle.blocks.specs.declared.write.Written.{Written}
use Rattle.blocks.specs.declared.read.Read.{Read}
use Rattle.blocks.specs.Outcome.{WriteStated, ReadStated, write_stated, read_stated}
use Rattle.answers.specs.declared.store.WriteAnswer.{WriteAnswer}
use Rattle.answers.specs.declared.store.ReadAnswer.{ReadAnswer}

abbrev pub write_answered : WriteAnswer → WriteStated
write_answered a = record { number = a.refusal; finished = a.finished; blocks = a.blocks }

abbrev pub read_answered : ReadAnswer → ReadStated
read_answered a = record { number = a.refusal; finished = a.finished; p = a.p; order = a.order; n = a.n; weights = a.weights; terms = a.terms }

-- the numbers state what the answer of the entry states
abbrev pub WriteSaid : Result Written Refused → WriteAnswer → Type 0
WriteSaid answer a = write_answered a ≡ write_stated answer

abbrev pub ReadSaid : Result Read Refused → ReadAnswer → Type 0
ReadSaid answer a = read_answered a ≡ read_stated answer
