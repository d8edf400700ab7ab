-- What a call that is refused before it began gives. Assumes nothing.
use Rattle.std.specs.Prelude.{◌≡◌}
use Rattle.refusal.specs.declared.Refusal.{Refusal}
use Rattle.refusal.specs.declared.Refused.{Refused}

-- the cause, with 0 operations finished
abbrev pub unfinished : Refusal → Refused → Type 0
unfinished x r = r ≡ record { refusal = x; finished = 0 }
