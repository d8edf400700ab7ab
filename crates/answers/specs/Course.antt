-- What the numbers of a C answer of a run or reduction state. Assumes nothing.
use Rattle.std.specs.Prelude.{◌≡◌, Result}
use Rattle.call.specs.declared.answer.Done.{Done}
use Rattle.call.specs.declared.answer.Stopped.{Stopped}
use Rattle.call.specs.Answers.{Stated, stated}
use Rattle.answers.specs.declared.course.RunAnswer.{RunAnswer}
use Rattle.answers.specs.declared.course.ReductionAnswer.{ReductionAnswer}

abbrev pub run_stated : RunAnswer → Stated
run_stated a = record { number = a.refusal; finished = a.finished; places = a.places }

-- of a reduction, leads are finished, and the remainder's terms are written
abbrev pub reduction_stated : ReductionAnswer → Stated
reduction_stated a = record { number = a.refusal; finished = a.leads; places = a.terms }

-- the numbers state what the answer of the call states
abbrev pub RunSaid : Result Done Stopped → RunAnswer → Type 0
RunSaid answer a = run_stated a ≡ stated answer

abbrev pub ReductionSaid : Result Done Stopped → ReductionAnswer → Type 0
ReductionSaid answer a = reduction_stated a ≡ stated answer
