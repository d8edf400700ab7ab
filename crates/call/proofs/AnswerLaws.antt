-- What is stated of an answer determines it: a contract over number and values leaves no choice. Assumes nothing.
use mathlib.Core.Path.{◌≡◌, sym, ap, ap₂}
use Prim.Native.Nat.{ℕ}
use Rattle.std.specs.Prelude.{Result, Ok, Err}
use Rattle.refusal.specs.declared.Refusal.{Refusal}
use Rattle.refusal.proofs.TableLaws.{number-once, number-some}
use Rattle.call.specs.declared.answer.Done.{Done}
use Rattle.call.specs.declared.answer.Stopped.{Stopped}
use Rattle.call.specs.Answers.{Stated, stated}

-- an answer by its values
abbrev done : (finished places : ℕ) → Result Done Stopped
done f p = Ok (record { finished = f; places = p })

abbrev stopped : Refusal → (finished places : ℕ) → Result Done Stopped
stopped r f p = Err (record { refusal = r; finished = f; places = p })

pub stated-once : (a b : Result Done Stopped) → stated a ≡ stated b → a ≡ b
stated-once (Ok d) (Ok f) e = ap₂ done (ap (λ (s : Stated). s.finished) e) (ap (λ (s : Stated). s.places) e)
stated-once (Ok d) (Err t) e = absurd (number-some t.refusal (sym (ap (λ (s : Stated). s.number) e)))
stated-once (Err s) (Ok f) e = absurd (number-some s.refusal (ap (λ (s : Stated). s.number) e))
stated-once (Err s) (Err t) e =
    let x : s.refusal ≡ t.refusal = number-once s.refusal t.refusal (ap (λ (s : Stated). s.number) e) in
    let y : s.finished ≡ t.finished = ap (λ (s : Stated). s.finished) e in
    let z : s.places ≡ t.places = ap (λ (s : Stated). s.places) e in
    let q : stopped s.refusal s.finished s.places ≡ stopped t.refusal t.finished t.places = cc in
    q
