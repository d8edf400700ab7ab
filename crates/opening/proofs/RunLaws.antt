-- A run's refusal by its setting, and what a run that no opening check refuses is. Assumes nothing.
use mathlib.Core.Path.{◌≡◌}
use mathlib.Core.List.{List}
use Prim.Native.Nat.{ℕ, ◌-◌}
use native.Mathlib.Omega.{arith}
use lib.ListN.{length}
use Rattle.conditions.specs.Operations.{operations_good}
use Rattle.polynomial.specs.declared.setting.Setting.{Setting}
use Rattle.polynomial.specs.Opening.{first}
use Rattle.opening.specs.Run.{unless, setting, shape_good, polynomials_refusal, run_refusal, Opened}
use Rattle.polynomial.proofs.OpeningLaws.{first-none}
use Rattle.opening.proofs.Tests.{first_some, passed}
use Rattle.opening.proofs.SettingLaws.{setting-passes}
use Rattle.opening.proofs.PolynomialLaws.{polynomials-pass}
use Rattle.opening.proofs.ShapeLaws.{shape-passes}

-- a refusal of the setting comes first
pub stop-setting : (t : Setting) (words coefs starts ops : List ℕ) (bw bc ww wc ow oc r : ℕ) → r ≡ setting t → (r ≡ 0 → ⊥) → r ≡ run_refusal t words coefs starts ops bw bc ww wc ow oc
unfolding run_refusal
stop-setting t words coefs starts ops bw bc ww wc ow oc r e h = rw (← e) (first_some r _ h)

-- a run that no opening check refuses is opened
pub opened : (t : Setting) (words coefs starts ops : List ℕ) (bw bc ww wc ow oc : ℕ) → run_refusal t words coefs starts ops bw bc ww wc ow oc ≡ 0 → Opened t words coefs starts ops bw bc ww wc ow oc
unfolding run_refusal
opened t words coefs starts ops bw bc ww wc ow oc h =
    let good = shape_good (length t.weights) (length words) (length coefs) starts (length ops) bw bc ww wc ow oc in
    let done = operations_good ops (length starts - 1) in
    let last = polynomials_refusal t words coefs starts in
    let a = first-none (setting t) (first (unless good 8) (first (unless done 9) last)) h in
    let b = first-none (unless good 8) (first (unless done 9) last) a.1 in
    let d = first-none (unless done 9) last b.1 in
    let s = setting-passes t a.0 in
    let l = shape-passes (passed good 8 (omega arith) b.0) in
    record {
      prime = s.prime;
      limit = s.limit;
      order-low = s.order-low;
      order-high = s.order-high;
      n-low = s.n-low;
      n-high = s.n-high;
      weights = s.weights;
      weights-six = l.weights-six;
      lent = l.lent;
      output = l.output;
      bucket-words = l.bucket-words;
      bucket-coefs = l.bucket-coefs;
      work-words = l.work-words;
      work-coefs = l.work-coefs;
      starts = l.starts;
      pairs = l.pairs;
      operations = passed done 9 (omega arith) d.0;
      polynomials = polynomials-pass t words coefs starts d.1;
    }
