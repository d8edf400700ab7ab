-- `opening::polynomials::check_polynomials` meets its contract: after k turns no polynomial below k is refused.
use mathlib.Core.Path.{◌≡◌, refl, sym, ◌∙◌}
use native.Mathlib.Omega.{arith}
use Rattle.std.proofs.Common.{rules}
use Rattle.refusal.specs.Table.{refusal_in, number_of}
use Rattle.refusal.proofs.TableLaws.{number-some}
use Rattle.polynomial.proofs.StartLaws.{good-within}
use Rattle.opening.proofs.PolynomialLaws.{some-starts, check-start, check-stop, check-next, check-ends}
use Rattle.opening.proofs.polynomials.check_polynomials.Goals as goal

pub count-k-end-requires : goal.count-k-end-requires
count-k-end-requires c = some-starts _ _ c.requires.2

pub loop-k-init : goal.loop-k-init
loop-k-init c = let x = c.args in check-start x.t x.ps.words.now x.ps.coefs.now x.ps.starts.now c.requires.2

pub part-requires : goal.part-requires
part-requires c = (good-within c.args.ps.starts.now _ c.requires.2 c.loop-k.k (omega arith), sym c.requires.1)

pub returns-in_err-check : goal.returns-in_err-check
returns-in_err-check c =
    let x = c.args in
    let h = c.loop-k in
    let e : refusal_in c.from_residual.result ≡ number_of c.in_err-check.field-0.0 = search rules in
    e ∙ check-stop x.t x.ps.words.now x.ps.coefs.now x.ps.starts.now h.k h.invariant (omega arith) _ _ _ c.part.ensures.0 c.part.ensures.1 c.in_err-check.ensures (number-some _)

pub loop-k-preserved : goal.loop-k-preserved
loop-k-preserved c = let x = c.args in let h = c.loop-k in check-next x.t x.ps.words.now x.ps.coefs.now x.ps.starts.now h.k h.invariant (omega arith) _ _ _ c.part.ensures.0 c.part.ensures.1 c.in_ok-check.ensures refl

pub returns : goal.returns
returns c = let x = c.args in let h = c.loop-k in check-ends x.t x.ps.words.now x.ps.coefs.now x.ps.starts.now h.k h.invariant (omega arith)
