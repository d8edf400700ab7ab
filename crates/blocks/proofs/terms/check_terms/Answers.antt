-- `blocks::terms::check_terms` meets its contract.
use Rattle.std.proofs.Common.{◌+◌, sym, ◌∙◌, arith}
use Rattle.polynomial.proofs.CheckingLaws.{polynomial-listed}
use Rattle.blocks.specs.Reading.{first_terms}
use Rattle.blocks.proofs.PlaceLaws.{up_to, places-fit, check-start, check-next, check-stops, check-late, check-six}
use Rattle.blocks.proofs.terms.check_terms.Goals as goal

pub loop-k-init : goal.loop-k-init
loop-k-init c = let a = c.args in check-start a.s.now a.t a.total _ c.unseen-checking.ensures

pub check_places-checking-requires : goal.check_places-checking-requires
check_places-checking-requires c = let a = c.args in (c.requires.0, places-fit a.s.now a.total c.loop-k.k _ c.requires.1 (omega arith) c.here_of.ensures)

pub refusal_of-requires : goal.refusal_of-requires
refusal_of-requires c =
    let a = c.args in
    let e = check-next a.s.now a.total c.loop-k.k _ (omega arith) c.here_of.ensures a.t c.loop-k.invariant.on c.check_places-checking.ensures in
    let f = check-stops a.s.now a.t a.total (up_to a.total (c.loop-k.k + 1)) _ e (omega arith) c.if-checking-ne0.true in
    rw f (polynomial-listed a.t (first_terms a.s.now a.total) (λ z. c.if-checking-ne0.true (f ∙ z)))

pub returns-then-checking-ne0 : goal.returns-then-checking-ne0
returns-then-checking-ne0 c =
    let a = c.args in
    let e = check-next a.s.now a.total c.loop-k.k _ (omega arith) c.here_of.ensures a.t c.loop-k.invariant.on c.check_places-checking.ensures in
    c.refusal_of.ensures ∙ check-stops a.s.now a.t a.total (up_to a.total (c.loop-k.k + 1)) _ e (omega arith) c.if-checking-ne0.true

pub loop-k-preserved : goal.loop-k-preserved
loop-k-preserved c =
    let a = c.args in
    record {
      on = check-next a.s.now a.total c.loop-k.k _ (omega arith) c.here_of.ensures a.t c.loop-k.invariant.on c.check_places-checking.ensures;
      good = c.if-checking-ne0.false;
    }

pub returns-then-checking-eq0 : goal.returns-then-checking-eq0
returns-then-checking-eq0 c = let a = c.args in sym c.if-checking-eq0.true ∙ check-late a.s.now a.t a.total (up_to a.total c.loop-k.k) _ c.loop-k.invariant.on (omega arith) c.loop-k.invariant.good

pub returns-else-checking-eq0 : goal.returns-else-checking-eq0
returns-else-checking-eq0 c = let a = c.args in check-six a.s.now a.t a.total (up_to a.total c.loop-k.k) _ c.loop-k.invariant.on (omega arith) c.loop-k.invariant.good c.if-checking-eq0.false
