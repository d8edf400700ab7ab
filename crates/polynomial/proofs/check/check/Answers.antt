-- `polynomial::check::check` meets its contract: it is the check carried on over the whole.
use mathlib.Core.Path.{sym, ◌∙◌}
use Rattle.polynomial.specs.Terms.{terms}
use Rattle.polynomial.proofs.CheckingLaws.{whole, polynomial-listed}
use Rattle.polynomial.proofs.check.check.Goals as goal

pub refusal_of-requires : goal.refusal_of-requires
refusal_of-requires c =
    let a = c.args in
    let e = whole a.t a.f.words.now a.f.coefs.now c.unseen.ensures c.check_on.ensures c.verdict-number.ensures in
    rw e (polynomial-listed a.t (terms a.f.words.now a.f.coefs.now) (λ z. c.if-number-eq0.false (e ∙ z)))

pub returns-then-number-eq0 : goal.returns-then-number-eq0
returns-then-number-eq0 c = let a = c.args in sym c.if-number-eq0.true ∙ whole a.t a.f.words.now a.f.coefs.now c.unseen.ensures c.check_on.ensures c.verdict-number.ensures

pub returns-else-number-eq0 : goal.returns-else-number-eq0
returns-else-number-eq0 c = let a = c.args in c.refusal_of.ensures ∙ whole a.t a.f.words.now a.f.coefs.now c.unseen.ensures c.check_on.ensures c.verdict-number.ensures
