-- `times` meets its contract: each need is a law of `Shoup.antt`.
use Rattle.residue.proofs.Shoup.{rest-fits, at_most, small-rest, large-rest}
use Rattle.residue.proofs.factor.Factor.times.Goals as goal

pub overflow_sub-r : goal.overflow_sub-r
overflow_sub-r c =
    rw (c.from.ensures, c.from-2.ensures, c.from-3.ensures, c.from-4.ensures, c.from-5.ensures) (at_most _ _ c.requires.0 c.requires.1)

pub overflow_cast-r : goal.overflow_cast-r
overflow_cast-r c =
    rw (c.from.ensures, c.from-2.ensures, c.from-3.ensures, c.from-4.ensures, c.from-5.ensures) (record { fits = rest-fits _ _ c.requires.0 c.requires.1 })

pub returns-then-r-p : goal.returns-then-r-p
returns-then-r-p c =
    let e = rw (c.from.ensures, c.from-2.ensures, c.from-3.ensures, c.from-4.ensures, c.from-5.ensures) at c.if-r-p.true in
    rw (c.from.ensures, c.from-2.ensures, c.from-3.ensures, c.from-4.ensures, c.from-5.ensures) (small-rest _ _ c.requires.0 c.requires.1 e)

pub returns-else-r-p : goal.returns-else-r-p
returns-else-r-p c =
    let e = rw (c.from.ensures, c.from-2.ensures, c.from-3.ensures, c.from-4.ensures, c.from-5.ensures) at c.if-r-p.false in
    rw (c.from.ensures, c.from-2.ensures, c.from-3.ensures, c.from-4.ensures, c.from-5.ensures) (large-rest _ _ c.requires.0 c.requires.1 e)
