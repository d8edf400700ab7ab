-- `invert` meets its contract: between two steps `Going` holds, and the last coefficient is the inverse or its negative.
use mathlib.Core.Path.{sym, ◌∙◌}
use native.Mathlib.Nat.{pos_of_ne-zero}
use Rattle.residue.proofs.Euclid.{steps, last-below, first-answer, other-answer}
use Rattle.residue.proofs.Inverses.{inverse-only}
use Rattle.residue.proofs.inverse.invert.Goals as goal

pub loop-r1-preserved : goal.loop-r1-preserved
loop-r1-preserved c = steps _ _ _ _ _ _ c.loop-r1.invariant (pos_of_ne-zero c.loop-r1-test.true)

pub multiply-requires : goal.multiply-requires
multiply-requires c =
    let h = c.requires in
    (h.0, last-below _ _ _ _ _ _ h.1 h.2 h.3 c.loop-r1-test.false c.loop-r1.invariant, h.3)

pub returns-then-multiply-eq1 : goal.returns-then-multiply-eq1
returns-then-multiply-eq1 c =
    let h = c.requires in
    let i = first-answer _ _ _ _ _ _ h.1 h.2 h.3 c.loop-r1-test.false c.loop-r1.invariant (sym c.multiply.ensures ∙ c.if-multiply-eq1.true) in
    inverse-only _ _ h.1 h.2 h.3 _ i.below i.one

pub returns-else-multiply-eq1 : goal.returns-else-multiply-eq1
returns-else-multiply-eq1 c =
    let h = c.requires in
    let i = other-answer _ _ _ _ _ _ h.1 h.2 h.3 c.loop-r1-test.false c.loop-r1.invariant (λ e. c.if-multiply-eq1.false (c.multiply.ensures ∙ e)) in
    inverse-only _ _ h.1 h.2 h.3 _ i.below i.one
