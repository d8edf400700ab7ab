-- `multiple::multiple::any_over` meets its contract.
use mathlib.Core.Path.{sym, ap, ◌∙◌, subst}
use Rattle.monomial.specs.Words.{Packed}
use Rattle.multiple.specs.Multiplying.{over_one}
use Rattle.multiple.proofs.HighestLaws.{highest-packed, any-over}
use Rattle.multiple.proofs.multiple.any_over.Goals as goal

pub over-requires : goal.over-requires
over-requires c = (c.requires.0, subst Packed (sym c.highest.ensures) (highest-packed _ c.requires.1))

pub returns : goal.returns
returns c = c.over.ensures ∙ (ap (over_one _) c.highest.ensures ∙ any-over _ _ c.requires.0 c.requires.1)
