-- How many words a monomial has. Assumes nothing.
use Rattle.std.specs.Prelude.{ℕ}
use Rattle.wide_monomial.specs.declared.width.Width.{Width}
use Rattle.wide_monomial.specs.declared.width.Width.TheVariants.{One, Two}

abbrev pub words_each : Width → ℕ
words_each One = 1
words_each Two = 2
