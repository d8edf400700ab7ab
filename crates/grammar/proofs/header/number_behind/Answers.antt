-- `grammar::header::number_behind` meets its contract.
use mathlib.Core.Path.{sym, ap, ◌∙◌}
use mathlib.Core.List.{List}
use Prim.Native.Nat.{ℕ}
use Rattle.text.specs.Numbers.{number_of, found}
use Rattle.text.proofs.ByteLaws.{prefix-code}
use Rattle.grammar.proofs.HeaderLaws.{no_word, behind-word}
use Rattle.grammar.proofs.header.number_behind.Goals as goal

pub returns-in_err-strip_prefix : goal.returns-in_err-strip_prefix
returns-in_err-strip_prefix c = c.from_residual.ensures ∙ no_word _ _ (sym (prefix-code c.args.word.now c.args.s.now) ∙ c.in_err-strip_prefix.ensures.cases)

pub returns : goal.returns
returns c =
    let t = c.in_ok-strip_prefix.ensures.cases in
    c.read_number.ensures ∙ (ap (λ (l : List ℕ). found (number_of l)) t.1 ∙ behind-word _ _ (sym (prefix-code c.args.word.now c.args.s.now) ∙ t.0))
