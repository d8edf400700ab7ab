-- `wide_monomial::exponents::wide_words` meets its contract, with one word of exponents or two.
use Rattle.std.proofs.Common.{rules}
use Rattle.wide_monomial.proofs.ExponentLaws.{all-bytes, few-word, whole_back, many-words, degree-added}
use Rattle.wide_monomial.proofs.exponents.wide_words.Goals as goal

pub returns-then-exps-le6 : goal.returns-then-exps-le6
returns-then-exps-le6 c = let a = c.args in few-word a.order a.weights.first a.weights.second a.exps.now _ c.if-exps-le6.true c.word_of-first.ensures

pub overflow_add-result : goal.overflow_add-result
overflow_add-result c =
    let a = c.args in
    let s = all-bytes a.exps.now (λ i. search rules) in
    record { fits = degree-added a.order a.weights.first a.weights.second a.exps.now c.if-exps-le6.false c.requires.0 s _ _ c.word_of-upper.ensures (whole_back a.order _ a.exps.now _ c.word_of-lower.ensures) c.requires.1 c.requires.2 }

pub returns : goal.returns
returns c =
    let a = c.args in
    let s = all-bytes a.exps.now (λ i. search rules) in
    many-words a.order a.weights.first a.weights.second a.exps.now c.if-exps-le6.false c.requires.0 s _ _ c.word_of-upper.ensures (whole_back a.order _ a.exps.now _ c.word_of-lower.ensures)
