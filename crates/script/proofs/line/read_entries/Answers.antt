-- `script::line::read_entries` meets its contract, term by term.
use native.Mathlib.Omega.{arith}
use mathlib.Core.Path.{refl, sym, ap, ◌∙◌, ◌≡◌}
use mathlib.Core.List.{[], ◌∷◌}
use mathlib.Core.Option.{some}
use Prim.Native.Nat.{◌<◌}
use borrow.Author.Tests.{eqb-true, eqb-false}
use lib.Dec.{eqb}
use lib.ListN.{length, drop, get_or, length-drop}
use Rattle.std.proofs.Common.{rules}
use Rattle.std.specs.Slice.Iter.{split_callee}
use Rattle.std.proofs.lemmas.Iterator.Splits.{YieldsList-from_slice_split}
use Rattle.std.proofs.lemmas.Iterator.Consumers.{YieldsList-turn, YieldsList-end}
use Rattle.std.proofs.lemmas.List.{length_push}
use Rattle.monomial.specs.Layout.{fields}
use Rattle.text.specs.Bytes.{parts}
use Rattle.text.proofs.ByteLaws.{prefix-code, parts-code, part_at}
use Rattle.grammar.specs.Grammar.{Entry}
use Rattle.grammar.specs.Reading.{entry_of}
use Rattle.grammar.specs.Parts.{entry_word, entry_coef}
use Rattle.script.proofs.FieldLaws.{entries-none, unspaced, fields-behind, adding-start, adding-words, adding-coefs, adding-end, adding-bad, adding-four, adding-more, parsed-term, parsed-bad}
use Rattle.script.proofs.line.read_entries.Goals.{In_ok-word}
use Rattle.script.proofs.line.read_entries.Goals as goal

pub returns-then-is_empty : goal.returns-then-is_empty
returns-then-is_empty c = entries-none _ _ (eqb-true _ _ (sym c.if-is_empty.ensures))

pub returns-in_err-fields : goal.returns-in_err-fields
returns-in_err-fields c = rw c.from_residual.ensures (unspaced _ c.args.s.now (eqb-false _ _ (sym c.if-is_empty.ensures)) (sym (prefix-code (32 ∷ []) c.args.s.now) ∙ c.in_err-fields.ensures.cases))

pub loop-field-init : goal.loop-field-init
loop-field-init c =
    let d = c.in_ok-fields.ensures.cases.1 in
    let l = eqb-false _ _ (sym c.if-is_empty.ensures) in
    adding-start _ _ _ (drop 1 c.args.s.now) _ _ _ (omega (arith, c.requires.fits, length-drop 1 c.args.s.now, l))

pub returns-in_err-word : goal.returns-in_err-word
returns-in_err-word c =
    let f = c.in_ok-fields.ensures.cases in
    let t = YieldsList-turn (YieldsList-from_slice_split _ (λ x. eqb x 32) (drop 1 c.args.s.now) (cc) (cc) (ap split_callee c.into_iter-field-iterator.ensures.into_iter_gives ∙ c.split-field-items.ensures.closure) (λ x b q k. search rules)) c.loop-field.yielded _ c.loop-field.yielded_by _ _ c.in-Some.field c.in-Some.is c.next.ensures.steps in
    let p = part_at 32 (drop 1 c.args.s.now) _ refl t in
    let s = fields-behind c.args.shape.n c.args.s.now (drop 1 c.args.s.now) (eqb-false _ _ (sym c.if-is_empty.ensures)) (sym (prefix-code (32 ∷ []) c.args.s.now) ∙ f.0) refl in
    rw c.from_residual-in_err-word.ensures (adding-bad c.loop-field.invariant c.in-Some.field.now p.0 p.1 (parsed-bad _ _ _ c.in_err-word.ensures) s)

-- the field of a turn that has read a term
at : (c : In_ok-word) → (length c.loop-field.yielded < length (parts 32 (drop 1 c.args.s.now))) × (c.in-Some.field.now ≡ get_or (parts 32 (drop 1 c.args.s.now)) (length c.loop-field.yielded) c.in-Some.field.now)
at c =
    let f = c.in_ok-fields.ensures.cases in
    part_at 32 (drop 1 c.args.s.now) _ refl (YieldsList-turn (YieldsList-from_slice_split _ (λ x. eqb x 32) (drop 1 c.args.s.now) (cc) (cc) (ap split_callee c.into_iter-field-iterator.ensures.into_iter_gives ∙ c.split-field-items.ensures.closure) (λ x b q k. search rules)) c.loop-field.yielded _ c.loop-field.yielded_by _ _ c.in-Some.field c.in-Some.is c.next.ensures.steps)

term : (c : In_ok-word) → (t : Entry) × (entry_of c.args.shape.n c.in-Some.field.now ≡ some t) × (c.in_ok-word.word ≡ entry_word c.args.shape.order (fields c.args.shape.order c.args.shape.weights) t) × (c.in_ok-word.coef ≡ entry_coef t)
term c = parsed-term c.args.shape.order _ (entry_of c.args.shape.n c.in-Some.field.now) _ _ c.in_ok-word.ensures

room : (c : In_ok-word) → c.loop-field.to < length c.args.words.now
room c = omega (arith, adding-four c.loop-field.invariant c.in-Some.field.now (at c).0 (at c).1 (term c).0 (term c).1)

pub bounds-words-to : goal.bounds-words-to
bounds-words-to c = omega (arith, room c, adding-words c.loop-field.invariant)

pub bounds-coefs-to : goal.bounds-coefs-to
bounds-coefs-to c = omega (arith, room c, adding-coefs c.loop-field.invariant, c.requires.same-long)

pub loop-field-preserved : goal.loop-field-preserved
loop-field-preserved c =
    let n = length_push c.loop-field.yielded c.in-Some.field in
    rw n (adding-more c.loop-field.invariant c.in-Some.field.now (at c).0 (at c).1 (term c).0 (term c).1 _ _ (term c).2 (term c).3)

pub returns : goal.returns
returns c =
    let f = c.in_ok-fields.ensures.cases in
    let t = YieldsList-end (YieldsList-from_slice_split _ (λ x. eqb x 32) (drop 1 c.args.s.now) (cc) (cc) (ap split_callee c.into_iter-field-iterator.ensures.into_iter_gives ∙ c.split-field-items.ensures.closure) (λ x b q k. search rules)) c.loop-field.yielded _ c.loop-field.yielded_by _ _ c.in-None.is c.next.ensures.steps in
    let l = ap length (parts-code 32 (drop 1 c.args.s.now)) in
    let s = fields-behind c.args.shape.n c.args.s.now (drop 1 c.args.s.now) (eqb-false _ _ (sym c.if-is_empty.ensures)) (sym (prefix-code (32 ∷ []) c.args.s.now) ∙ f.0) refl in
    adding-end c.loop-field.invariant (omega (arith, t.1)) s
