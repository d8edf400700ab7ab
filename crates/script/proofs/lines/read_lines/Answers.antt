-- `script::lines::read_lines` meets its contract, line by line.
use Prim.Native.Nat.{◌-◌}
use native.Mathlib.Omega.{arith}
use mathlib.Core.Path.{refl, sym, ap, ◌∙◌}
use borrow.Author.Tests.{eqb-true, eqb-false}
use lib.Dec.{eqb}
use lib.ListN.{length, take}
use Rattle.std.proofs.Common.{rules}
use Rattle.std.specs.Slice.Iter.{split_rest, split_done, split_callee}
use Rattle.std.proofs.lemmas.Iterator.Splits.{YieldsList-from_slice_split}
use Rattle.std.proofs.lemmas.Iterator.Consumers.{YieldsList-turn, YieldsList-end}
use Rattle.std.proofs.lemmas.List.{length_push}
use Rattle.text.proofs.ByteLaws.{parts-code, part_at}
use Rattle.script.proofs.FieldLaws.{spent-parts}
use Rattle.script.proofs.LinesLaws.{counts-none, lines-empty, lines-open, lines-whole, left-start, left-more, reading-start, reading-end, reading-bad, reading-more, line-room, line-none, line-some}
use Rattle.script.proofs.lines.read_lines.Goals as goal

pub returns-then-is_empty : goal.returns-then-is_empty
returns-then-is_empty c = lines-empty _ _ (counts-none _ (search rules) (search rules) (search rules)) (eqb-true _ _ (sym c.if-is_empty.ensures))

pub returns-in_err-ended : goal.returns-in_err-ended
returns-in_err-ended c = rw c.from_residual.ensures (lines-open _ c.args.s.now (eqb-false _ _ (sym c.if-is_empty.ensures)) c.in_err-ended.ensures.cases)

pub loop-line-init : goal.loop-line-init
loop-line-init c =
    let s = c.args.s.now in
    let e = c.in_ok-ended.ensures.cases in
    let z = counts-none c.default-c.result (search rules) (search rules) (search rules) in
    (left-start c.requires z _ (omega (arith, spent-parts 10 (take (length s - 1) s), ap length e.1, e.2)), reading-start _ _ _ _ _ _ _ _ z)

pub read_line-requires : goal.read_line-requires
read_line-requires c =
    let s = c.args.s.now in
    let t = YieldsList-turn (YieldsList-from_slice_split _ (λ x. eqb x 10) (take (length s - 1) s) (ap split_rest c.into_iter-line-iterator.ensures.into_iter_gives ∙ (c.split-line-items.ensures.rest ∙ c.in_ok-ended.ensures.cases.1)) (ap split_done c.into_iter-line-iterator.ensures.into_iter_gives ∙ c.split-line-items.ensures.done) (ap split_callee c.into_iter-line-iterator.ensures.into_iter_gives ∙ c.split-line-items.ensures.closure) (λ x b q k. search rules)) c.loop-line.yielded _ c.loop-line.yielded_by _ _ c.in-Some.line c.in-Some.is c.next.ensures.steps in
    let p = part_at 10 (take (length s - 1) s) _ refl t in
    line-room c.loop-line.invariant.1 c.in-Some.line.now p.0 p.1 c.loop-line.invariant.0

pub returns-in_err-c : goal.returns-in_err-c
returns-in_err-c c =
    let s = c.args.s.now in
    let t = YieldsList-turn (YieldsList-from_slice_split _ (λ x. eqb x 10) (take (length s - 1) s) (ap split_rest c.into_iter-line-iterator.ensures.into_iter_gives ∙ (c.split-line-items.ensures.rest ∙ c.in_ok-ended.ensures.cases.1)) (ap split_done c.into_iter-line-iterator.ensures.into_iter_gives ∙ c.split-line-items.ensures.done) (ap split_callee c.into_iter-line-iterator.ensures.into_iter_gives ∙ c.split-line-items.ensures.closure) (λ x b q k. search rules)) c.loop-line.yielded _ c.loop-line.yielded_by _ _ c.in-Some.line c.in-Some.is c.next.ensures.steps in
    let p = part_at 10 (take (length s - 1) s) _ refl t in
    rw c.from_residual-in_err-c.ensures (reading-bad c.loop-line.invariant.1 c.in-Some.line.now p.0 p.1 (line-none c.in_err-c.ensures refl) (lines-whole _ s _ c.in_ok-ended.ensures.cases.0 refl))

pub loop-line-preserved : goal.loop-line-preserved
loop-line-preserved c =
    let s = c.args.s.now in
    let t = YieldsList-turn (YieldsList-from_slice_split _ (λ x. eqb x 10) (take (length s - 1) s) (ap split_rest c.into_iter-line-iterator.ensures.into_iter_gives ∙ (c.split-line-items.ensures.rest ∙ c.in_ok-ended.ensures.cases.1)) (ap split_done c.into_iter-line-iterator.ensures.into_iter_gives ∙ c.split-line-items.ensures.done) (ap split_callee c.into_iter-line-iterator.ensures.into_iter_gives ∙ c.split-line-items.ensures.closure) (λ x b q k. search rules)) c.loop-line.yielded _ c.loop-line.yielded_by _ _ c.in-Some.line c.in-Some.is c.next.ensures.steps in
    let p = part_at 10 (take (length s - 1) s) _ refl t in
    let r = line-some c.in_ok-c.ensures refl in
    rw (length_push c.loop-line.yielded c.in-Some.line) (left-more c.loop-line.invariant.1 c.in-Some.line.now p.0 p.1 r c.loop-line.invariant.0, reading-more c.loop-line.invariant.1 c.in-Some.line.now p.0 p.1 r)

pub returns : goal.returns
returns c =
    let s = c.args.s.now in
    let t = YieldsList-end (YieldsList-from_slice_split _ (λ x. eqb x 10) (take (length s - 1) s) (ap split_rest c.into_iter-line-iterator.ensures.into_iter_gives ∙ (c.split-line-items.ensures.rest ∙ c.in_ok-ended.ensures.cases.1)) (ap split_done c.into_iter-line-iterator.ensures.into_iter_gives ∙ c.split-line-items.ensures.done) (ap split_callee c.into_iter-line-iterator.ensures.into_iter_gives ∙ c.split-line-items.ensures.closure) (λ x b q k. search rules)) c.loop-line.yielded _ c.loop-line.yielded_by _ _ c.in-None.is c.next.ensures.steps in
    let l = ap length (parts-code 10 (take (length s - 1) s)) in
    reading-end c.loop-line.invariant.1 (omega (arith, t.1)) (lines-whole _ s _ c.in_ok-ended.ensures.cases.0 refl)
