-- `script::reader::read_script` meets its contract, return by return.
use mathlib.Core.Path.{refl}
use Rattle.script.proofs.ScriptLaws.{too_long, no_header, weights-fit, weights-small, lines-room, no_lines, script-read}
use Rattle.script.proofs.reader.read_script.Goals as goal

pub returns-then-s-gt-SCRIPT_BYTES : goal.returns-then-s-gt-SCRIPT_BYTES
returns-then-s-gt-SCRIPT_BYTES c = too_long c.if-s-gt-SCRIPT_BYTES.true

pub returns-in_err-h : goal.returns-in_err-h
returns-in_err-h c = rw c.from_residual.ensures (no_header c.if-s-gt-SCRIPT_BYTES.false c.in_err-h.ensures)

pub weight_word-requires : goal.weight_word-requires
weight_word-requires c = weights-fit c.if-s-gt-SCRIPT_BYTES.false c.in_ok-h.ensures

pub invariant_of-shape : goal.invariant_of-shape
invariant_of-shape c = record { weights_small = weights-small c.if-s-gt-SCRIPT_BYTES.false c.in_ok-h.ensures c.weight_word.ensures }

pub read_lines-requires : goal.read_lines-requires
read_lines-requires c = lines-room c.if-s-gt-SCRIPT_BYTES.false c.in_ok-h.ensures c.args.words.now c.args.coefs.now c.args.starts.now c.args.ops.now c.requires

pub returns-in_err-counts : goal.returns-in_err-counts
returns-in_err-counts c = rw c.from_residual-in_err-counts.ensures (no_lines c.if-s-gt-SCRIPT_BYTES.false c.in_ok-h.ensures c.weight_word.ensures c.in_err-counts.ensures refl)

pub returns : goal.returns
returns c = script-read c.if-s-gt-SCRIPT_BYTES.false c.in_ok-h.ensures c.weight_word.ensures c.in_ok-counts.ensures _ refl
