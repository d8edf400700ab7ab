-- `text::bytes::split_once` meets its contract, by that of `position`.
use native.Mathlib.Omega.{arith}
use mathlib.Core.Path.{ap, ◌∙◌}
use Prim.Native.Nat.{ℕ, ◌+◌, ◌-◌}
use lib.ListN.{length, take, drop, length-drop}
use Rattle.std.proofs.lemmas.List.{take_all}
use Rattle.text.proofs.ByteLaws.{index-found, index-none}
use Rattle.text.proofs.bytes.split_once.Goals as goal

pub returns-in_err-i : goal.returns-in_err-i
returns-in_err-i c = rw c.from_residual.ensures (index-none c.args.b c.args.s.now c.in_err-i.ensures)

pub returns : goal.returns
returns c =
    let i = c.in_ok-i.i in
    let d = length-drop (i + 1) c.args.s.now in
    let k = index-found c.args.b c.args.s.now i c.in_ok-i.ensures in
    (omega arith, ap (λ (n : ℕ). take n c.args.s.now) k.0, take_all (length c.args.s.now - (i + 1)) (drop (i + 1) c.args.s.now) (omega arith) ∙ ap (λ (n : ℕ). drop (n + 1) c.args.s.now) k.0)
