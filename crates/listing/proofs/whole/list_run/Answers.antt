-- `listing::whole::list_run` meets its contract.
use Rattle.listing.proofs.WholeLaws.{tally-none, run_room, run-text}
use mathlib.Core.Path.{sym, ◌∙◌}
use Rattle.std.proofs.Common.{rules}
use Rattle.listing.proofs.whole.list_run.Goals as goal

pub put_ran-requires : goal.put_ran-requires
put_ran-requires c = let p = c.args.ps in run_room c.args.l p.words.now p.coefs.now p.starts.now c.args.ops.now (rw (c.number-order.ensures, tally-none c.default-none.result (search rules) (search rules) (search rules) (search rules)) at c.run-ran.ensures) c.requires.0 c.requires.1 (c.run-ran.auto.oc ∙ sym c.run-ran.auto.ow)

pub returns : goal.returns
returns c = let p = c.args.ps in run-text c.args.l p.words.now p.coefs.now p.starts.now c.args.ops.now (rw (c.number-order.ensures, tally-none c.default-none.result (search rules) (search rules) (search rules) (search rules)) at c.run-ran.ensures) c.put_ran.ensures
