-- `blocks::write::put_blocks` meets its contract.
use Rattle.polynomial.specs.Terms.{terms}
use Rattle.blocks.proofs.WriteLaws.{Blocked}
use Rattle.blocks.proofs.write.put_blocks.Given as goal

abbrev pub invariant-loop-k : goal.invariant-loop-k
invariant-loop-k l = Blocked l.count l.t (terms l.f.words.now l.f.coefs.now) l.initial.s l.s l.k
