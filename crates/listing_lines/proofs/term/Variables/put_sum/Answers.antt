-- `listing_lines::term::Variables::put_sum` meets its contract.
use mathlib.Core.Path.{◌≡◌, ap, ◌∙◌}
use mathlib.Core.List.{List}
use Prim.Native.Nat.{ℕ}
use denote.Bor.{Bor}
use lib.Dec.{eqb}
use lib.ListN.{length}
use Rattle.polynomial.specs.Terms.{terms}
use Rattle.listing_lines.specs.Listing.{sum_terms, zero_if}
use Rattle.listing_lines.proofs.AnswerLaws.{sum-put, no_terms, some_terms}
use Rattle.listing_lines.proofs.PutLaws.{put_same}
use Rattle.listing_lines.proofs.term.Variables.put_sum.Goals.{then-t-eq0, else-t-eq0}
use Rattle.listing_lines.proofs.term.Variables.put_sum.Goals as goal

pub returns : goal.returns
returns c =
    let t = c.put_terms-t.ensures in
    let e : c.if-t-eq0.zero.now ≡ zero_if (eqb (length (sum_terms (terms c.args.f.words.now c.args.f.coefs.now))) 0) = elim c.if-t-eq0.branch [
      | then-t-eq0 w ↦ ap (λ (b : Bor (List ℕ)). b.now) w.zero-is ∙ no_terms _ _ t.read w.if-t-eq0.true
      | else-t-eq0 w ↦ ap (λ (b : Bor (List ℕ)). b.now) w.zero-is ∙ some_terms _ _ t.read w.if-t-eq0.false
    ] in
    record { put = sum-put c.put-from.ensures t (put_same e c.put-behind.ensures) c.put_byte-end.ensures; read = t.read; within = t.within }
