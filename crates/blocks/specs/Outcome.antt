-- The outcomes of writing and of reading blocks (document 01, "Blocks" and "Refusals by cause"; document 02, "Weighted degrees."): the answer, and each lent slice that can change, from what came in. "Both change nothing on refusal, and no byte past their result." Assumes nothing.
use Rattle.std.specs.Prelude.{ℕ, zero, suc, ◌*◌, Bool, ◌&&◌, List, ◌++◌, leb, eqb, length, drop, Result, Ok, Err}
use Rattle.limits.specs.Limits.{most_terms, weight_count}
use Rattle.refusal.specs.Table.{number_of}
use Rattle.refusal.specs.declared.Refusal.{Refusal}
use Rattle.refusal.specs.declared.Refused.{Refused}
use Rattle.polynomial.specs.Terms.{Term, terms, words, coefs}
use Rattle.polynomial.specs.Opening.{first, polynomial_refusal}
use Rattle.opening.specs.Run.{unless, setting}
use Rattle.polynomial.specs.declared.setting.Setting.{Setting}
use Rattle.block.specs.Block.{block_count, weight_number, setting_bytes, blocks_with, setting_in}
use Rattle.blocks.specs.Reading.{terms_in, read_refusal}
use Rattle.blocks.specs.declared.write.Written.{Written}
use Rattle.blocks.specs.declared.read.Read.{Read}

-- an answer that is a refusal, with so many operations finished
abbrev pub answer_refused : {A : Type 0} → Refusal → (finished : ℕ) → Result A Refused
answer_refused refusal finished = Err (record { refusal = refusal; finished = finished })

-- ---- writing

-- 8: there are six weights, and as many words as coefficients
abbrev pub sizes_good : (weights words coefs : ℕ) → Bool
sizes_good weights words coefs = eqb weights weight_count && eqb words coefs

-- "Writing: 1 to 3, 8, 4 to 6, 11, 10.", with 24 "after 3". The room is in bytes; "reading or writing blocks needs all of its places".
unfoldable pub write_refusal : Setting → (ws cs : List ℕ) (room : ℕ) → ℕ
write_refusal t ws cs room =
    first (setting t)
    (first (unless (sizes_good (length t.weights) (length ws) (length cs)) 8)
    (first (polynomial_refusal t (terms ws cs))
    (first (unless (leb (length ws) most_terms) 11)
    (unless (leb (512 * block_count (length ws)) room) 10))))

-- "When an answer is an enum, a definition states this paper's number and values for each of its cases": the refusal's number, 0 for none, "how many operations (or leads) were finished, 0 in the block store", and the blocks written
pub record WriteStated : Type 0 where
  pub number : ℕ
  pub finished : ℕ
  pub blocks : ℕ

abbrev pub answer_written : (blocks : ℕ) → Result Written Refused
answer_written blocks = Ok (record { blocks = blocks })

abbrev pub write_stated : Result Written Refused → WriteStated
write_stated (Ok w) = record { number = 0; finished = 0; blocks = w.blocks }
write_stated (Err r) = record { number = number_of r.refusal; finished = r.finished; blocks = 0 }

pub record WriteOutcome : Type 0 where
  pub answer : WriteStated
  pub bytes : List ℕ

-- by the refusal's number, 0 for none, and the ten bytes of the setting
abbrev pub written_with : (refusal : ℕ) → (setting : List ℕ) → List (Term ℕ) → List ℕ → WriteOutcome
written_with zero setting ts bytes = record { answer = record { number = 0; finished = 0; blocks = block_count (length ts) }; bytes = blocks_with setting ts ++ drop (length (blocks_with setting ts)) bytes }
written_with (suc r) setting ts bytes = record { answer = record { number = suc r; finished = 0; blocks = 0 }; bytes = bytes }

abbrev pub written_by : (refusal : ℕ) → Setting → List (Term ℕ) → List ℕ → WriteOutcome
written_by r t ts bytes = written_with r (setting_bytes t) ts bytes

abbrev pub write_outcome : Setting → (ws cs bytes : List ℕ) → WriteOutcome
write_outcome t ws cs bytes = written_by (write_refusal t ws cs (length bytes)) t (terms ws cs) bytes

-- ---- reading

-- the same of reading: number, operations finished, the setting, its weights as one number as a header has them, and how many terms were read
pub record ReadStated : Type 0 where
  pub number : ℕ
  pub finished : ℕ
  pub p : ℕ
  pub order : ℕ
  pub n : ℕ
  pub weights : ℕ
  pub terms : ℕ

abbrev pub answer_read : (p order n weights terms : ℕ) → Result Read Refused
answer_read p order n weights terms = Ok (record { p = p; order = order; n = n; weights = weights; terms = terms })

abbrev pub read_stated : Result Read Refused → ReadStated
read_stated (Ok t) = record { number = 0; finished = 0; p = t.p; order = t.order; n = t.n; weights = t.weights; terms = t.terms }
read_stated (Err r) = record { number = number_of r.refusal; finished = r.finished; p = 0; order = 0; n = 0; weights = 0; terms = 0 }

pub record ReadOutcome : Type 0 where
  pub answer : ReadStated
  pub ws : List ℕ
  pub cs : List ℕ

abbrev pub read_by : (refusal : ℕ) → Setting → List (Term ℕ) → (ws cs : List ℕ) → ReadOutcome
read_by zero t ts ws cs = record {
  answer = record { number = 0; finished = 0; p = t.p; order = t.order; n = t.n; weights = weight_number t.weights; terms = length ts };
  ws = words ts ++ drop (length ts) ws;
  cs = coefs ts ++ drop (length ts) cs;
}
read_by (suc r) t ts ws cs = record { answer = record { number = suc r; finished = 0; p = 0; order = 0; n = 0; weights = 0; terms = 0 }; ws = ws; cs = cs }

abbrev pub read_outcome : (bytes ws cs : List ℕ) → ReadOutcome
read_outcome bytes ws cs = read_by (read_refusal bytes (length ws) (length cs)) (setting_in bytes) (terms_in bytes) ws cs
