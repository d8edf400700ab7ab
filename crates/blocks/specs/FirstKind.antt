-- What the entries of the first kind answered: document 01's, before document 02 ("Larger primes." and "Weighted degrees."). Their settings have weights of 1. Theorems compare today's with them; no code has them. Assumes nothing.
use Rattle.std.specs.Prelude.{ℕ, List, leb, length}
use Rattle.refusal.specs.declared.Refusal.TheVariants.{BadBlock}
use Rattle.polynomial.specs.Terms.{terms}
use Rattle.polynomial.specs.Opening.{first}
use Rattle.polynomial.specs.declared.setting.Setting.{Setting}
use Rattle.opening.specs.Run.{unless}
use Rattle.block_form.specs.FirstKind.{first_kind_bytes, first_kind_setting, first_kind_form}
use Rattle.blocks.specs.Reading.{terms_in, content_with}
use Rattle.blocks.specs.Outcome.{answer_refused, write_refusal, WriteOutcome, written_with, ReadOutcome, read_stated, read_by}

-- "p is a prime, 2 to 65,521.": over that limit 1, and else what is refused today
abbrev pub limited : Setting → ℕ → ℕ
limited t refusal = first (unless (leb t.p 65521) 1) refusal

abbrev pub first_kind_written : Setting → (ws cs bytes : List ℕ) → WriteOutcome
first_kind_written t ws cs bytes = written_with (limited t (write_refusal t ws cs (length bytes))) (first_kind_bytes t) (terms ws cs) bytes

abbrev pub first_kind_refusal : List ℕ → (ow oc : ℕ) → ℕ
first_kind_refusal s ow oc = first (first_kind_form s ow oc) (limited (first_kind_setting s) (content_with (first_kind_setting s) s ow))

abbrev pub first_kind_read : (bytes ws cs : List ℕ) → ReadOutcome
first_kind_read bytes ws cs = read_by (first_kind_refusal bytes (length ws) (length cs)) (first_kind_setting bytes) (terms_in bytes) ws cs

-- turned away with 16, and nothing is changed
abbrev pub turned_away : (ws cs : List ℕ) → ReadOutcome
turned_away ws cs = record { answer = read_stated (answer_refused BadBlock 0); ws = ws; cs = cs }
