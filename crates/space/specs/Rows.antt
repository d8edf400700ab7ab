-- The bucket space at return in two parts: the rows of buckets 0 to 4, which lie in the work space while a call runs, and the row of bucket 5, which lies in the bucket space. Each number is read through f. Assumes nothing.
use Rattle.std.specs.Prelude.{ℕ, ◌-◌, List, map}
use Rattle.limits.specs.Limits.{work_places, most_terms}
use Rattle.merge_common.specs.Lent.{part}
use Rattle.space.specs.Space.{Buckets, head_at, len_at, row_at, list_from, laid_out, padded}

-- where the last bucket starts (theorem `five`)
abbrev pub last_start : ℕ
last_start = 1364

-- w is the work space: rows 0 to 4, each from its start on and 0 past it
abbrev pub first_rows : (f : ℕ → ℕ) → Buckets → (w : List ℕ) → List ℕ
first_rows f b w = laid_out 4 (list_from (λ i. map f (row_at b w i)) 0 5)

-- s is the bucket space: row 5, and 0 past it
abbrev pub last_row : (f : ℕ → ℕ) → Buckets → (s : List ℕ) → List ℕ
last_row f b s = padded most_terms (map f (part (head_at b 5 - work_places) (len_at b 5) s))
