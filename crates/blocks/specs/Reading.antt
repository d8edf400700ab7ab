-- The terms in blocks, and the refusal of reading (document 01, "Blocks" and "Refusals by cause"). Assumes nothing.
use Rattle.std.specs.Prelude.{ℕ, zero, suc, ◌+◌, ◌*◌, ◌/◌, ◌%◌, List, [], ◌∷◌, ◌++◌, leb}
use Rattle.polynomial.specs.Terms.{Term, term}
use Rattle.polynomial.specs.Opening.{first, polynomial_refusal}
use Rattle.opening.specs.Run.{unless, setting}
use Rattle.polynomial.specs.declared.setting.Setting.{Setting}
use Rattle.block.specs.Block.{number_at, setting_in}
use Rattle.block_form.specs.Form.{total_in, form_refusal}

-- ---- the terms

-- where term i lies: 41 places of 12 bytes after each header
abbrev pub place_at : ℕ → ℕ
place_at i = 512 * (i / 41) + (16 + 12 * (i % 41))

abbrev pub term_at : List ℕ → ℕ → Term ℕ
term_at s i = term (number_at 8 (place_at i) s) (number_at 4 (place_at i + 8) s)

-- the first k terms
unfoldable pub first_terms : List ℕ → ℕ → List (Term ℕ)
first_terms s zero = []
first_terms s (suc i) = first_terms s i ++ (term_at s i ∷ [])

abbrev pub terms_in : List ℕ → List (Term ℕ)
terms_in s = first_terms s (total_in s)

-- ---- "Reading: 8, 14, 15 for all blocks, 16, then 1 to 6, then 10.", with 24 "after 3"

-- 1 to 3, 24, 4 to 6, then 10, for the terms in a setting; ow is how many words are lent
unfoldable pub content_with : Setting → List ℕ → (ow : ℕ) → ℕ
content_with t s ow = first (setting t) (first (polynomial_refusal t (terms_in s)) (unless (leb (total_in s) ow) 10))

abbrev pub content_refusal : List ℕ → (ow : ℕ) → ℕ
content_refusal s ow = content_with (setting_in s) s ow

abbrev pub read_refusal : List ℕ → (ow oc : ℕ) → ℕ
read_refusal s ow oc = first (form_refusal s ow oc) (content_refusal s ow)

-- ---- a step of the code

-- the terms of the n places from byte `at` on
unfoldable pub terms_from : List ℕ → (at n : ℕ) → List (Term ℕ)
terms_from s at zero = []
terms_from s at (suc n) = terms_from s at n ++ (term (number_at 8 (at + 12 * n) s) (number_at 4 (at + 12 * n + 8) s) ∷ [])
