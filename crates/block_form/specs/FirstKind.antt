-- Blocks of the first kind: document 01's, as they were before document 02 ("Larger primes." and "Weighted degrees."). They differ in the ten bytes of the setting alone. Theorems compare the two kinds by these definitions; no code has them. Assumes nothing.
use Rattle.std.specs.Prelude.{ℕ, List, ◌++◌, replicate}
use Rattle.monomial.specs.Exponents.{ones}
use Rattle.monomial.specs.Layout.{bytes}
use Rattle.polynomial.specs.Terms.{Term}
use Rattle.polynomial.specs.declared.setting.Setting.{Setting}
use Rattle.block.specs.Block.{number_at, blocks_with}
use Rattle.block_form.specs.Form.{form_refusal_with}

-- "p (2), order (1), n (1), six zero bytes"
unfoldable pub first_kind_bytes : Setting → List ℕ
first_kind_bytes s = bytes 2 s.p ++ (bytes 1 s.order ++ (bytes 1 s.n ++ replicate 6 0))

-- what a writer of the first kind makes
abbrev pub first_kind_blocks : Setting → List (Term ℕ) → List ℕ
first_kind_blocks s ts = blocks_with (first_kind_bytes s) ts

-- the setting that "a reader of the first kind" sees: the degree is the sum of the exponents, which is to say that all weights are 1
abbrev pub first_kind_setting : List ℕ → Setting
first_kind_setting s = record { p = number_at 2 6 s; order = number_at 1 8 s; n = number_at 1 9 s; weights = ones }

-- its refusal for the form of the bytes: 8, 14, 15 for all blocks, 16
abbrev pub first_kind_form : List ℕ → (ow oc : ℕ) → ℕ
first_kind_form s ow oc = form_refusal_with (first_kind_bytes (first_kind_setting s)) s ow oc
