-- The blocks of a polynomial (document 01, "Blocks"; document 02, "Larger primes." and "Weighted degrees."). "Numbers are little-endian": `bytes k x` are the k lowest bytes of x, from the lowest up. Assumes nothing.
use Rattle.std.specs.Prelude.{ℕ, zero, suc, ◌+◌, ◌-◌, ◌*◌, ◌/◌, ◌%◌, ◌^◌, Bool, true, false, ◌&&◌, List, [], ◌∷◌, ◌++◌, length, take, drop, replicate, ◌==◌}
use Rattle.monomial.specs.Layout.{bytes, of_bytes, below}
use Rattle.polynomial.specs.Terms.{Term}
use Rattle.merge_common.specs.Lent.{part}
use Rattle.polynomial.specs.declared.setting.Setting.{Setting}

-- the number of the k bytes from place `at` on
abbrev pub number_at : (k at : ℕ) → List ℕ → ℕ
number_at k at s = of_bytes (part at k s)

-- ---- the header, 16 bytes

-- "weight minus 1 in four bits each", x1's lowest: the weights of x1, x2, .. as one number (a weight outside 1 to 16 is refused before it is put so)
unfoldable pub weight_number : List ℕ → ℕ
weight_number [] = 0
weight_number (v ∷ vs) = (v + 15) % 16 + 16 * weight_number vs

-- and back: the k weights in the lowest half bytes of a number
unfoldable pub weights_of : (k number : ℕ) → List ℕ
weights_of zero number = []
weights_of (suc k) number = (number % 16 + 1) ∷ weights_of k (number / 16)

-- "p (2), order (1), n (1), six zero bytes": the problem's setting, ten bytes from byte 6 on; "In a block the upper 16 bits of p take the first two of the six zero bytes.", and "bytes 12 to 14 hold weight minus 1 in four bits each". Byte 15 is 0.
unfoldable pub setting_bytes : Setting → List ℕ
setting_bytes s = bytes 2 s.p ++ (bytes 1 s.order ++ (bytes 1 s.n ++ (bytes 2 (s.p / 65536) ++ (bytes 3 (weight_number s.weights) ++ replicate 1 0))))

-- the setting that a block's header has, from place `at` on
abbrev pub setting_at : (at : ℕ) → List ℕ → Setting
setting_at at s = record {
  p = number_at 2 (at + 6) s + 65536 * number_at 2 (at + 10) s;
  order = number_at 1 (at + 8) s;
  n = number_at 1 (at + 9) s;
  weights = weights_of 6 (number_at 3 (at + 12) s);
}

-- the first block's
abbrev pub setting_in : List ℕ → Setting
setting_in s = setting_at 0 s

-- "block number from 0 (2 bytes), block count (2), terms here (2)", and the setting's ten bytes
unfoldable pub header_with : (setting : List ℕ) (number count here : ℕ) → List ℕ
header_with setting number count here = bytes 2 number ++ (bytes 2 count ++ (bytes 2 here ++ setting))

abbrev pub header : (number count here : ℕ) → Setting → List ℕ
header number count here s = header_with (setting_bytes s) number count here

-- ---- the places

-- "41 places of 12 bytes (word, coefficient)"
abbrev pub place : Term ℕ → List ℕ
place t = bytes 8 t.mono ++ bytes 4 t.coef

unfoldable pub places : List (Term ℕ) → List ℕ
places [] = []
places (t ∷ ts) = place t ++ places ts

-- "unused places are 0"
abbrev pub unused : (here : ℕ) → List ℕ
unused here = replicate (12 * (41 - here)) 0

-- ---- the check

-- the sum of the first k 32-bit words
unfoldable pub sum_words : ℕ → List ℕ → ℕ
sum_words zero s = 0
sum_words (suc k) s = sum_words k s + number_at 4 (4 * k) s

-- "The check is the sum of the first 127 32-bit words, plus 1, wrapping at 2^32."
abbrev pub check_of : List ℕ → ℕ
check_of s = (1 + sum_words 127 s) % 2 ^ 32

-- ---- a block

-- all of it but the check, with these ten bytes of a setting
abbrev pub body_with : (setting : List ℕ) (number count : ℕ) → List (Term ℕ) → List ℕ
body_with setting number count ts = header_with setting number count (length ts) ++ (places ts ++ unused (length ts))

-- "A block is 512 bytes"
unfoldable pub block_with : (setting : List ℕ) (number count : ℕ) → List (Term ℕ) → List ℕ
block_with setting number count ts = body_with setting number count ts ++ bytes 4 (check_of (body_with setting number count ts))

abbrev pub body : (number count : ℕ) → Setting → List (Term ℕ) → List ℕ
body number count s ts = body_with (setting_bytes s) number count ts

abbrev pub block : (number count : ℕ) → Setting → List (Term ℕ) → List ℕ
block number count s ts = block_with (setting_bytes s) number count ts

-- ---- the blocks of a polynomial

-- the terms in block k: "Every block but the last holds 41 terms"
abbrev pub terms_of : (k : ℕ) → List (Term ℕ) → List (Term ℕ)
terms_of k ts = take 41 (drop (41 * k) ts)

-- how many blocks so many terms make: "zero is one block with none"
abbrev pub block_count : ℕ → ℕ
block_count terms = (terms - 1) / 41 + 1

-- the first k of `count` blocks
unfoldable pub first_blocks_with : (setting : List ℕ) (count : ℕ) → List (Term ℕ) → (k : ℕ) → List ℕ
first_blocks_with setting count ts zero = []
first_blocks_with setting count ts (suc k) = first_blocks_with setting count ts k ++ block_with setting k count (terms_of k ts)

abbrev pub first_blocks : (count : ℕ) → Setting → List (Term ℕ) → (k : ℕ) → List ℕ
first_blocks count s ts k = first_blocks_with (setting_bytes s) count ts k

-- all of them
abbrev pub blocks_with : (setting : List ℕ) → List (Term ℕ) → List ℕ
blocks_with setting ts = first_blocks_with setting (block_count (length ts)) ts (block_count (length ts))

abbrev pub blocks_of : Setting → List (Term ℕ) → List ℕ
blocks_of s ts = blocks_with (setting_bytes s) ts

-- ---- tests of bytes

unfoldable pub same : List ℕ → List ℕ → Bool
same [] [] = true
same [] (y ∷ ys) = false
same (x ∷ xs) [] = false
same (x ∷ xs) (y ∷ ys) = x == y && same xs ys

-- each is 0
abbrev pub zeros : List ℕ → Bool
zeros s = below 1 s
