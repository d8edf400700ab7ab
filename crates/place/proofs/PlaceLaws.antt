-- The two views of slices of two words to a place: each determines its words. Assumes nothing.
use mathlib.Core.Path.{◌≡◌, sym, ap, ◌∙◌}
use mathlib.Core.List.{List}
use Prim.Native.Nat.{ℕ, ◌*◌, ◌/◌, ◌^◌, ◌<◌}
use native.Mathlib.Omega.{arith}
use lib.ListN.{length, get_or}
use Rattle.wide_monomial.specs.declared.width.Width.{Width}
use Rattle.wide_monomial.specs.Widths.{words_each}
use Rattle.monomial.specs.Words.{first_in}
use Rattle.wide_monomial.specs.Wide.{paired}
use Rattle.wide_monomial.proofs.Parts.{first_of, above_of}
use Rattle.place.specs.Numbers.{keyed, word_pairs, key_pairs, word_numbers, key_numbers}
use Rattle.place.proofs.PairLaws.{pairs-each, pairs-one-to-one}
use Rattle.place.proofs.WidthLaws.{numbers-long}

-- ---- two numbers of 64 bits are determined by what they are put together to
paired-one : (a b c d : ℕ) → a < 2 ^ 64 → b < 2 ^ 64 → c < 2 ^ 64 → d < 2 ^ 64 → paired a b ≡ paired c d → (a ≡ c) × (b ≡ d)
paired-one a b c d ha hb hc hd e = (
  sym (first_of a b ha) ∙ (ap first_in e ∙ first_of c d hc),
  sym (above_of a b ha) ∙ (ap (λ (x : ℕ). x / 2 ^ 64) e ∙ above_of c d hc),
)

keyed-is : (a b : ℕ) → keyed a b ≡ paired b a
keyed-is a b = omega arith

keyed-one : (a b c d : ℕ) → a < 2 ^ 64 → b < 2 ^ 64 → c < 2 ^ 64 → d < 2 ^ 64 → keyed a b ≡ keyed c d → (a ≡ c) × (b ≡ d)
keyed-one a b c d ha hb hc hd e =
    let r = paired-one b a d c hb ha hd hc (sym (keyed-is a b) ∙ (e ∙ keyed-is c d)) in
    (r.1, r.0)

module _ (n : ℕ) (us vs : List ℕ) (long-u : length us ≡ 2 * n) (long-v : length vs ≡ 2 * n) (small-u : (i : ℕ) → get_or us i 0 < 2 ^ 64) (small-v : (i : ℕ) → get_or vs i 0 < 2 ^ 64) where
  pub word-pairs-one-to-one : word_pairs us ≡ word_pairs vs → us ≡ vs
  word-pairs-one-to-one e = pairs-one-to-one paired paired-one n us vs long-u long-v small-u small-v e

  pub key-pairs-one-to-one : key_pairs us ≡ key_pairs vs → us ≡ vs
  key-pairs-one-to-one e = pairs-one-to-one keyed keyed-one n us vs long-u long-v small-u small-v e

-- ---- each place has at most 128 bits
pub paired-fits : (a b : ℕ) → a < 2 ^ 64 → b < 2 ^ 64 → paired a b / 2 ^ 64 < 2 ^ 64
paired-fits a b ha hb = rw (above_of a b ha) hb

pub keyed-fits : (a b : ℕ) → a < 2 ^ 64 → b < 2 ^ 64 → keyed a b / 2 ^ 64 < 2 ^ 64
keyed-fits a b ha hb = rw (keyed-is a b) (paired-fits b a hb ha)

module _ (ws : List ℕ) (small : (i : ℕ) → get_or ws i 0 < 2 ^ 64) (k : ℕ) where
  pub word-pair-fits : k < length (word_pairs ws) → get_or (word_pairs ws) k 0 / 2 ^ 64 < 2 ^ 64
  word-pair-fits h = pairs-each paired (λ x. x / 2 ^ 64 < 2 ^ 64) paired-fits ws small k h

  pub key-pair-fits : k < length (key_pairs ws) → get_or (key_pairs ws) k 0 / 2 ^ 64 < 2 ^ 64
  key-pair-fits h = pairs-each keyed (λ x. x / 2 ^ 64 < 2 ^ 64) keyed-fits ws small k h

-- ---- by width: a slice of whole places has as many
pub word-numbers-long : (w : Width) (ws : List ℕ) (n : ℕ) → length ws ≡ words_each w * n → length (word_numbers w ws) ≡ n
word-numbers-long w ws n e = numbers-long paired w ws n e

pub key-numbers-long : (w : Width) (ks : List ℕ) (n : ℕ) → length ks ≡ words_each w * n → length (key_numbers w ks) ≡ n
key-numbers-long w ks n e = numbers-long keyed w ks n e
