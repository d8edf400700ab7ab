-- The highest exponents of words: what a word is raised to, byte by byte, and that one product with them tells of the products with all. Assumes nothing.
use mathlib.Core.Path.{◌≡◌, refl, sym, ap, ap₂, ◌∙◌, subst}
use mathlib.Core.Bool.{Bool, true, false, not, ◌&&◌, ◌||◌}
use mathlib.Core.List.{List, [], ◌∷◌}
use Prim.Native.Nat.{ℕ, zero, suc, ◌+◌, ◌-◌, ◌*◌, ◌/◌, ◌%◌, ◌^◌, ◌<◌, ◌≤◌, max}
use native.Mathlib.Numerals.{add-one}
use native.Mathlib.Decide.{dec_le}
use native.Mathlib.Omega.{arith}
use borrow.Author.Tests.{lt-ltb, le-ltb}
use lib.Bits.{bit_and, and_block, and_high, and_mask, and_zero_r}
use lib.Dec.{lit<, ltb, eqb}
use lib.ListN.{length, get_or, drop, drop_of_length-le}
use lib.Seq.{drop-cons}
use Rattle.monomial.specs.Exponents.{each, one, product, quotient}
use Rattle.monomial.specs.Layout.{bytes, of_bytes, Below, below}
use Rattle.monomial.specs.Words.{Packed}
use Rattle.monomial.proofs.Places.{length-each, below_true, true_below, Below-more}
use Rattle.monomial.proofs.ByteLaws.{length-bytes, bytes_below, of_bytes_bytes, bytes_of, of_bytes-lt, bytes-add, tops, tops-clear, apart, apart-sum}
use Rattle.multiple.proofs.ProductLaws.{packed-at}
use Rattle.multiple.specs.Multiplying.{AllPacked, over_one, any_over, highest_of, highest_word, Raised}

-- ---- the difference that `raise` takes, by its bytes: 1 where the top bit stays set
abbrev marks : List ℕ → List ℕ → List ℕ
marks xs ys = each (λ a b. (a + 128 - b) / 128) xs ys

marked : (xs ys : List ℕ) → length xs ≡ length ys → Below 128 xs → bit_and (of_bytes (apart xs ys)) (tops (length xs)) ≡ of_bytes (marks xs ys) * 128
marked [] [] e u = and_zero_r 0
marked [] (y ∷ ys) e u = absurd (let z : ⊥ = omega arith in z)
marked (x ∷ xs) [] e u = absurd (let z : ⊥ = omega arith in z)
marked (x ∷ xs) (y ∷ ys) e u =
    let d : ℕ = x + 128 - y in
    let l : d < 256 = omega (arith, u.0) in
    let f : d + 256 * of_bytes (apart xs ys) ≡ of_bytes (apart xs ys) * 256 + d = omega arith in
    let g : 128 + 256 * tops (length xs) ≡ tops (length xs) * 256 + 128 = omega arith in
    let b : bit_and d 128 ≡ d / 128 * 128 = and_high d 1 7 ∙ (let z : d / 2 ^ 7 % 2 ^ 1 * 2 ^ 7 ≡ d / 128 * 128 = omega arith in z) in
    ap₂ bit_and f g
    ∙ (and_block 8 (of_bytes (apart xs ys)) (tops (length xs)) d 128 l (lit< tt)
    ∙ (let z : bit_and (of_bytes (apart xs ys)) (tops (length xs)) * 2 ^ 8 + bit_and d 128 ≡ (d / 128 + 256 * of_bytes (marks xs ys)) * 128 = omega (arith, marked xs ys (omega arith) u.1) in z))

-- under 127 in each marked byte, what a byte of w is above that of h is left, and 0 elsewhere
above : (xs ys : List ℕ) → length xs ≡ length ys → Below 128 xs → Below 128 ys → bit_and (of_bytes (apart xs ys)) (of_bytes (marks xs ys) * 127) ≡ of_bytes (quotient xs ys)
above [] [] e u v = and_zero_r 0
above [] (y ∷ ys) e u v = absurd (let z : ⊥ = omega arith in z)
above (x ∷ xs) [] e u v = absurd (let z : ⊥ = omega arith in z)
above (x ∷ xs) (y ∷ ys) e u v =
    let d : ℕ = x + 128 - y in
    let l : d < 256 = omega (arith, u.0) in
    let f : d + 256 * of_bytes (apart xs ys) ≡ of_bytes (apart xs ys) * 256 + d = omega arith in
    let g : (d / 128 + 256 * of_bytes (marks xs ys)) * 127 ≡ of_bytes (marks xs ys) * 127 * 256 + d / 128 * 127 = omega arith in
    ap₂ bit_and f g
    ∙ (and_block 8 (of_bytes (apart xs ys)) (of_bytes (marks xs ys) * 127) d (d / 128 * 127) l (let z : d / 128 * 127 < 256 = omega arith in z)
    ∙ (let z : bit_and (of_bytes (apart xs ys)) (of_bytes (marks xs ys) * 127) * 2 ^ 8 + bit_and d (d / 128 * 127) ≡ x - y + 256 * of_bytes (quotient xs ys) = omega (arith, above xs ys (omega arith) u.1 v.1, by (dec_le y x)) in z))
  where
    by : Dec (y ≤ x) → bit_and (x + 128 - y) ((x + 128 - y) / 128 * 127) ≡ x - y
    by (yes h) =
        ap (λ (m : ℕ). bit_and (x + 128 - y) m) (let z : (x + 128 - y) / 128 * 127 ≡ 2 ^ 7 - 1 = omega (arith, u.0) in z)
        ∙ (and_mask (x + 128 - y) 7 ∙ (let z : (x + 128 - y) % 2 ^ 7 ≡ x - y = omega (arith, u.0) in z))
    by (no h) =
        ap (λ (m : ℕ). bit_and (x + 128 - y) m) (let z : (x + 128 - y) / 128 * 127 ≡ 0 = omega (arith, v.0) in z)
        ∙ (and_zero_r (x + 128 - y) ∙ (let z : 0 ≡ x - y = omega arith in z))

-- which makes the larger of each two
larger : (ys xs : List ℕ) → length xs ≡ length ys → of_bytes ys + of_bytes (quotient xs ys) ≡ of_bytes (each max ys xs)
larger [] [] e = refl
larger [] (x ∷ xs) e = absurd (let z : ⊥ = omega arith in z)
larger (y ∷ ys) [] e = absurd (let z : ⊥ = omega arith in z)
larger (y ∷ ys) (x ∷ xs) e = omega (arith, larger ys xs (omega arith))

max-below : (k : ℕ) (α β : List ℕ) → Below k α → Below k β → Below k (each max α β)
max-below k [] β u v = tt
max-below k (a ∷ α) [] u v = tt
max-below k (a ∷ α) (b ∷ β) u v = (let h : max a b < k = omega (arith, u.0, v.0) in h, max-below k α β u.1 v.1)

-- six bytes, and the word that has them
word_bytes : (bs : List ℕ) → length bs ≡ 6 → Below 256 bs → bytes 6 (of_bytes bs) ≡ bs
word_bytes bs e u = ap (bytes 6) (let z : of_bytes bs ≡ of_bytes bs + 256 ^ 6 * 0 = omega arith in z) ∙ bytes_of 6 bs 0 e u

word_lt : (bs : List ℕ) → length bs ≡ 6 → Below 256 bs → of_bytes bs < 2 ^ 48
word_lt bs e u = subst (λ (n : ℕ). of_bytes bs < 256 ^ n) e (of_bytes-lt bs u)

-- the steps of `raise`
module _ (h w : ℕ) (hh : Packed h) (none : h < 2 ^ 48) (hw : Packed w) where
  abbrev up : ℕ
  up = w % 2 ^ 48 + tops 6 - h

  abbrev set : ℕ
  set = bit_and up (tops 6)

  long : length (bytes 6 w) ≡ length (bytes 6 h)
  long = length-bytes 6 w ∙ sym (length-bytes 6 h)

  whole : of_bytes (apart (bytes 6 w) (bytes 6 h)) + h ≡ w % 2 ^ 48 + tops 6
  whole =
      let s = apart-sum (bytes 6 w) (bytes 6 h) long hh.tops in
      let t = ap tops (length-bytes 6 w) in
      omega (arith, of_bytes_bytes 6 w, of_bytes_bytes 6 h)

  pub no_borrow : h ≤ w % 2 ^ 48 + tops 6
  no_borrow = omega (arith, whole)

  up_is : up ≡ of_bytes (apart (bytes 6 w) (bytes 6 h))
  up_is = omega (arith, whole)

  set_is : set ≡ of_bytes (marks (bytes 6 w) (bytes 6 h)) * 128
  set_is = ap₂ bit_and up_is (sym (ap tops (length-bytes 6 w))) ∙ marked (bytes 6 w) (bytes 6 h) long hw.tops

  raised_is : h + bit_and up (set - set / 128) ≡ of_bytes (each max (bytes 6 h) (bytes 6 w))
  raised_is =
      let m : set - set / 128 ≡ of_bytes (marks (bytes 6 w) (bytes 6 h)) * 127 = omega (arith, set_is) in
      let a : bit_and up (set - set / 128) ≡ of_bytes (quotient (bytes 6 w) (bytes 6 h)) = ap₂ bit_and up_is m ∙ above (bytes 6 w) (bytes 6 h) long hw.tops hh.tops in
      let e : h ≡ of_bytes (bytes 6 h) = omega (arith, of_bytes_bytes 6 h) in
      ap₂ ◌+◌ e a ∙ larger (bytes 6 h) (bytes 6 w) long

  six-long : length (each max (bytes 6 h) (bytes 6 w)) ≡ 6
  six-long = length-each max (bytes 6 h) (bytes 6 w) (sym long) ∙ length-bytes 6 h

  each_below : Below 256 (each max (bytes 6 h) (bytes 6 w))
  each_below = max-below 256 (bytes 6 h) (bytes 6 w) (bytes_below 6 h) (bytes_below 6 w)

  pub raise-fits : h + bit_and up (set - set / 128) < 2 ^ 48
  raise-fits = omega (arith, raised_is, word_lt (each max (bytes 6 h) (bytes 6 w)) six-long each_below)

  pub raised : Raised h w (h + bit_and up (set - set / 128))
  raised = record { exponents-are = ap (bytes 6) raised_is ∙ word_bytes (each max (bytes 6 h) (bytes 6 w)) six-long each_below; no-degree = raise-fits }

-- ---- the highest exponents of a list of words
highest-long : (ws : List ℕ) → length (highest_of ws) ≡ 6
unfolding highest_of
highest-long [] = refl
highest-long (w ∷ ws) = length-each max (bytes 6 w) (highest_of ws) (length-bytes 6 w ∙ sym (highest-long ws)) ∙ length-bytes 6 w

highest-below : (ws : List ℕ) → AllPacked ws → Below 128 (highest_of ws)
unfolding highest_of
highest-below [] a = true_below 128 (one 6) refl
highest-below (w ∷ ws) a = max-below 128 (bytes 6 w) (highest_of ws) a.0.tops (highest-below ws a.1)

module _ (ws : List ℕ) (a : AllPacked ws) where
  highest-bytes : bytes 6 (highest_word ws) ≡ highest_of ws
  highest-bytes = word_bytes (highest_of ws) (highest-long ws) (Below-more 128 256 (highest_of ws) (omega arith) (highest-below ws a))

  pub highest-packed : Packed (highest_word ws)
  highest-packed = record {
    tops = subst (Below 128) (sym highest-bytes) (highest-below ws a);
    room = omega (arith, word_lt (highest_of ws) (highest-long ws) (Below-more 128 256 (highest_of ws) (omega arith) (highest-below ws a)));
  }

-- ---- of two lists the larger of each two, in turn
max_assoc : (α β γ : List ℕ) → each max (each max α β) γ ≡ each max α (each max β γ)
max_assoc [] β γ = refl
max_assoc (a ∷ α) [] γ = refl
max_assoc (a ∷ α) (b ∷ β) [] = refl
max_assoc (a ∷ α) (b ∷ β) (c ∷ γ) = ap₂ ◌∷◌ (let e : max (max a b) c ≡ max a (max b c) = omega arith in e) (max_assoc α β γ)

-- where one of the two is all 0
zeros-right : (f : ℕ → ℕ → ℕ) → ((a : ℕ) → f a 0 ≡ a) → (α : List ℕ) (n : ℕ) → length α ≡ n → each f α (one n) ≡ α
zeros-right f e [] n l = refl
zeros-right f e (a ∷ α) zero l = absurd (let z : ⊥ = omega arith in z)
zeros-right f e (a ∷ α) (suc n) l = ap₂ ◌∷◌ (e a) (zeros-right f e α n (let z : length α ≡ n = omega arith in z))

zeros-left : (α : List ℕ) (n : ℕ) → length α ≡ n → each max (one n) α ≡ α
zeros-left [] zero l = refl
zeros-left [] (suc n) l = absurd (let z : ⊥ = omega arith in z)
zeros-left (a ∷ α) zero l = absurd (let z : ⊥ = omega arith in z)
zeros-left (a ∷ α) (suc n) l = ap₂ ◌∷◌ (let e : max 0 a ≡ a = omega arith in e) (zeros-left α n (let z : length α ≡ n = omega arith in z))

-- ---- the loop: what h has of the first i words, and what the others have, is what all have
pub record Highest (ws : List ℕ) (h i : ℕ) : Type 0 where
  pub low : i ≤ length ws
  pub packed : Packed h
  pub no-degree : h < 2 ^ 48
  pub rest : each max (bytes 6 h) (highest_of (drop i ws)) ≡ highest_of ws

pub highest-none : (ws : List ℕ) → Highest ws 0 0
unfolding bytes
highest-none ws = record { low = omega arith; packed = record { tops = true_below 128 (one 6) refl; room = lit< tt }; no-degree = lit< tt; rest = zeros-left (highest_of ws) 6 (highest-long ws) }

pub raise-asks : {ws : List ℕ} {h i : ℕ} → AllPacked ws → Highest ws h i → i < length ws → Packed h × (h < 281474976710656) × Packed (get_or ws i 0)
raise-asks {ws} {h} {i} a v l = (v.packed, v.no-degree, packed-at ws i a l)

pub highest-more : {ws : List ℕ} {h i : ℕ} → AllPacked ws → Highest ws h i → i < length ws → {r : ℕ} → Raised h (get_or ws i 0) r → Highest ws r (i + 1)
unfolding highest_of
highest-more {ws} {h} {i} a v l {r} d =
    let w : ℕ = get_or ws i 0 in
    let hw : Packed w = packed-at ws i a l in
    record {
      low = omega arith;
      packed = record { tops = subst (Below 128) (sym d.exponents-are) (max-below 128 (bytes 6 h) (bytes 6 w) v.packed.tops hw.tops); room = omega (arith, d.no-degree) };
      no-degree = d.no-degree;
      rest =
          ap₂ (λ (α : List ℕ) (n : ℕ). each max α (highest_of (drop n ws))) d.exponents-are (add-one i)
          ∙ (max_assoc (bytes 6 h) (bytes 6 w) (highest_of (drop (suc i) ws)) ∙ (ap (λ (us : List ℕ). each max (bytes 6 h) (highest_of us)) (sym (drop-cons ws i 0 l)) ∙ v.rest));
    }

pub highest-all : {ws : List ℕ} {h i : ℕ} → Highest ws h i → length ws ≤ i → h ≡ highest_word ws
unfolding highest_of
highest-all {ws} {h} {i} v l =
    let e : bytes 6 h ≡ highest_of ws = sym (zeros-right max (λ a. let z : max a 0 ≡ a = omega arith in z) (bytes 6 h) 6 (length-bytes 6 h)) ∙ (ap (λ (us : List ℕ). each max (bytes 6 h) (highest_of us)) (sym (drop_of_length-le ws {i = i} l)) ∙ v.rest) in
    let s : h ≡ of_bytes (bytes 6 h) = omega (arith, of_bytes_bytes 6 h, v.no-degree) in
    s ∙ ap of_bytes e

-- ---- a product with the highest exponents
pub over-sum : (q w : ℕ) → Packed q → Packed w → not (eqb (bit_and (q + w) (tops 6)) 0) ≡ over_one q w
over-sum q w hq hw = ap not (tops-clear 6 (q + w)) ∙ ap (λ (l : List ℕ). not (below 128 l)) (bytes-add 6 q w hq.tops hw.tops)

both_below : (a b c : ℕ) → ltb (a + max b c) 128 ≡ (ltb (a + b) 128 && ltb (a + c) 128)
both_below a b c = go (dec_le 128 (a + b)) (dec_le 128 (a + c))
  where
    go : Dec (128 ≤ a + b) → Dec (128 ≤ a + c) → ltb (a + max b c) 128 ≡ (ltb (a + b) 128 && ltb (a + c) 128)
    go (yes h) k = le-ltb (a + max b c) 128 (omega arith) ∙ sym (ap (λ (t : Bool). t && ltb (a + c) 128) (le-ltb (a + b) 128 h))
    go (no h) (yes k) = le-ltb (a + max b c) 128 (omega arith) ∙ sym (ap₂ ◌&&◌ (lt-ltb (a + b) 128 (omega arith)) (le-ltb (a + c) 128 k))
    go (no h) (no k) = lt-ltb (a + max b c) 128 (omega arith) ∙ sym (ap₂ ◌&&◌ (lt-ltb (a + b) 128 (omega arith)) (lt-ltb (a + c) 128 (omega arith)))

and-swap : (a b c d : Bool) → ((a && b) && (c && d)) ≡ ((a && c) && (b && d))
and-swap true b true d = refl
and-swap true true false d = refl
and-swap true false false d = refl
and-swap false b c d = refl

product-below : (α β γ : List ℕ) → length β ≡ length γ → below 128 (product α (each max β γ)) ≡ (below 128 (product α β) && below 128 (product α γ))
product-below [] β γ e = refl
product-below (a ∷ α) [] [] e = refl
product-below (a ∷ α) [] (c ∷ γ) e = absurd (let z : ⊥ = omega arith in z)
product-below (a ∷ α) (b ∷ β) [] e = absurd (let z : ⊥ = omega arith in z)
product-below (a ∷ α) (b ∷ β) (c ∷ γ) e =
    ap₂ ◌&&◌ (both_below a b c) (product-below α β γ (omega arith))
    ∙ and-swap (ltb (a + b) 128) (ltb (a + c) 128) (below 128 (product α β)) (below 128 (product α γ))

not-and : (a b : Bool) → not (a && b) ≡ (not a || not b)
not-and true b = refl
not-and false b = refl

any-highest : (q : ℕ) (ws : List ℕ) → Packed q → not (below 128 (product (bytes 6 q) (highest_of ws))) ≡ any_over q ws
unfolding any_over highest_of
any-highest q [] hq = ap (λ (l : List ℕ). not (below 128 l)) (zeros-right (λ a b. a + b) (λ a. let z : a + 0 ≡ a = omega arith in z) (bytes 6 q) 6 (length-bytes 6 q)) ∙ ap not (below_true 128 (bytes 6 q) hq.tops)
any-highest q (w ∷ ws) hq =
    ap not (product-below (bytes 6 q) (bytes 6 w) (highest_of ws) (length-bytes 6 w ∙ sym (highest-long ws)))
    ∙ (not-and (below 128 (product (bytes 6 q) (bytes 6 w))) (below 128 (product (bytes 6 q) (highest_of ws))) ∙ ap (λ (t : Bool). over_one q w || t) (any-highest q ws hq))

-- a product of q with one of the words has an exponent over 127 exactly where that with their highest exponents has one
pub any-over : (q : ℕ) (ws : List ℕ) → Packed q → AllPacked ws → over_one q (highest_word ws) ≡ any_over q ws
any-over q ws hq a = ap (λ (l : List ℕ). not (below 128 (product (bytes 6 q) l))) (highest-bytes ws a) ∙ any-highest q ws hq
