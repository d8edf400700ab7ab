-- A word field by field: what stands at a variable's bits, and what one exponent more adds. Assumes nothing.
use mathlib.Core.Path.{◌≡◌, refl, sym, ap, ◌∙◌}
use mathlib.Core.List.{List, [], ◌∷◌, ◌++◌, reverse, reverse-cons, reverse-append, append_assoc}
use Prim.Native.Nat.{ℕ, zero, suc, ◌+◌, ◌-◌, ◌*◌, ◌/◌, ◌%◌, ◌^◌, ◌<◌, ◌≤◌}
use native.Mathlib.Nat.{div-one, div-div-eq-div-mul, pow-suc, pow-succ'}
use native.Mathlib.Decide.{dec_lt}
use native.Mathlib.Omega.{arith}
use lib.Pow.{pow-add}
use lib.ListN.{length, get_or, take, drop, replicate, length-append, length-drop, length-replicate, take-append-drop, get_or-append}
use lib.Seq.{get_or_at, drop_at}
use Rattle.monomial.specs.declared.order.Order.{Order}
use Rattle.monomial.specs.declared.order.Order.TheVariants.{Lex, DegLex, DegRevLex}
use Rattle.monomial.specs.Layout.{bytes, of_bytes, six, upward, low_bit, word_of, fields}
use Rattle.monomial.proofs.Places.{length-reverse, weighted-more}
use Rattle.monomial.proofs.ByteLaws.{length-bytes}

pub pow-bytes : (i : ℕ) → 2 ^ (8 * i) ≡ 256 ^ i
pow-bytes zero = refl
pow-bytes (suc i) =
    ap (λ (n : ℕ). 2 ^ n) (let e : 8 * suc i ≡ 8 * i + 8 = omega arith in e)
    ∙ (pow-add 2 (8 * i) 8 ∙ (ap (λ (n : ℕ). n * 256) (pow-bytes i) ∙ sym (pow-suc 256 i)))

-- as the fields lie downward
pub pow-down : (i : ℕ) → i < 6 → 2 ^ (40 - 8 * i) ≡ 256 ^ (5 - i)
pow-down i h = ap (λ (n : ℕ). 2 ^ n) (let e : 40 - 8 * i ≡ 8 * (5 - i) = omega arith in e) ∙ pow-bytes (5 - i)

-- ---- the field of a variable
byte_at : (k i w : ℕ) → i < k → get_or (bytes k w) i 0 ≡ w / 256 ^ i % 256
unfolding bytes
byte_at zero i w h = absurd (let z : ⊥ = omega arith in z)
byte_at (suc k) zero w h = ap (λ (n : ℕ). n % 256) (sym (div-one w))
byte_at (suc k) (suc i) w h =
    byte_at k i (w / 256) (omega arith)
    ∙ ap (λ (n : ℕ). n % 256) (div-div-eq-div-mul w 256 (256 ^ i) ∙ ap (λ (m : ℕ). w / m) (sym (pow-succ' 256 i)))

get_d_reverse : (l : List ℕ) (i : ℕ) → i < length l → get_or (reverse l) i 0 ≡ get_or l (length l - suc i) 0
get_d_reverse [] i h = absurd (let z : ⊥ = omega arith in z)
get_d_reverse (x ∷ l) i h = ap (λ (m : List ℕ). get_or m i 0) (reverse-cons x l) ∙ go (dec_lt i (length l)) (λ k. get_d_reverse l i k)
  where
    go : Dec (i < length l) → (i < length l → get_or (reverse l) i 0 ≡ get_or l (length l - suc i) 0) → get_or (reverse l ++ (x ∷ [])) i 0 ≡ get_or (x ∷ l) (suc (length l) - suc i) 0
    go (yes k) r =
        get_or-append (reverse l) (x ∷ []) 0 i (let e : i < length (reverse l) = omega (arith, length-reverse l) in e)
        ∙ (r k ∙ ap (λ (m : ℕ). get_or (x ∷ l) m 0) (let e : suc (length l - suc i) ≡ suc (length l) - suc i = omega arith in e))
    go (no k) r =
        get_or_at (reverse l) x [] 0 i (let e : length (reverse l) ≡ i = omega (arith, length-reverse l) in e)
        ∙ ap (λ (m : ℕ). get_or (x ∷ l) m 0) (let e : zero ≡ suc (length l) - suc i = omega arith in e)

field-down : (w i : ℕ) → i < 6 → w / 2 ^ (40 - 8 * i) % 256 ≡ get_or (reverse (bytes 6 w)) i 0
field-down w i h =
    ap (λ (m : ℕ). w / m % 256) (pow-down i h)
    ∙ sym (get_d_reverse (bytes 6 w) i (omega (arith, length-bytes 6 w))
    ∙ (ap (λ (m : ℕ). get_or (bytes 6 w) m 0) (let e : length (bytes 6 w) - suc i ≡ 5 - i = omega (arith, length-bytes 6 w) in e) ∙ byte_at 6 (5 - i) w (omega arith)))

pub field_at : (o : Order) (w i : ℕ) → i < 6 → w / 2 ^ low_bit o i % 256 ≡ get_or (fields o w) i 0
unfolding fields
field_at Lex w i h = field-down w i h
field_at DegLex w i h = field-down w i h
field_at DegRevLex w i h = ap (λ (m : ℕ). w / m % 256) (pow-bytes i) ∙ sym (byte_at 6 i w h)

-- ---- one exponent more
pub of_bytes-append : (α β : List ℕ) → of_bytes (α ++ β) ≡ of_bytes α + 256 ^ length α * of_bytes β
of_bytes-append [] β = omega arith
of_bytes-append (a ∷ α) β = omega (arith, of_bytes-append α β, ap (λ (m : ℕ). m * of_bytes β) (pow-suc 256 (length α)))

reverse-around : (α γ : List ℕ) (a : ℕ) → reverse (α ++ (a ∷ γ)) ≡ reverse γ ++ (a ∷ reverse α)
reverse-around α γ a = reverse-append α (a ∷ γ) ∙ (ap (λ (l : List ℕ). l ++ reverse α) (reverse-cons a γ) ∙ append_assoc (reverse γ) (a ∷ []) (reverse α))

-- a number at a place, and 0 there
at_place : (α β : List ℕ) (a P : ℕ) → 256 ^ length α ≡ P → of_bytes (α ++ (a ∷ β)) ≡ of_bytes (α ++ (0 ∷ β)) + a * P
at_place α β a P e =
    let f = ap (λ (m : ℕ). m * (a + 256 * of_bytes β)) e in
    let g = ap (λ (m : ℕ). m * (0 + 256 * of_bytes β)) e in
    omega (arith, of_bytes-append α (a ∷ β), of_bytes-append α (0 ∷ β))

module _ (α γ : List ℕ) (a : ℕ) (six-long : length α + suc (length γ) ≡ 6) where
  down-place : of_bytes (reverse (α ++ (a ∷ γ))) ≡ of_bytes (reverse (α ++ (0 ∷ γ))) + a * 2 ^ (40 - 8 * length α)
  down-place =
      ap of_bytes (reverse-around α γ a)
      ∙ (at_place (reverse γ) (reverse α) a (2 ^ (40 - 8 * length α)) (ap (λ (n : ℕ). 256 ^ n) (let e : length (reverse γ) ≡ 5 - length α = omega (arith, length-reverse γ) in e) ∙ sym (pow-down (length α) (omega arith)))
      ∙ ap (λ (l : List ℕ). of_bytes l + a * 2 ^ (40 - 8 * length α)) (sym (reverse-around α γ 0)))

  put-place : (o : Order) → of_bytes (upward o (α ++ (a ∷ γ))) ≡ of_bytes (upward o (α ++ (0 ∷ γ))) + a * 2 ^ low_bit o (length α)
  put-place Lex = down-place
  put-place DegLex = down-place
  put-place DegRevLex = at_place α γ a (2 ^ (8 * length α)) (sym (pow-bytes (length α)))

module _ (o : Order) (vs α : List ℕ) (a : ℕ) (room : length α < 6) where
  six-more : six (α ++ (a ∷ [])) ≡ α ++ (a ∷ replicate (5 - length α) 0)
  six-more =
      ap (λ (k : ℕ). (α ++ (a ∷ [])) ++ replicate k 0) (let e : 6 - length (α ++ (a ∷ [])) ≡ 5 - length α = omega (arith, length-append α (a ∷ [])) in e)
      ∙ append_assoc α (a ∷ []) (replicate (5 - length α) 0)

  six-less : six α ≡ α ++ (0 ∷ replicate (5 - length α) 0)
  six-less = ap (λ (k : ℕ). α ++ replicate k 0) (let e : 6 - length α ≡ suc (5 - length α) = omega arith in e)

  pub word_more : word_of o vs (α ++ (a ∷ [])) ≡ word_of o vs α + (get_or vs (length α) 0 * a * 2 ^ 48 + a * 2 ^ low_bit o (length α))
  unfolding word_of
  word_more =
      let s = ap (λ (l : List ℕ). of_bytes (upward o l)) six-more in
      let t = ap (λ (l : List ℕ). of_bytes (upward o l)) six-less in
      let p = put-place α (replicate (5 - length α) 0) a (omega (arith, length-replicate {A = ℕ} (5 - length α) 0)) o in
      omega (arith, weighted-more vs α a)

-- ---- the fields beyond the first n
pub drop-reverse : (l : List ℕ) (n : ℕ) → n ≤ length l → drop n (reverse l) ≡ reverse (take (length l - n) l)
drop-reverse l n h =
    ap (λ (m : List ℕ). drop n (reverse m)) (sym (take-append-drop (length l - n) l))
    ∙ (ap (drop n) (reverse-append (take (length l - n) l) (drop (length l - n) l))
    ∙ drop_at (reverse (drop (length l - n) l)) (reverse (take (length l - n) l)) n (length-reverse (drop (length l - n) l) ∙ (length-drop (length l - n) l ∙ (let e : length l - (length l - n) ≡ n = omega arith in e))))
