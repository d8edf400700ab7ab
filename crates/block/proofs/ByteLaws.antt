-- Bytes in a list: numbers put and got, and parts that are put one after the other. Assumes nothing.
use Rattle.std.proofs.Common.{◌≡◌, ℕ, zero, suc, ◌+◌, ◌-◌, pow-suc, w64, ◌*◌, ◌/◌, ◌%◌, ◌^◌, ◌<◌, ◌≤◌, List, [], ◌∷◌, ◌++◌, length, get_or, take, drop, replicate, slice_index, sym, refl, ap, ◌∙◌, ap₂, append_assoc, add-zero, mul-zero, add-one, le_of_lt, le_of_eq, arith, length-append, length-take-le, length-drop, drop-cons, take_all, take-suc, take-take, drop-drop, take_at, take-add, drop_at}
use Rattle.std.proofs.Math.Nat.{div-div-eq-div-mul}
use Rattle.std.specs.Int.{byte_at, byte_worth, bytes_low_first, sum_through, to_le_bytes, from_le_bytes}
use lib.Seq.{sets, sets-eq}
use Rattle.monomial.specs.Layout.{bytes, of_bytes}
use Rattle.monomial.proofs.ByteLaws.{length-bytes, bytes_below, of_bytes_bytes, bytes_of}
use Rattle.monomial.proofs.FieldLaws.{of_bytes-append}
use Rattle.merge_common.specs.Lent.{part}
use Rattle.merge_common.proofs.Lists.{sets-append, length_part}
use Rattle.block.specs.Block.{number_at}

-- ---- parts
pub part-append : (at m n : ℕ) (s : List ℕ) → part at (m + n) s ≡ part at m s ++ part (at + m) n s
part-append at m n s = take-add m n (drop at s) ∙ ap (λ (l : List ℕ). part at m s ++ take n l) (drop-drop m at s)

-- a part of a part
pub part-part : (at n : ℕ) (s : List ℕ) (k m : ℕ) → k + m ≤ n → part k m (part at n s) ≡ part (at + k) m s
part-part at n s k m h = go k m n (drop at s) h ∙ ap (take m) (drop-drop k at s)
  where
    go : (k m n : ℕ) (l : List ℕ) → k + m ≤ n → take m (drop k (take n l)) ≡ take m (drop k l)
    go zero m n l h = take-take m n l (omega arith)
    go (suc k) m zero l h = absurd (let z : ⊥ = omega arith in z)
    go (suc k) m (suc n) [] h = refl
    go (suc k) m (suc n) (x ∷ l) h = go k m n l (omega arith)

-- what was put is read back
pub part-put : (s : List ℕ) (at : ℕ) (vs : List ℕ) (n : ℕ) → length vs ≡ n → at + n ≤ length s → part at n (sets s at vs) ≡ vs
part-put s at vs n e h =
    let k : at + length vs ≤ length s = omega arith in
    ap (part at n) (sets-eq vs s at k)
    ∙ (ap (λ (l : List ℕ). part at n l) (append_assoc (take at s) vs (drop (at + length vs) s))
    ∙ (ap (take n) (drop_at (take at s) (vs ++ drop (at + length vs) s) at (length-take-le at s (omega arith)))
    ∙ take_at vs (drop (at + length vs) s) n e))

-- the part of one place more
pub part-cons : (s : List ℕ) (at n : ℕ) → at < length s → part at (suc n) s ≡ get_or s at 0 ∷ part (at + 1) n s
part-cons s at n h = ap (take (suc n)) (drop-cons s at 0 h ∙ ap (λ (k : ℕ). get_or s at 0 ∷ drop k s) (sym (add-one at)))

-- ---- numbers
-- a number's high bytes follow its low ones
pub bytes_cut : (k x : ℕ) → bytes k (x % 256 ^ k) ≡ bytes k x
bytes_cut k x =
    let e : x % 256 ^ k ≡ of_bytes (bytes k x) + 256 ^ k * 0 = sym (of_bytes_bytes k x) ∙ (sym (add-zero (of_bytes (bytes k x))) ∙ ap (λ (n : ℕ). of_bytes (bytes k x) + n) (sym (mul-zero (256 ^ k)))) in
    ap (bytes k) e ∙ bytes_of k (bytes k x) 0 (length-bytes k x) (bytes_below k x)

-- ---- numbers put
-- the library's bytes of a number from byte i on, and the first of them
low_bytes : (k m i x : ℕ) → k ≤ m → take k (bytes_low_first i m x) ≡ bytes k (x / 256 ^ i)
unfolding bytes
low_bytes zero m i x h = refl
low_bytes (suc k) zero i x h = absurd (let z : ⊥ = omega arith in z)
low_bytes (suc k) (suc m) i x h =
    ap₂ ◌∷◌ (byte i) (low_bytes k m (suc i) x (omega arith) ∙ ap (bytes k) (ap (λ (n : ℕ). x / n) (pow-suc 256 i) ∙ sym (div-div-eq-div-mul x (256 ^ i) 256)))
  where
    byte : (i : ℕ) → byte_at i x ≡ x / 256 ^ i % 256
    byte zero = omega arith
    byte (suc i) = refl

pub bytes_put : (k x : ℕ) → k ≤ 8 → take k (to_le_bytes w64 x) ≡ bytes k x
bytes_put k x h = low_bytes k 8 0 x h ∙ ap (bytes k) (let e : x / 256 ^ 0 ≡ x = omega arith in e)

-- a number that is another is put as that
pub put_as : (s s1 : List ℕ) (at k x y : ℕ) → s1 ≡ sets s at (bytes k x) → x ≡ y → s1 ≡ sets s at (bytes k y)
put_as s s1 at k x y e f = e ∙ ap (λ (n : ℕ). sets s at (bytes k n)) f

-- ---- one put after the other
pub joined : (s s1 s2 : List ℕ) (at : ℕ) (us vs : List ℕ) (k : ℕ) → at + length us ≡ k → s1 ≡ sets s at us → s2 ≡ sets s1 k vs → s2 ≡ sets s at (us ++ vs)
joined s s1 s2 at us vs k e f g = g ∙ (ap₂ (λ (l : List ℕ) (n : ℕ). sets l n vs) f (sym e) ∙ sym (sets-append s at us vs))

-- ---- numbers got
-- the library's number of the first bytes
first_bytes : (bs : List ℕ) (k : ℕ) → k < length bs → sum_through (λ (i : ℕ). byte_worth i (slice_index bs i)) k ≡ of_bytes (take (suc k) bs)
first_bytes [] zero h = elim h [ ]
first_bytes (b ∷ bs) zero h = omega arith
first_bytes bs (suc k) h =
    ap (λ (n : ℕ). n + get_or bs (suc k) 0 * 256 ^ suc k) (first_bytes bs k (omega arith))
    ∙ (let e : of_bytes (take (suc k) bs) + get_or bs (suc k) 0 * 256 ^ suc k ≡ of_bytes (take (suc k) bs) + 256 ^ suc k * (get_or bs (suc k) 0 + 256 * 0) = omega arith in e)
    ∙ sym (ap of_bytes (take-suc bs (suc k) 0 h) ∙ (of_bytes-append (take (suc k) bs) (get_or bs (suc k) 0 ∷ []) ∙ ap (λ (n : ℕ). of_bytes (take (suc k) bs) + 256 ^ n * (get_or bs (suc k) 0 + 256 * 0)) (length-take-le (suc k) bs (le_of_lt h))))

no_bytes : (n m : ℕ) → of_bytes (drop n (replicate m 0)) ≡ 0
no_bytes zero zero = refl
no_bytes zero (suc m) = omega (arith, no_bytes zero m)
no_bytes (suc n) zero = refl
no_bytes (suc n) (suc m) = no_bytes n m

-- the library's number of n bytes that were copied over the first of eight zeros
module _ (s : List ℕ) (at n : ℕ) (ys : List ℕ) (l : n ≤ 8) (r : at + n ≤ length s) (e : ys ≡ part at (at + n - at) s) where
  pub number_got : from_le_bytes w64 (ys ++ drop n (replicate 8 0)) ≡ number_at n at s
  number_got =
      let all = ys ++ drop n (replicate 8 0) in
      let k : at + n - at ≡ n = omega arith in
      let is = e ∙ ap (λ (j : ℕ). part at j s) k in
      let m : length all ≡ 8 = omega (arith, length-append ys (drop n (replicate 8 0)), length-drop {A = ℕ} n (replicate 8 0), ap length is, length_part at n s r) in
      first_bytes all 7 (omega arith)
      ∙ (ap of_bytes (take_all 8 all (le_of_eq m))
      ∙ (of_bytes-append ys (drop n (replicate 8 0))
      ∙ (ap (λ (k : ℕ). of_bytes ys + 256 ^ length ys * k) (no_bytes n 8)
      ∙ (ap (λ (k : ℕ). of_bytes ys + k) (mul-zero (256 ^ length ys)) ∙ (add-zero (of_bytes ys) ∙ ap of_bytes is)))))

-- ---- bytes by place
module _ (s : List ℕ) (at : ℕ) where
  pub part-1 : at + 1 ≤ length s → part at 1 s ≡ get_or s at 0 ∷ []
  part-1 h = part-cons s at 0 (omega arith)

  pub part-2 : at + 2 ≤ length s → part at 2 s ≡ get_or s at 0 ∷ (get_or s (at + 1) 0 ∷ [])
  part-2 h = part-cons s at 1 (omega arith) ∙ ap (λ (l : List ℕ). get_or s at 0 ∷ l) (part-cons s (at + 1) 0 (omega arith))

  pub part-3 : at + 3 ≤ length s → part at 3 s ≡ get_or s at 0 ∷ (get_or s (at + 1) 0 ∷ (get_or s (at + 2) 0 ∷ []))
  part-3 h =
      let e : at + 1 + 1 ≡ at + 2 = omega arith in
      part-cons s at 2 (omega arith)
      ∙ ap (λ (l : List ℕ). get_or s at 0 ∷ l) (part-cons s (at + 1) 1 (omega arith)
      ∙ ap (λ (l : List ℕ). get_or s (at + 1) 0 ∷ l) (ap (λ (n : ℕ). part n 1 s) e ∙ part-cons s (at + 2) 0 (omega arith)))

  pub number-2 : at + 2 ≤ length s → number_at 2 at s ≡ get_or s at 0 + 256 * get_or s (at + 1) 0
  number-2 h = ap of_bytes (part-2 h) ∙ (let e : get_or s at 0 + 256 * (get_or s (at + 1) 0 + 256 * 0) ≡ get_or s at 0 + 256 * get_or s (at + 1) 0 = omega arith in e)
