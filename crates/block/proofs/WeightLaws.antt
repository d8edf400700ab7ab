-- The weights of a header: half bytes of one number, and back. Assumes nothing.
use Rattle.std.proofs.Common.{◌≡◌, ℕ, zero, suc, ◌+◌, ◌-◌, ◌*◌, ◌/◌, ◌%◌, ◌^◌, ◌<◌, ◌≤◌, List, [], ◌∷◌, ◌++◌, length, get_or, take, drop, set, take_all, drop-cons, length-drop, length-set, append_assoc, append-nil, replicate, sym, refl, ap, ◌∙◌, subst, ap₂, pow-suc, arith, lit<}
use Rattle.std.proofs.Math.Nat.{pow-le-pow_right}
use Rattle.std.proofs.lemmas.List.{take_more_set}
use Rattle.monomial.specs.Exponents.{Positive}
use Rattle.monomial.specs.Layout.{bytes, Below}
use Rattle.monomial.proofs.CodeLaws.{six-list}
use Rattle.block.specs.Block.{weight_number, weights_of}

-- ---- the number
pub number-below : (k : ℕ) (vs : List ℕ) → length vs ≡ k → weight_number vs < 16 ^ k
unfolding weight_number
number-below k vs e = subst (λ (m : ℕ). weight_number vs < 16 ^ m) e (go vs)
  where
    go : (vs : List ℕ) → weight_number vs < 16 ^ length vs
    go [] = lit< tt
    go (v ∷ vs) = omega (arith, go vs, pow-suc 16 (length vs))

-- the number of the weights from the one before i on, by that of those from i on
module _ (vs : List ℕ) (i number h : ℕ) (l : 0 < i) (m : i ≤ 6) (six : length vs ≡ 6) (e : number ≡ weight_number (drop i vs)) where
  pub number-next : h ≡ (get_or vs (i - 1) 0 + 15) % 16 → 16 * number + h ≡ weight_number (drop (i - 1) vs)
  unfolding weight_number
  number-next q =
      let f : suc (i - 1) ≡ i = omega arith in
      let k = ap weight_number (drop-cons vs (i - 1) 0 (omega arith)) in
      let o = ap (λ (j : ℕ). weight_number (drop j vs)) f in
      omega (arith, q, e, k, o)

  -- and room for it
  pub number-room : number < 16 ^ 5
  number-room =
      let b = number-below (6 - i) (drop i vs) (length-drop i vs ∙ ap (λ (n : ℕ). n - i) six) in
      let j : 6 - i ≤ 5 = omega arith in
      omega (arith, e, b, pow-le-pow_right {n = 16} (lit< tt) j)

-- weights of 1 are the number 0
pub number-ones : (k : ℕ) → weight_number (replicate k 1) ≡ 0
unfolding weight_number
number-ones zero = refl
number-ones (suc k) = omega (arith, number-ones k)

-- ---- the weights
pub length-weights : (k number : ℕ) → length (weights_of k number) ≡ k
unfolding weights_of
length-weights zero number = refl
length-weights (suc k) number = ap suc (length-weights k (number / 16))

-- "Each variable gets a weight from 1 to 16": a half byte holds no other
pub weights-below : (k number : ℕ) → Below 17 (weights_of k number)
unfolding weights_of
weights-below zero number = tt
weights-below (suc k) number = (let h : number % 16 + 1 < 17 = omega arith in h, weights-below k (number / 16))

pub weights-positive : (k number : ℕ) → Positive (weights_of k number)
unfolding weights_of
weights-positive zero number = tt
weights-positive (suc k) number = (let h : 0 < number % 16 + 1 = omega arith in h, weights-positive k (number / 16))

-- i weights are taken from the number, and the rest lie in what is left of it
pub record Taken (number : ℕ) (ws : List ℕ) (left i : ℕ) : Type 0 where
  pub six-long : length ws ≡ 6
  pub is : take i ws ++ weights_of (6 - i) left ≡ weights_of 6 number

pub taken-more : (number : ℕ) (ws : List ℕ) (left i : ℕ) → Taken number ws left i → i < 6 → Taken number (set ws i (left % 16 + 1)) (left / 16) (i + 1)
unfolding weights_of
taken-more number ws left i t l =
    let v = left % 16 + 1 in
    let e : suc (6 - (i + 1)) ≡ 6 - i = omega arith in
    record {
      six-long = length-set ws i v ∙ t.six-long;
      is =
          ap (λ (l : List ℕ). l ++ weights_of (6 - (i + 1)) (left / 16)) (take_more_set ws i v (omega (arith, t.six-long)))
          ∙ (append_assoc (take i ws) (v ∷ []) (weights_of (6 - (i + 1)) (left / 16)) ∙ (ap (λ (k : ℕ). take i ws ++ weights_of k left) e ∙ t.is));
    }

pub taken-all : (number : ℕ) (ws : List ℕ) (left i : ℕ) → Taken number ws left i → 6 ≤ i → ws ≡ weights_of 6 number
unfolding weights_of
taken-all number ws left i t l =
    let e : 6 - i ≡ 0 = omega arith in
    sym (ap₂ ◌++◌ (take_all i ws (omega (arith, t.six-long))) (ap (λ (k : ℕ). weights_of k left) e) ∙ append-nil ws) ∙ t.is

-- ---- there and back
pub number-back : (k number : ℕ) → number < 16 ^ k → weight_number (weights_of k number) ≡ number
unfolding weight_number weights_of
number-back zero number h = omega arith
number-back (suc k) number h = let l : number / 16 < 16 ^ k = omega (arith, h, pow-suc 16 k) in omega (arith, number-back k (number / 16) l)

pub weights-back : (k : ℕ) (vs : List ℕ) → length vs ≡ k → Below 17 vs → Positive vs → weights_of k (weight_number vs) ≡ vs
unfolding weight_number weights_of
weights-back k vs e b p = subst (λ (m : ℕ). weights_of m (weight_number vs) ≡ vs) e (go vs b p)
  where
    go : (vs : List ℕ) → Below 17 vs → Positive vs → weights_of (length vs) (weight_number vs) ≡ vs
    go [] b p = refl
    go (v ∷ vs) b p =
        let x = weight_number vs in
        let m : ((v + 15) % 16 + 16 * x) % 16 + 1 ≡ v = omega (arith, b.0, p.0) in
        let d : ((v + 15) % 16 + 16 * x) / 16 ≡ x = omega arith in
        ap₂ ◌∷◌ m (ap (weights_of (length vs)) d ∙ go vs b.1 p.1)

-- ---- the bytes
-- "weight minus 1 in four bits each, x1 in the low half of byte 12, x2 in its high half", and so on
abbrev pub halves : List ℕ → List ℕ
halves vs = (get_or vs 0 0 - 1 + 16 * (get_or vs 1 0 - 1)) ∷ ((get_or vs 2 0 - 1 + 16 * (get_or vs 3 0 - 1)) ∷ ((get_or vs 4 0 - 1 + 16 * (get_or vs 5 0 - 1)) ∷ []))

minus_one : (v : ℕ) → v < 17 → 0 < v → (v + 15) % 16 ≡ v - 1
minus_one v l p = omega arith

two-halves : (v w x : ℕ) → v < 17 → 0 < v → w < 17 → 0 < w → (v + 15) % 16 + 16 * ((w + 15) % 16 + 16 * x) ≡ v - 1 + 16 * (w - 1) + 256 * x
two-halves v w x l p m q = omega (arith, minus_one v l p, minus_one w m q)

-- a byte of two halves, and what is above it
byte_of : (v w x : ℕ) → v < 17 → w < 17 → (v - 1 + 16 * (w - 1) + 256 * x) % 256 ≡ v - 1 + 16 * (w - 1)
byte_of v w x l m = omega arith

above-byte : (v w x : ℕ) → v < 17 → w < 17 → (v - 1 + 16 * (w - 1) + 256 * x) / 256 ≡ x
above-byte v w x l m = omega arith

cons-byte : (k v w : ℕ) (vs : List ℕ) → v < 17 → 0 < v → w < 17 → 0 < w → bytes (suc k) (weight_number (v ∷ w ∷ vs)) ≡ (v - 1 + 16 * (w - 1)) ∷ bytes k (weight_number vs)
unfolding bytes weight_number
cons-byte k v w vs l p m q =
    let x = weight_number vs in
    ap (λ (n : ℕ). bytes (suc k) n) (two-halves v w x l p m q) ∙ ap₂ (λ (a n : ℕ). a ∷ bytes k n) (byte_of v w x l m) (above-byte v w x l m)

six-halves : (a b c d e f : ℕ) → Below 17 (a ∷ b ∷ c ∷ d ∷ e ∷ f ∷ []) → Positive (a ∷ b ∷ c ∷ d ∷ e ∷ f ∷ []) → bytes 3 (weight_number (a ∷ b ∷ c ∷ d ∷ e ∷ f ∷ [])) ≡ halves (a ∷ b ∷ c ∷ d ∷ e ∷ f ∷ [])
unfolding bytes
six-halves a b c d e f (ua, (ub, (uc, (ud, (ue, (uf, u)))))) (pa, (pb, (pc, (pd, (pe, (pf, p)))))) =
    cons-byte 2 a b (c ∷ d ∷ e ∷ f ∷ []) ua pa ub pb
    ∙ ap (λ (l : List ℕ). (a - 1 + 16 * (b - 1)) ∷ l) (cons-byte 1 c d (e ∷ f ∷ []) uc pc ud pd
    ∙ ap (λ (l : List ℕ). (c - 1 + 16 * (d - 1)) ∷ l) (cons-byte 0 e f [] ue pe uf pf))

pub half-bytes : (vs : List ℕ) → length vs ≡ 6 → Below 17 vs → Positive vs → bytes 3 (weight_number vs) ≡ halves vs
half-bytes vs h b p =
    let e = six-list vs h in
    ap (λ (l : List ℕ). bytes 3 (weight_number l)) e
    ∙ (six-halves (get_or vs 0 0) (get_or vs 1 0) (get_or vs 2 0) (get_or vs 3 0) (get_or vs 4 0) (get_or vs 5 0) (subst (Below 17) e b) (subst Positive e p) ∙ ap halves (sym e))
