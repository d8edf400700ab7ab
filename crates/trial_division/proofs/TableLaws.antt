-- What is so before each number of a table that keeps its rule. Assumes nothing.
use mathlib.Core.Path.{◌≡◌, refl, sym, ap, ap₂, subst, ◌∙◌}
use mathlib.Core.Bool.{Bool, true, false}
use mathlib.Core.List.{List, [], ◌∷◌}
use Prim.Native.Nat.{ℕ, suc, ◌+◌, ◌-◌, ◌*◌, ◌/◌, ◌%◌, ◌^◌, ◌≤◌, ◌<◌}
use native.Mathlib.Nat.{mul-le-mul, mul-le-mul_right, mul_assoc, mul-add, mul-mod_left, add-mul-mod_self_right, mod-eq_of_lt, div-add-mod', lt_of_not-le}
use native.Mathlib.Omega.{arith}
use borrow.Author.Tests.{eqb-true, eqb-false, eq-eqb, ne_eqb}
use lib.Dec.{eqb}
use lib.ListN.{length, drop, get_or}
use lib.Seq.{drop-cons, drop-length}
use Rattle.trial_division.specs.Tables.{prime_to, gap, Odd, reached, gaps_hold, digit_at, digits_from, digits, Gaps, gaps_of, inverses_hold, Inverses}
use Rattle.trial_division.proofs.TrialDivision.{None, both, none_below, above-one, none_true, one-false, past-root, next, over-gap, gap-some}

reached-above : (d : ℕ) (gs : List ℕ) → d ≤ reached d gs
unfolding reached
reached-above d [] = omega arith
reached-above d (g ∷ gs) = omega (arith, reached-above (d + 2 * g) gs)

-- before d is tried, on the way to `to` by the half gaps that are left: p is above 1, d is odd, and no number below d divides p but 1 and p
pub record Tried (p to d : ℕ) (left : List ℕ) : Type 0 where
  pub two : 2 ≤ p
  pub three : 3 ≤ d
  pub odd : d % 2 ≡ 1
  pub none : None d p
  pub leads : reached d left ≡ to
  pub end : to ≤ 65537
  pub holds : gaps_hold d left ≡ true

pub start : (p from : ℕ) (gaps : List ℕ) → Gaps from gaps → prime_to from p ≡ true → Tried p (reached from gaps) from gaps
start p from gaps g h = record { two = above-one from p h; three = g.three; odd = g.odd; none = none_below from p h; leads = refl; end = g.end; holds = g.holds }

module _ {p to d : ℕ} where
  pub small-d : (left : List ℕ) → Tried p to d left → d ≤ 65537
  small-d left t = omega (arith, t.leads, t.end, reached-above d left)

  pub stop : (left : List ℕ) → Tried p to d left → p < d * d → prime_to to p ≡ true
  stop left t = past-root to d p t.two t.none

  pub at-end : Tried p to d [] → prime_to to p ≡ true
  unfolding reached
  at-end t = none_true to p t.two (rw (← t.leads) t.none)

  module _ (g : ℕ) (gs : List ℕ) (t : Tried p to d (g ∷ gs)) where
    split : (gap g d ≡ true) × (gaps_hold (d + 2 * g) gs ≡ true)
    unfolding gaps_hold
    split = both (gap g d) (gaps_hold (d + 2 * g) gs) t.holds

    leads-on : reached (d + 2 * g) gs ≡ to
    unfolding reached
    leads-on = t.leads

    pub step : (p % d ≡ 0 → ⊥) → Tried p to (d + 2 * g) gs
    step h = record {
      two = t.two;
      three = omega (arith, t.three);
      odd = omega (arith, t.odd);
      none = over-gap g d p t.three t.odd t.none h split.0;
      leads = leads-on;
      end = t.end;
      holds = split.1;
    }

    pub step_small : d + 2 * g ≤ 65537
    step_small = omega (arith, leads-on, t.end, reached-above (d + 2 * g) gs)

    pub hit : d < p → p % d ≡ 0 → prime_to to p ≡ false
    hit m e =
        one-false to p d (omega (arith, t.three))
        (omega (arith, leads-on, reached-above (d + 2 * g) gs, gap-some g d split.0))
        m
        e

-- a number from 3 on is below every number that its square is not above
pub below-square : (d p : ℕ) → 3 ≤ d → d * d ≤ p → d < p
below-square d p three m = omega (arith, m, mul-le-mul_right d three)

-- ---- a table of half gaps, before its digit i is read
pub record Dividing (p from : ℕ) (table : List ℕ) (d i : ℕ) : Type 0 where
  pub inside : i ≤ 16 * length table
  pub tried : Tried p (reached from (digits table)) d (digits_from (16 * length table - i) i table)

pub dividing-start : (p from : ℕ) (table : List ℕ) → Gaps from (digits table) → prime_to from p ≡ true → Dividing p from table from 0
dividing-start p from table g h = record {
  inside = omega arith;
  tried = subst (λ (n : ℕ). Tried p (reached from (digits table)) from (digits_from n 0 table)) (let z : 16 * length table ≡ 16 * length table - 0 = omega arith in z) (start p from (digits table) g h);
}

module _ {p from : ℕ} {table : List ℕ} {d i : ℕ} (v : Dividing p from table d i) where
  pub dividing-end : 16 * length table ≤ i → prime_to (reached from (digits table)) p ≡ true
  unfolding digits_from
  dividing-end l = at-end (subst (λ (n : ℕ). Tried p (reached from (digits table)) d (digits_from n i table)) (let z : 16 * length table - i ≡ 0 = omega arith in z) v.tried)

  module _ (l : i < 16 * length table) where
    pub dividing-here : Tried p (reached from (digits table)) d (digit_at i table ∷ digits_from (16 * length table - (i + 1)) (i + 1) table)
    unfolding digits_from
    dividing-here = subst (λ (n : ℕ). Tried p (reached from (digits table)) d (digits_from n i table)) (let z : 16 * length table - i ≡ suc (16 * length table - (i + 1)) = omega arith in z) v.tried

    pub dividing-next : (p % d ≡ 0 → ⊥) → Dividing p from table (d + 2 * digit_at i table) (i + 1)
    dividing-next h = record { inside = omega arith; tried = step (digit_at i table) (digits_from (16 * length table - (i + 1)) (i + 1) table) dividing-here h }

-- digit k of number i of the table
digit-of : (table : List ℕ) (i k : ℕ) → k < 16 → digit_at (16 * i + k) table ≡ get_or table i 0 / 2 ^ (4 * k) % 16
digit-of table i k l =
    let e : (16 * i + k) / 16 ≡ i = omega arith in
    let f : (16 * i + k) % 16 ≡ k = omega arith in
    ap₂ (λ (a b : ℕ). get_or table a 0 / 2 ^ (4 * b) % 16) e f

pub dividing-at : {p from : ℕ} {table : List ℕ} {d i j : ℕ} → Dividing p from table d i → i ≡ j → Dividing p from table d j
dividing-at {p} {from} {table} {d} v e = subst (λ (n : ℕ). Dividing p from table d n) e v

pub dividing-digit : {p from : ℕ} {table : List ℕ} {d i k g : ℕ} → Dividing p from table d (16 * i + k) → i < length table → k < 16 → (p % d ≡ 0 → ⊥) → g ≡ get_or table i 0 / 2 ^ (4 * k) % 16 → Dividing p from table (d + 2 * g) (16 * i + (k + 1))
dividing-digit {p} {from} {table} {d} {i} {k} {g} v m l h is =
    let e : 16 * i + k + 1 ≡ 16 * i + (k + 1) = omega arith in
    dividing-at (subst (λ (n : ℕ). Dividing p from table (d + 2 * n) (16 * i + k + 1)) (digit-of table i k l ∙ sym is) (dividing-next v (omega arith) h)) e

-- ---- all odd numbers

pub record AllOdd (p d : ℕ) : Type 0 where
  pub two : 2 ≤ p
  pub odd : Odd d
  pub none : None d p

-- the square of a d that is tried is at most p, which fits in 32 bits, so d fits in 16
pub root-small : (d p : ℕ) → p < 4294967296 → d * d ≤ p → d < 65536
root-small d p h l = lt_of_not-le (λ q. let z : ⊥ = omega (arith, mul-le-mul q q) in z)

pub odd-start : (p from : ℕ) → Odd from → prime_to from p ≡ true → AllOdd p from
odd-start p from o h = record { two = above-one from p h; odd = o; none = none_below from p h }

pub odd-next : (p d : ℕ) → AllOdd p d → d < 65536 → (p % d ≡ 0 → ⊥) → AllOdd p (d + 2)
odd-next p d v l here = record {
  two = v.two;
  odd = record { three = omega (arith, v.odd.three); odd = omega (arith, v.odd.odd); small = omega (arith, l, v.odd.odd) };
  none = next d p v.odd.three v.odd.odd v.none (λ m. here);
}

-- ---- a table of half gaps and inverses

-- p times the inverse of a divisor is the quotient modulo 2 ^ 26, and the quotient is below that
exact-quotient : (p d w : ℕ) → p < 4294967296 → 64 ≤ d → d * w % 67108864 ≡ 1 → p % d ≡ 0 → p * w % 67108864 * d ≡ p
exact-quotient p d w h large one e =
    let k = p / d in
    let m : p ≡ k * d = omega (arith, div-add-mod' p d, e) in
    let few : k < 67108864 = lt_of_not-le (λ q. let z : ⊥ = omega (arith, m, h, mul-le-mul q large) in z) in
    let y : d * w ≡ 1 + d * w / 67108864 * 67108864 = omega (arith, div-add-mod' (d * w) 67108864, one) in
    let f : p * w ≡ k + k * (d * w / 67108864) * 67108864 =
    ap (λ (n : ℕ). n * w) m ∙ mul_assoc k d w ∙ ap (λ (n : ℕ). k * n) y ∙ (mul-add k 1 (d * w / 67108864 * 67108864) ∙ (let z : k * 1 + k * (d * w / 67108864 * 67108864) ≡ k + k * (d * w / 67108864) * 67108864 = omega (arith, mul_assoc k (d * w / 67108864) 67108864) in z))
    in
    let q : p * w % 67108864 ≡ k = ap (λ (n : ℕ). n % 67108864) f ∙ (add-mul-mod_self_right k (k * (d * w / 67108864)) 67108864 ∙ mod-eq_of_lt few) in
    ap (λ (n : ℕ). n * d) q ∙ sym m

-- so that the test of the quotient is that of the remainder
pub exactly : (p d w : ℕ) → p < 4294967296 → 64 ≤ d → d * w % 67108864 ≡ 1 → eqb (p * w % 67108864 * d) p ≡ eqb (p % d) 0
exactly p d w h large one = go (eqb (p % d) 0) refl where
  go : (b : Bool) → eqb (p % d) 0 ≡ b → eqb (p * w % 67108864 * d) p ≡ eqb (p % d) 0
  go true e = eq-eqb _ p (exact-quotient p d w h large one (eqb-true (p % d) 0 e)) ∙ sym e
  go false e =
      ne_eqb _ p (λ q. eqb-false (p % d) 0 e (sym (ap (λ (n : ℕ). n % d) q) ∙ mul-mod_left (p * w % 67108864) d)) ∙ sym e

-- before place i of the table is read
pub record Exact (p from : ℕ) (table : List ℕ) (d i : ℕ) : Type 0 where
  pub inside : i ≤ length table
  pub large : 64 ≤ d
  pub tried : Tried p (reached from (gaps_of table)) d (gaps_of (drop i table))
  pub holds : inverses_hold d (drop i table) ≡ true

pub exact-start : (p from : ℕ) (table : List ℕ) → Inverses from table → prime_to from p ≡ true → Exact p from table from 0
exact-start p from table g h = record { inside = omega arith; large = g.large; tried = start p from (gaps_of table) g.gaps h; holds = g.holds }

module _ {p from : ℕ} {table : List ℕ} {d i : ℕ} (v : Exact p from table d i) where
  pub exact-end : length table ≤ i → prime_to (reached from (gaps_of table)) p ≡ true
  unfolding gaps_of
  exact-end l = at-end (subst (λ (ws : List ℕ). Tried p (reached from (gaps_of table)) d (gaps_of ws)) (ap (λ (j : ℕ). drop j table) (let z : i ≡ length table = omega (arith, l, v.inside) in z) ∙ drop-length table) v.tried)

  module _ (l : i < length table) where
    abbrev w : ℕ
    w = get_or table i 0

    cut : drop i table ≡ w ∷ drop (i + 1) table
    cut = drop-cons table i 0 l ∙ ap (λ (j : ℕ). w ∷ drop j table) (let z : suc i ≡ i + 1 = omega arith in z)

    here : Tried p (reached from (gaps_of table)) d (w / 67108864 ∷ gaps_of (drop (i + 1) table))
    unfolding gaps_of
    here = subst (λ (ws : List ℕ). Tried p (reached from (gaps_of table)) d (gaps_of ws)) cut v.tried

    rule : (eqb (d * w % 67108864) 1 ≡ true) × (inverses_hold (d + 2 * (w / 67108864)) (drop (i + 1) table) ≡ true)
    unfolding inverses_hold
    rule = both (eqb (d * w % 67108864) 1) (inverses_hold (d + 2 * (w / 67108864)) (drop (i + 1) table)) (subst (λ (ws : List ℕ). inverses_hold d ws ≡ true) cut v.holds)

    pub exact-inverse : d * w % 67108864 ≡ 1
    exact-inverse = eqb-true _ 1 rule.0

    module _ {b : Bool} (q : b ≡ eqb (p % d) 0) where
      pub exact-hit : d * d ≤ p → b ≡ true → prime_to (reached from (gaps_of table)) p ≡ false
      exact-hit m h = hit (w / 67108864) (gaps_of (drop (i + 1) table)) here (below-square d p v.tried.three m) (eqb-true (p % d) 0 (sym q ∙ h))

      pub exact-next : b ≡ false → Exact p from table (d + 2 * (w / 67108864)) (i + 1)
      exact-next h = record {
        inside = omega arith;
        large = omega (arith, v.large);
        tried = step (w / 67108864) (gaps_of (drop (i + 1) table)) here (eqb-false (p % d) 0 (sym q ∙ h));
        holds = rule.1;
      }
