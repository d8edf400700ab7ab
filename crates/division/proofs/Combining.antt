-- Dividing a lead takes a multiple of a divisor off the polynomial: so a division writes it as the remainder and a sum of multiples. Assumes nothing.
use mathlib.Core.Path.{◌≡◌, refl, sym, ap, ap₂, ◌∙◌}
use mathlib.Core.Bool.{Bool, true}
use mathlib.Core.List.{List, [], ◌∷◌, ◌++◌, append-nil}
use Prim.Native.Nat.{ℕ, ◌+◌, ◌*◌, ◌%◌, ◌<◌, Ordering}
use native.Mathlib.Nat.{mod-eq_of_lt, mod-add-mod, add-mod-mod, zero-mod, zero-mul, one-mul, add-mul, mul_comm, mul_right_comm}
use native.Mathlib.Omega.{arith}
use Rattle.residue.specs.Prime.{Prime}
use Rattle.residue.specs.Modular.{product, negative, inverse_of}
use Rattle.residue.proofs.Remainder.{mod-mul, mul-same, add_same, add-both}
use Rattle.residue.proofs.Modular.{add-negative}
use Rattle.residue.proofs.Inverses.{inverse-product}
use Rattle.polynomial.specs.Terms.{Term, term, here, total, coef_at, Same}
use Rattle.polynomial.specs.Multiple.{multiple}
use Rattle.polynomial.proofs.CoefLaws.{total-nil, total-cons}
use Rattle.geobucket.proofs.EventLaws.{total-append}
use Rattle.division.specs.Choice.{Fit, Choice}
use Rattle.division.specs.Operations.{Operations}
use Rattle.division.specs.Divisors.{Valid, AllOf}
use Rattle.division.specs.Combination.{AllByDivisors, combined, Combination}
use Rattle.division.proofs.TailLaws.{DividedStep}
use Rattle.division.proofs.FitLaws.{numbered-among, choice-sound}

-- ---- two multiples whose factors make 0
module _ (p : ℕ) where
  opposite : (c d k : ℕ) → (c + d) % p ≡ 0 → (c * k % p + d * k % p) % p ≡ 0
  opposite c d k h =
      mod-add-mod (c * k) p (d * k % p)
      ∙ (add-mod-mod (c * k) (d * k) p
      ∙ (ap (λ (n : ℕ). n % p) (sym (add-mul c d k))
      ∙ (mul-same p (c + d) 0 k (h ∙ sym (zero-mod p)) ∙ (ap (λ (n : ℕ). n % p) (zero-mul k) ∙ zero-mod p))))

  here-opposite : (o : Ordering) (a b : ℕ) → (a + b) % p ≡ 0 → (here o a + here o b) % p ≡ 0
  here-opposite Ordering.lt a b h = zero-mod p
  here-opposite Ordering.eq a b h = h
  here-opposite Ordering.gt a b h = zero-mod p

  pub both_zero : (a b : ℕ) → a % p ≡ 0 → b % p ≡ 0 → (a + b) % p ≡ 0
  both_zero a b h k = add-both p a 0 b 0 (h ∙ sym (zero-mod p)) (k ∙ sym (zero-mod p)) ∙ zero-mod p

  module _ {A : Type 0} (cmp : A → A → Ordering) (◌·◌ : A → A → A) (m q : A) where
    total-opposite : (c d : ℕ) → (c + d) % p ≡ 0 → (f : List (Term A)) → (total cmp m (multiple ◌·◌ p c q f) + total cmp m (multiple ◌·◌ p d q f)) % p ≡ 0
    total-opposite c d h [] = ap (λ (n : ℕ). n % p) (let e : total cmp m [] + total cmp m [] ≡ 0 = omega (arith, total-nil cmp m) in e) ∙ zero-mod p
    total-opposite c d h (t ∷ ts) =
        let o = cmp (◌·◌ q t.mono) m in
        let x = here o (c * t.coef % p) in
        let y = here o (d * t.coef % p) in
        let X = total cmp m (multiple ◌·◌ p c q ts) in
        let Y = total cmp m (multiple ◌·◌ p d q ts) in
        ap (λ (n : ℕ). n % p) (let e : total cmp m (multiple ◌·◌ p c q (t ∷ ts)) + total cmp m (multiple ◌·◌ p d q (t ∷ ts)) ≡ x + y + (X + Y) = omega (arith, total-cons cmp m (term (◌·◌ q t.mono) (c * t.coef % p)) (multiple ◌·◌ p c q ts), total-cons cmp m (term (◌·◌ q t.mono) (d * t.coef % p)) (multiple ◌·◌ p d q ts)) in e)
        ∙ both_zero (x + y) (X + Y) (here-opposite o (c * t.coef % p) (d * t.coef % p) (opposite c d t.coef h)) (total-opposite c d h ts)

  module _ (prime : Prime p) (a b : ℕ) (small : a < p) (pos : 0 < b) (low : b < p) where
    -- "−c divided by its lead coefficient" and c divided by it
    factors : (product p (negative p a) (inverse_of p b) + product p a (inverse_of p b)) % p ≡ 0
    factors = opposite (negative p a) a (inverse_of p b) (ap (λ (n : ℕ). n % p) (let e : negative p a + a ≡ a + negative p a = omega arith in e) ∙ add-negative p (omega (arith, prime.above)) a)

    -- c divided by the lead coefficient, times that, is c
    factor-back : product p a (inverse_of p b) * b % p ≡ a
    factor-back =
        let i = inverse_of p b in
        mod-mul p (a * i) b
        ∙ (ap (λ (n : ℕ). n % p) (mul_right_comm a i b ∙ (ap (λ (n : ℕ). n * i) (mul_comm a b) ∙ sym (mul_right_comm b i a)))
        ∙ (mul-same p (b * i) 1 a (inverse-product p b prime pos low ∙ sym (mod-eq_of_lt prime.above)) ∙ (ap (λ (n : ℕ). n % p) (one-mul a) ∙ mod-eq_of_lt small)))

-- ---- on plain numbers: a is the lead's share, T that of the terms after it, C and D those of the two multiples of the tail
shares : (p a T C D H : ℕ) → H % p ≡ (T + C) % p → (C + D) % p ≡ 0 → (a + T) % p ≡ (H + (a + D)) % p
shares p a T C D H h k =
    sym (add_same p H (T + C) (a + D) h
    ∙ (ap (λ (n : ℕ). n % p) (let e : T + C + (a + D) ≡ a + T + (C + D) = omega arith in e)
    ∙ (add-both p (a + T) (a + T) (C + D) 0 refl (k ∙ sym (zero-mod p)) ∙ ap (λ (n : ℕ). n % p) (let e : a + T + 0 ≡ a + T = omega arith in e))))

module _ {A : Type 0} (cmp : A → A → Ordering) (◌·◌ : A → A → A) (Is : A → Type 0) (p : ℕ) (gs : List (List (Term A))) where
  -- a polynomial is itself, however its terms stand
  pub combination-same : (f r : List (Term A)) → Same cmp p f r → Combination cmp ◌·◌ Is p gs f r
  unfolding AllByDivisors combined
  combination-same f r e = record { multipliers = []; by-divisors = tt; same = λ m. e m ∙ ap (coef_at cmp p m) (sym (append-nil r)) }

  pub combination-none : (f : List (Term A)) → Combination cmp ◌·◌ Is p gs f f
  combination-none f = combination-same f f (λ m. refl)

  -- a term on both sides
  pub combination-kept : (t : Term A) (f r : List (Term A)) → Combination cmp ◌·◌ Is p gs f r → Combination cmp ◌·◌ Is p gs (t ∷ f) (t ∷ r)
  combination-kept t f r c = record {
    multipliers = c.multipliers;
    by-divisors = c.by-divisors;
    same = λ m.
        let s = here (cmp t.mono m) t.coef in
        let ms = combined ◌·◌ p c.multipliers in
        ap (λ (n : ℕ). n % p) (total-cons cmp m t f) ∙ (add-both p s s (total cmp m f) (total cmp m (r ++ ms)) refl (c.same m) ∙ ap (λ (n : ℕ). n % p) (sym (total-cons cmp m t (r ++ ms))));
  }

  module _ (divides : A → A → Bool) (quotient : A → A → A) (too_large : A → A → Bool) (ops : Operations A cmp divides quotient ◌·◌ too_large Is) (prime : Prime p) (divisors : AllOf (Valid cmp p Is) gs) (choose : A → Fit A) (choice : Choice divides gs choose) where
    module _ (t : Term A) (ts : List (Term A)) (g : Term A) (tail h : List (Term A)) (s : DividedStep cmp choose quotient ◌·◌ too_large Is p t ts g tail h) where
      q : A
      q = quotient t.mono g.mono

      c : ℕ
      c = product p (negative p t.coef) (inverse_of p g.coef)

      d : ℕ
      d = product p t.coef (inverse_of p g.coef)

      said : Valid cmp p Is (g ∷ tail) × (divides g.mono t.mono ≡ true)
      said = choice-sound cmp p Is divides gs divisors choose choice t.mono s.number g tail s.fit

      -- the multiple of the whole divisor begins with the lead
      lead-share : (m : A) → here (cmp (◌·◌ q g.mono) m) (d * g.coef % p) ≡ here (cmp t.mono m) t.coef
      unfolding q d
      lead-share m = ap₂ (λ (k : A) (n : ℕ). here (cmp k m) n) (ops.back t.mono g.mono s.is said.0.are.0 said.1) (factor-back p prime t.coef g.coef s.small said.0.canonical.reduced.0.0 said.0.canonical.reduced.0.1)

      -- what the step takes off is that multiple
      taken-off : (m : A) → coef_at cmp p m (t ∷ ts) ≡ (total cmp m h + total cmp m (multiple ◌·◌ p d q (g ∷ tail))) % p
      unfolding q d c
      taken-off m =
          let a = here (cmp t.mono m) t.coef in
          ap (λ (n : ℕ). n % p) (total-cons cmp m t ts)
          ∙ (shares p a (total cmp m ts) (total cmp m (multiple ◌·◌ p c q tail)) (total cmp m (multiple ◌·◌ p d q tail)) (total cmp m h) (s.sum.coefficients m) (total-opposite p cmp ◌·◌ m q c d (factors p prime t.coef g.coef s.small said.0.canonical.reduced.0.0 said.0.canonical.reduced.0.1) tail)
          ∙ ap (λ (n : ℕ). (total cmp m h + n) % p) (let e : a + total cmp m (multiple ◌·◌ p d q tail) ≡ total cmp m (multiple ◌·◌ p d q (g ∷ tail)) = omega (arith, total-cons cmp m (term (◌·◌ q g.mono) (d * g.coef % p)) (multiple ◌·◌ p d q tail), lead-share m) in e))

      pub combination-divided : (r : List (Term A)) → Combination cmp ◌·◌ Is p gs h r → Combination cmp ◌·◌ Is p gs (t ∷ ts) r
      unfolding AllByDivisors combined q
      combination-divided r k = record {
        multipliers = record { by = term q d; of = g ∷ tail } ∷ k.multipliers;
        by-divisors = ((ops.quotient_is t.mono g.mono s.is said.0.are.0 said.1, numbered-among s.number (g ∷ tail) 1 gs (choice.taken t.mono s.number g tail s.fit).0), k.by-divisors);
        same = λ m.
            let M = multiple ◌·◌ p d q (g ∷ tail) in
            let ms = combined ◌·◌ p k.multipliers in
            taken-off m
            ∙ (add_same p (total cmp m h) (total cmp m (r ++ ms)) (total cmp m M) (k.same m)
            ∙ ap (λ (n : ℕ). n % p) (let e : total cmp m (r ++ ms) + total cmp m M ≡ total cmp m (r ++ (M ++ ms)) = omega (arith, total-append cmp m r ms, total-append cmp m r (M ++ ms), total-append cmp m M ms) in e));
      }
