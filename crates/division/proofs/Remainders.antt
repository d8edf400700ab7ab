-- What a change of the polynomial does to its remainder, for any choice of a divisor by the lead monomial: the remainder of a sum is the sum of the remainders, an edit moves it by the edited term's own remainder, scaled, and never above the edited monomial. Assumes nothing.
use mathlib.Core.Path.{◌≡◌, refl, sym, ap, ◌∙◌}
use mathlib.Core.Bool.{Bool, false}
use mathlib.Core.List.{List, [], ◌∷◌}
use Prim.Native.Nat.{ℕ, ◌+◌, ◌*◌, ◌%◌, ◌<◌, Ordering}
use native.Mathlib.Nat.{mod-add-mod, zero-mod, mul-zero, mul-one}
use native.Mathlib.Omega.{arith}
use Rattle.residue.specs.Prime.{Prime}
use Rattle.residue.proofs.Remainder.{add-both}
use Rattle.monomial.specs.TotalOrder.{TotalOrder}
use Rattle.polynomial.specs.Terms.{Term, term, here, total, coef_at, Canonical}
use Rattle.polynomial.proofs.CoefLaws.{total-nil, total-cons, canonical-unique}
use Rattle.division.specs.Choice.{Fit, Choice}
use Rattle.division.specs.Division.{SumOf, Division}
use Rattle.division.specs.Operations.{Operations}
use Rattle.division.specs.Divisors.{Valid, AllOf}
use Rattle.division.proofs.Combining.{both_zero}
use Rattle.division.proofs.AnyDivision.{division-canonical}
use Rattle.division.specs.Rewriting.{Rewrites, Irreducible, share_of, Divided}
use Rattle.division.specs.Edits.{Edited, SameAbove, scaled}
use Rattle.division.proofs.Scaling.{plain, mul_left, total-scaled, scaled-canonical}
use Rattle.division.proofs.RewritingLaws.{rewrites-add, rewrites-scaled, rewrites-agree}
use Rattle.division.proofs.Rewriting.{RewritesTo, share-below, division-free, division-rewrites}

-- ---- an edit, by the coefficients
module _ {A : Type 0} (cmp : A → A → Ordering) (O : TotalOrder A cmp) (p : ℕ) (α : A) (δ : ℕ) (f g : List (Term A)) (e : Edited cmp p α δ f g) where
  other : (m : A) (o : Ordering) → cmp m α ≡ o → (◌≡◌ {A = Ordering} o Ordering.eq → ⊥) → coef_at cmp p m g ≡ coef_at cmp p m f
  other m o h n = e.elsewhere m (λ q. n (sym h ∙ (ap (λ (x : A). cmp x α) q ∙ O.like α)))

  -- it changes nothing above the monomial
  pub edited-above : SameAbove cmp p α f g
  edited-above m h = sym (other m Ordering.gt h (λ q. let z : ◌≡◌ {A = ℕ} 0 1 = cc in let r : ⊥ = omega arith in r))

  -- it adds δ times the monomial
  pub edited-adds : (m : A) → coef_at cmp p m g ≡ (total cmp m f + δ * total cmp m (term α 1 ∷ [])) % p
  edited-adds m = by (cmp α m) refl
    where
      one : total cmp m (term α 1 ∷ []) ≡ here (cmp α m) 1
      one = omega (arith, total-cons cmp m (term α 1) [], total-nil cmp m)

      apart : here (cmp α m) 1 ≡ 0 → (m ≡ α → ⊥) → coef_at cmp p m g ≡ (total cmp m f + δ * total cmp m (term α 1 ∷ [])) % p
      apart z n = e.elsewhere m n ∙ plain p (let q : total cmp m f ≡ total cmp m f + δ * total cmp m (term α 1 ∷ []) = omega (arith, ap (λ (k : ℕ). δ * k) (one ∙ z), mul-zero δ) in q)

      differ : (o : Ordering) → cmp α m ≡ o → (◌≡◌ {A = Ordering} o Ordering.eq → ⊥) → m ≡ α → ⊥
      differ o h n q = n (sym h ∙ (ap (cmp α) q ∙ O.like α))

      by : (o : Ordering) → cmp α m ≡ o → coef_at cmp p m g ≡ (total cmp m f + δ * total cmp m (term α 1 ∷ [])) % p
      by Ordering.lt h = apart (ap (λ (o : Ordering). here o 1) h) (differ Ordering.lt h (λ q. let z : ◌≡◌ {A = ℕ} 0 1 = cc in let r : ⊥ = omega arith in r))
      by Ordering.eq h =
          let q = O.same α m h in
          ap (λ (x : A). coef_at cmp p x g) (sym q)
          ∙ (e.there
          ∙ (mod-add-mod (total cmp α f) p δ
          ∙ (plain p (ap (λ (x : A). total cmp x f + δ) q)
          ∙ plain p (let w : total cmp m f + δ ≡ total cmp m f + δ * total cmp m (term α 1 ∷ []) = omega (arith, ap (λ (k : ℕ). δ * k) (one ∙ ap (λ (o : Ordering). here o 1) h), mul-one δ) in w))))
      by Ordering.gt h = apart (ap (λ (o : Ordering). here o 1) h) (differ Ordering.gt h (λ q. let z : ◌≡◌ {A = ℕ} 0 1 = cc in let r : ⊥ = omega arith in r))

-- ---- divisions under operations that always fit
module _ {A : Type 0} (cmp : A → A → Ordering) (choose : A → Fit A) (quotient ◌·◌ : A → A → A) (p : ℕ) (divides : A → A → Bool) (gs : List (List (Term A))) (choice : Choice divides gs choose) (O : TotalOrder A cmp) (Is : A → Type 0) (ops : Operations A cmp divides quotient ◌·◌ (λ a b. false) Is) (prime : Prime p) (divisors : AllOf (Valid cmp p Is) gs) where
  -- f is divided, in some number of steps, and leaves r
  pub record Leaves (f r : List (Term A)) : Type 0 where
    pub valid : Valid cmp p Is f
    pub steps : ℕ
    pub division : Division cmp choose quotient ◌·◌ p steps f r

  pos : 0 < p
  pos = omega (arith, prime.above)

  module _ {f r : List (Term A)} (a : Leaves f r) where
    rewritten : RewritesTo cmp choose quotient ◌·◌ p Is f r
    rewritten = division-rewrites cmp choose quotient ◌·◌ p divides gs choice O Is ops prime divisors a.steps f r a.valid a.division

    free : (α : A) → Divided Is choose α → total cmp α r % p ≡ 0
    free = division-free cmp choose quotient ◌·◌ p O Is a.steps f r a.division

    canonical : Canonical cmp p r
    canonical = division-canonical cmp choose quotient ◌·◌ p divides gs choice O Is ops prime divisors a.steps f r a.valid a.division

  abbrev To : (f r : A → ℕ) → Type 0
  To f r = Rewrites cmp p (Divided Is choose) (share_of cmp quotient ◌·◌ p choose) f r

  -- where two polynomials agree at the upper monomials, so do their remainders
  agree : (Upper : A → Type 0) → ((a b : A) → cmp a b ≡ Ordering.gt → Upper b → Upper a) → (f g r s : A → ℕ) → Irreducible p (Divided Is choose) r → Irreducible p (Divided Is choose) s → To f r → To g s → ((m : A) → Upper m → f m % p ≡ g m % p) → (m : A) → Upper m → r m % p ≡ s m % p
  agree Upper upward f g r s = rewrites-agree cmp O p prime (Divided Is choose) (share_of cmp quotient ◌·◌ p choose) (share-below cmp choose quotient ◌·◌ p divides gs choice O Is ops prime divisors) Upper upward f g r s

  -- and where they agree everywhere
  agree-all : (f g r s : A → ℕ) → Irreducible p (Divided Is choose) r → Irreducible p (Divided Is choose) s → To f r → To g s → ((m : A) → f m % p ≡ g m % p) → (m : A) → r m % p ≡ s m % p
  agree-all f g r s x y a b h m = agree (λ x. Unit {0}) (λ x y k u. tt) f g r s x y a b (λ x u. h x) m tt

  times_zero : (c a : ℕ) → a % p ≡ 0 → c * a % p ≡ 0
  times_zero c a h = mul_left p c a 0 (h ∙ sym (zero-mod p)) ∙ (plain p (mul-zero c) ∙ zero-mod p)

  -- "the remainder of f + g is the remainder of f plus that of g"
  pub remainders-add : {f g h r s q : List (Term A)} → Leaves f r → Leaves g s → Leaves h q → ((m : A) → coef_at cmp p m h ≡ (total cmp m f + total cmp m g) % p) → SumOf cmp p r s q
  remainders-add {f} {g} {h} {r} {s} {q} a b c sum = record {
    canonical = canonical c;
    coefficients = λ m.
        agree-all (λ x. total cmp x h) (λ x. total cmp x f + total cmp x g) (λ x. total cmp x q) (λ x. total cmp x r + total cmp x s)
        (free c) (λ α d. both_zero p (total cmp α r) (total cmp α s) (free a α d) (free b α d))
        (rewritten c) (rewrites-add cmp O p prime (Divided Is choose) (share_of cmp quotient ◌·◌ p choose) (rewritten a) (rewritten b))
        sum m;
  }

  -- the remainder of c times f is c times that of f
  pub remainder-scaled : (c : ℕ) → 0 < c → c < p → {f g r s : List (Term A)} → Leaves f r → Leaves g s → ((m : A) → coef_at cmp p m g ≡ c * total cmp m f % p) → s ≡ scaled p c r
  remainder-scaled c some small {f} {g} {r} {s} a b times =
      canonical-unique cmp O p pos s (scaled p c r) (canonical b) (scaled-canonical cmp p prime c some small r (canonical a))
      (λ m.
      agree-all (λ x. total cmp x g) (λ x. c * total cmp x f) (λ x. total cmp x s) (λ x. c * total cmp x r)
      (free b) (λ α d. times_zero c (total cmp α r) (free a α d))
      (rewritten b) (rewrites-scaled cmp O p prime (Divided Is choose) (share_of cmp quotient ◌·◌ p choose) c some small (rewritten a))
      times m
      ∙ sym (total-scaled cmp p m c r))

  -- "an edit at one monomial moves the remainder by that term's own remainder, scaled"
  pub edit-moves : {f g r s own : List (Term A)} (α : A) (δ : ℕ) → Leaves f r → Leaves g s → Leaves (term α 1 ∷ []) own → Edited cmp p α δ f g → SumOf cmp p r (scaled p δ own) s
  edit-moves {f} {g} {r} {s} {own} α δ a b t e = record {
    canonical = canonical b;
    coefficients = λ m.
        agree-all (λ x. total cmp x g) (λ x. total cmp x f + δ * total cmp x (term α 1 ∷ [])) (λ x. total cmp x s) (λ x. total cmp x r + δ * total cmp x own)
        (free b) (λ β d. both_zero p (total cmp β r) (δ * total cmp β own) (free a β d) (times_zero δ (total cmp β own) (free t β d)))
        (rewritten b) (rewrites-add cmp O p prime (Divided Is choose) (share_of cmp quotient ◌·◌ p choose) (rewritten a) (rewrites-scaled cmp O p prime (Divided Is choose) (share_of cmp quotient ◌·◌ p choose) δ e.some e.small (rewritten t)))
        (edited-adds cmp O p α δ f g e) m
        ∙ add-both p (total cmp m r) (total cmp m r) (δ * total cmp m own) (total cmp m (scaled p δ own)) refl (sym (total-scaled cmp p m δ own));
  }

  -- from zero it moves to that alone
  pub edit-of-zero : {f g s own : List (Term A)} (α : A) (δ : ℕ) → Leaves f [] → Leaves g s → Leaves (term α 1 ∷ []) own → Edited cmp p α δ f g → s ≡ scaled p δ own
  edit-of-zero {s = s} {own = own} α δ a b t e =
      canonical-unique cmp O p pos s (scaled p δ own) (canonical b) (scaled-canonical cmp p prime δ e.some e.small own (canonical t))
      (λ m. (edit-moves α δ a b t e).coefficients m ∙ plain p (let z : total cmp m [] + total cmp m (scaled p δ own) ≡ total cmp m (scaled p δ own) = omega (arith, total-nil cmp m) in z))

  -- "never at a monomial above the edited one": where two polynomials agree above α, so do their remainders
  pub edit-below : {f g r s : List (Term A)} (α : A) → Leaves f r → Leaves g s → SameAbove cmp p α f g → SameAbove cmp p α r s
  edit-below {f} {g} {r} {s} α a b above =
      agree (λ x. cmp x α ≡ Ordering.gt) (λ x y k u. O.falls x y α k u) (λ x. total cmp x f) (λ x. total cmp x g) (λ x. total cmp x r) (λ x. total cmp x s)
      (free a) (free b) (rewritten a) (rewritten b) above
