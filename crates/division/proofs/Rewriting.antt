-- A finished division is a rewriting: the leads that it divides are taken off, and what they are replaced by is put there. For any choice of a divisor by the lead monomial. Assumes nothing.
use mathlib.Core.Path.{◌≡◌, refl, sym, ap, ◌∙◌, subst}
use mathlib.Core.Bool.{Bool, false}
use mathlib.Core.List.{List, [], ◌∷◌}
use mathlib.Core.Logic.{⊎_elim}
use Prim.Native.Nat.{ℕ, ◌+◌, ◌*◌, ◌%◌, ◌<◌, Ordering}
use native.Mathlib.Nat.{zero-mod}
use native.Mathlib.Omega.{arith}
use Rattle.residue.specs.Prime.{Prime}
use Rattle.residue.specs.Modular.{inverse_of}
use Rattle.residue.proofs.Remainder.{add-both}
use Rattle.monomial.specs.TotalOrder.{TotalOrder}
use Rattle.polynomial.specs.Terms.{Term, term, here, Under, total}
use Rattle.polynomial.proofs.MergeLaws.{Stands, less, same, more, stands, turned-gt, under_more}
use Rattle.polynomial.proofs.CoefLaws.{total-nil, total-cons, total-under}
use Rattle.division.specs.Choice.{Fit, unfit, fits, Choice}
use Rattle.division.specs.Division.{tail_multiple, Division}
use Rattle.division.specs.Operations.{Operations}
use Rattle.division.specs.Divisors.{Valid, AllOf}
use Rattle.division.proofs.TailLaws.{DividedStep}
use Rattle.division.proofs.RenamedEndings.{like-or-none}
use Rattle.division.proofs.AnyDivision.{division-unfit, division-along, tail-adds}
use Rattle.division.specs.Rewriting.{moved, Rewrites, share_by, share_of, Divided}
use Rattle.division.proofs.Scaling.{plain, factor-scales, total-times}
use Rattle.division.proofs.Moving.{moved-nil, moved-cons}

module _ {A : Type 0} (cmp : A → A → Ordering) (choose : A → Fit A) (quotient ◌·◌ : A → A → A) (p : ℕ) where
  -- what a division says of a polynomial and its remainder
  abbrev pub RewritesTo : (Is : A → Type 0) → (f r : List (Term A)) → Type 0
  RewritesTo Is f r = Rewrites cmp p (Divided Is choose) (share_of cmp quotient ◌·◌ p choose) (λ m. total cmp m f) (λ m. total cmp m r)

  abbrev share : A → A → ℕ
  share = share_of cmp quotient ◌·◌ p choose

  -- what c·α is replaced by is c times what 1·α is replaced by
  tail-share : 0 < p → (t : Term A) (j : ℕ) (g : Term A) (tail : List (Term A)) → choose t.mono ≡ fits j g tail → (m : A) → total cmp m (tail_multiple quotient ◌·◌ p t g tail) % p ≡ t.coef * share t.mono m % p
  tail-share pos t j g tail e m =
      total-times cmp p ◌·◌ m (quotient t.mono g.mono) _ t.coef _ (factor-scales p pos t.coef (inverse_of p g.coef)) tail
      ∙ ap (λ (x : Fit A). t.coef * share_by cmp quotient ◌·◌ p x t.mono m % p) (sym e)

  fits_not : (j : ℕ) (g : Term A) (tail : List (Term A)) → ◌≡◌ {A = Fit A} (fits j g tail) unfit → ⊥
  fits_not j g tail e = let z : ◌≡◌ {A = ℕ} 1 0 = ap one e in omega arith
    where
      one : Fit A → ℕ
      one unfit = 0
      one (fits k h s) = 1

  -- no divided monomial has a coefficient in a remainder
  pub division-free : (O : TotalOrder A cmp) (Is : A → Type 0) (n : ℕ) (f r : List (Term A)) → Division cmp choose quotient ◌·◌ p n f r → (α : A) → Divided Is choose α → total cmp α r % p ≡ 0
  division-free O Is n f r d α a =
      ⊎_elim
      (λ (u, e, q). absurd (fits_not a.number a.lead a.tail (sym a.taken ∙ (ap choose (sym (O.same u α q)) ∙ e))))
      (λ z. plain p z ∙ zero-mod p)
      (like-or-none cmp (λ u. choose u ≡ unfit) α r (division-unfit cmp choose quotient ◌·◌ p n f r d))

  module _ (divides : A → A → Bool) (gs : List (List (Term A))) (choice : Choice divides gs choose) (O : TotalOrder A cmp) (Is : A → Type 0) (ops : Operations A cmp divides quotient ◌·◌ (λ a b. false) Is) (prime : Prime p) (divisors : AllOf (Valid cmp p Is) gs) where
    pos : 0 < p
    pos = omega (arith, prime.above)

    -- what 1·α is replaced by is below α
    pub share-below : (α m : A) → Divided Is choose α → (cmp α m ≡ Ordering.gt → ⊥) → share_of cmp quotient ◌·◌ p choose α m ≡ 0
    share-below α m a n = ap (λ (x : Fit A). share_by cmp quotient ◌·◌ p x α m) a.taken ∙ by (stands cmp m α)
      where
        rule : List (Term A)
        rule = tail_multiple quotient ◌·◌ p (term α 1) a.lead a.tail

        under : Under cmp α rule
        under = (tail-adds cmp choose quotient ◌·◌ p divides gs choice O Is ops prime divisors (term α 1) a.lead a.tail a.number a.is (omega arith) prime.above a.taken).under

        by : Stands cmp m α → total cmp m rule ≡ 0
        by (less h) = absurd (n (turned-gt cmp O m α h))
        by (same h) = total-under cmp O m rule (subst (λ (x : A). Under cmp x rule) (sym (O.same m α h)) under)
        by (more h) = total-under cmp O m rule (under_more cmp O m α h rule under)

    -- the terms taken off are below what the polynomial is below
    abbrev Taken : (f r : List (Term A)) → Type 0
    Taken f r = (a : RewritesTo Is f r) × ((m : A) → Under cmp m f → Under cmp m a.terms)

    nothing : Taken [] []
    nothing = (record { terms = []; canonical = record { falling = tt; reduced = tt }; divided = tt; sums = λ m. plain p (omega (arith, moved-nil share m, total-nil cmp m)) }, λ m u. tt)

    -- a term on both sides
    kept : (t : Term A) (ts s : List (Term A)) → Taken ts s → Taken (t ∷ ts) (t ∷ s)
    kept t ts s (a, low) = (
      record {
        terms = a.terms;
        canonical = a.canonical;
        divided = a.divided;
        sums = λ m.
            let c = here (cmp t.mono m) t.coef in
            let M = moved share m a.terms in
            let C = total cmp m a.terms in
            plain p (let e : total cmp m (t ∷ ts) + M ≡ c + (total cmp m ts + M) = omega (arith, total-cons cmp m t ts) in e)
            ∙ (add-both p c c (total cmp m ts + M) (total cmp m s + C) refl (a.sums m) ∙ plain p (let e : c + (total cmp m s + C) ≡ total cmp m (t ∷ s) + C = omega (arith, total-cons cmp m t s) in e));
      },
      λ m u. low m u.1,
    )

    -- a lead that is divided is taken off
    divided-lead : (t : Term A) (ts : List (Term A)) (g : Term A) (tail h r : List (Term A)) → DividedStep cmp choose quotient ◌·◌ (λ a b. false) Is p t ts g tail h → Under cmp t.mono h → Taken h r → Taken (t ∷ ts) r
    divided-lead t ts g tail h r d u (a, low) = (
      record {
        terms = t ∷ a.terms;
        canonical = record { falling = (low t.mono u, a.canonical.falling); reduced = ((d.not-zero, d.small), a.canonical.reduced) };
        divided = (record { is = d.is; number = d.number; lead = g; tail = tail; taken = d.fit }, a.divided);
        sums = λ m.
            let c = here (cmp t.mono m) t.coef in
            let T = total cmp m ts in
            let S = t.coef * share t.mono m in
            let M = moved share m a.terms in
            let C = total cmp m a.terms in
            let H = total cmp m h in
            let R = total cmp m r in
            let L = total cmp m (tail_multiple quotient ◌·◌ p t g tail) in
            plain p (let e : total cmp m (t ∷ ts) + moved share m (t ∷ a.terms) ≡ c + M + (T + S) = omega (arith, total-cons cmp m t ts, moved-cons share m t a.terms) in e)
            ∙ (add-both p (c + M) (c + M) (T + S) H refl (add-both p T T S L refl (sym (tail-share pos t d.number g tail d.fit m)) ∙ sym (d.sum.coefficients m))
            ∙ (plain p (let e : c + M + H ≡ c + (H + M) = omega arith in e)
            ∙ (add-both p c c (H + M) (R + C) refl (a.sums m)
            ∙ plain p (let e : c + (R + C) ≡ R + total cmp m (t ∷ a.terms) = omega (arith, total-cons cmp m t a.terms) in e))));
      },
      λ m w. (w.0, under_more cmp O m t.mono w.0 a.terms (low t.mono u)),
    )

    pub division-rewrites : (n : ℕ) (f r : List (Term A)) → Valid cmp p Is f → Division cmp choose quotient ◌·◌ p n f r → RewritesTo Is f r
    division-rewrites n f r v d = (division-along cmp choose quotient ◌·◌ p divides gs choice O Is ops prime divisors Taken nothing (λ t ts s v a. kept t ts s a) divided-lead n f r v d).0
