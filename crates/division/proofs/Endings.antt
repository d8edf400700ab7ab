-- Demand 1 for reductions: every reduction ends, finished or with the refusal whose condition holds, and no two conditions hold at once. Assumes nothing.
use mathlib.Core.Path.{◌≡◌, refl, sym, ap, ap₂, ◌∙◌, subst}
use mathlib.Core.Bool.{Bool, true, false}
use mathlib.Core.List.{List, []}
use Prim.Native.Nat.{ℕ, ◌+◌, ◌<◌, ◌≤◌, Ordering}
use native.Mathlib.Decide.{dec_le}
use native.Mathlib.Omega.{arith}
use borrow.Author.Tests.{le-leb, lt-leb}
use lib.ListN.{length}
use Rattle.limits.specs.Limits.{most_terms}
use Rattle.residue.specs.Prime.{Prime}
use Rattle.monomial.specs.TotalOrder.{TotalOrder}
use Rattle.polynomial.specs.Terms.{Term, term}
use Rattle.polynomial.proofs.MergeLaws.{Stands, less, same, more, stands, turned-gt}
use Rattle.geobucket.specs.Buckets.{held}
use Rattle.geobucket.specs.Events.{Work, start, added}
use Rattle.geobucket.specs.TrueSum.{sum_at, IsZero, IsLead, Right}
use Rattle.geobucket.specs.Buckets.{Canon}
use Rattle.geobucket.proofs.EventLaws.{good-canon}
use Rattle.geobucket.proofs.LeadLaws.{lead-right}
use Rattle.division.specs.Choice.{Fit, unfit, fits}
use Rattle.division.specs.Steps.{Reduction, any_too_large, steps_from, reduction}
use Rattle.division.specs.Operations.{Operations}
use Rattle.division.specs.Divisors.{Valid}
use Rattle.division.specs.Ending.{Stopping, finished, at-limit, over, too_many, no_place, Ending, first-too-many, by-steps}
use Rattle.division.proofs.FitLaws.{Sound}
use Rattle.division.proofs.StateLaws.{State, start-state}
use Rattle.division.proofs.StepsAlong.{steps-along}
use Rattle.division.proofs.WholeLaws.{left-sum, left-none, left-lead, left-held}

-- ---- a reduction begins with polynomial 0, or refuses it
module _ {A : Type 0} (cmp : A → A → Ordering) (choose : A → Fit A) (quotient ◌·◌ : A → A → A) (too_large : A → A → Bool) (p places limit : ℕ) (f : List (Term A)) where
  abbrev pub refused : Reduction A
  refused = record { stop = 11; leads = 0; remainder = []; work = start }

  pub begins : length f ≤ most_terms → reduction cmp choose quotient ◌·◌ too_large p places limit f ≡ steps_from cmp choose quotient ◌·◌ too_large p places limit 0 [] (added cmp p f start)
  unfolding reduction
  begins h = rw (le-leb (length f) most_terms h, reduction)

  pub begins-not : most_terms < length f → reduction cmp choose quotient ◌·◌ too_large p places limit f ≡ record { stop = 11; leads = 0; remainder = []; work = start }
  unfolding reduction
  begins-not h = rw (lt-leb (length f) most_terms h, reduction)

  pub by_first : (P : Reduction A → Type 0) → (most_terms < length f → P (record { stop = 11; leads = 0; remainder = []; work = start })) → (length f ≤ most_terms → P (steps_from cmp choose quotient ◌·◌ too_large p places limit 0 [] (added cmp p f start))) → P (reduction cmp choose quotient ◌·◌ too_large p places limit f)
  by_first P many few = go (dec_le (length f) most_terms)
    where
      go : Dec (length f ≤ most_terms) → P (reduction cmp choose quotient ◌·◌ too_large p places limit f)
      go (yes h) = subst P (sym (begins h)) (few h)
      go (no h) = let k : most_terms < length f = omega arith in subst P (sym (begins-not k)) (many k)

module _ {A : Type 0} (cmp : A → A → Ordering) (O : TotalOrder A cmp) (divides : A → A → Bool) (quotient ◌·◌ : A → A → A) (too_large : A → A → Bool) (Is : A → Type 0) (ops : Operations A cmp divides quotient ◌·◌ too_large Is) (p : ℕ) (prime : Prime p) (choose : A → Fit A) (sound : Sound cmp p Is divides choose) (places limit : ℕ) where
  pos : 0 < p
  pos = omega (arith, prime.above)

  canon-of : {leads : ℕ} {r : List (Term A)} {w : Work A} → State cmp p Is choose places leads r w → Canon cmp p w.buckets
  canon-of {w = w} s = good-canon cmp p 4 w.buckets s.holds.good

  abbrev Stops : Reduction A → Type 0
  Stops x = Stopping cmp choose quotient too_large p places limit x.stop x.leads x.remainder x.work.buckets

  -- the steps end as the definition says
  steps-stop : (more leads : ℕ) (r : List (Term A)) (w : Work A) → State cmp p Is choose places leads r w → leads + more ≡ limit → Stops (steps_from cmp choose quotient ◌·◌ too_large p places more leads r w)
  steps-stop =
      steps-along cmp O divides quotient ◌·◌ too_large Is ops p prime choose sound places (λ more leads r w x. leads + more ≡ limit → Stops x)
      (λ more leads r w s e l.
      let z : IsZero cmp p w.buckets = subst (Right cmp p w.buckets) e (lead-right cmp p O pos w.buckets (canon-of s)) in
      finished refl (omega arith) (record { zero-at = λ m. left-sum cmp p O pos w.buckets (canon-of s) m ∙ z.zero-at m }) (left-none cmp p O pos w.buckets (canon-of s) e))
      (λ leads r w at t s e l. at-limit t refl (omega arith) (left-lead cmp p O pos w.buckets (canon-of s) at t e))
      (λ more leads r w at t s e u h l. no_place t refl (omega arith) (left-lead cmp p O pos w.buckets (canon-of s) at t e) u (omega arith))
      (λ more leads r w at t x s e u k l. k (omega arith))
      (λ more leads r w at t j g tail s e u b l. over t j g tail refl (omega arith) (left-lead cmp p O pos w.buckets (canon-of s) at t e) u b)
      (λ more leads r w at t j g tail s e u b h l. too_many t j g tail refl (omega arith) (left-lead cmp p O pos w.buckets (canon-of s) at t e) u b (omega (arith, left-held cmp p O pos w.buckets (canon-of s) at t e)))
      (λ more leads r w at t j g tail x s e u b h k l. k (omega arith))

  -- every reduction ends with the refusal whose condition holds
  pub ending : (f : List (Term A)) → Valid cmp p Is f → let x = reduction cmp choose quotient ◌·◌ too_large p places limit f in Ending cmp choose quotient too_large p places limit x.stop x.leads f x.remainder x.work.buckets
  unfolding held
  ending f v =
      by_first cmp choose quotient ◌·◌ too_large p places limit f (λ x. Ending cmp choose quotient too_large p places limit x.stop x.leads f x.remainder x.work.buckets)
      (λ h. first-too-many refl h refl refl refl)
      (λ h. by-steps h (steps-stop limit 0 [] (added cmp p f start) (start-state cmp O divides quotient ◌·◌ too_large Is ops p prime choose sound places f v.canonical v.are h) (omega arith)))

-- ---- and no other condition holds
module _ {A : Type 0} (cmp : A → A → Ordering) (O : TotalOrder A cmp) (choose : A → Fit A) (quotient : A → A → A) (too_large : A → A → Bool) (p places limit : ℕ) where
  lead-once : (bs : List (List (Term A))) (t u : Term A) → IsLead cmp p bs t → IsLead cmp p bs u → t ≡ u
  lead-once bs t u a b = go (stands cmp t.mono u.mono)
    where
      go : Stands cmp t.mono u.mono → t ≡ u
      go (less h) = absurd (let z : ⊥ = omega (arith, a.largest u.mono (turned-gt cmp O t.mono u.mono h), b.coef-is, b.not-zero) in z)
      go (same h) = let e = O.same t.mono u.mono h in ap₂ term e (sym a.coef-is ∙ (ap (λ (m : A). sum_at cmp p bs m) e ∙ b.coef-is))
      go (more h) = absurd (let z : ⊥ = omega (arith, b.largest t.mono h, a.coef-is, a.not-zero) in z)

  zero-no-lead : (bs : List (List (Term A))) (t : Term A) → IsZero cmp p bs → IsLead cmp p bs t → ⊥
  zero-no-lead bs t z a = omega (arith, z.zero-at t.mono, a.coef-is, a.not-zero)

  -- the refusal of a step that finds the lead t and stops
  refusal_at : Term A → Fit A → ℕ
  refusal_at t unfit = 10
  refusal_at t (fits j g tail) = elim (any_too_large too_large (quotient t.mono g.mono) tail) [ true ↦ 12 | false ↦ 11 ]

  -- the three kinds of ending
  data Kind (k leads : ℕ) (bs : List (List (Term A))) : Type 0 where
    none_left : k ≡ 0 → IsZero cmp p bs → Kind k leads bs
    none_more : (t : Term A) → k ≡ 13 → leads ≡ limit → IsLead cmp p bs t → Kind k leads bs
    in_step : (t : Term A) → k ≡ refusal_at t (choose t.mono) → leads < limit → IsLead cmp p bs t → Kind k leads bs

  kind : (k leads : ℕ) (r : List (Term A)) (bs : List (List (Term A))) → Stopping cmp choose quotient too_large p places limit k leads r bs → Kind k leads bs
  unfolding refusal_at
  kind k leads r bs (finished e l z h) = none_left e z
  kind k leads r bs (at-limit t e l a) = none_more t e l a
  kind k leads r bs (over t j g tail e l a u b) = in_step t (e ∙ sym (ap (refusal_at t) u ∙ ap (λ (c : Bool). elim c [ true ↦ 12 | false ↦ 11 ]) b)) l a
  kind k leads r bs (too_many t j g tail e l a u b h) = in_step t (e ∙ sym (ap (refusal_at t) u ∙ ap (λ (c : Bool). elim c [ true ↦ 12 | false ↦ 11 ]) b)) l a
  kind k leads r bs (no_place t e l a u h) = in_step t (e ∙ sym (ap (refusal_at t) u)) l a

  one-kind : (k j leads : ℕ) (bs : List (List (Term A))) → Kind k leads bs → Kind j leads bs → k ≡ j
  one-kind k j leads bs (none_left e z) (none_left d y) = e ∙ sym d
  one-kind k j leads bs (none_left e z) (none_more u d m b) = absurd (zero-no-lead bs u z b)
  one-kind k j leads bs (none_left e z) (in_step u d m b) = absurd (zero-no-lead bs u z b)
  one-kind k j leads bs (none_more t e l a) (none_left d y) = absurd (zero-no-lead bs t y a)
  one-kind k j leads bs (none_more t e l a) (none_more u d m b) = e ∙ sym d
  one-kind k j leads bs (none_more t e l a) (in_step u d m b) = absurd (let z : ⊥ = omega arith in z)
  one-kind k j leads bs (in_step t e l a) (none_left d y) = absurd (zero-no-lead bs t y a)
  one-kind k j leads bs (in_step t e l a) (none_more u d m b) = absurd (let z : ⊥ = omega arith in z)
  one-kind k j leads bs (in_step t e l a) (in_step u d m b) = e ∙ (ap (λ (v : Term A). refusal_at v (choose v.mono)) (lead-once bs t u a b) ∙ sym d)

  -- no two refusals have their conditions met at once, so each is given exactly under its own
  pub ending-once : (k j leads : ℕ) (f r : List (Term A)) (bs : List (List (Term A))) → Ending cmp choose quotient too_large p places limit k leads f r bs → Ending cmp choose quotient too_large p places limit j leads f r bs → k ≡ j
  ending-once k j leads f r bs (first-too-many e h l q w) (first-too-many d i m s v) = e ∙ sym d
  ending-once k j leads f r bs (first-too-many e h l q w) (by-steps i b) = absurd (let z : ⊥ = omega arith in z)
  ending-once k j leads f r bs (by-steps h a) (first-too-many d i m s v) = absurd (let z : ⊥ = omega arith in z)
  ending-once k j leads f r bs (by-steps h a) (by-steps i b) = one-kind k j leads bs (kind k leads r bs a) (kind j leads r bs b)
