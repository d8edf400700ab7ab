-- A reduction follows the division algorithm: what it leaves, divided further, gives the remainder, the steps and the leads of the whole; so a finished one has all of them. Stated for any relation that a step of the algorithm keeps. Assumes nothing.
use mathlib.Core.Path.{◌≡◌, refl, sym, ap, ◌∙◌, subst}
use mathlib.Core.Bool.{Bool}
use mathlib.Core.List.{List, [], ◌∷◌, ◌++◌, append-nil, append_assoc}
use Prim.Native.Nat.{ℕ, suc, ◌+◌, ◌%◌, ◌<◌, ◌≤◌, Ordering}
use native.Mathlib.Omega.{arith}
use lib.ListN.{length}
use Rattle.limits.specs.Limits.{most_terms}
use Rattle.residue.specs.Prime.{Prime}
use Rattle.monomial.specs.TotalOrder.{TotalOrder}
use Rattle.polynomial.specs.Terms.{Term, total}
use Rattle.polynomial.proofs.CoefLaws.{total-nil, canonical-unique}
use Rattle.geobucket.specs.Buckets.{empty, held, total_in, add, full_sum, Canon}
use Rattle.geobucket.specs.Events.{Work, start, added, removed, left}
use Rattle.geobucket.proofs.AddLaws.{adds}
use Rattle.geobucket.proofs.EventLaws.{room-six, good-canon, start-holds, removed-holds}
use Rattle.geobucket.proofs.LeadLaws.{sum-right}
use Rattle.division.specs.Choice.{Fit, unfit}
use Rattle.division.specs.Division.{tail_multiple}
use Rattle.division.specs.Steps.{Reduction, steps_from, reduction}
use Rattle.division.specs.Operations.{Operations}
use Rattle.division.specs.Divisors.{Valid}
use Rattle.division.proofs.FitLaws.{Sound}
use Rattle.division.proofs.TailLaws.{DividedStep}
use Rattle.division.proofs.HeldTerms.{sum-each}
use Rattle.division.proofs.StateLaws.{State, start-state, found, removed-are, removed-given, step-adds, step-length}
use Rattle.division.proofs.StepsAlong.{steps-along}
use Rattle.division.proofs.WholeLaws.{whole-left, whole-none, whole-lead, whole-added}
use Rattle.division.proofs.Endings.{begins, by_first}

module _ {A : Type 0} (cmp : A → A → Ordering) (O : TotalOrder A cmp) (divides : A → A → Bool) (quotient ◌·◌ : A → A → A) (too_large : A → A → Bool) (Is : A → Type 0) (ops : Operations A cmp divides quotient ◌·◌ too_large Is) (p : ℕ) (prime : Prime p) (choose : A → Fit A) (sound : Sound cmp p Is divides choose) (places : ℕ) where
  pos : 0 < p
  pos = omega (arith, prime.above)

  canon-of : {leads : ℕ} {r : List (Term A)} {w : Work A} → State cmp p Is choose places leads r w → Canon cmp p w.buckets
  canon-of {w = w} s = good-canon cmp p 4 w.buckets s.holds.good

  -- a finished reduction leaves nothing
  finished-none : (more leads : ℕ) (r : List (Term A)) (w : Work A) → State cmp p Is choose places leads r w → (steps_from cmp choose quotient ◌·◌ too_large p places more leads r w).stop ≡ 0 → full_sum cmp p (steps_from cmp choose quotient ◌·◌ too_large p places more leads r w).work.buckets ≡ []
  finished-none =
      steps-along cmp O divides quotient ◌·◌ too_large Is ops p prime choose sound places (λ more leads r w x. x.stop ≡ 0 → full_sum cmp p x.work.buckets ≡ [])
      (λ more leads r w s e z. whole-left cmp p O pos w.buckets (canon-of s) ∙ whole-none cmp p O pos w.buckets (canon-of s) e)
      (λ leads r w at t s e z. absurd (let q : ⊥ = omega arith in q))
      (λ more leads r w at t s e u h z. absurd (let q : ⊥ = omega arith in q))
      (λ more leads r w at t x s e u k z. k z)
      (λ more leads r w at t j g tail s e u b z. absurd (let q : ⊥ = omega arith in q))
      (λ more leads r w at t j g tail s e u b h z. absurd (let q : ⊥ = omega arith in q))
      (λ more leads r w at t j g tail x s e u b h k z. k z)

  module _ (f : List (Term A)) (v : Valid cmp p Is f) where
    -- what the geobucket holds once polynomial 0 is added is polynomial 0
    pub whole-first : length f ≤ most_terms → full_sum cmp p (added cmp p f start).buckets ≡ f
    unfolding held total_in
    whole-first h =
        let g = (start-holds cmp p 6).good in
        let a = adds cmp p O pos f empty (omega (arith, room-six {A = A} empty refl)) v.canonical g in
        let b = sum-right cmp p O pos (add cmp p f empty) (good-canon cmp p 4 (add cmp p f empty) a.good) in
        canonical-unique cmp O p pos _ f b.0 v.canonical
        (λ m. b.1 m ∙ (a.sums m ∙ ap (λ (n : ℕ). n % p) (let e : total cmp m f + total_in cmp m empty ≡ total cmp m f = omega (arith, total-nil cmp m) in e)))

    pub begun : length f ≤ most_terms → State cmp p Is choose places 0 [] (added cmp p f start)
    begun h = start-state cmp O divides quotient ◌·◌ too_large Is ops p prime choose sound places f v.canonical v.are h

  -- a finished reduction began with polynomial 0, and leaves nothing
  pub nothing_left : (limit : ℕ) (f : List (Term A)) → Valid cmp p Is f → (reduction cmp choose quotient ◌·◌ too_large p places limit f).stop ≡ 0 → (length f ≤ most_terms) × (full_sum cmp p (reduction cmp choose quotient ◌·◌ too_large p places limit f).work.buckets ≡ [])
  nothing_left limit f v =
      by_first cmp choose quotient ◌·◌ too_large p places limit f (λ y. y.stop ≡ 0 → (length f ≤ most_terms) × (full_sum cmp p y.work.buckets ≡ []))
      (λ h z. absurd (let q : ⊥ = omega arith in q))
      (λ h z. (h, finished-none limit 0 [] (added cmp p f start) (begun f v h) z))

  -- R n f r ls: n steps divide f, leave r and remove the leads ls
  module _
      (R : (n : ℕ) → (f r ls : List (Term A)) → Type 0)
      (kept : (n : ℕ) (t : Term A) (ts s ks : List (Term A)) → Is t.mono → choose t.mono ≡ unfit → R n ts s ks → R (suc n) (t ∷ ts) (t ∷ s) (t ∷ ks))
      (divided : (n : ℕ) (t : Term A) (ts s ks : List (Term A)) (g : Term A) (tail h : List (Term A)) → DividedStep cmp choose quotient ◌·◌ too_large Is p t ts g tail h → R n h s ks → R (suc n) (t ∷ ts) s (t ∷ ks)) where
    -- What x leaves is divided in k steps, to s, removing ks. Then what w holds is divided too, in the steps that x counts and those.
    record Divided (leads : ℕ) (r : List (Term A)) (w : Work A) (x : Reduction A) (k : ℕ) (s ks : List (Term A)) : Type 0 where
      steps : ℕ
      terms : List (Term A)
      gone : List (Term A)
      steps-are : x.leads + k ≡ leads + steps
      terms-are : x.remainder ≡ r ++ terms
      gone-are : x.work.given ≡ w.given ++ gone
      related : R steps (full_sum cmp p w.buckets) (terms ++ s) (gone ++ ks)

    abbrev Follows : ℕ → (leads : ℕ) → List (Term A) → Work A → Reduction A → Type 0
    Follows more leads r w x = (k : ℕ) (s ks : List (Term A)) → R k (full_sum cmp p x.work.buckets) s ks → Divided leads r w x k s ks

    -- a step that stops leaves the sum as it is
    stopped : (refusal leads : ℕ) (r : List (Term A)) (w : Work A) → State cmp p Is choose places leads r w → Follows 0 leads r w (record { stop = refusal; leads = leads; remainder = r; work = left cmp p w })
    stopped refusal leads r w s k u us d = record {
      steps = k;
      terms = [];
      gone = [];
      steps-are = refl;
      terms-are = sym (append-nil r);
      gone-are = sym (append-nil w.given);
      related = subst (λ (f : List (Term A)). R k f u us) (whole-left cmp p O pos w.buckets (canon-of s)) d;
    }

    steps-follow : (more leads : ℕ) (r : List (Term A)) (w : Work A) → State cmp p Is choose places leads r w → Follows more leads r w (steps_from cmp choose quotient ◌·◌ too_large p places more leads r w)
    steps-follow =
        steps-along cmp O divides quotient ◌·◌ too_large Is ops p prime choose sound places Follows
        (λ more leads r w s e. stopped 0 leads r w s)
        (λ leads r w at t s e. stopped 13 leads r w s)
        (λ more leads r w at t s e u h. stopped 10 leads r w s)
        (λ more leads r w at t x s e u rest k v ks d.
        let q = rest k v ks d in
        record {
          steps = suc q.steps;
          terms = t ∷ q.terms;
          gone = t ∷ q.gone;
          steps-are = omega (arith, q.steps-are);
          terms-are = q.terms-are ∙ append_assoc r (t ∷ []) q.terms;
          gone-are = q.gone-are ∙ (ap (λ (l : List (Term A)). l ++ q.gone) (removed-given cmp O divides quotient ◌·◌ too_large Is ops p prime choose sound places s at t e) ∙ append_assoc w.given (t ∷ []) q.gone);
          related = subst (λ (f : List (Term A)). R (suc q.steps) f (t ∷ q.terms ++ v) (t ∷ q.gone ++ ks)) (sym (whole-lead cmp p O pos w.buckets (canon-of s) at t e)) (kept q.steps t _ (q.terms ++ v) (q.gone ++ ks) (found cmp O divides quotient ◌·◌ too_large Is ops p prime choose sound places s at t e).is u q.related);
        })
        (λ more leads r w at t j g tail s e u b. stopped 12 leads r w s)
        (λ more leads r w at t j g tail s e u b h. stopped 11 leads r w s)
        (λ more leads r w at t j g tail x s e u b h rest k v ks d.
        let q = rest k v ks d in
        let a = found cmp O divides quotient ◌·◌ too_large Is ops p prime choose sound places s at t e in
        let c = step-adds cmp O divides quotient ◌·◌ too_large Is ops p prime choose sound places s at t e j g tail u b in
        let l = step-length cmp O divides quotient ◌·◌ too_large Is ops p prime choose sound places s at t e j g tail u b in
        let hold = removed-holds cmp p O pos 6 (omega arith) w s.holds in
        record {
          steps = suc q.steps;
          terms = q.terms;
          gone = t ∷ q.gone;
          steps-are = omega (arith, q.steps-are);
          terms-are = q.terms-are;
          gone-are = q.gone-are ∙ (ap (λ (y : List (Term A)). y ++ q.gone) (removed-given cmp O divides quotient ◌·◌ too_large Is ops p prime choose sound places s at t e) ∙ append_assoc w.given (t ∷ []) q.gone);
          related = subst (λ (f : List (Term A)). R (suc q.steps) f (q.terms ++ v) (t ∷ q.gone ++ ks)) (sym (whole-lead cmp p O pos w.buckets (canon-of s) at t e))
              (divided q.steps t _ (q.terms ++ v) (q.gone ++ ks) g tail _
              (record {
                is = a.is;
                not-zero = a.not-zero;
                small = a.small;
                rest = record { canonical = (sum-right cmp p O pos (removed cmp p w).buckets (good-canon cmp p 4 (removed cmp p w).buckets hold.good)).0; are = sum-each Is cmp p [] (removed cmp p w).buckets tt (removed-are cmp O divides quotient ◌·◌ too_large Is ops p prime choose sound places s at t e) };
                number = j;
                fit = u;
                none-large = b;
                sum = whole-added cmp p O pos (tail_multiple quotient ◌·◌ p t g tail) (removed cmp p w).buckets (omega (arith, room-six (removed cmp p w).buckets hold.six)) c.canonical hold.good;
              })
              q.related);
        })

    module _ (limit : ℕ) (f : List (Term A)) (v : Valid cmp p Is f) where
      abbrev pub reduced : Reduction A
      reduced = reduction cmp choose quotient ◌·◌ too_large p places limit f

      -- what the buckets hold at the end, divided further, gives the remainder of f with the terms that are there already, the steps with the leads removed, and the leads themselves
      pub reduction-follows : length f ≤ most_terms → (k : ℕ) (s ks : List (Term A)) → R k (full_sum cmp p reduced.work.buckets) s ks
          → R (reduced.leads + k) f (reduced.remainder ++ s) (reduced.work.given ++ ks)
      reduction-follows h =
          subst (λ (y : Reduction A). (k : ℕ) (s ks : List (Term A)) → R k (full_sum cmp p y.work.buckets) s ks → R (y.leads + k) f (y.remainder ++ s) (y.work.given ++ ks))
          (sym (begins cmp choose quotient ◌·◌ too_large p places limit f h))
          (λ k s ks d.
          let y = steps_from cmp choose quotient ◌·◌ too_large p places limit 0 [] (added cmp p f start) in
          let q = steps-follow limit 0 [] (added cmp p f start) (begun f v h) k s ks d in
          let n = q.steps-are in
          subst (λ (i : ℕ). R i f (y.remainder ++ s) (y.work.given ++ ks)) (sym (n ∙ (let e : 0 + q.steps ≡ q.steps = omega arith in e)))
          (subst (λ (r : List (Term A)). R q.steps f (r ++ s) (y.work.given ++ ks)) (sym q.terms-are)
          (subst (λ (r : List (Term A)). R q.steps f (q.terms ++ s) (r ++ ks)) (sym q.gone-are)
          (subst (λ (g : List (Term A)). R q.steps g (q.terms ++ s) (q.gone ++ ks)) (whole-first f v h) q.related))))

      -- a finished reduction has the remainder, the steps and the leads
      pub finished-follows : R 0 [] [] [] → reduced.stop ≡ 0 → R reduced.leads f reduced.remainder reduced.work.given
      finished-follows nothing z =
          let (h, e) = nothing_left limit f v z in
          let d = reduction-follows h 0 [] [] (subst (λ (g : List (Term A)). R 0 g [] []) (sym e) nothing) in
          subst (λ (n : ℕ). R n f reduced.remainder reduced.work.given) (let i : reduced.leads + 0 ≡ reduced.leads = omega arith in i)
          (subst (λ (l : List (Term A)). R (reduced.leads + 0) f reduced.remainder l) (append-nil reduced.work.given)
          (subst (λ (r : List (Term A)). R (reduced.leads + 0) f r (reduced.work.given ++ [])) (append-nil reduced.remainder) d))
