-- A run gives out no more terms than it was to add, each with a coefficient below p; and a script's additions have no more terms than it spells. Assumes nothing.
use Prim.Native.Nat.{ℕ, suc, ◌+◌, ◌-◌, ◌≤◌, ◌<◌, Ordering}
use native.Mathlib.Omega.{arith}
use mathlib.Core.Path.{◌≡◌, ap, ◌∙◌}
use mathlib.Core.List.{List, [], ◌∷◌, ◌++◌}
use lib.ListN.{length, drop, get_or, length-append, length-take}
use Rattle.limits.specs.Limits.{most_terms}
use Rattle.monomial.specs.TotalOrder.{TotalOrder}
use Rattle.polynomial.specs.Terms.{Term, term, All, Reduced, Canonical}
use Rattle.polynomial.specs.Opening.{part_of}
use Rattle.geobucket.specs.Buckets.{held, full_sum}
use Rattle.geobucket.specs.Search.{Lead, none, lead, search}
use Rattle.geobucket.specs.Events.{lead_terms, Polynomials}
use Rattle.geobucket.proofs.AddLaws as G
use Rattle.geobucket.proofs.EventLaws.{room-six}
use Rattle.geobucket.proofs.SearchLaws.{Leads, Fewer, finds}
use Rattle.geobucket.proofs.SumLaws.{sum-size, emptied-held}
use Rattle.geobucket.proofs.LeadLaws.{sum-right}
use Rattle.call.specs.Lending.{polynomial}
use Rattle.run_outcome.specs.Runs.{Operation, Running, begun, operate_all, added, taken, summed, place_of, operations_of}
use Rattle.run_outcome.specs.Demanded.{events_of, terms_named}
use Rattle.run_outcome.proofs.Follow.{Sound, canon, sound-along}
use Rattle.grammar.specs.Grammar.{Line, add_line, lead_line, sum_line}
use Rattle.script.specs.Loading.{entries_in, ends_from, pairs_from}
use Rattle.listing.proofs.WholeLaws.{terms-most}

abbrev pub CoefsBelow : ℕ → List (Term ℕ) → Type 0
CoefsBelow p ts = All (λ t. t.coef < p) ts

below-append : (p : ℕ) (xs ys : List (Term ℕ)) → CoefsBelow p xs → CoefsBelow p ys → CoefsBelow p (xs ++ ys)
below-append p [] ys h k = k
below-append p (x ∷ xs) ys h k = (h.0, below-append p xs ys h.1 k)

below-reduced : (p : ℕ) (xs : List (Term ℕ)) → Reduced p xs → CoefsBelow p xs
below-reduced p [] h = tt
below-reduced p (x ∷ xs) h = (h.0.1, below-reduced p xs h.1)

module _ (cmp : ℕ → ℕ → Ordering) (p : ℕ) where
  -- what holds before each operation, with so many terms to add so far
  pub record Gives (most : ℕ) (t : Running) : Type 0 where
    pub given : length t.work.given + held t.work.buckets ≤ most
    pub brought : length t.work.brought ≤ most
    pub below : CoefsBelow p t.output

  gives-begun : Gives 0 begun
  unfolding held
  gives-begun = record { given = omega arith; brought = omega arith; below = tt }

  module _ (O : TotalOrder ℕ cmp) (pos : 0 < p) {t : Running} (a : Sound cmp p t) {most : ℕ} (g : Gives most t) where
    gives-added : (f : List (Term ℕ)) → Canonical cmp p f → held t.work.buckets + length f ≤ most_terms → Gives (most + length f) (added cmp p f t)
    gives-added f c h =
        let r = G.adds cmp p O pos f t.work.buckets (omega (arith, h, room-six t.work.buckets a.six)) c a.good in
        record { given = omega (arith, r.size, g.given); brought = omega (arith, g.brought, length-append t.work.brought f); below = g.below }

    lead-few : (x : Lead ℕ) (cs bs : List (List (Term ℕ))) → Fewer cmp p x cs bs → length (lead_terms x) + held cs ≤ held bs
    lead-few none cs bs h = omega (arith, h)
    lead-few (lead at u) cs bs h = omega (arith, h)

    place-below : (x : Lead ℕ) (cs : List (List (Term ℕ))) → Leads cmp p x cs → (place_of x).coef < p
    place-below none cs l = pos
    place-below (lead at u) cs l = l.1

    gives-taken : Gives most (taken cmp p t)
    gives-taken =
        let bs = t.work.buckets in
        let s = search cmp p bs in
        let f = finds cmp p O pos bs (canon cmp p a) in
        record {
          given = omega (arith, g.given, length-append t.work.given (lead_terms s.answer), lead-few s.answer s.buckets bs f.fewer);
          brought = g.brought;
          below = below-append p t.output (place_of s.answer ∷ []) g.below (place-below s.answer s.buckets f.leads, tt);
        }

    gives-summed : Gives most (summed cmp p t)
    gives-summed =
        let bs = t.work.buckets in
        let f = full_sum cmp p bs in
        record {
          given = omega (arith, g.given, emptied-held bs, length-append t.work.given f, sum-size cmp p [] bs);
          brought = g.brought;
          below = below-append p t.output (f ++ (term 0 0 ∷ [])) g.below (below-append p f (term 0 0 ∷ []) (below-reduced p f (sum-right cmp p O pos bs (canon cmp p a)).0.reduced) (pos, tt));
        }

  pub gives : TotalOrder ℕ cmp → 0 < p → (places : ℕ) (os : List Operation) → Polynomials cmp p (events_of os) → Gives (terms_named os) (operate_all cmp p places os begun)
  gives O pos places os all =
      sound-along cmp p O pos places (λ os t v. (most n : ℕ) → most + terms_named os ≤ n → Gives most t → Gives n v)
      (λ t a most n l g. record { given = omega (arith, l, g.given); brought = omega (arith, l, g.brought); below = g.below })
      (λ f os t v a c h r most n l g. r (most + length f) n (omega (arith, l)) (gives-added O pos a g f c h))
      (λ os t v a r most n l g. r most n l (gives-taken O pos a g))
      (λ os t v a r most n l g. r most n l (gives-summed O pos a g))
      (λ r o os t a most n l g. record { given = omega (arith, l, g.given); brought = omega (arith, l, g.brought); below = g.below })
      os all 0 (terms_named os) (omega arith) gives-begun

-- ---- the additions of a script
module _ (words coefs starts : List ℕ) where
  polynomial-long : (k : ℕ) → length (polynomial words coefs starts k) ≤ get_or starts (k + 1) 0 - get_or starts k 0
  polynomial-long k =
      let a = get_or starts k 0 in
      omega (arith, terms-most (part_of starts k words) (part_of starts k coefs), length-take (get_or starts (k + 1) 0 - a) (drop a words))

  pub script-adds : (k at : ℕ) (ls : List Line) → ((j : ℕ) → get_or starts (k + j) 0 ≡ get_or (at ∷ ends_from at ls) j 0) → terms_named (operations_of words coefs starts (pairs_from k ls)) ≤ length (entries_in ls)
  unfolding ends_from pairs_from operations_of entries_in
  script-adds k at [] h = omega arith
  script-adds k at (add_line ts ∷ ls) h =
      let a : get_or starts k 0 ≡ at = ap (λ (i : ℕ). get_or starts i 0) (let z : k ≡ k + 0 = omega arith in z) ∙ h 0 in
      omega (
        arith,
        polynomial-long k,
        a,
        h 1,
        script-adds (k + 1) (at + length ts) ls (λ j. ap (λ (i : ℕ). get_or starts i 0) (let z : k + 1 + j ≡ k + suc j = omega arith in z) ∙ h (suc j)),
        length-append ts (entries_in ls),
      )
  script-adds k at (lead_line ∷ ls) h = script-adds k at ls h
  script-adds k at (sum_line ∷ ls) h = script-adds k at ls h
