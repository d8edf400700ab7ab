-- Demand 2 along a run: the places that its operations write are those that it is to give out. Assumes nothing.
use mathlib.Core.Path.{◌≡◌, refl, sym, ap, ◌∙◌, subst}
use mathlib.Core.List.{List, [], ◌∷◌, ◌++◌, append-nil, append_assoc}
use Prim.Native.Nat.{ℕ, ◌+◌, ◌%◌, ◌<◌, ◌≤◌, Ordering}
use Rattle.monomial.specs.declared.order.Order.{Order}
use Rattle.monomial.specs.Layout.{Below, Layout}
use Rattle.monomial.specs.Words.{compare_words}
use Rattle.monomial.specs.TotalOrder.{TotalOrder}
use Rattle.monomial.proofs.OrderLaws.{words-order}
use Rattle.polynomial.specs.Terms.{Term, term, All, total, Canonical}
use Rattle.geobucket.specs.Buckets.{empty, total_in, full_sum, emptied}
use Rattle.geobucket.specs.Search.{Lead, none, lead, search}
use Rattle.geobucket.specs.Events.{Work, start, perform, lead_terms}
use Rattle.geobucket.proofs.EventLaws.{events-kept}
use Rattle.geobucket.proofs.SearchLaws.{finds}
use Rattle.geobucket.proofs.LeadLaws.{lead-right, sum-right}
use Rattle.division.proofs.HeldTerms.{Every, OfLead, add-every, search-every, sum-each}
use Rattle.division.proofs.StateLaws.{all_append}
use Rattle.run_outcome.specs.Runs.{Operation, adds, leads, sums, Running, begun, operate_all, added, taken, summed, place_of}
use Rattle.run_outcome.specs.Demanded.{events_of}
use Rattle.run_outcome.specs.Ending.{Room, RoomForAll}
use Rattle.run_outcome.specs.GivenOut.{GivenOut}
use Rattle.run_outcome.proofs.Follow.{EachAdded, added-both, canonical-added, Sound, sound, canon, placed}
use Rattle.run_outcome.proofs.Endings.{did, room-did, goes_on, all-done-is, run-append, rooms-append, work-is}
use Rattle.run_outcome.proofs.ByExponents.{lead-place, sum-places}

-- a polynomial that passed the opening checks
abbrev pub Valid : Order → (n : ℕ) (weights : List ℕ) (p : ℕ) → List (Term ℕ) → Type 0
Valid o n vs p f = Canonical (compare_words o) p f × All (λ t. Layout o n vs t.mono) f

module _ (o : Order) (n : ℕ) (vs : List ℕ) (fits : n ≤ 6) (light : Below 17 vs) (p : ℕ) (pos : 0 < p) (places : ℕ) where
  abbrev cmp : ℕ → ℕ → Ordering
  cmp = compare_words o

  O : TotalOrder ℕ (compare_words o)
  O = words-order o

  abbrev Laid : List (Term ℕ) → Type 0
  Laid f = All (λ t. Layout o n vs t.mono) f

  -- ---- the words in the buckets, brought in and given out are of the layout
  record LaidIn (w : Work ℕ) : Type 0 where
    held : Every (Layout o n vs) w.buckets
    brought : Laid w.brought
    given : Laid w.given

  none-held : (bs : List (List (Term ℕ))) → Every (Layout o n vs) (emptied bs)
  unfolding Every emptied
  none-held [] = tt
  none-held (b ∷ bs) = (tt, none-held bs)

  lead-laid : (a : Lead ℕ) → OfLead (Layout o n vs) a → Laid (lead_terms a)
  lead-laid none h = tt
  lead-laid (lead at t) h = (h, tt)

  laid-begun : LaidIn start
  unfolding emptied
  laid-begun = record { held = none-held empty; brought = tt; given = tt }

  laid-added : (f : List (Term ℕ)) (t : Running) → Laid f → LaidIn t.work → LaidIn (added cmp p f t).work
  laid-added f t h l = record { held = add-every (Layout o n vs) cmp p f t.work.buckets h l.held; brought = all_append (λ t. Layout o n vs t.mono) t.work.brought f l.brought h; given = l.given }

  laid-taken : (t : Running) → LaidIn t.work → LaidIn (taken cmp p t).work
  laid-taken t l =
      let s = search-every (Layout o n vs) cmp p t.work.buckets l.held in
      record { held = s.1; brought = l.brought; given = all_append (λ t. Layout o n vs t.mono) t.work.given (lead_terms (search cmp p t.work.buckets).answer) l.given (lead-laid (search cmp p t.work.buckets).answer s.0) }

  sum_laid : (t : Running) → LaidIn t.work → Laid (full_sum cmp p t.work.buckets)
  sum_laid t l = sum-each (Layout o n vs) cmp p [] t.work.buckets tt l.held

  laid-summed : (t : Running) → LaidIn t.work → LaidIn (summed cmp p t).work
  laid-summed t l = record { held = none-held t.work.buckets; brought = l.brought; given = all_append (λ t. Layout o n vs t.mono) t.work.given (full_sum cmp p t.work.buckets) l.given (sum_laid t l) }

  -- ---- a state that operations have come to
  record Come (t : Running) : Type 0 where
    before : List Operation
    rooms : RoomForAll cmp p places before begun
    canonical : EachAdded (Canonical cmp p) before
    is : operate_all cmp p places before begun ≡ t

  come-begun : Come begun
  unfolding RoomForAll EachAdded operate_all
  come-begun = record { before = []; rooms = tt; canonical = tt; is = refl }

  module _ {t : Running} (c : Come t) where
    stop-none : t.stop ≡ 0
    stop-none = ap (λ (v : Running). v.stop) (sym c.is) ∙ (all-done-is cmp p places c.before begun refl c.rooms).stop_is

    come-did : (x : Operation) → Room places x t.work t.output → EachAdded (Canonical cmp p) (x ∷ []) → Come (did cmp p places x t)
    unfolding RoomForAll operate_all
    come-did x h g = record {
      before = c.before ++ (x ∷ []);
      rooms = rooms-append cmp p places c.before (x ∷ []) begun refl c.rooms (subst (λ (v : Running). Room places x v.work v.output) (sym c.is) h, tt);
      canonical = added-both (Canonical cmp p) c.before (x ∷ []) c.canonical g;
      is = run-append cmp p places c.before (x ∷ []) begun refl c.rooms ∙ (ap (operate_all cmp p places (x ∷ [])) c.is ∙ goes_on cmp p places x [] t stop-none h);
    }

    come-sound : Sound cmp p t
    come-sound = subst (Sound cmp p) c.is (sound cmp p O pos places c.before (canonical-added cmp p c.before c.canonical))

    come-kept : (m : ℕ) → (total cmp m t.work.given + total_in cmp m t.work.buckets) % p ≡ total cmp m t.work.brought % p
    come-kept m =
        let e : perform cmp p (events_of c.before) start ≡ t.work = sym (work-is cmp p places c.before begun refl c.rooms) ∙ ap (λ (v : Running). v.work) c.is in
        subst (λ (w : Work ℕ). (total cmp m w.given + total_in cmp m w.buckets) % p ≡ total cmp m w.brought % p) e (events-kept cmp p O pos (events_of c.before) (canonical-added cmp p c.before c.canonical) m)

  -- ---- the places that operations write from t on
  record Gives (os : List Operation) (t : Running) : Type 0 where
    more : List (Term ℕ)
    output-is : (operate_all cmp p places os t).output ≡ t.output ++ more
    given_out : GivenOut o n vs p os t.work.brought t.work.given more

  after-did : (x : Operation) (os : List Operation) (t : Running) → Come t → Room places x t.work t.output → (operate_all cmp p places (x ∷ os) t).output ≡ (operate_all cmp p places os (did cmp p places x t)).output
  after-did x os t c h = ap (λ (v : Running). v.output) (goes_on cmp p places x os t (stop-none c) h)

  gives : (os : List Operation) (t : Running) → Come t → LaidIn t.work → EachAdded (Valid o n vs p) os → RoomForAll cmp p places os t → Gives os t
  unfolding RoomForAll EachAdded operate_all GivenOut
  gives [] t c l g h = record { more = []; output-is = sym (append-nil t.output); given_out = refl }
  gives (adds f ∷ os) t c l g h =
      let r = gives os (added cmp p f t) (come-did c (adds f) h.0 (g.0.0, tt)) (laid-added f t g.0.1 l) g.1 (subst (RoomForAll cmp p places os) (room-did cmp p places (adds f) t h.0) h.1) in
      record { more = r.more; output-is = after-did (adds f) os t c h.0 ∙ r.output-is; given_out = r.given_out }
  gives (leads ∷ os) t c l g h =
      let bs = t.work.buckets in
      let a = (search cmp p bs).answer in
      let k = canon cmp p (come-sound c) in
      let r = gives os (taken cmp p t) (come-did c leads h.0 tt) (laid-taken t l) g (subst (RoomForAll cmp p places os) (room-did cmp p places leads t h.0) h.1) in
      let place = lead-place o n vs fits light p pos t.work.brought t.work.given bs l.brought l.given (come-kept c) a (search-every (Layout o n vs) cmp p bs l.held).0 (lead-right cmp p O pos bs k) in
      record {
        more = place_of a ∷ r.more;
        output-is = after-did leads os t c h.0 ∙ (r.output-is ∙ append_assoc t.output (place_of a ∷ []) r.more);
        given_out = (place_of a, r.more, refl, place, subst (λ (x : List (Term ℕ)). GivenOut o n vs p os t.work.brought (t.work.given ++ x) r.more) (sym (placed cmp p a (search cmp p bs).buckets (finds cmp p O pos bs k).leads)) r.given_out);
      }
  gives (sums ∷ os) t c l g h =
      let bs = t.work.buckets in
      let f = full_sum cmp p bs in
      let s = sum-right cmp p O pos bs (canon cmp p (come-sound c)) in
      let r = gives os (summed cmp p t) (come-did c sums h.0 tt) (laid-summed t l) g (subst (RoomForAll cmp p places os) (room-did cmp p places sums t h.0) h.1) in
      record {
        more = f ++ (term 0 0 ∷ r.more);
        output-is = after-did sums os t c h.0 ∙ (r.output-is ∙ (append_assoc t.output (f ++ (term 0 0 ∷ [])) r.more ∙ ap (λ (x : List (Term ℕ)). t.output ++ x) (append_assoc f (term 0 0 ∷ []) r.more)));
        given_out = (f, r.more, refl, sum-places o n vs fits light p pos t.work.brought t.work.given bs l.brought l.given (come-kept c) f (sum_laid t l) s.0 s.1, r.given_out);
      }

  -- operations that are all done, from the beginning
  pub gives-out : (os : List Operation) → EachAdded (Valid o n vs p) os → RoomForAll cmp p places os begun → GivenOut o n vs p os [] [] (operate_all cmp p places os begun).output
  gives-out os g h =
      let r = gives os begun come-begun laid-begun g h in
      subst (GivenOut o n vs p os [] []) (sym r.output-is) r.given_out
