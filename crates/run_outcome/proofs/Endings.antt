-- Demand 1 for the operations of a run: it ends with all done, or with a refusal under its stated condition, and in no other way. Assumes nothing.
use mathlib.Core.Path.{◌≡◌, refl, sym, ap, ◌∙◌, subst}
use mathlib.Core.Bool.{Bool, false}
use mathlib.Core.List.{List, [], ◌∷◌, ◌++◌}
use mathlib.Core.Logic.{◌⊎◌, inl, inr}
use Prim.Native.Nat.{ℕ, zero, suc, ◌+◌, ◌≤◌, Ordering}
use native.Mathlib.Decide.{dec_le}
use native.Mathlib.Omega.{arith}
use borrow.Author.Tests.{le-leb, lt-leb}
use lib.Dec.{eqb}
use lib.ListN.{length, take, length-append}
use lib.Seq.{take_all, take_at}
use Rattle.limits.specs.Limits.{most_terms}
use Rattle.polynomial.specs.Terms.{Term, term}
use Rattle.geobucket.specs.Buckets.{held, full_sum}
use Rattle.geobucket.specs.Search.{search}
use Rattle.geobucket.specs.Events.{Work, perform}
use Rattle.geobucket.proofs.SumLaws.{sum-size}
use Rattle.call.specs.Answers.{Stated}
use Rattle.run_outcome.specs.Runs.{Operation, adds, leads, sums, Running, begun, stopped, operate, operate_all, added, taken, summed, added_by, taken_by, summed_by, place_of}
use Rattle.run_outcome.specs.Demanded.{events_of, terms_named}
use Rattle.run_outcome.specs.Ending.{Room, number_for, RoomForAll, after, Ending, all_done, refused}
use Rattle.run_outcome.specs.Outcome.{answer_of}
use Rattle.run_outcome.proofs.Follow.{all-on, all-off}

-- an answer is its three numbers
abbrev stated : (number finished places : ℕ) → Stated
stated number finished places = record { number = number; finished = finished; places = places }

stated-is : (x y : Stated) → x.number ≡ y.number → x.finished ≡ y.finished → x.places ≡ y.places → x ≡ y
stated-is x y a b c = ap (λ (k : ℕ). stated k x.finished x.places) a ∙ (ap (λ (k : ℕ). stated y.number k x.places) b ∙ ap (λ (k : ℕ). stated y.number y.finished k) c)

-- the first operations name no more terms than all
pub named-first : (k : ℕ) (os : List Operation) → terms_named (take k os) ≤ terms_named os
named-first zero os = omega arith
named-first (suc k) [] = omega arith
named-first (suc k) (adds f ∷ os) = omega (arith, named-first k os)
named-first (suc k) (leads ∷ os) = named-first k os
named-first (suc k) (sums ∷ os) = named-first k os

module _ (cmp : ℕ → ℕ → Ordering) (p places : ℕ) where
  -- the operation is done
  abbrev pub did : Operation → Running → Running
  did (adds f) t = added cmp p f t
  did leads t = taken cmp p t
  did sums t = summed cmp p t

  pub room-did : (o : Operation) (t : Running) → Room places o t.work t.output → operate cmp p places o t ≡ did o t
  unfolding operate
  room-did (adds f) t h = ap (λ (b : Bool). added_by cmp p b f t) (le-leb (held t.work.buckets + length f) most_terms h)
  room-did leads t h = ap (λ (b : Bool). taken_by cmp p b t) (le-leb (length t.output + 1) places h)
  room-did sums t h = ap (λ (b : Bool). summed_by cmp p b t) (le-leb (length t.output + (held t.work.buckets + 1)) places h)

  did-stop : (o : Operation) (t : Running) → (did o t).stop ≡ t.stop
  did-stop (adds f) t = refl
  did-stop leads t = refl
  did-stop sums t = refl

  did-finished : (o : Operation) (t : Running) → (did o t).finished ≡ t.finished + 1
  did-finished (adds f) t = refl
  did-finished leads t = refl
  did-finished sums t = refl

  no_room : (o : Operation) (t : Running) → (Room places o t.work t.output → ⊥) → operate cmp p places o t ≡ stopped (number_for o) t
  unfolding operate
  no_room (adds f) t h = ap (λ (b : Bool). added_by cmp p b f t) (lt-leb (held t.work.buckets + length f) most_terms (omega arith))
  no_room leads t h = ap (λ (b : Bool). taken_by cmp p b t) (lt-leb (length t.output + 1) places (omega arith))
  no_room sums t h = ap (λ (b : Bool). summed_by cmp p b t) (lt-leb (length t.output + (held t.work.buckets + 1)) places (omega arith))

  dec_room : (o : Operation) (t : Running) → Dec (Room places o t.work t.output)
  dec_room (adds f) t = dec_le (held t.work.buckets + length f) most_terms
  dec_room leads t = dec_le (length t.output + 1) places
  dec_room sums t = dec_le (length t.output + (held t.work.buckets + 1)) places

  -- where there is room, the run goes on
  pub goes_on : (o : Operation) (os : List Operation) (t : Running) → t.stop ≡ 0 → Room places o t.work t.output → operate_all cmp p places (o ∷ os) t ≡ operate_all cmp p places os (did o t)
  goes_on o os t z h = all-on cmp p places o os t (room-did o t h) (did-stop o t ∙ z)

  -- where there is room for all, all are done
  pub record AllDone (os : List Operation) (t v : Running) : Type 0 where
    pub stop_is : v.stop ≡ 0
    pub finished-are : v.finished ≡ t.finished + length os

  pub all-done-is : (os : List Operation) (t : Running) → t.stop ≡ 0 → RoomForAll cmp p places os t → AllDone os t (operate_all cmp p places os t)
  unfolding RoomForAll operate_all
  all-done-is [] t z h = record { stop_is = z; finished-are = omega arith }
  all-done-is (o ∷ os) t z h =
      let r = all-done-is os (did o t) (did-stop o t ∙ z) (subst (RoomForAll cmp p places os) (room-did o t h.0) h.1) in
      let e = goes_on o os t z h.0 in
      record { stop_is = ap (λ (v : Running). v.stop) e ∙ r.stop_is; finished-are = omega (arith, ap (λ (v : Running). v.finished) e, r.finished-are, did-finished o t) }

  -- where there is none for o after those done before it, it is refused, and nothing more is done
  pub refused-is : (done rest : List Operation) (o : Operation) (t : Running) → t.stop ≡ 0 → RoomForAll cmp p places done t → (Room places o (operate_all cmp p places done t).work (operate_all cmp p places done t).output → ⊥) → operate_all cmp p places (done ++ (o ∷ rest)) t ≡ stopped (number_for o) (operate_all cmp p places done t)
  unfolding RoomForAll operate_all
  refused-is [] rest o t z h none = all-off cmp p places o rest t (no_room o t none) (some o)
    where
      some : (o : Operation) → eqb (number_for o) 0 ≡ false
      some (adds f) = refl
      some leads = refl
      some sums = refl
  refused-is (d ∷ done) rest o t z h none =
      let e = goes_on d done t z h.0 in
      let r = refused-is done rest o (did d t) (did-stop d t ∙ z) (subst (RoomForAll cmp p places done) (room-did d t h.0) h.1) (subst (λ (v : Running). Room places o v.work v.output → ⊥) e none) in
      goes_on d (done ++ (o ∷ rest)) t z h.0 ∙ (r ∙ ap (stopped (number_for o)) (sym e))

  -- one of the two comes about
  pub record FirstRefused (os : List Operation) (t : Running) : Type 0 where
    pub done : List Operation
    pub rest : List Operation
    pub o : Operation
    pub split : os ≡ done ++ (o ∷ rest)
    pub rooms : RoomForAll cmp p places done t
    pub none : Room places o (operate_all cmp p places done t).work (operate_all cmp p places done t).output → ⊥

  pub ends : (os : List Operation) (t : Running) → t.stop ≡ 0 → RoomForAll cmp p places os t ⊎ FirstRefused os t
  unfolding RoomForAll operate_all
  ends [] t z = inl tt
  ends (o ∷ os) t z = go (dec_room o t) (ends os (did o t) (did-stop o t ∙ z))
    where
      go : Dec (Room places o t.work t.output) → RoomForAll cmp p places os (did o t) ⊎ FirstRefused os (did o t) → RoomForAll cmp p places (o ∷ os) t ⊎ FirstRefused (o ∷ os) t
      go (no h) r = inr (record { done = []; rest = os; o = o; split = refl; rooms = tt; none = h })
      go (yes h) (inl r) = inl (h, subst (RoomForAll cmp p places os) (sym (room-did o t h)) r)
      go (yes h) (inr r) =
          inr (record {
            done = o ∷ r.done;
            rest = r.rest;
            o = r.o;
            split = ap (λ (l : List Operation). o ∷ l) r.split;
            rooms = (h, subst (RoomForAll cmp p places r.done) (sym (room-did o t h)) r.rooms);
            none = subst (λ (v : Running). Room places r.o v.work v.output → ⊥) (sym (goes_on o r.done t z h)) r.none;
          })

  -- ---- runs of two lists, one after the other
  pub run-append : (xs ys : List Operation) (t : Running) → t.stop ≡ 0 → RoomForAll cmp p places xs t → operate_all cmp p places (xs ++ ys) t ≡ operate_all cmp p places ys (operate_all cmp p places xs t)
  unfolding RoomForAll operate_all
  run-append [] ys t z h = refl
  run-append (x ∷ xs) ys t z h =
      goes_on x (xs ++ ys) t z h.0
      ∙ (run-append xs ys (did x t) (did-stop x t ∙ z) (subst (RoomForAll cmp p places xs) (room-did x t h.0) h.1) ∙ ap (operate_all cmp p places ys) (sym (goes_on x xs t z h.0)))

  pub rooms-append : (xs ys : List Operation) (t : Running) → t.stop ≡ 0 → RoomForAll cmp p places xs t → RoomForAll cmp p places ys (operate_all cmp p places xs t) → RoomForAll cmp p places (xs ++ ys) t
  unfolding RoomForAll operate_all
  rooms-append [] ys t z h k = k
  rooms-append (x ∷ xs) ys t z h k =
      let e = room-did x t h.0 in
      (h.0, subst (RoomForAll cmp p places (xs ++ ys)) (sym e) (rooms-append xs ys (did x t) (did-stop x t ∙ z) (subst (RoomForAll cmp p places xs) e h.1) (subst (RoomForAll cmp p places ys) (goes_on x xs t z h.0) k)))

  -- ---- the work of operations that are all done is that of their events
  pub work-is : (os : List Operation) (t : Running) → t.stop ≡ 0 → RoomForAll cmp p places os t → (operate_all cmp p places os t).work ≡ perform cmp p (events_of os) t.work
  unfolding RoomForAll operate_all perform
  work-is [] t z h = refl
  work-is (o ∷ os) t z h =
      ap (λ (v : Running). v.work) (goes_on o os t z h.0)
      ∙ (work-is os (did o t) (did-stop o t ∙ z) (subst (RoomForAll cmp p places os) (room-did o t h.0) h.1) ∙ event o h.0)
    where
      event : (o : Operation) → Room places o t.work t.output → perform cmp p (events_of os) (did o t).work ≡ perform cmp p (events_of (o ∷ os)) t.work
      event (adds f) r = rw (le-leb (held t.work.buckets + length f) most_terms r, perform)
      event leads r = refl
      event sums r = refl

  -- ---- what operations that are all done bring in and write
  pub brought-are : (os : List Operation) (t : Running) → t.stop ≡ 0 → RoomForAll cmp p places os t → length (operate_all cmp p places os t).work.brought ≡ length t.work.brought + terms_named os
  unfolding RoomForAll operate_all
  brought-are [] t z h = omega arith
  brought-are (o ∷ os) t z h =
      omega (
        arith,
        ap (λ (v : Running). length v.work.brought) (goes_on o os t z h.0),
        brought-are os (did o t) (did-stop o t ∙ z) (subst (RoomForAll cmp p places os) (room-did o t h.0) h.1),
        one o,
      )
    where
      one : (o : Operation) → length (did o t).work.brought + terms_named os ≡ length t.work.brought + terms_named (o ∷ os)
      one (adds f) = omega (arith, length-append t.work.brought f)
      one leads = refl
      one sums = refl

  pub output-fits : (os : List Operation) (t : Running) → t.stop ≡ 0 → RoomForAll cmp p places os t → length t.output ≤ places → length (operate_all cmp p places os t).output ≤ places
  unfolding RoomForAll operate_all
  output-fits [] t z h l = l
  output-fits (o ∷ os) t z h l = subst (λ (v : Running). length v.output ≤ places) (sym (goes_on o os t z h.0)) (output-fits os (did o t) (did-stop o t ∙ z) (subst (RoomForAll cmp p places os) (room-did o t h.0) h.1) (one o h.0))
    where
      one : (o : Operation) → Room places o t.work t.output → length (did o t).output ≤ places
      one (adds f) r = l
      one leads r = omega (arith, r, length-append t.output (place_of (search cmp p t.work.buckets).answer ∷ []))
      one sums r =
          let f = full_sum cmp p t.work.buckets in
          omega (arith, r, length-append t.output (f ++ (term 0 0 ∷ [])), length-append f (term 0 0 ∷ []), sum-size cmp p [] t.work.buckets)

  -- ---- a run from the beginning
  all_finished : (os : List Operation) → RoomForAll cmp p places os begun → (after cmp p places os).finished ≡ length os
  all_finished os h = omega (arith, (all-done-is os begun refl h).finished-are)

  refused_as : (os : List Operation) (r : FirstRefused os begun) → after cmp p places os ≡ stopped (number_for r.o) (after cmp p places r.done)
  refused_as os r = ap (λ (l : List Operation). operate_all cmp p places l begun) r.split ∙ refused-is r.done r.rest r.o begun refl r.rooms r.none

  refused-finished : (os : List Operation) (r : FirstRefused os begun) → (after cmp p places os).finished ≡ length r.done
  refused-finished os r = ap (λ (v : Running). v.finished) (refused_as os r) ∙ all_finished r.done r.rooms

  -- the operations that it finished, and what they leave
  pub record Ran (os : List Operation) : Type 0 where
    pub done : List Operation
    pub rooms : RoomForAll cmp p places done begun
    pub done-are : take (after cmp p places os).finished os ≡ done
    pub left_is : (after cmp p places os).work ≡ (after cmp p places done).work
    pub output-is : (after cmp p places os).output ≡ (after cmp p places done).output

  pub ran : (os : List Operation) → Ran os
  ran os = by (ends os begun refl)
    where
      by : RoomForAll cmp p places os begun ⊎ FirstRefused os begun → Ran os
      by (inl h) = record { done = os; rooms = h; done-are = take_all (after cmp p places os).finished os (omega (arith, all_finished os h)); left_is = refl; output-is = refl }
      by (inr r) = record {
        done = r.done;
        rooms = r.rooms;
        done-are = ap (take (after cmp p places os).finished) r.split ∙ take_at r.done (r.o ∷ r.rest) (after cmp p places os).finished (sym (refused-finished os r));
        left_is = ap (λ (v : Running). v.work) (refused_as os r);
        output-is = ap (λ (v : Running). v.output) (refused_as os r);
      }

  -- the run ends so
  pub ending : (os : List Operation) → Ending cmp p places os (answer_of (after cmp p places os)) (after cmp p places os).work (after cmp p places os).output
  ending os = by (ends os begun refl)
    where
      by : RoomForAll cmp p places os begun ⊎ FirstRefused os begun → Ending cmp p places os (answer_of (after cmp p places os)) (after cmp p places os).work (after cmp p places os).output
      by (inl h) = all_done (record { rooms = h; finished-are = all_finished os h; places-are = refl; work-is = refl; written-are = refl }) (all-done-is os begun refl h).stop_is
      by (inr r) =
          let e = refused_as os r in
          refused r.done r.rest r.o r.split
          (record { rooms = r.rooms; finished-are = refused-finished os r; places-are = refl; work-is = ap (λ (v : Running). v.work) e; written-are = ap (λ (v : Running). v.output) e })
          (subst (λ (v : Running). Room places r.o v.work v.output → ⊥) (sym e) r.none) (ap (λ (v : Running). v.stop) e)

  -- and in no other way
  pub ending-only : (os : List Operation) (x : Stated) (w : Work ℕ) (written : List (Term ℕ)) → Ending cmp p places os x w written → (x ≡ answer_of (after cmp p places os)) × (w ≡ (after cmp p places os).work) × (written ≡ (after cmp p places os).output)
  ending-only os x w written (all_done f z) = (
    stated-is x (answer_of (after cmp p places os)) (z ∙ sym (all-done-is os begun refl f.rooms).stop_is) (f.finished-are ∙ sym (all_finished os f.rooms)) (f.places-are ∙ ap length f.written-are),
    f.work-is,
    f.written-are,
  )
  ending-only os x w written (refused done rest o e f none z) =
      let no-room-left : Room places o (after cmp p places done).work (after cmp p places done).output → ⊥ = λ h. none (subst (λ (u : Work ℕ). Room places o u written) (sym f.work-is) (subst (Room places o (after cmp p places done).work) (sym f.written-are) h)) in
      let r : FirstRefused os begun = record { done = done; rest = rest; o = o; split = e; rooms = f.rooms; none = no-room-left } in
      let s = refused_as os r in (
        stated-is x (answer_of (after cmp p places os)) (z ∙ sym (ap (λ (v : Running). v.stop) s)) (f.finished-are ∙ sym (refused-finished os r)) (f.places-are ∙ ap length (f.written-are ∙ sym (ap (λ (v : Running). v.output) s))),
        f.work-is ∙ sym (ap (λ (v : Running). v.work) s),
        f.written-are ∙ sym (ap (λ (v : Running). v.output) s),
      )

  -- what it counts is no more than it was asked, and its number is at most 11
  pub finished-most : (os : List Operation) → (after cmp p places os).finished ≤ length os
  finished-most os = by (ends os begun refl)
    where
      by : RoomForAll cmp p places os begun ⊎ FirstRefused os begun → (after cmp p places os).finished ≤ length os
      by (inl h) = omega (arith, all_finished os h)
      by (inr r) = omega (arith, refused-finished os r, ap length r.split, length-append r.done (r.o ∷ r.rest))

  pub stop-most : (os : List Operation) → (after cmp p places os).stop ≤ 11
  stop-most os = by (ends os begun refl)
    where
      few : (o : Operation) → number_for o ≤ 11
      few (adds f) = omega arith
      few leads = omega arith
      few sums = omega arith

      by : RoomForAll cmp p places os begun ⊎ FirstRefused os begun → (after cmp p places os).stop ≤ 11
      by (inl h) = omega (arith, (all-done-is os begun refl h).stop_is)
      by (inr r) = omega (arith, ap (λ (v : Running). v.stop) (refused_as os r), few r.o)
