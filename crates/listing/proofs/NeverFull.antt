-- A script's run is refused at its opening or not at all: 10 and 11 cannot come from a script, whatever its bytes. Each term, each `lead` and each `sum` takes four bytes of the 16,384, and places written + terms held are never more than these. Assumes nothing.
use Prim.Native.Nat.{ℕ, zero, suc, ◌+◌, ◌-◌, ◌*◌, ◌≤◌, Ordering}
use native.Mathlib.Omega.{arith}
use mathlib.Core.Path.{◌≡◌, refl, ap, ◌∙◌}
use mathlib.Core.Bool.{Bool, true}
use mathlib.Core.List.{List, [], ◌∷◌, ◌++◌}
use mathlib.Core.Option.{Option, none, some}
use mathlib.Core.Logic.{inl, inr, ⊎_elim}
use borrow.Author.Tests.{le-leb, ltb-true}
use lib.ListN.{length, drop, get_or, replicate, length-append, length-take}
use lib.Dec.{ltb}
use Rattle.limits.specs.Limits.{bucket_places, most_terms, script_terms, work_places}
use Rattle.polynomial.specs.Terms.{Term, term}
use Rattle.monomial.specs.Exponents.{order_of, order_number}
use Rattle.monomial.specs.Layout.{below}
use Rattle.monomial.proofs.Places.{and_both}
use Rattle.monomial.specs.Words.{compare_words}
use Rattle.polynomial.specs.Opening.{part_of}
use Rattle.polynomial.proofs.MergeLaws.{merge-size, length-keep}
use Rattle.geobucket.specs.Buckets.{held, carry, place, add, full_sum}
use Rattle.geobucket.specs.Search.{seek, pass, search}
use Rattle.geobucket.proofs.AddLaws.{carry-along, place-along}
use Rattle.geobucket.proofs.SearchLaws.{seek-along, search-along}
use Rattle.geobucket.proofs.SumLaws.{sum-size, emptied-held}
use Rattle.polynomial.specs.declared.setting.Setting.{Setting}
use Rattle.opening.specs.Run.{run_refusal}
use Rattle.opening.proofs.ListedLaws.{run-numbers}
use Rattle.refusal.specs.Judgement.{OneOf}
use Rattle.call.specs.declared.answer.Tally.{Tally}
use Rattle.call.specs.Answers.{Stated, decided_by}
use Rattle.call.specs.Lending.{polynomial}
use Rattle.run_outcome.specs.Runs.{adds, leads, sums, Running, begun, operate, operate_all, added, taken, summed, added_by, taken_by, summed_by, place_of, operations_of}
use Rattle.run_outcome.specs.Outcome.{ran_through, ended}
use Rattle.run_outcome.proofs.Follow.{all-on}
use Rattle.grammar.specs.Grammar.{Line, add_line, lead_line, sum_line, Script, entries_text, lines_text, GoodLines}
use Rattle.grammar.specs.Reading.{script_of}
use Rattle.script.specs.Loading.{ends_from, pairs_from, words_of, coefs_of, starts_of, pairs_of}
use Rattle.grammar.proofs.Accepted.{text-read}
use Rattle.script.proofs.FieldLaws.{entries-size}
use Rattle.listing_lines.specs.Listing.{refused_text}
use Rattle.listing.specs.Whole.{ran_by, ran_text, no_tally, setting_in, script_outcome, done_text, listing_by, listing_of}
use Rattle.listing.specs.Printed.{Opening, Printed, bad-script, refused, done}
use Rattle.listing.proofs.SizeLaws.{inside}
use Rattle.listing.proofs.WholeLaws.{terms-most, ran-some}

-- ---- no operation makes terms
module _ {A : Type 0} (cmp : A → A → Ordering) (p : ℕ) where
  carry-held : (cap : ℕ) (f : List (Term A)) (bs : List (List (Term A))) → held (carry cmp p cap f bs) ≤ length f + held bs
  unfolding held
  carry-held =
      carry-along cmp p (λ cap f bs cs qs. held cs ≤ length f + held bs)
      (λ cap f. let z : 0 ≤ length f + 0 = omega arith in z)
      (λ cap f b bs l. omega (arith, merge-size cmp p f b))
      (λ cap f b bs cs qs l r. omega (arith, r, merge-size cmp p f b))

  place-held : (cap : ℕ) (f : List (Term A)) (bs : List (List (Term A))) → held (place cmp p cap f bs) ≤ length f + held bs
  unfolding held
  place-held =
      place-along cmp p (λ cap f bs cs qs. held cs ≤ length f + held bs)
      (λ cap f. let z : 0 ≤ length f + 0 = omega arith in z)
      (λ cap f b bs l. carry-held cap f (b ∷ bs))
      (λ cap f b bs cs qs l r. omega (arith, r))

  add-held : (f : List (Term A)) (bs : List (List (Term A))) → held (add cmp p f bs) ≤ length f + held bs
  unfolding add
  add-held [] bs = omega arith
  add-held (t ∷ ts) bs = place-held 4 (t ∷ ts) bs

  seek-held : (bs : List (List (Term A))) (x : Term A) (xs : List (Term A)) → length (seek cmp p x xs bs).own + held (seek cmp p x xs bs).above ≤ length xs + held bs
  unfolding held
  seek-held =
      seek-along cmp p (λ x xs bs s. length s.own + held s.above ≤ length xs + held bs)
      (λ x xs. omega arith)
      (λ x xs bs s r. omega (arith, r))
      (λ x xs y ys bs s h r. omega (arith, r, length-keep x.mono x.coef xs))
      (λ x xs y ys bs s h r. omega (arith, r))
      (λ x xs y ys bs s h r. omega (arith, r))

  pass-held : (bs : List (List (Term A))) → held (pass cmp p bs).buckets ≤ held bs
  unfolding pass held
  pass-held [] = omega arith
  pass-held ([] ∷ bs) = omega (arith, pass-held bs)
  pass-held ((x ∷ xs) ∷ bs) = omega (arith, seek-held bs x xs)

  search-held : (bs : List (List (Term A))) → held (search cmp p bs).buckets ≤ held bs
  search-held bs =
      search-along cmp p (λ cs s. held s.buckets ≤ held cs) (λ cs. omega arith) pass-held (λ cs s r. omega (arith, r, pass-held cs)) (suc (held bs)) bs

-- ---- what the lines ask for, at most: a place for each term, each lead and each sum
unfoldable wanted : List Line → ℕ
wanted [] = 0
wanted (add_line ts ∷ ls) = length ts + wanted ls
wanted (lead_line ∷ ls) = 1 + wanted ls
wanted (sum_line ∷ ls) = 1 + wanted ls

-- four bytes for each
lines-wanted : (n : ℕ) (ls : List Line) → GoodLines n ls → 4 * wanted ls ≤ length (lines_text ls)
unfolding wanted lines_text
lines-wanted n [] g = omega arith
lines-wanted n (add_line ts ∷ ls) g = omega (arith, entries-size n ts g.0, lines-wanted n ls g.1, length-append (entries_text ts) (10 ∷ lines_text ls))
lines-wanted n (lead_line ∷ ls) g = omega (arith, lines-wanted n ls g.1)
lines-wanted n (sum_line ∷ ls) g = omega (arith, lines-wanted n ls g.1)

-- ---- a polynomial has no more terms than its line
polynomial-most : (words coefs starts : List ℕ) (k : ℕ) → length (polynomial words coefs starts k) ≤ get_or starts (k + 1) 0 - get_or starts k 0
polynomial-most words coefs starts k =
    omega (arith, terms-most (part_of starts k words) (part_of starts k coefs), length-take (get_or starts (k + 1) 0 - get_or starts k 0) (drop (get_or starts k 0) words))

-- what stands at a place, and behind it
pub at_place : (l : List ℕ) (k x : ℕ) (xs : List ℕ) → drop k l ≡ x ∷ xs → (get_or l k 0 ≡ x) × (drop (k + 1) l ≡ xs)
at_place [] zero x xs e = absurd (let z : ◌≡◌ {A = ℕ} 0 (suc (length xs)) = ap length e in let y : ⊥ = omega arith in y)
at_place [] (suc k) x xs e = absurd (let z : ◌≡◌ {A = ℕ} 0 (suc (length xs)) = ap length e in let y : ⊥ = omega arith in y)
at_place (a ∷ l) zero x xs e = (ap (λ (y : List ℕ). get_or y 0 0) e, ap (drop 1) e)
at_place (a ∷ l) (suc k) x xs e =
    let r = at_place l k x xs e in
    (r.0, ap (λ (n : ℕ). drop n (a ∷ l)) (let z : suc k + 1 ≡ suc (k + 1) = omega arith in z) ∙ r.1)

-- ---- along the lines
module _ (cmp : ℕ → ℕ → Ordering) (p places : ℕ) where
  module _ (few : places ≤ script_terms) (words coefs starts : List ℕ) where
    -- with room for what the lines want beside the places written and the terms held, no operation is refused
    never-stops : (ls : List Line) (k at : ℕ) (t : Running) → drop k starts ≡ at ∷ ends_from at ls → t.stop ≡ 0 → length t.output + held t.work.buckets + wanted ls ≤ places → (operate_all cmp p places (operations_of words coefs starts (pairs_from k ls)) t).stop ≡ 0
    unfolding wanted ends_from pairs_from operations_of operate_all operate
    never-stops [] k at t s z h = z
    never-stops (add_line ts ∷ ls) k at t s z h =
        let f = polynomial words coefs starts k in
        let a = at_place starts k at ((at + length ts) ∷ ends_from (at + length ts) ls) s in
        let b = at_place starts (k + 1) (at + length ts) (ends_from (at + length ts) ls) a.1 in
        let m : length f ≤ length ts = omega (arith, polynomial-most words coefs starts k, a.0, b.0) in
        let fits : held t.work.buckets + length f ≤ most_terms = omega (arith, m, h, few) in
        ap (λ (x : Running). x.stop) (all-on cmp p places (adds f) (operations_of words coefs starts (pairs_from (k + 1) ls)) t (ap (λ (b : Bool). added_by cmp p b f t) (le-leb (held t.work.buckets + length f) most_terms fits)) z)
        ∙ never-stops ls (k + 1) (at + length ts) (added cmp p f t) a.1 z (omega (arith, m, h, add-held cmp p f t.work.buckets))
    never-stops (lead_line ∷ ls) k at t s z h =
        let fits : length t.output + 1 ≤ places = omega (arith, h) in
        ap (λ (x : Running). x.stop) (all-on cmp p places leads (operations_of words coefs starts (pairs_from k ls)) t (ap (λ (b : Bool). taken_by cmp p b t) (le-leb (length t.output + 1) places fits)) z)
        ∙ never-stops ls k at (taken cmp p t) s z (omega (arith, h, search-held cmp p t.work.buckets, length-append t.output (place_of (search cmp p t.work.buckets).answer ∷ [])))
    never-stops (sum_line ∷ ls) k at t s z h =
        let fits : length t.output + (held t.work.buckets + 1) ≤ places = omega (arith, h) in
        let sum = full_sum cmp p t.work.buckets in
        ap (λ (x : Running). x.stop) (all-on cmp p places sums (operations_of words coefs starts (pairs_from k ls)) t (ap (λ (b : Bool). summed_by cmp p b t) (le-leb (length t.output + (held t.work.buckets + 1)) places fits)) z)
        ∙ never-stops ls k at (summed cmp p t) s z (omega (arith, h, sum-size cmp p [] t.work.buckets, emptied-held t.work.buckets, length-append t.output (sum ++ (term 0 0 ∷ [])), length-append sum (term 0 0 ∷ [])))

-- ---- the operations of a script are all done
pub never-full : (bytes : List ℕ) (s : Script) → script_of bytes ≡ some s → (cmp : ℕ → ℕ → Ordering) (p : ℕ) → (operate_all cmp p script_terms (operations_of (words_of s) (coefs_of s) (starts_of s) (pairs_of s)) begun).stop ≡ 0
unfolding held
never-full bytes s e cmp p =
    let g = (text-read bytes s e).0 in
    let room : wanted s.lines ≤ script_terms = omega (arith, lines-wanted s.vars s.lines g.lines-good, inside s, g.not-long) in
    never-stops cmp p script_terms (omega arith) (words_of s) (coefs_of s) (starts_of s) s.lines 0 0 begun refl refl (omega (arith, room))

-- ---- an opening refusal is one of 1 to 9, or 24
opening-by : (r : ℕ) (ns : List ℕ) → OneOf (ns ++ (24 ∷ [])) r → below 10 ns ≡ true → Opening r
opening-by r [] (inl e) b = inr e
opening-by r [] (inr o) b = absurd o
opening-by r (n ∷ ns) (inl e) b = inl (omega (arith, e, ltb-true n 10 (and_both (ltb n 10) (below 10 ns) b).0))
opening-by r (n ∷ ns) (inr o) b = opening-by r ns o (and_both (ltb n 10) (below 10 ns) b).1

opening-is : (t : Setting) (words coefs starts ops : List ℕ) (bw bc ww wc ow oc : ℕ) → Opening (run_refusal t words coefs starts ops bw bc ww wc ow oc)
opening-is t words coefs starts ops bw bc ww wc ow oc =
    opening-by (run_refusal t words coefs starts ops bw bc ww wc ow oc) (0 ∷ 1 ∷ 2 ∷ 3 ∷ 4 ∷ 5 ∷ 6 ∷ 8 ∷ 9 ∷ []) (run-numbers t words coefs starts ops bw bc ww wc ow oc) refl

pub opening-most : (t : Setting) (words coefs starts ops : List ℕ) (bw bc ww wc ow oc : ℕ) → run_refusal t words coefs starts ops bw bc ww wc ow oc ≤ 24
opening-most t words coefs starts ops bw bc ww wc ow oc = ⊎_elim (λ l. omega (arith, l)) (λ e. omega (arith, e)) (opening-is t words coefs starts ops bw bc ww wc ow oc)

-- ---- a refusal, where all operations are done, is the opening's
opening-alone : (refusal : ℕ) (tally : Tally) (t : Running) (bw bc ww wc ow oc : List ℕ) → Opening refusal → t.stop ≡ 0 → (let a : Stated = (decided_by refusal tally (ended t ow oc) bw bc ww wc ow oc).answer in Opening a.number × ((a.number ≡ 0 → ⊥) → a.finished ≡ 0))
opening-alone zero tally t bw bc ww wc ow oc h z = (inl (omega (arith, z)), λ some. absurd (some z))
opening-alone (suc n) tally t bw bc ww wc ow oc h z = (h, λ some. refl)

-- The run of an accepted script is refused by its opening checks, with one of 1 to 9 or 24 and no operation finished, or not at all.
pub refused-at-opening : (bytes : List ℕ) (s : Script) → script_of bytes ≡ some s → Opening (script_outcome s).answer.number × (((script_outcome s).answer.number ≡ 0 → ⊥) → (script_outcome s).answer.finished ≡ 0)
refused-at-opening bytes s is =
    let l : ℕ → ℕ = λ n. length {A = ℕ} (replicate n 0) in
    opening-alone (run_refusal (setting_in s) (words_of s) (coefs_of s) (starts_of s) (pairs_of s) (l bucket_places) (l bucket_places) (l work_places) (l work_places) (l script_terms) (l script_terms)) no_tally (ran_through (setting_in s) (words_of s) (coefs_of s) (starts_of s) (pairs_of s) (l script_terms)) (replicate bucket_places 0) (replicate bucket_places 0) (replicate work_places 0) (replicate work_places 0) (replicate script_terms 0) (replicate script_terms 0)
    (opening-is (setting_in s) (words_of s) (coefs_of s) (starts_of s) (pairs_of s) (l bucket_places) (l bucket_places) (l work_places) (l work_places) (l script_terms) (l script_terms))
    (never-full bytes s is (compare_words (order_of (order_number s.order))) s.prime)

-- so neither with 10 nor with 11
pub no-refusal-10-11 : (bytes : List ℕ) (s : Script) → script_of bytes ≡ some s → ((script_outcome s).answer.number ≡ 10 → ⊥) × ((script_outcome s).answer.number ≡ 11 → ⊥)
no-refusal-10-11 bytes s is =
    let h = (refused-at-opening bytes s is).0 in
    (λ q. ⊎_elim (λ l. let z : ⊥ = omega (arith, l, q) in z) (λ e. let z : ⊥ = omega (arith, e, q) in z) h, λ q. ⊎_elim (λ l. let z : ⊥ = omega (arith, l, q) in z) (λ e. let z : ⊥ = omega (arith, e, q) in z) h)

-- ---- the listing of any bytes
pub printed : (bytes : List ℕ) → Printed bytes
unfolding listing_of ran_text
printed bytes = by (script_of bytes) refl
  where
    ran : (s : Script) → script_of bytes ≡ some s → (number : ℕ) → (script_outcome s).answer.number ≡ number → Printed bytes
    ran s e zero q = done s e q (ap listing_by e ∙ ap (λ (n : ℕ). ran_by n (script_outcome s).answer.finished (done_text s)) q)
    ran s e (suc k) q =
        let some : (script_outcome s).answer.number ≡ 0 → ⊥ = λ z. let w : ⊥ = omega (arith, q, z) in w in
        let h = refused-at-opening bytes s e in
        refused (script_outcome s).answer.number some h.0 (ap listing_by e ∙ (ran-some (script_outcome s).answer.number (script_outcome s).answer.finished (done_text s) some ∙ ap (refused_text (script_outcome s).answer.number) (h.1 some)))

    by : (x : Option Script) → script_of bytes ≡ x → Printed bytes
    by none e = bad-script e (ap listing_by e)
    by (some s) e = ran s e (script_outcome s).answer.number refl
