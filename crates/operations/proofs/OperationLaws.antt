-- The operations of a run, from what they call. Assumes nothing.
use mathlib.Core.Path.{◌≡◌, refl, sym, ap, ap₂, ◌∙◌, subst}
use mathlib.Core.Bool.{Bool, false, not}
use mathlib.Core.List.{List, [], ◌∷◌, ◌++◌, map}
use Prim.Native.Nat.{ℕ, ◌+◌, ◌-◌, ◌<◌, ◌≤◌}
use native.Mathlib.Omega.{arith}
use borrow.Author.Tests.{le-leb, lt-leb, eq-eqb, ne_eqb}
use lib.Dec.{eqb}
use lib.ListN.{length, take, drop, set, length-append, length-map}
use lib.Seq.{sets}
use Rattle.std.specs.Option.{MatchOption}
use Rattle.limits.specs.Limits.{most_operations, most_terms}
use Rattle.refusal.specs.declared.Refusal.{Refusal}
use Rattle.refusal.specs.declared.Refusal.TheVariants.{NoOutput, TooManyTerms}
use Rattle.refusal.specs.Table.{number_of}
use Rattle.monomial.specs.declared.order.Order.{Order}
use Rattle.monomial.specs.Words.{compare_words, from_key}
use Rattle.monomial.proofs.OrderLaws.{words-order}
use Rattle.polynomial.specs.Terms.{Term, term, terms}
use Rattle.polynomial.proofs.TermLists.{length-terms}
use Rattle.merge_common.specs.Lent.{part, flag}
use Rattle.merge_common.proofs.Lists.{length_part, sets-snoc}
use Rattle.geobucket.specs.Buckets.{held, full_sum, emptied}
use Rattle.geobucket.specs.Search.{Lead, none, lead, search}
use Rattle.geobucket.specs.Events.{lead_terms}
use Rattle.geobucket.proofs.AddLaws.{adds}
use Rattle.geobucket.proofs.EventLaws.{room-six, good-canon}
use Rattle.geobucket.proofs.SearchLaws.{Fewer, Leads, finds}
use Rattle.geobucket.proofs.SumLaws.{sum-size, emptied-held}
use Rattle.space.specs.Space.{Buckets, list_from, Slices, Spaces, spaces, words_in, Standing, held_in}
use Rattle.space.proofs.SpaceLaws.{part-to}
use Rattle.space.proofs.InWords.{held-words, six-words, good-words, words-none}
use Rattle.space.proofs.InWords as spaced
use Rattle.search.specs.declared.candidate.LeadSearch.{LeadSearch}
use Rattle.search.specs.Candidates.{search_of}
use Rattle.search.specs.Searching.{Taken}
use Rattle.merge_common.specs.declared.merging.Placed.{Placed}
use Rattle.buckets.specs.Adding.{WordAddition, Added}
use Rattle.buckets.specs.Summing.{Summation, SumDone}
use Rattle.buckets.proofs.SumWords.{sum-words, sum-count, sum-len}
use Rattle.call.specs.declared.state.State.{State}
use Rattle.call.specs.States.{counted, brought, gave, finished_one, halted}
use Rattle.call.specs.Lending.{Output, Addend}
use Rattle.call.proofs.StandLaws.{none-stands}
use Rattle.run_outcome.specs.Runs as R
use Rattle.run_outcome.specs.Runs.{Operation, Running, operate, stopped, added_by, taken_by, summed_by, place_of}
use Rattle.operations.specs.States.{StandsFor, Counting, Operated, AddOperated}
use Rattle.call.proofs.OutputLaws.{terms-append, written-long, grown, grown-output, words-past, coefs-past}

-- ---- a refused operation
module _ {o : Order} {p : ℕ} {s : State} {x : Spaces} (c : Counting o p s x) where
  halted-done : {ow oc : List ℕ} (q : Operation) (r : Refusal) → false ≡ eqb (number_of r) 0 → Output s.places ow oc → ((t : Running) → StandsFor o s x ow oc t → operate (compare_words o) p (length ow) q t ≡ stopped (number_of r) t) → Operated o p q s x ow oc (halted s r) x ow oc
  halted-done {ow} {oc} q r some out e = record {
    counting = record { stands = c.stands; room = c.room; most = c.most; few = c.few; some-brought = c.some-brought; some-given = c.some-given };
    output = out;
    is = λ t z. subst (StandsFor o (halted s r) x ow oc) (sym (e t z)) (record {
      counts = record { buckets-are = z.counts.buckets-are; comparisons-are = z.counts.comparisons-are; brought-are = z.counts.brought-are };
      given-are = z.given-are;
      output-is = z.output-is;
      finished-is = z.finished-is;
      stop_is = refl;
      goes-on-is = some;
    });
    one_more = omega arith;
    longer = omega arith;
    words-past = refl;
    coefs-past = refl;
  }

  -- each count grows by 50,000 at most
  counting-on : {s' : State} {x' : Spaces} → Standing p x' → held (words_in o x') ≤ most_terms → s.finished < most_operations → s'.finished ≡ s.finished + 1 → s'.comparisons ≤ s.comparisons + 50000 → s'.brought ≤ s.brought + 50000 → s'.given ≤ s.given + 50000 → Counting o p s' x'
  counting-on stands room more one n m g = record { stands = stands; room = room; most = omega (arith, more, one); few = omega (arith, c.few, n, one); some-brought = omega (arith, c.some-brought, m, one); some-given = omega (arith, c.some-given, g, one) }

  held-is : held (words_in o x) ≡ held_in x.places
  held-is = spaced.held-is o c.stands

  pub held_small : held_in x.places ≤ most_terms
  held_small = omega (arith, c.room, held-is)

  held-for : {ow oc : List ℕ} {t : Running} → StandsFor o s x ow oc t → held t.work.buckets ≡ held_in x.places
  held-for z = ap held (sym z.counts.buckets-are) ∙ held-is

  -- ---- an addition
  module _ {fw fc : List ℕ} (a : Addend (compare_words o) p fw fc) where
    f-long : length (terms fw fc) ≡ length fw
    f-long = length-terms fw fc a.long

    pub add-refused : most_terms < held_in x.places + length fw → AddOperated o p (terms fw fc) s x (halted s TooManyTerms) x
    unfolding operate
    add-refused h = record {
      done = λ ow oc out. halted-done (R.adds (terms fw fc)) TooManyTerms refl out (λ t z.
          ap (λ (y : Bool). added_by (compare_words o) p y (terms fw fc) t) (lt-leb (held t.work.buckets + length (terms fw fc)) most_terms (omega (arith, h, held-for z, f-long))));
    }

    module _ (h : held_in x.places + length fw ≤ most_terms) where
      pub add-asks : WordAddition o p x fw fc
      add-asks = record { stands = c.stands; long = a.long; canonical = a.canonical; room = omega (arith, h, held-is) }

      pub add-operated : s.finished < most_operations → {x' : Spaces} {n : ℕ} → Added o p x (terms fw fc) x' n → AddOperated o p (terms fw fc) s x (finished_one (brought (counted s n) (length fw))) x'
      unfolding operate
      add-operated more {x'} {n} d =
          let f = terms fw fc in
          let bs = words_in o x in
          let s' = finished_one (brought (counted s n) (length fw)) in
          let small : length fw ≤ most_terms = omega arith in
          let size = (adds (compare_words o) p (words-order o) (omega (arith, c.stands.modulus.two)) f bs (omega (arith, h, held-is, f-long, room-six bs (six-words o x))) a.canonical (good-words o c.stands)).size in
          record {
            done = λ ow oc out. record {
              counting = counting-on d.stands (omega (arith, ap held d.lists-are, size, h, held-is, f-long)) more refl (omega (arith, d.few)) (omega (arith, small)) (omega arith);
              output = out;
              is = λ t z. subst (λ (y : Bool). StandsFor o s' x' ow oc (added_by (compare_words o) p y f t)) (sym (le-leb (held t.work.buckets + length f) most_terms (omega (arith, h, held-for z, f-long)))) (record {
                counts = record {
                  buckets-are = rw z.counts.buckets-are at d.lists-are;
                  comparisons-are = rw length-append (ap₂ ◌+◌ z.counts.comparisons-are (rw z.counts.buckets-are at d.count-is));
                  brought-are = rw length-append (ap₂ ◌+◌ z.counts.brought-are (sym f-long));
                };
                given-are = z.given-are;
                output-is = z.output-is;
                finished-is = ap (λ (m : ℕ). m + 1) z.finished-is;
                stop_is = z.stop_is;
                goes-on-is = z.goes-on-is;
              });
              one_more = omega arith;
              longer = omega arith;
              words-past = refl;
              coefs-past = refl;
            };
          }

  -- ---- a lead
  module _ {ow oc : List ℕ} (out : Output s.places ow oc) where
    written : {t : Running} → StandsFor o s x ow oc t → length t.output ≡ s.places
    written z = ap length (sym z.output-is) ∙ written-long out

    pub lead-refused : length ow ≤ s.places → Operated o p R.leads s x ow oc (halted s NoOutput) x ow oc
    unfolding operate
    lead-refused h = halted-done R.leads NoOutput refl out (λ t z. ap (λ (y : Bool). taken_by (compare_words o) p y t) (lt-leb (length t.output + 1) (length ow) (omega (arith, h, written z))))

    module _ (h : s.places < length ow) {x' : Spaces} {k : LeadSearch} (d : Taken o p x x' k) (word coef : ℕ) (place : MatchOption k.lead ((word ≡ 0) × (coef ≡ 0)) (λ l. (word ≡ l.word) × (coef ≡ l.coef))) where
      abbrev bs : List (List (Term ℕ))
      bs = words_in o x

      pos : 0 < p
      pos = omega (arith, c.stands.modulus.two)

      place-by : (y : Lead ℕ) (n : ℕ) → MatchOption (search_of y n).lead ((word ≡ 0) × (coef ≡ 0)) (λ l. (word ≡ l.word) × (coef ≡ l.coef)) → term word coef ≡ place_of y
      place-by none n e = ap₂ (λ (m c : ℕ). term m c) e.0 e.1
      place-by (lead at t) n e = ap₂ (λ (m c : ℕ). term m c) e.0 e.1

      placed : term word coef ≡ place_of (search (compare_words o) p bs).answer
      placed = place-by (search (compare_words o) p bs).answer (length (search (compare_words o) p bs).pairs) (subst (λ (y : LeadSearch). MatchOption y.lead ((word ≡ 0) × (coef ≡ 0)) (λ l. (word ≡ l.word) × (coef ≡ l.coef))) d.search-is place)

      counted-given : flag (not (eqb coef 0)) ≡ length (lead_terms (search (compare_words o) p bs).answer)
      counted-given = ap (λ (y : Term ℕ). flag (not (eqb y.coef 0))) placed ∙ by (search (compare_words o) p bs).answer (finds (compare_words o) p (words-order o) pos bs (good-canon (compare_words o) p 4 bs (good-words o c.stands))).leads
        where
          by : (y : Lead ℕ) → Leads (compare_words o) p y (search (compare_words o) p bs).buckets → flag (not (eqb (place_of y).coef 0)) ≡ length (lead_terms y)
          by none l = ap (λ (b : Bool). flag (not b)) (eq-eqb 0 0 refl)
          by (lead at t) l = ap (λ (b : Bool). flag (not b)) (ne_eqb t.coef 0 (λ e. let z : ⊥ = omega (arith, l.0) in z))

      left : held (search (compare_words o) p bs).buckets ≤ held bs
      left = by (search (compare_words o) p bs).answer (finds (compare_words o) p (words-order o) pos bs (good-canon (compare_words o) p 4 bs (good-words o c.stands))).fewer
        where
          by : (y : Lead ℕ) → Fewer (compare_words o) p y (search (compare_words o) p bs).buckets bs → held (search (compare_words o) p bs).buckets ≤ held bs
          by none l = l
          by (lead at t) l = omega (arith, l)

      count : k.count ≡ length (search (compare_words o) p bs).pairs
      count = ap (λ (y : LeadSearch). y.count) d.search-is ∙ by (search (compare_words o) p bs).answer (length (search (compare_words o) p bs).pairs)
        where
          by : (y : Lead ℕ) (n : ℕ) → (search_of y n).count ≡ n
          by none n = refl
          by (lead at t) n = refl

      pub lead-operated : s.finished < most_operations → {n : ℕ} → n ≡ flag (not (eqb coef 0)) → n ≤ 1 → Operated o p R.leads s x ow oc (finished_one (gave (counted s k.count) n 1)) x' (set ow s.places word) (set oc s.places coef)
      unfolding operate
      lead-operated more {n} en small =
          let w = word ∷ [] in
          let v = coef ∷ [] in
          let s' = finished_one (gave (counted s k.count) n 1) in
          let fit : s.places + length w ≤ length ow = omega (arith, h) in
          record {
            counting = counting-on d.stands (omega (arith, ap held d.lists-are, left, c.room)) more refl (omega (arith, d.few)) (omega arith) (omega (arith, small));
            output = grown-output out w v refl fit;
            is = λ t z. subst (λ (y : Bool). StandsFor o s' x' (set ow s.places word) (set oc s.places coef) (taken_by (compare_words o) p y t)) (sym (le-leb (length t.output + 1) (length ow) (omega (arith, h, written z)))) (record {
              counts = record {
                buckets-are = rw z.counts.buckets-are at d.lists-are;
                comparisons-are = rw length-append (ap₂ ◌+◌ z.counts.comparisons-are (rw z.counts.buckets-are at count));
                brought-are = z.counts.brought-are;
              };
              given-are = rw length-append (ap₂ ◌+◌ z.given-are (rw z.counts.buckets-are at (en ∙ counted-given)));
              output-is = grown out w v refl fit ∙ ap₂ (λ (x : List (Term ℕ)) (y : Term ℕ). x ++ (y ∷ [])) z.output-is (rw z.counts.buckets-are at placed);
              finished-is = ap (λ (m : ℕ). m + 1) z.finished-is;
              stop_is = z.stop_is;
              goes-on-is = z.goes-on-is;
            });
            one_more = omega arith;
            longer = omega arith;
            words-past = words-past out w v refl fit;
            coefs-past = coefs-past out w v refl fit;
          }

    -- ---- a full sum
    pub sum-refused : length ow - s.places < held_in x.places + 1 → Operated o p R.sums s x ow oc (halted s NoOutput) x ow oc
    unfolding operate
    sum-refused h = halted-done R.sums NoOutput refl out (λ t z. ap (λ (y : Bool). summed_by (compare_words o) p y t) (lt-leb (length t.output + (held t.work.buckets + 1)) (length ow) (omega (arith, h, written z, held-for z, out.fits))))

module _ {o : Order} {p : ℕ} {s : State} {b : Buckets} {ww wc bw bc : List ℕ} (c : Counting o p s (spaces b ww wc bw bc)) (q : Slices ww wc bw bc) where
  abbrev x : Spaces
  x = spaces b ww wc bw bc

  pub sum-asks : Summation p b ww wc bw bc
  sum-asks = record { stands = c.stands; room = omega (arith, c.room, held-words o x); slices = q }

  module _ {ow oc : List ℕ} (out : Output s.places ow oc) (h : held_in b + 1 ≤ length ow - s.places) {b' : Buckets} {ww' wc' bw' bc' : List ℕ} {r : Placed} (d : SumDone p b (ww ++ bw) (wc ++ bc) b' bw' bc' r) (q' : Slices ww' wc' bw' bc') where
    abbrev all : List (List (Term ℕ))
    all = words_in o x

    abbrev drained : Spaces
    drained = spaces b' ww' wc' bw' bc'

    -- the buckets are empty
    sum-empty : words_in o drained ≡ emptied all
    unfolding list_from emptied
    sum-empty = ap (λ (y : Buckets). words_in o (spaces y ww' wc' bw' bc')) d.none ∙ words-none o ww' wc' bw' bc'

    drained-stands : Standing p drained
    drained-stands = subst (λ (y : Buckets). Standing p (spaces y ww' wc' bw' bc')) (sym d.none) (none-stands c.stands.modulus q')

    -- the words of the sum, which lies there by keys
    abbrev W : List ℕ
    W = map (from_key o) (part r.head r.len bw')

    abbrev C : List ℕ
    C = part r.head r.len bc'

    W-long : length W ≡ r.len
    W-long = length-map (part r.head r.len bw') (from_key o) ∙ length_part r.head r.len bw' (omega (arith, d.in-space, q'.words_long))

    C-long : length C ≡ r.len
    C-long = length_part r.head r.len bc' (omega (arith, d.in-space, q'.coefs-long))

    pub sum-short : r.len ≤ held_in b
    sum-short = omega (arith, sum-len o ww wc bw bc d, sum-size (compare_words o) p [] all, held-is c)

    pub sum_fits : s.places + r.len < length ow
    sum_fits = omega (arith, h, sum-short, out.fits)

    abbrev VW : List ℕ
    VW = W ++ (0 ∷ [])

    abbrev VC : List ℕ
    VC = C ++ (0 ∷ [])

    VW-long : length VW ≡ r.len + 1
    VW-long = length-append W (0 ∷ []) ∙ ap (λ (n : ℕ). n + 1) W-long

    VC-long : length VC ≡ r.len + 1
    VC-long = length-append C (0 ∷ []) ∙ ap (λ (n : ℕ). n + 1) C-long

    pub sum-operated : s.finished < most_operations → Operated o p R.sums s x ow oc (finished_one (gave (counted s r.comparisons) r.len (r.len + 1))) drained (set (sets ow s.places W) (s.places + r.len) 0) (set (sets oc s.places C) (s.places + r.len) 0)
    unfolding operate
    sum-operated more =
        let at = s.places in
        let s' = finished_one (gave (counted s r.comparisons) r.len (length VW)) in
        let same_len : length VC ≡ length VW = VC-long ∙ sym VW-long in
        let fit : at + length VW ≤ length ow = omega (arith, sum_fits, VW-long) in
        let ew : set (sets ow at W) (at + r.len) 0 ≡ sets ow at VW = ap (λ (n : ℕ). set (sets ow at W) (at + n) 0) (sym W-long) ∙ sym (sets-snoc ow at W 0) in
        let ev : set (sets oc at C) (at + r.len) 0 ≡ sets oc at VC = ap (λ (n : ℕ). set (sets oc at C) (at + n) 0) (sym C-long) ∙ sym (sets-snoc oc at C 0) in
        let sum_is : terms VW VC ≡ full_sum (compare_words o) p all ++ (term 0 0 ∷ []) = terms-append W C (0 ∷ []) (0 ∷ []) (C-long ∙ sym W-long) ∙ ap (λ (y : List (Term ℕ)). y ++ (term 0 0 ∷ [])) (sum-words o ww wc bw bc d) in
        let done : Operated o p R.sums s x ow oc s' drained (sets ow at VW) (sets oc at VC) =
        record {
          counting = counting-on c drained-stands (omega (arith, ap held sum-empty, emptied-held all)) more refl (omega (arith, d.few)) (omega arith) (omega (arith, sum-short, held_small c));
          output = grown-output out VW VC same_len fit;
          is = λ t z. subst (λ (y : Bool). StandsFor o s' drained (sets ow at VW) (sets oc at VC) (summed_by (compare_words o) p y t)) (sym (le-leb (length t.output + (held t.work.buckets + 1)) (length ow) (omega (arith, h, written c out z, held-for c z, out.fits)))) (record {
            counts = record {
              buckets-are = rw z.counts.buckets-are at sum-empty;
              comparisons-are = rw length-append (ap₂ ◌+◌ z.counts.comparisons-are (rw z.counts.buckets-are at (sum-count o ww wc bw bc d)));
              brought-are = z.counts.brought-are;
            };
            given-are = rw length-append (ap₂ ◌+◌ z.given-are (rw z.counts.buckets-are at (sum-len o ww wc bw bc d)));
            output-is = grown out VW VC same_len fit ∙ ap₂ (λ (x y : List (Term ℕ)). x ++ y) z.output-is (rw z.counts.buckets-are at sum_is);
            finished-is = ap (λ (m : ℕ). m + 1) z.finished-is;
            stop_is = z.stop_is;
            goes-on-is = z.goes-on-is;
          });
          one_more = omega arith;
          longer = omega arith;
          words-past = words-past out VW VC same_len fit;
          coefs-past = coefs-past out VW VC same_len fit;
        } in
        rw (← VW-long, ew, ev) done

-- ---- the sum's places, as the code puts them
pub part-len : (from n : ℕ) (l : List ℕ) → from + n ≤ length l → length (take (from + n - from) (drop from l)) ≡ n
part-len from n l h = ap length (part-to from n l) ∙ length_part from n l h

pub rw-done : {o : Order} {p : ℕ} {s s' : State} {x x' : Spaces} {ow oc ow' oc' : List ℕ} (at k from n : ℕ) (ww wc : List ℕ) → ow' ≡ sets ow at (map (from_key o) (take (from + n - from) (drop from ww))) → oc' ≡ sets oc at (take (from + n - from) (drop from wc)) → Operated o p R.sums s x ow oc s' x' (set (sets ow at (map (from_key o) (part from n ww))) k 0) (set (sets oc at (part from n wc)) k 0) → Operated o p R.sums s x ow oc s' x' (set ow' k 0) (set oc' k 0)
rw-done {o} {p} {s} {s'} {x} {x'} {ow} {oc} {ow'} {oc'} at k from n ww wc ew ec d =
    let w : ow' ≡ sets ow at (map (from_key o) (part from n ww)) = ew ∙ ap (λ (l : List ℕ). sets ow at (map (from_key o) l)) (part-to from n ww) in
    let v : oc' ≡ sets oc at (part from n wc) = ec ∙ ap (sets oc at) (part-to from n wc) in
    rw (w, v) d
