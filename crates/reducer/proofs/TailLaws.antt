-- The multiple of a tail, made past the areas of the work space or in arrays of its own, and added. Assumes nothing.
use mathlib.Core.Path.{◌≡◌, refl, sym, ap, ap₂, ◌∙◌, subst}
use mathlib.Core.List.{List, map, ◌++◌}
use Prim.Native.Nat.{ℕ, ◌+◌, ◌-◌, ◌<◌, ◌≤◌, compare}
use native.Mathlib.Omega.{arith}
use lib.ListN.{length, take, drop, length-map}
use Rattle.limits.specs.Limits.{most_terms}
use Rattle.residue.specs.declared.factor.Factor.{Factor}
use Rattle.monomial.specs.declared.order.Order.{Order}
use Rattle.monomial.specs.Words.{compare_words, key_of, from_key}
use Rattle.polynomial.specs.Terms.{Term, term, terms, words, coefs, Canonical}
use Rattle.polynomial.proofs.TermLists.{length-terms, terms-of}
use Rattle.merge_common.specs.Lent.{part}
use Rattle.multiple.specs.Multiplying.{Multiplicands, Multiplied}
use Rattle.multiple.proofs.ProductLaws.{multiplied}
use Rattle.space.specs.Space.{Buckets, Slices, Spaces, spaces}
use Rattle.space.proofs.SpaceLaws.{part-put}
use Rattle.call.specs.declared.state.State.{State}
use Rattle.call.specs.States.{counted, brought}
use Rattle.buckets.specs.Adding.{Added, WordAddition, Addition, AddDone, free, most_small}
use Rattle.buckets.specs.Last.{MergeLast, LastMerged, last_at}
use Rattle.buckets.proofs.WordLaws.{small-asks, small-done, last-asks, large-done}
use Rattle.reducer.specs.Dividing.{Times, times_tail, TailAddition, TailAdded}

-- ---- the multiple
module _ {f : Factor} {q : ℕ} {tw tc : List ℕ} (t : Times f q tw tc) where
  pub times-asks : {to : ℕ} {ow oc : List ℕ} → to + length tw ≤ length ow → to + length tw ≤ length oc → Multiplicands f q tw tc to ow oc
  times-asks hw hc = record { prepared = t.prepared; poly = t.poly; monomial = t.monomial; packed = t.packed; words-room = hw; coefs-room = hc }

  M-long : length (times_tail f q tw tc) ≡ length tw
  M-long = length-map (terms tw tc) (λ x. term (q + x.mono) _) ∙ length-terms tw tc t.poly.long

  words_long : length (words (times_tail f q tw tc)) ≡ length tw
  words_long = length-map (times_tail f q tw tc) (λ x. x.mono) ∙ M-long

  coefs-long : length (coefs (times_tail f q tw tc)) ≡ length tw
  coefs-long = length-map (times_tail f q tw tc) (λ x. x.coef) ∙ M-long

  -- its keys are those of its words
  back : (o : Order) → map (from_key o) (map (key_of o) (words (times_tail f q tw tc))) ≡ words (times_tail f q tw tc)
  back o = (multiplied (times-asks {to = 0} {ow = tw} {oc = tw} (omega arith) (omega arith)) o refl refl).back

-- ---- the multiple is added
module _ {o : Order} {p : ℕ} {f : Factor} {q : ℕ} {tw tc : List ℕ} {s : State} {b : Buckets} {ww wc bw bc : List ℕ} (a : TailAddition o p f q tw tc s (spaces b ww wc bw bc)) (z : Slices ww wc bw bc) where
  abbrev M : List (Term ℕ)
  M = times_tail f q tw tc

  addition : WordAddition o p (spaces b ww wc bw bc) (words (times_tail f q tw tc)) (coefs (times_tail f q tw tc))
  addition = record {
    stands = a.stands;
    long = coefs-long a.times ∙ sym (words_long a.times);
    canonical = subst (Canonical (compare_words o) p) (sym (terms-of M)) a.canonical;
    room = omega (arith, words_long a.times, a.room);
  }

  added : {x' : Spaces} {n : ℕ} → Added o p (spaces b ww wc bw bc) (terms (words (times_tail f q tw tc)) (coefs (times_tail f q tw tc))) x' n → {t : State} → t ≡ counted s n → {r : State} → r ≡ brought t (length tw) → TailAdded o p f q tw tc s (spaces b ww wc bw bc) r x'
  added {x'} {n} d et er = record { comparisons = n; done = subst (λ (y : List (Term ℕ)). Added o p (spaces b ww wc bw bc) y x' n) (terms-of M) d; is = er ∙ ap (λ (y : State). brought y (length tw)) et }

  -- past the areas
  module _ (few : length tw ≤ most_small) where
    pub put-asks : Multiplicands f q tw tc free ww wc
    put-asks = times-asks a.times (omega (arith, few, z.work-words)) (omega (arith, few, z.work-coefs))

    module _ {ww' wc' : List ℕ} (d : Multiplied o f.prime f.value q tw tc free ww wc ww' wc') where
      pub tail-asks : Addition compare p b (terms (part free (length tw) ww') (part free (length tw) wc')) (ww' ++ bw) (wc' ++ bc) × Slices ww' wc' bw bc × (length tw ≤ most_small)
      tail-asks = small-asks addition z (back a.times o) d.words_are d.coefs-are (sym (words_long a.times)) few

      pub tail-done : {sw' sc' : List ℕ} {b' : Buckets} {n : ℕ} → AddDone compare p b (terms (part free (length tw) ww') (part free (length tw) wc')) (ww' ++ bw) (wc' ++ bc) sw' sc' b' n → {t : State} → t ≡ counted s n → {r : State} → r ≡ brought t (length tw) → TailAdded o p f q tw tc s (spaces b ww wc bw bc) r (record { places = b'; keys = sw'; coefs = sc' })
      tail-done e = added (small-done addition z (back a.times o) d.words_are d.coefs-are (sym (words_long a.times)) few e)

  -- in the last bucket
  module _ (large : most_small < length tw) where
    over : most_small < length (words (times_tail f q tw tc))
    over = omega (arith, words_long a.times)

    pub large-asks : Times f q tw tc × (length tw ≤ most_terms) × MergeLast p b (map (key_of o) (words (times_tail f q tw tc))) (coefs (times_tail f q tw tc)) bw bc
    large-asks = (a.times, omega (arith, a.room), last-asks addition z (back a.times o) over)

    pub large-few : {bw' bc' : List ℕ} {b' : Buckets} {n : ℕ} → LastMerged p b (terms (map (key_of o) (words (times_tail f q tw tc))) (coefs (times_tail f q tw tc))) (last_at b bw bc) bw' bc' b' n → n ≤ 50000
    large-few d = (large-done addition z (back a.times o) over d).few

    pub tail-large : {bw' bc' : List ℕ} {b' : Buckets} {n : ℕ} → LastMerged p b (terms (map (key_of o) (words (times_tail f q tw tc))) (coefs (times_tail f q tw tc))) (last_at b bw bc) bw' bc' b' n → {t : State} → t ≡ counted s n → {r : State} → r ≡ brought t (length tw) → TailAdded o p f q tw tc s (spaces b ww wc bw bc) r (spaces b' ww wc bw' bc')
    tail-large d = added (large-done addition z (back a.times o) over d)

-- ---- the multiple at the start of arrays of its own
module _ {o : Order} {f : Factor} {q : ℕ} {tw tc : List ℕ} (t : Times f q tw tc) {kw kc kw' kc' : List ℕ} (hw : length tw ≤ length kw) (hc : length tw ≤ length kc) (d : Multiplied o f.prime f.value q tw tc 0 kw kc kw' kc') where
  pub keys-are : take (length tw - 0) (drop 0 kw') ≡ map (key_of o) (words (times_tail f q tw tc))
  keys-are =
      let e : length (map (key_of o) (words (times_tail f q tw tc))) ≡ length tw = length-map (words (times_tail f q tw tc)) (key_of o) ∙ words_long t in
      ap₂ (λ (n : ℕ) (l : List ℕ). part 0 n l) (let y : length tw - 0 ≡ length tw = omega arith in y ∙ sym e) d.words_are ∙ part-put kw 0 (map (key_of o) (words (times_tail f q tw tc))) (omega (arith, e, hw))

  pub coefs-are : take (length tw - 0) (drop 0 kc') ≡ coefs (times_tail f q tw tc)
  coefs-are =
      ap₂ (λ (n : ℕ) (l : List ℕ). part 0 n l) (let y : length tw - 0 ≡ length tw = omega arith in y ∙ sym (coefs-long t)) d.coefs-are ∙ part-put kc 0 (coefs (times_tail f q tw tc)) (omega (arith, coefs-long t, hc))

  pub array-asks : {p : ℕ} {b : Buckets} {bw bc : List ℕ} → MergeLast p b (map (key_of o) (words (times_tail f q tw tc))) (coefs (times_tail f q tw tc)) bw bc → MergeLast p b (take (length tw - 0) (drop 0 kw')) (take (length tw - 0) (drop 0 kc')) bw bc
  array-asks {p} {b} {bw} {bc} m = subst (λ (y : List ℕ). MergeLast p b y (take (length tw - 0) (drop 0 kc')) bw bc) (sym keys-are) (subst (λ (y : List ℕ). MergeLast p b (map (key_of o) (words (times_tail f q tw tc))) y bw bc) (sym coefs-are) m)

  pub array-done : {p : ℕ} {b : Buckets} {g : List (Term ℕ)} {bw' bc' : List ℕ} {b' : Buckets} {n : ℕ} → LastMerged p b (terms (take (length tw - 0) (drop 0 kw')) (take (length tw - 0) (drop 0 kc'))) g bw' bc' b' n → LastMerged p b (terms (map (key_of o) (words (times_tail f q tw tc))) (coefs (times_tail f q tw tc))) g bw' bc' b' n
  array-done {p} {b} {g} {bw'} {bc'} {b'} {n} m = subst (λ (y : List (Term ℕ)). LastMerged p b y g bw' bc' b' n) (ap₂ terms keys-are coefs-are) m
