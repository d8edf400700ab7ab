-- A lead that is divided by divisor k: what the functions that a division calls ask, and what it leaves. Assumes nothing.
use mathlib.Core.Path.{◌≡◌, refl, sym, ap, ap₂, ◌∙◌, subst}
use mathlib.Core.Bool.{Bool, true, false}
use mathlib.Core.List.{List, [], ◌∷◌}
use Prim.Native.Nat.{ℕ, zero, suc, ◌+◌, ◌-◌, ◌<◌, ◌≤◌}
use native.Mathlib.Omega.{arith}
use lib.ListN.{length, get_or, take, drop, length-drop}
use lib.Seq.{take_all, drop-cons}
use Rattle.limits.specs.Limits.{most_terms}
use Rattle.residue.specs.declared.factor.Factor.{Factor}
use Rattle.residue.specs.Share.{share_of, FactorOf}
use Rattle.residue.specs.Modular.{Modulus, negative, product, inverse_of}
use Rattle.residue.proofs.Modular.{negative-below}
use Rattle.residue.proofs.Inverses.{inverse-below}
use Rattle.monomial.specs.declared.order.Order.{Order}
use Rattle.monomial.specs.Words.{compare_words, Packed, divides_word}
use Rattle.monomial.specs.Layout.{Below}
use Rattle.monomial.proofs.LayoutLaws.{layout-packed}
use Rattle.polynomial.specs.Terms.{Term, term, terms, All, Canonical}
use Rattle.polynomial.specs.Opening.{part_of, Within}
use Rattle.polynomial.proofs.StartLaws.{part-long}
use Rattle.multiple.specs.Multiplying.{AllPacked, over_one, any_over, highest_word}
use Rattle.multiple.proofs.HighestLaws.{highest-packed, any-over}
use Rattle.geobucket.specs.Buckets.{held}
use Rattle.space.specs.Space.{Buckets, held_in, dropped, Spaces, words_in}
use Rattle.space.proofs.InWords.{held-is as held-places}
use Rattle.refusal.specs.declared.Refusal.TheVariants.{TooManyTerms, ExponentOver}
use Rattle.call.specs.declared.state.State.{State}
use Rattle.call.specs.States.{counted, brought, finished_one, halted}
use Rattle.search.specs.declared.candidate.Lead.{Lead}
use Rattle.search.specs.Searching.{without}
use Rattle.buckets.specs.Adding.{Added}
use Rattle.division.specs.Divisors.{Valid}
use Rattle.division.specs.Steps.{any_too_large, over_word}
use Rattle.division.proofs.TailLaws.{multiplier-good, Added as Addable, tail-added}
use Rattle.division.proofs.WordOperations.{word-operations}
use Rattle.divisors.specs.declared.kept.Cache.{Cache}
use Rattle.divisors.specs.Divisors.{lead_word, lead_coef, tail_of, in_one, inverse_in, KeptNumbers, Keepable, InverseKept, HighestKept, Inverting, Multiplying}
use Rattle.reducer.specs.Divisors.{OfLayout}
use Rattle.reducer.specs.Dividing.{times_tail, TailAddition, TailAdded, Dividing, to_add, DividedTo, over, many, divided, Divided}
use Rattle.divisors.proofs.InverseLaws.{multiplying}
use Rattle.divisors.proofs.KeptLaws.{inverse-asks, inverse-kept, tail-asks, tail-kept}

-- the same places, with the buckets elsewhere
abbrev pub placed : Buckets → Spaces → Spaces
placed b x = record { places = b; keys = x.keys; coefs = x.coefs }

-- ---- `any_over` of words is `any_too_large` of terms
pub over-terms : (q : ℕ) (ws cs : List ℕ) → length cs ≡ length ws → any_too_large over_word q (terms ws cs) ≡ any_over q ws
unfolding any_too_large any_over
over-terms q [] cs e = refl
over-terms q (w ∷ ws) [] e = absurd (let z : ⊥ = omega arith in z)
over-terms q (w ∷ ws) (c ∷ cs) e = rw (over-terms q ws cs (let z : length cs ≡ length ws = omega arith in z)) refl

all-packed : (o : Order) (vs : List ℕ) → Below 17 vs → (ws cs : List ℕ) → length cs ≡ length ws → All (λ t. OfLayout o vs t.mono) (terms ws cs) → AllPacked ws
all-packed o vs u [] cs e a = tt
all-packed o vs u (w ∷ ws) [] e a = absurd (let z : ⊥ = omega arith in z)
all-packed o vs u (w ∷ ws) (c ∷ cs) e a = (layout-packed o 6 vs w (omega arith) a.0 u, all-packed o vs u ws cs (let z : length cs ≡ length ws = omega arith in z) a.1)

-- ---- the polynomial of a divisor is its lead and its tail
pub part-cons : (starts : List ℕ) (k : ℕ) (l : List ℕ) → Within starts k (length l) → get_or starts k 0 < get_or starts (k + 1) 0 → part_of starts k l ≡ get_or l (get_or starts k 0) 0 ∷ tail_of starts k l
part-cons starts k l w rises = by (get_or starts (k + 1) 0 - get_or starts k 0) (let z : 0 < get_or starts (k + 1) 0 - get_or starts k 0 = omega arith in z)
  where
    a : ℕ
    a = get_or starts k 0

    by : (n : ℕ) → 0 < n → take n (drop (get_or starts k 0) l) ≡ get_or l (get_or starts k 0) 0 ∷ drop 1 (take n (drop (get_or starts k 0) l))
    by zero h = absurd (let z : ⊥ = omega arith in z)
    by (suc n) h = rw (drop-cons l (get_or starts k 0) 0 (let z : get_or starts k 0 < length l = omega (arith, w.ends) in z)) refl

-- the part from place 1 on
pub from_one : (l : List ℕ) → 1 ≤ length l → take (length l - 1) (drop 1 l) ≡ drop 1 l
from_one l h = take_all (length l - 1) (drop 1 l) (omega (arith, length-drop 1 l))

module _ {o : Order} {p : ℕ} {words coefs starts : List ℕ} {k : ℕ} {s : State} {lead : Lead} {kept : Cache} {x : Spaces} (a : Dividing o p words coefs starts k s lead kept x) where
  -- ---- the divisor
  pub words-part : Within starts k (length words)
  words-part = a.checked.parts k a.high

  pub coefs-part : Within starts k (length coefs)
  coefs-part = subst (Within starts k) (sym a.checked.long) words-part

  rises : get_or starts k 0 < get_or starts (k + 1) 0
  rises = a.checked.not-zero k a.low a.high

  pub words-cons : part_of starts k words ≡ lead_word words starts k ∷ tail_of starts k words
  words-cons = part-cons starts k words words-part rises

  pub coefs-cons : part_of starts k coefs ≡ lead_coef coefs starts k ∷ tail_of starts k coefs
  coefs-cons = part-cons starts k coefs coefs-part rises

  pub inside : get_or starts k 0 < length coefs
  inside = omega (arith, rises, coefs-part.ends)

  pub tail-long : length (tail_of starts k coefs) ≡ length (tail_of starts k words)
  tail-long = omega (arith, ap length words-cons, ap length coefs-cons, part-long starts k words words-part, part-long starts k coefs coefs-part)

  abbrev divisor_lead : Term ℕ
  divisor_lead = term (lead_word words starts k) (lead_coef coefs starts k)

  abbrev tail : List (Term ℕ)
  tail = terms (tail_of starts k words) (tail_of starts k coefs)

  pub valid : Valid (compare_words o) p (OfLayout o a.checked.weights) (divisor_lead ∷ tail)
  valid = subst (Valid (compare_words o) p (OfLayout o a.checked.weights)) (ap₂ terms words-cons coefs-cons) (a.checked.valid k a.high)

  -- ---- the quotient
  abbrev q : ℕ
  q = lead.word - lead_word words starts k

  pub quotient_le : lead_word words starts k ≤ lead.word
  quotient_le = omega (arith, (word-operations o 6 a.checked.weights (omega arith) a.checked.small).back lead.word (lead_word words starts k) a.of-layout valid.are.0 a.fits)

  pub quotient-packed : Packed q
  quotient-packed = layout-packed o 6 a.checked.weights q (omega arith) ((word-operations o 6 a.checked.weights (omega arith) a.checked.small).quotient_is lead.word (lead_word words starts k) a.of-layout valid.are.0 a.fits) a.checked.small

  pub tail-packed : AllPacked (tail_of starts k words)
  tail-packed = all-packed o a.checked.weights a.checked.small (tail_of starts k words) (tail_of starts k coefs) tail-long valid.are.1

  -- ---- the factor
  abbrev multiplier : ℕ
  multiplier = product p (negative p lead.coef) (inverse_of p (lead_coef coefs starts k))

  pub multiplier-small : multiplier < p
  multiplier-small = (multiplier-good p lead.coef (lead_coef coefs starts k) a.checked.prime a.coef-pos a.coef-small valid.canonical.reduced.0.0 valid.canonical.reduced.0.1).1

  -- ---- the terms held, less the lead
  pub held-is : held (words_in o x) ≡ held_in x.places
  held-is = held-places o a.stands

  -- ---- the multiple of the tail is added
  module _ (none : any_over q (tail_of starts k words) ≡ false) (few : held (words_in o (without lead.bucket x)) + length (tail_of starts k words) ≤ most_terms) where
    none-large : any_too_large over_word q tail ≡ false
    none-large = over-terms q (tail_of starts k words) (tail_of starts k coefs) tail-long ∙ none

    pub to-add : Addable (compare_words o) p (OfLayout o a.checked.weights) (term lead.word lead.coef) (to_add o p words coefs starts k s lead x)
    to-add = tail-added (compare_words o) divides_word ◌-◌ ◌+◌ over_word (OfLayout o a.checked.weights) (word-operations o 6 a.checked.weights (omega arith) a.checked.small) p a.checked.prime (term lead.word lead.coef) divisor_lead tail a.of-layout a.coef-pos a.coef-small valid a.fits none-large

    module _ {q' : ℕ} (eq : q' ≡ q) {tw tc : List ℕ} (etw : tw ≡ tail_of starts k words) (etc : tc ≡ tail_of starts k coefs) {v : ℕ} (ev : v ≡ multiplier) {f : Factor} (ef : FactorOf p v f) {r : State} (er : r ≡ finished_one s) {b₁ : Buckets} (eb₁ : b₁ ≡ dropped x.places lead.bucket) where
      made : times_tail f q' tw tc ≡ to_add o p words coefs starts k s lead x
      made = rw (ef.prime-is, ef.value-is, ev, eq, etw, etc) refl

      tail-addition : TailAddition o p f q' tw tc r (placed b₁ x)
      tail-addition =
          subst (λ (y : State). TailAddition o p f q' tw tc y (placed b₁ x)) (sym er)
          (subst (λ (y : Buckets). TailAddition o p f q' tw tc (finished_one s) (placed y x)) (sym eb₁)
          (record {
            stands = a.rest;
            times = record {
              prepared = record {
                modulus = subst Modulus (sym ef.prime-is) a.checked.modulus;
                below = omega (arith, ef.value-is, ef.prime-is, ev, multiplier-small);
                share = ef.share-is ∙ ap₂ share_of (sym ef.prime-is) (sym ef.value-is);
              };
              poly = rw (ef.prime-is, etw, etc) (record { long = tail-long; reduced = valid.canonical.reduced.1 });
              monomial = subst Packed (sym eq) quotient-packed;
              packed = subst AllPacked (sym etw) tail-packed;
            };
            canonical = subst (Canonical (compare_words o) p) (sym made) to-add.canonical;
            room = omega (arith, ap length etw, few);
            few-comparisons = a.few-comparisons;
            few-brought = a.few-brought;
          }))

      divided-done : {s' : State} {x' : Spaces} → TailAdded o p f q' tw tc r (placed b₁ x) s' x' → DividedTo o p words coefs starts k s lead x s' x'
      divided-done {s'} {x'} d =
          divided none few d.comparisons
          (subst (λ (l : List (Term ℕ)). Added o p (without lead.bucket x) l x' d.comparisons) made (subst (λ (y : Buckets). Added o p (placed y x) (times_tail f q' tw tc) x' d.comparisons) eb₁ d.done))
          (d.is ∙ ap₂ (λ (y : State) (n : ℕ). brought (counted y d.comparisons) n) er (ap length etw))

-- ---- the part that is the divisor, as it is handed on
module _ {x : ℕ} {l gs : List ℕ} (cons : l ≡ x ∷ drop 1 l) (e : gs ≡ l) where
  pub part-some : 1 ≤ length gs
  part-some = omega (arith, ap length (e ∙ cons))

  pub part-lead : get_or gs 0 0 ≡ x
  part-lead = ap (λ (y : List ℕ). get_or y 0 0) (e ∙ cons)

  pub part-tail : take (length gs - 1) (drop 1 gs) ≡ drop 1 l
  part-tail = from_one gs part-some ∙ ap (drop 1) e

-- ---- what the code finds and tests: gw and gc are the divisor, q' is the quotient
module _ {o : Order} {p : ℕ} {words coefs starts : List ℕ} {k : ℕ} {s : State} {lead : Lead} {kept : Cache} {x : Spaces} (a : Dividing o p words coefs starts k s lead kept x) where
  module _ {n : ℕ} (en : n ≡ held_in x.places) where
    pub held-some : 1 ≤ n
    held-some = omega (arith, a.one_less, held-is a)

    pub held-few : n ≤ most_terms
    held-few = omega (arith, a.room, held-is a)

  -- −c divided by the lead coefficient
  module _ {v : ℕ} (ev : v ≡ negative p lead.coef) {i : ℕ} (ei : i ≡ in_one p (inverse_of p (lead_coef coefs starts k))) where
    asked : Multiplying p v i × (inverse_in p i ≡ inverse_of p (lead_coef coefs starts k))
    asked = multiplying a.checked.modulus (inverse-below p (lead_coef coefs starts k) a.checked.prime (valid a).canonical.reduced.0.0 (valid a).canonical.reduced.0.1) (omega (arith, ev, negative-below p pos lead.coef)) ei
      where
        pos : 0 < p
        pos = omega (arith, a.checked.modulus.two)

    pub factor-asks : Multiplying p v i
    factor-asks = asked.0

    multiplier-is : product p v (inverse_in p i) ≡ product p (negative p lead.coef) (inverse_of p (lead_coef coefs starts k))
    multiplier-is = ap₂ (product p) ev asked.1

  module _ {gw : List ℕ} (ew : gw ≡ part_of starts k words) {q' : ℕ} (eq : q' ≡ lead.word - get_or gw 0 0) where
    abbrev tw : List ℕ
    tw = take (length gw - 1) (drop 1 gw)

    quotient_is : q' ≡ lead.word - lead_word words starts k
    quotient_is = eq ∙ ap (λ (y : ℕ). lead.word - y) (part-lead (words-cons a) ew)

    tail-is : tw ≡ tail_of starts k words
    tail-is = part-tail (words-cons a) ew

    packed : AllPacked tw
    packed = subst AllPacked (sym tail-is) (tail-packed a)

    pub highest-asks : AllPacked tw × Keepable k (highest_word tw) kept.highest
    highest-asks = (packed, tail-asks a.numbers a.low tail-is)

    -- h are the highest exponents of the tail
    module _ {h : ℕ} {kept₁ : Cache} (eh : (h ≡ highest_word tw) × HighestKept k h kept kept₁) where
      pub over-asks : Packed q' × Packed h
      over-asks = (subst Packed (sym quotient_is) (quotient-packed a), subst Packed (sym eh.0) (highest-packed tw packed))

      still_kept : KeptNumbers p words coefs starts kept₁
      still_kept = tail-kept a.numbers a.low tail-is eh.0 eh.1

      pub inverting : Inverting p coefs starts k kept₁.inverses
      inverting = record {
        modulus = a.checked.modulus;
        prime = a.checked.prime;
        there = omega (arith, a.high);
        inside = inside a;
        pos = (valid a).canonical.reduced.0.0;
        small = (valid a).canonical.reduced.0.1;
        keepable = inverse-asks still_kept a.low;
      }

      module _ {t : Bool} (et : t ≡ over_one q' h) where
        is-over : t ≡ any_over (lead.word - lead_word words starts k) (tail_of starts k words)
        is-over = et ∙ (ap (over_one q') eh.0 ∙ (any-over q' tw over-asks.0 packed ∙ ap₂ any_over quotient_is tail-is))

        pub over_done : t ≡ true → {s' : State} → s' ≡ halted s ExponentOver → Divided o p words coefs starts k s lead x s' kept₁ x
        over_done y e = record { numbers = still_kept; done = over (sym is-over ∙ y) e refl }

        module _ (no : t ≡ false) {n : ℕ} (en : n ≡ held_in x.places) where
          not-over : any_over (lead.word - lead_word words starts k) (tail_of starts k words) ≡ false
          not-over = sym is-over ∙ no

          pub many-done : most_terms < n - 1 + length tw → {s' : State} → s' ≡ halted s TooManyTerms → Divided o p words coefs starts k s lead x s' kept₁ x
          many-done l e = record { numbers = still_kept; done = many not-over (let z : most_terms < held (words_in o (without lead.bucket x)) + length (tail_of starts k words) = omega (arith, a.one_less, held-is a, ap length tail-is) in z) e refl }

          module _ (l : n - 1 + length tw ≤ most_terms) {gc : List ℕ} (ec : gc ≡ part_of starts k coefs) {i : ℕ} {kept₂ : Cache} (ei : (i ≡ in_one p (inverse_of p (lead_coef coefs starts k))) × InverseKept k i kept₁ kept₂) {v : ℕ} (ev : v ≡ negative p lead.coef) {f : Factor} (ef : FactorOf p (product p v (inverse_in p i)) f) {b₁ : Buckets} (eb₁ : b₁ ≡ dropped x.places lead.bucket) {r : State} (er : r ≡ finished_one s) where
            abbrev tc : List ℕ
            tc = take (length gc - 1) (drop 1 gc)

            few : held (words_in o (without lead.bucket x)) + length (tail_of starts k words) ≤ most_terms
            few = omega (arith, a.one_less, held-is a, ap length tail-is)

            pub add-asks : TailAddition o p f q' tw tc r (placed b₁ x)
            add-asks = tail-addition a not-over few quotient_is tail-is (part-tail (coefs-cons a) ec) (multiplier-is ev ei.0) ef er eb₁

            pub divided-so : {s' : State} {x' : Spaces} → TailAdded o p f q' tw tc r (placed b₁ x) s' x' → Divided o p words coefs starts k s lead x s' kept₂ x'
            divided-so d = record { numbers = inverse-kept still_kept a.low ei.0 ei.1; done = divided-done a not-over few quotient_is tail-is (part-tail (coefs-cons a) ec) (multiplier-is ev ei.0) ef er eb₁ d }
