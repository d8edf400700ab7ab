-- One step of a reduction: the state that it leaves is sound, and on the way to what the published steps come to. Assumes nothing.
use mathlib.Core.Path.{◌≡◌, refl, sym, ap, ap₂, ◌∙◌, subst}
use mathlib.Core.Bool.{Bool, true, false}
use mathlib.Core.List.{List, [], ◌∷◌, ◌++◌}
use Prim.Native.Nat.{ℕ, suc, ◌+◌, ◌-◌, ◌<◌, ◌≤◌, Ordering}
use native.Mathlib.Decide.{dec_le}
use native.Mathlib.Numerals.{add-one}
use native.Mathlib.Omega.{arith}
use lib.ListN.{length, set, length-append}
use Rattle.std.specs.Prelude.{Some, None}
use Rattle.limits.specs.Limits.{most_terms}
use Rattle.monomial.specs.declared.order.Order.{Order}
use Rattle.monomial.specs.TotalOrder.{TotalOrder}
use Rattle.monomial.specs.Words.{compare_words, divides_word, Packed}
use Rattle.monomial.proofs.OrderLaws.{words-order}
use Rattle.monomial.proofs.LayoutLaws.{layout-packed}
use Rattle.polynomial.specs.Terms.{Term, term, All, terms}
use Rattle.polynomial.proofs.TermLists.{length-terms}
use Rattle.polynomial.proofs.MultipleLaws.{length-multiple}
use Rattle.multiple.specs.Multiplying.{any_over}
use Rattle.geobucket.specs.Buckets.{held, add, add_compared, Canon}
use Rattle.geobucket.specs.Search.{Lead, none, lead, search, with_lead}
use Rattle.geobucket.specs.Events as events
use Rattle.geobucket.proofs.SearchLaws.{Fewer, Leads as LeadOf, Finds}
use Rattle.geobucket.proofs.AddLaws.{adds}
use Rattle.geobucket.proofs.EventLaws.{room-six}
use Rattle.space.specs.Space.{Buckets, Spaces, words_in}
use Rattle.space.proofs.InWords.{six-words, good-words}
use Rattle.refusal.specs.declared.Refusal.TheVariants.{NoOutput, TooManyTerms, ExponentOver, StepLimit}
use Rattle.call.specs.declared.state.Course.{Course}
use Rattle.call.specs.declared.state.Course.TheVariants.{Finished, Refused}
use Rattle.call.specs.declared.state.State.{State}
use Rattle.call.specs.States.{counted, brought, gave, finished_one, turned, closed, halted, goes_on, stop_of, Countable}
use Rattle.call.specs.Counts.{Counts}
use Rattle.call.proofs.OutputLaws.{written-long, grown, grown-output, words-past, coefs-past}
use Rattle.search.specs.declared.candidate.Lead.{Lead as FoundLead}
use Rattle.search.specs.declared.candidate.LeadSearch.{LeadSearch}
use Rattle.search.specs.Candidates.{search_of}
use Rattle.search.specs.Searching.{Found, Taken, without}
use Rattle.buckets.specs.Adding.{Added}
use Rattle.division.specs.Divisors.{AllOf}
use Rattle.division.specs.Choice.{unfit, fits, chosen}
use Rattle.division.specs.Division.{tail_multiple}
use Rattle.division.specs.Steps.{Reduction, any_too_large, stopped_by, steps_from, over_word}
use Rattle.division.proofs.HeldTerms.{Every, OfLead, add-every, search-every}
use Rattle.division.proofs.TailLaws.{Added as Addable}
use Rattle.division.proofs.Lasts.{with-every}
use Rattle.division.proofs.WholeLaws.{left-none, left-held}
use Rattle.division.proofs.StepLaws.{step-none, step-limit, step_kept, step-full, step-large, step-many, step-divided}
use Rattle.divisors.specs.declared.kept.Cache.{Cache}
use Rattle.divisors.specs.Divisors.{lead_word, lead_coef, tail_of, Leads, FirstFit, KeptLeads, KeptNumbers}
use Rattle.call.specs.Lending.{divisors_of}
use Rattle.reducer.specs.Divisors.{OfLayout}
use Rattle.reducer.specs.Dividing.{Dividing, DividedTo, over, many, divided, Divided}
use Rattle.reducer.specs.Stepping.{Keeping, Kept, full, put, remainder_in, Ended, Sound, Stepping, Stepped}
use Rattle.reducer.proofs.DivideLaws.{placed, over-terms, tail-long, to-add}
use Rattle.reducer.proofs.FirstLaws.{leads-there, fit_none, fit-some}
use Rattle.reducer.proofs.LeadLaws.{words-canon, finds-lead, no_answer, the-lead}

pub false-true : false ≡ true → ⊥
false-true e = let z : ◌≡◌ {A = ℕ} 0 1 = ap (λ (b : Bool). elim b [ true ↦ 1 | false ↦ 0 ]) e in let q : ⊥ = omega arith in q

-- ---- what holds of every monomial, in the two ways that it is said
pub every_of : (P : ℕ → Type 0) (bs : List (List (Term ℕ))) → AllOf (λ b. All (λ t. P t.mono) b) bs → Every P bs
unfolding AllOf Every
every_of P [] a = tt
every_of P (b ∷ bs) a = (a.0, every_of P bs a.1)

pub of-every : (P : ℕ → Type 0) (bs : List (List (Term ℕ))) → Every P bs → AllOf (λ b. All (λ t. P t.mono) b) bs
unfolding AllOf Every
of-every P [] a = tt
of-every P (b ∷ bs) a = (a.0, of-every P bs a.1)

-- ---- the search
pub searches : {o : Order} {p : ℕ} {words coefs starts leads : List ℕ} {limit : ℕ} {s : State} {kept : Cache} {x₀ : Spaces} {ow oc : List ℕ} → Stepping o p words coefs starts leads limit s kept x₀ ow oc → {x₁ : Spaces} {seen : LeadSearch} → Found o p x₀ x₁ seen → Countable s.comparisons seen.count
searches a d = omega (arith, a.sound.few-comparisons a.more, a.sound.few-leads, a.few-steps, d.few)

-- ---- once the lead was searched for
module _ {o : Order} {p : ℕ} {words coefs starts leads : List ℕ} {limit : ℕ} {s : State} {kept : Cache} {x₀ : Spaces} {ow oc : List ℕ} (a : Stepping o p words coefs starts leads limit s kept x₀ ow oc)
    {x₁ : Spaces} {seen : LeadSearch} (d : Found o p x₀ x₁ seen) {t : State} (et : t ≡ counted s seen.count) where
  abbrev cmp : ℕ → ℕ → Ordering
  cmp = compare_words o

  abbrev bs : List (List (Term ℕ))
  bs = words_in o x₀

  O : TotalOrder ℕ (compare_words o)
  O = words-order o

  pos : 0 < p
  pos = omega (arith, a.sound.checked.modulus.two)

  canon : Canon (compare_words o) p (words_in o x₀)
  canon = words-canon o a.sound.stands

  found : Finds (compare_words o) p (words_in o x₀) (search (compare_words o) p (words_in o x₀))
  found = finds-lead a.sound.stands d

  every : OfLead (OfLayout o a.sound.checked.weights) (search (compare_words o) p (words_in o x₀)).answer × Every (OfLayout o a.sound.checked.weights) (search (compare_words o) p (words_in o x₀)).buckets
  every = search-every (OfLayout o a.sound.checked.weights) cmp p bs (every_of (OfLayout o a.sound.checked.weights) bs a.sound.of-layout)

  left-few : held (with_lead (search (compare_words o) p (words_in o x₀)).answer (search (compare_words o) p (words_in o x₀)).buckets) ≤ most_terms
  left-few = by (search cmp p bs).answer refl
    where
      by : (x : Lead ℕ) → (search cmp p bs).answer ≡ x → held (with_lead (search cmp p bs).answer (search cmp p bs).buckets) ≤ most_terms
      by none e = omega (arith, left-none cmp p O pos bs canon e)
      by (lead at u) e = let f : held (search cmp p bs).buckets < held bs = subst (λ (x : Lead ℕ). Fewer cmp p x (search cmp p bs).buckets bs) e found.fewer in omega (arith, left-held cmp p O pos bs canon at u e, a.sound.room)

  count-is : seen.count ≡ length (search (compare_words o) p (words_in o x₀)).pairs
  count-is = ap (λ (x : LeadSearch). x.count) d.search-is ∙ by (search cmp p bs).answer (length (search cmp p bs).pairs)
    where
      by : (x : Lead ℕ) (n : ℕ) → (search_of x n).count ≡ n
      by none n = refl
      by (lead at u) n = refl

  -- ---- the step ends the reduction with the lead left where it is
  halted-sound : (r : Course) → goes_on r ≡ false → Sound o p words coefs starts limit (turned (counted s seen.count) r) x₁ ow oc
  halted-sound r off = record {
    checked = a.sound.checked;
    stands = d.stands;
    room = omega (arith, ap held d.lists-are, left-few);
    of-layout = subst (AllOf (λ b. All (λ t. OfLayout o a.sound.checked.weights t.mono) b)) (sym d.lists-are) (of-every (OfLayout o a.sound.checked.weights) _ (with-every (OfLayout o a.sound.checked.weights) (search cmp p bs).answer (search cmp p bs).buckets every.0 every.1));
    output = a.sound.output;
    few-leads = a.sound.few-leads;
    few-places = a.sound.few-places;
    given-are = a.sound.given-are;
    few-comparisons = λ e. absurd (false-true (sym off ∙ e));
    few-brought = λ e. absurd (false-true (sym off ∙ e));
  }

  halted-ended : (r : Course) (R : Reduction ℕ) (w : events.Work ℕ) → Counts o s x₀ w → stopped_by (compare_words o) p (stop_of r) s.finished (remainder_in s ow oc) w ≡ R → Ended o (turned (counted s seen.count) r) x₁ ow oc R
  halted-ended r R w c e =
      subst (Ended o (turned (counted s seen.count) r) x₁ ow oc) e
      (record {
        stop_is = refl;
        leads-are = refl;
        remainder_is = refl;
        counts = record {
          buckets-are = d.lists-are ∙ ap (λ (x : List (List (Term ℕ))). with_lead (search cmp p x).answer (search cmp p x).buckets) c.buckets-are;
          comparisons-are = ap₂ (λ (m n : ℕ). m + n) c.comparisons-are (count-is ∙ ap (λ (x : List (List (Term ℕ))). length (search cmp p x).pairs) c.buckets-are) ∙ sym (length-append w.pairs (search cmp p w.buckets).pairs);
          brought-are = c.brought-are;
        };
      })

  halted-step : (r : Course) → goes_on r ≡ false → ((w : events.Work ℕ) → Counts o s x₀ w → steps_from (compare_words o) (chosen divides_word (divisors_of words coefs starts)) ◌-◌ ◌+◌ over_word p (length ow) (limit - s.finished) s.finished (remainder_in s ow oc) w ≡ stopped_by (compare_words o) p (stop_of r) s.finished (remainder_in s ow oc) w)
      → {s' : State} → s' ≡ turned t r → {kept' : Cache} → KeptNumbers p words coefs starts kept' → Stepped o p words coefs starts limit s x₀ ow oc s' kept' x₁ ow oc
  halted-step r off steps {s'} es {kept'} i =
      subst (λ (x : State). Stepped o p words coefs starts limit s x₀ ow oc x kept' x₁ ow oc) (sym (es ∙ ap (λ (x : State). turned x r) et))
      (record {
        sound = halted-sound r off;
        numbers = i;
        further = λ e. absurd (false-true (sym off ∙ e));
        reaches = λ R g. record {
          going = λ e. absurd (false-true (sym off ∙ e));
          ended = λ e. halted-ended r R g.work g.counts (sym (steps g.work g.counts) ∙ g.comes-to);
        };
        longer = omega arith;
        words-past = refl;
        coefs-past = refl;
      })

  -- ---- zero was found
  pub zero-step : seen.lead ≡ None → {s' : State} → s' ≡ closed t → Stepped o p words coefs starts limit s x₀ ow oc s' kept x₁ ow oc
  zero-step h es =
      halted-step Finished refl
      (λ w c. step-none cmp (chosen divides_word (divisors_of words coefs starts)) ◌-◌ ◌+◌ over_word p (length ow) (limit - s.finished) s.finished (remainder_in s ow oc) w (ap (λ (x : List (List (Term ℕ))). (search cmp p x).answer) (sym c.buckets-are) ∙ no_answer a.sound.stands d h))
      es a.numbers

  -- ---- a lead was found
  module _ {k : FoundLead} (is : seen.lead ≡ Some k) where
    lead_is : (search (compare_words o) p (words_in o x₀)).answer ≡ lead k.bucket (term k.word k.coef)
    lead_is = the-lead a.sound.stands d is

    in-work : (w : events.Work ℕ) → Counts o s x₀ w → (search (compare_words o) p w.buckets).answer ≡ lead k.bucket (term k.word k.coef)
    in-work w c = ap (λ (x : List (List (Term ℕ))). (search cmp p x).answer) (sym c.buckets-are) ∙ lead_is

    reduced : LeadOf (compare_words o) p (lead k.bucket (term k.word k.coef)) (search (compare_words o) p (words_in o x₀)).buckets
    reduced = subst (λ (x : Lead ℕ). LeadOf cmp p x (search cmp p bs).buckets) lead_is found.leads

    word-layout : OfLayout o a.sound.checked.weights k.word
    word-layout = subst (OfLead (OfLayout o a.sound.checked.weights)) lead_is every.0

    fewer : held (search (compare_words o) p (words_in o x₀)).buckets < held (words_in o x₀)
    fewer = subst (λ (x : Lead ℕ). Fewer cmp p x (search cmp p bs).buckets bs) lead_is found.fewer

    taken : Taken o p x₀ (without k.bucket x₁) seen
    taken = d.removed k is

    -- no step is left
    pub limit-step : t.finished ≡ limit → {s' : State} → s' ≡ halted t StepLimit → Stepped o p words coefs starts limit s x₀ ow oc s' kept x₁ ow oc
    limit-step h es =
        let h' : s.finished ≡ limit = ap (λ (x : State). x.finished) (sym et) ∙ h in
        let none_left : limit - s.finished ≡ 0 = omega arith in
        halted-step (Refused StepLimit) refl
        (λ w c. ap (λ (m : ℕ). steps_from cmp (chosen divides_word (divisors_of words coefs starts)) ◌-◌ ◌+◌ over_word p (length ow) m s.finished (remainder_in s ow oc) w) none_left ∙ step-limit cmp (chosen divides_word (divisors_of words coefs starts)) ◌-◌ ◌+◌ over_word p (length ow) s.finished (remainder_in s ow oc) w k.bucket (term k.word k.coef) (in-work w c))
        es a.numbers

    pub first-asks : Leads words starts × KeptLeads words starts leads × Packed k.word
    first-asks = (leads-there a.sound.checked, a.leads-kept, layout-packed o 6 a.sound.checked.weights k.word (omega arith) word-layout a.sound.checked.small)

    module _ (room : t.finished ≡ limit → ⊥) where
      few : s.finished < limit
      few = let q : s.finished ≡ limit → ⊥ = λ e. room (ap (λ (x : State). x.finished) et ∙ e) in lt_of s.finished limit a.sound.few-leads q
        where
          lt_of : (m n : ℕ) → m ≤ n → (m ≡ n → ⊥) → m < n
          lt_of m n l q = by (dec_le n m)
            where
              by : Dec (n ≤ m) → m < n
              by (yes h) = absurd (q (omega arith))
              by (no h) = omega arith

      one_left : limit - s.finished ≡ suc (limit - suc s.finished)
      one_left = omega (arith, few)

      -- ---- the lead is divided by divisor i
      module _ {i : ℕ} (f : FirstFit words starts k.word i) where
        pub divide-asks : i + 1 < length starts → Dividing o p words coefs starts i t k kept x₁
        divide-asks high =
            record {
              checked = a.sound.checked;
              low = f.low;
              high = high;
              fits = f.here high;
              stands = d.stands;
              room = omega (arith, ap held d.lists-are, left-few);
              removal = d.removal k is;
              rest = taken.stands;
              one_less = ap held d.lists-are ∙ (left-held cmp p O pos bs canon k.bucket (term k.word k.coef) lead_is ∙ (let z : suc (held (search cmp p bs).buckets) ≡ held (words_in o (without k.bucket x₁)) + 1 = omega (arith, ap held taken.lists-are) in z));
              of-layout = word-layout;
              coef-pos = omega (arith, reduced.0);
              coef-small = omega (arith, reduced.1);
              numbers = a.numbers;
              few-leads = subst (λ (x : State). x.finished < 10000000000000) (sym et) (omega (arith, few, a.few-steps));
              few-comparisons = subst (λ (x : State). x.comparisons < 2000000000000000000) (sym et) (omega (arith, few, a.few-steps, a.sound.few-comparisons a.more, d.few));
              few-brought = subst (λ (x : State). x.brought < 2000000000000000000) (sym et) (omega (arith, few, a.few-steps, a.sound.few-brought a.more));
            }

        pub keep-asks : Keeping t k x₁.places ow oc
        keep-asks =
            subst (λ (x : State). Keeping x k x₁.places ow oc) (sym et)
            (record { removal = d.removal k is; few-leads = omega (arith, few, a.few-steps); given-are = a.sound.given-are; few-places = a.sound.few-places; output = a.sound.output })

        -- the definition finds the same divisor
        module _ (high : i + 1 < length starts) where
          D : Dividing o p words coefs starts i t k kept x₁
          D = divide-asks high

          g : Term ℕ
          g = term (lead_word words starts i) (lead_coef coefs starts i)

          tail : List (Term ℕ)
          tail = terms (tail_of starts i words) (tail_of starts i coefs)

          tail-is : length (terms (tail_of starts i words) (tail_of starts i coefs)) ≡ length (tail_of starts i words)
          tail-is = length-terms (tail_of starts i words) (tail_of starts i coefs) (tail-long D)

          fit : chosen divides_word (divisors_of words coefs starts) k.word ≡ fits i (term (lead_word words starts i) (lead_coef coefs starts i)) (terms (tail_of starts i words) (tail_of starts i coefs))
          fit = fit-some a.sound.checked f high

          large_is : any_too_large over_word (k.word - lead_word words starts i) (terms (tail_of starts i words) (tail_of starts i coefs)) ≡ any_over (k.word - lead_word words starts i) (tail_of starts i words)
          large_is = over-terms (k.word - lead_word words starts i) (tail_of starts i words) (tail_of starts i coefs) (tail-long D)

          rest-is : (w : events.Work ℕ) → Counts o s x₀ w → (search (compare_words o) p w.buckets).buckets ≡ words_in o (without k.bucket x₁)
          rest-is w c = ap (λ (x : List (List (Term ℕ))). (search cmp p x).buckets) (sym c.buckets-are) ∙ sym taken.lists-are

          -- where a step is left
          abbrev Steps : (more leads : ℕ) → List (Term ℕ) → events.Work ℕ → Reduction ℕ
          Steps more leads r w = steps_from cmp (chosen divides_word (divisors_of words coefs starts)) ◌-◌ ◌+◌ over_word p (length ow) more leads r w

          at_more : (w : events.Work ℕ) {x : Reduction ℕ} → Steps (suc (limit - suc s.finished)) s.finished (remainder_in s ow oc) w ≡ x → Steps (limit - s.finished) s.finished (remainder_in s ow oc) w ≡ x
          at_more w e = ap (λ (m : ℕ). Steps m s.finished (remainder_in s ow oc) w) one_left ∙ e

          divided-to : {kept' : Cache} → KeptNumbers p words coefs starts kept' → {x' : Spaces} {m : ℕ}
              → any_over (k.word - lead_word words starts i) (tail_of starts i words) ≡ false → held (words_in o (without k.bucket x₁)) + length (tail_of starts i words) ≤ most_terms
              → Added o p (without k.bucket x₁) (tail_multiple ◌-◌ ◌+◌ p (term k.word k.coef) (term (lead_word words starts i) (lead_coef coefs starts i)) (terms (tail_of starts i words) (tail_of starts i coefs))) x' m
              → Addable (compare_words o) p (OfLayout o a.sound.checked.weights) (term k.word k.coef) (tail_multiple ◌-◌ ◌+◌ p (term k.word k.coef) (term (lead_word words starts i) (lead_coef coefs starts i)) (terms (tail_of starts i words) (tail_of starts i coefs)))
              → Stepped o p words coefs starts limit s x₀ ow oc (brought (counted (finished_one (counted s seen.count)) m) (length (tail_of starts i words))) kept' x' ow oc
          divided-to i' {x'} {m} no-over small e u = record {
            sound = record {
              checked = a.sound.checked;
              stands = e.stands;
              room = omega (arith, ap held e.lists-are, (adds cmp p O pos h cs (omega (arith, room-six cs (six-words o (without k.bucket x₁)), h-long)) u.canonical (good-words o taken.stands)).size, h-long);
              of-layout = subst (AllOf (λ b. All (λ t. OfLayout o a.sound.checked.weights t.mono) b)) (sym e.lists-are) (of-every (OfLayout o a.sound.checked.weights) _ (add-every (OfLayout o a.sound.checked.weights) cmp p h cs u.are (subst (Every (OfLayout o a.sound.checked.weights)) (sym taken.lists-are) every.1)));
              output = a.sound.output;
              few-leads = omega (arith, few);
              few-places = omega (arith, a.sound.few-places);
              given-are = a.sound.given-are;
              few-comparisons = λ q. omega (arith, a.sound.few-comparisons a.more, d.few, e.few);
              few-brought = λ q. omega (arith, a.sound.few-brought a.more, small);
            };
            numbers = i';
            further = λ q. (refl, few);
            reaches = λ R v. record {
              going = λ q. record {
                work = events.added cmp p h (events.removed cmp p v.work);
                counts = record {
                  buckets-are = e.lists-are ∙ ap (add cmp p h) (sym (rest-is v.work v.counts));
                  comparisons-are = pairs-are v.work v.counts;
                  brought-are = ap (λ (n : ℕ). n + length (tail_of starts i words)) v.counts.brought-are ∙ (ap (λ (n : ℕ). length v.work.brought + n) (sym h-long) ∙ sym (length-append v.work.brought h));
                };
                comes-to = ap (λ (n : ℕ). Steps (limit - n) n (remainder_in s ow oc) (events.added cmp p h (events.removed cmp p v.work))) (add-one s.finished) ∙ (sym (at_more v.work (step-divided cmp (chosen divides_word (divisors_of words coefs starts)) ◌-◌ ◌+◌ over_word p (length ow) (limit - suc s.finished) s.finished (remainder_in s ow oc) v.work k.bucket (term k.word k.coef) (in-work v.work v.counts) i (term (lead_word words starts i) (lead_coef coefs starts i)) (terms (tail_of starts i words) (tail_of starts i coefs)) fit (large_is ∙ no-over) (omega (arith, ap held (rest-is v.work v.counts), tail-is)))) ∙ v.comes-to);
              };
              ended = λ q. absurd (false-true (sym q ∙ a.more));
            };
            longer = omega arith;
            words-past = refl;
            coefs-past = refl;
          }
            where
              h : List (Term ℕ)
              h = tail_multiple ◌-◌ ◌+◌ p (term k.word k.coef) (term (lead_word words starts i) (lead_coef coefs starts i)) (terms (tail_of starts i words) (tail_of starts i coefs))

              cs : List (List (Term ℕ))
              cs = words_in o (without k.bucket x₁)

              h-long : length (tail_multiple ◌-◌ ◌+◌ p (term k.word k.coef) (term (lead_word words starts i) (lead_coef coefs starts i)) (terms (tail_of starts i words) (tail_of starts i coefs))) ≡ length (tail_of starts i words)
              h-long = length-multiple ◌+◌ p _ _ (terms (tail_of starts i words) (tail_of starts i coefs)) ∙ tail-is

              pairs-are : (w : events.Work ℕ) (c : Counts o s x₀ w) → s.comparisons + seen.count + m ≡ length ((w.pairs ++ (search cmp p w.buckets).pairs) ++ add_compared cmp p h (search cmp p w.buckets).buckets)
              pairs-are w c =
                  let x : s.comparisons ≡ length w.pairs = c.comparisons-are in
                  let y : seen.count ≡ length (search cmp p w.buckets).pairs = count-is ∙ ap (λ (x : List (List (Term ℕ))). length (search cmp p x).pairs) c.buckets-are in
                  let z : m ≡ length (add_compared cmp p h (search cmp p w.buckets).buckets) = e.count-is ∙ ap (λ (x : List (List (Term ℕ))). length (add_compared cmp p h x)) (sym (rest-is w c)) in
                  omega (arith, x, y, z, length-append w.pairs (search cmp p w.buckets).pairs, length-append (w.pairs ++ (search cmp p w.buckets).pairs) (add_compared cmp p h (search cmp p w.buckets).buckets))

          pub divided-step : {s' : State} {kept' : Cache} {x' : Spaces} → Divided o p words coefs starts i t k x₁ s' kept' x' → Stepped o p words coefs starts limit s x₀ ow oc s' kept' x' ow oc
          unfolding D divide-asks
          divided-step {s'} {kept'} {x'} v = by v.done
            where
              by : DividedTo o p words coefs starts i t k x₁ s' x' → Stepped o p words coefs starts limit s x₀ ow oc s' kept' x' ow oc
              by (over h es ex) =
                  rw ex
                  (halted-step (Refused ExponentOver) refl
                  (λ w c. at_more w (step-large cmp (chosen divides_word (divisors_of words coefs starts)) ◌-◌ ◌+◌ over_word p (length ow) (limit - suc s.finished) s.finished (remainder_in s ow oc) w k.bucket (term k.word k.coef) (in-work w c) i (term (lead_word words starts i) (lead_coef coefs starts i)) (terms (tail_of starts i words) (tail_of starts i coefs)) fit (large_is ∙ h)))
                  es v.numbers)
              by (many h l es ex) =
                  rw ex
                  (halted-step (Refused TooManyTerms) refl
                  (λ w c. at_more w (step-many cmp (chosen divides_word (divisors_of words coefs starts)) ◌-◌ ◌+◌ over_word p (length ow) (limit - suc s.finished) s.finished (remainder_in s ow oc) w k.bucket (term k.word k.coef) (in-work w c) i (term (lead_word words starts i) (lead_coef coefs starts i)) (terms (tail_of starts i words) (tail_of starts i coefs)) fit (large_is ∙ h) (omega (arith, ap held (rest-is w c), tail-is))))
                  es v.numbers)
              by (divided h l m e es) =
                  subst (λ (x : State). Stepped o p words coefs starts limit s x₀ ow oc x kept' x' ow oc) (sym (es ∙ ap (λ (x : State). brought (counted (finished_one x) m) (length (tail_of starts i words))) et))
                  (divided-to v.numbers h l
                  e (to-add D h l))

        -- ---- the lead goes to the remainder
        module _ (low : length starts ≤ i + 1) where
          no-fit : chosen divides_word (divisors_of words coefs starts) k.word ≡ unfit
          no-fit = fit_none a.sound.checked f low

          at_next : (w : events.Work ℕ) {x : Reduction ℕ} → steps_from (compare_words o) (chosen divides_word (divisors_of words coefs starts)) ◌-◌ ◌+◌ over_word p (length ow) (suc (limit - suc s.finished)) s.finished (remainder_in s ow oc) w ≡ x → steps_from (compare_words o) (chosen divides_word (divisors_of words coefs starts)) ◌-◌ ◌+◌ over_word p (length ow) (limit - s.finished) s.finished (remainder_in s ow oc) w ≡ x
          at_next w e = ap (λ (m : ℕ). steps_from cmp (chosen divides_word (divisors_of words coefs starts)) ◌-◌ ◌+◌ over_word p (length ow) m s.finished (remainder_in s ow oc) w) one_left ∙ e

          pub kept_step : {s' : State} {b' : Buckets} {ow' oc' : List ℕ} → Kept t k x₁.places ow oc s' b' ow' oc' → Stepped o p words coefs starts limit s x₀ ow oc s' kept (placed b' x₁) ow' oc'
          kept_step {s'} {b'} {ow'} {oc'} v = by v
            where
              terms-same : t.places ≡ s.places
              terms-same = ap (λ (x : State). x.places) et

              put-to : s.places < length ow → Stepped o p words coefs starts limit s x₀ ow oc (gave (finished_one (counted s seen.count)) 1 1) kept (without k.bucket x₁) (set ow s.places k.word) (set oc s.places k.coef)
              put-to h =
                  let out = a.sound.output in
                  let x = k.word ∷ [] in
                  let y = k.coef ∷ [] in
                  let fit : s.places + length x ≤ length ow = omega arith in
                  let grows : remainder_in (gave (finished_one (counted s seen.count)) 1 1) (set ow s.places k.word) (set oc s.places k.coef) ≡ remainder_in s ow oc ++ (term k.word k.coef) ∷ [] = grown out x y refl fit in
                  record {
                    sound = record {
                      checked = a.sound.checked;
                      stands = taken.stands;
                      room = omega (arith, ap held taken.lists-are, fewer, a.sound.room);
                      of-layout = subst (AllOf (λ b. All (λ t. OfLayout o a.sound.checked.weights t.mono) b)) (sym taken.lists-are) (of-every (OfLayout o a.sound.checked.weights) _ every.1);
                      output = grown-output out x y refl fit;
                      few-leads = omega (arith, few);
                      few-places = omega (arith, a.sound.few-places);
                      given-are = ap (λ (n : ℕ). n + 1) a.sound.given-are;
                      few-comparisons = λ q. omega (arith, a.sound.few-comparisons a.more, d.few);
                      few-brought = λ q. omega (arith, a.sound.few-brought a.more);
                    };
                    numbers = a.numbers;
                    further = λ q. (refl, few);
                    reaches = λ R g. record {
                      going = λ q. record {
                        work = events.removed cmp p g.work;
                        counts = record {
                          buckets-are = taken.lists-are ∙ ap (λ (x : List (List (Term ℕ))). (search cmp p x).buckets) g.counts.buckets-are;
                          comparisons-are = ap₂ (λ (m n : ℕ). m + n) g.counts.comparisons-are (count-is ∙ ap (λ (x : List (List (Term ℕ))). length (search cmp p x).pairs) g.counts.buckets-are) ∙ sym (length-append g.work.pairs (search cmp p g.work.buckets).pairs);
                          brought-are = g.counts.brought-are;
                        };
                        comes-to = place_at R g.work grows (sym (at_next g.work (step_kept cmp (chosen divides_word (divisors_of words coefs starts)) ◌-◌ ◌+◌ over_word p (length ow) (limit - suc s.finished) s.finished (remainder_in s ow oc) g.work k.bucket (term k.word k.coef) (in-work g.work g.counts) no-fit (omega (arith, written-long out)))) ∙ g.comes-to);
                      };
                      ended = λ q. absurd (false-true (sym q ∙ a.more));
                    };
                    longer = omega arith;
                    words-past = words-past out x y refl fit;
                    coefs-past = coefs-past out x y refl fit;
                  }
                where
                  place_at : (R : Reduction ℕ) (w : events.Work ℕ) {r : List (Term ℕ)} → r ≡ remainder_in s ow oc ++ (term k.word k.coef) ∷ [] → steps_from (compare_words o) (chosen divides_word (divisors_of words coefs starts)) ◌-◌ ◌+◌ over_word p (length ow) (limit - suc s.finished) (suc s.finished) (remainder_in s ow oc ++ (term k.word k.coef) ∷ []) (events.removed (compare_words o) p w) ≡ R
                      → steps_from (compare_words o) (chosen divides_word (divisors_of words coefs starts)) ◌-◌ ◌+◌ over_word p (length ow) (limit - (s.finished + 1)) (s.finished + 1) r (events.removed (compare_words o) p w) ≡ R
                  place_at R w er e = ap₂ (λ (n : ℕ) (r : List (Term ℕ)). steps_from cmp (chosen divides_word (divisors_of words coefs starts)) ◌-◌ ◌+◌ over_word p (length ow) (limit - n) n r (events.removed cmp p w)) (add-one s.finished) er ∙ e

              by : Kept t k x₁.places ow oc s' b' ow' oc' → Stepped o p words coefs starts limit s x₀ ow oc s' kept (placed b' x₁) ow' oc'
              by (full h es eb ew ec) =
                  rw (eb, ew, ec)
                  (halted-step (Refused NoOutput) refl
                  (λ w c. at_next w (step-full cmp (chosen divides_word (divisors_of words coefs starts)) ◌-◌ ◌+◌ over_word p (length ow) (limit - suc s.finished) s.finished (remainder_in s ow oc) w k.bucket (term k.word k.coef) (in-work w c) no-fit (omega (arith, written-long a.sound.output, terms-same))))
                  es a.numbers)
              by (put h es eb ew ec) =
                  let ew' : ow' ≡ set ow s.places k.word = ew ∙ ap (λ (n : ℕ). set ow n k.word) terms-same in
                  let ec' : oc' ≡ set oc s.places k.coef = ec ∙ ap (λ (n : ℕ). set oc n k.coef) terms-same in
                  rw (eb, ew', ec') (subst (λ (x : State). Stepped o p words coefs starts limit s x₀ ow oc x kept (without k.bucket x₁) (set ow s.places k.word) (set oc s.places k.coef)) (sym (es ∙ ap (λ (x : State). gave (finished_one x) 1 1) et)) (put-to (omega (arith, terms-same))))
