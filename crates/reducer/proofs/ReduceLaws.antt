-- The steps of a reduction in turn. Assumes nothing.
use mathlib.Core.Path.{◌≡◌, refl, sym, ap, ap₂, ◌∙◌, subst}
use mathlib.Core.Bool.{Bool, true, false}
use mathlib.Core.List.{List, []}
use Prim.Native.Nat.{ℕ, suc, ◌+◌, ◌-◌, ◌<◌, ◌≤◌}
use native.Mathlib.Omega.{arith}
use lib.ListN.{length, drop}
use lib.Seq.{drop-drop}
use Rattle.limits.specs.Limits.{most_terms}
use Rattle.monomial.specs.declared.order.Order.{Order}
use Rattle.monomial.specs.Words.{compare_words, divides_word}
use Rattle.monomial.proofs.OrderLaws.{words-order}
use Rattle.polynomial.specs.Terms.{Term, All, terms}
use Rattle.polynomial.specs.Opening.{part_of, Within}
use Rattle.polynomial.proofs.StartLaws.{part-long}
use Rattle.geobucket.specs.Buckets.{empty, held, Good, add, add_compared}
use Rattle.geobucket.specs.Events as events
use Rattle.geobucket.proofs.AddLaws.{adds}
use Rattle.geobucket.proofs.EventLaws.{room-six}
use Rattle.space.specs.Space.{Buckets, Slices, Spaces, spaces, words_in, Standing}
use Rattle.space.proofs.InWords.{good-words}
use Rattle.refusal.specs.declared.Refusal.TheVariants.{TooManyTerms}
use Rattle.call.specs.declared.state.State.{State}
use Rattle.call.specs.States.{begun, counted, brought, halted, goes_on}
use Rattle.call.specs.Lending.{polynomial, divisors_of, Addend, Lent}
use Rattle.division.specs.Choice.{chosen}
use Rattle.division.specs.Divisors.{AllOf}
use Rattle.division.specs.Steps.{over_word, steps_from, reduction_of_words}
use Rattle.division.proofs.HeldTerms.{Every, add-every}
use Rattle.division.proofs.Endings.{begins, begins-not}
use Rattle.divisors.specs.declared.kept.Cache.{Cache}
use Rattle.divisors.specs.Divisors.{KeptLeads, KeptNumbers}
use Rattle.reducer.specs.Divisors.{OfLayout}
use Rattle.reducer.specs.Stepping.{Ended, Going, Reaches, Sound, Stepping, Stepped, Beginning, Begun, refused, added, Reducible, Reduced}
use Rattle.reducer.proofs.BeginLaws.{held_none, none-held, none-standing}
use Rattle.reducer.proofs.StepLaws.{false-true, of-every}

-- the steps that may still come
abbrev pub left_by : Bool → ℕ → ℕ
left_by true n = suc n
left_by false n = 0

pub record Turning (o : Order) (p : ℕ) (words coefs starts : List ℕ) (limit : ℕ) (ow₀ oc₀ : List ℕ) (x : Spaces) (ww wc bw bc ow oc : List ℕ) (kept : Cache) (s : State) : Type 0 where
  pub sound : Sound o p words coefs starts limit s x ow oc
  pub numbers : KeptNumbers p words coefs starts kept
  pub slices : Slices ww wc bw bc
  pub out-long : length ow ≡ length ow₀
  pub coefs-out-long : length oc ≡ length oc₀
  pub reaches : Reaches o p (divisors_of words coefs starts) (length ow₀) limit s x ow oc (reduction_of_words o p (divisors_of words coefs starts) (length ow₀) limit (polynomial words coefs starts 0))
  pub words-past : drop s.places ow ≡ drop s.places ow₀
  pub coefs-past : drop s.places oc ≡ drop s.places oc₀

every-none : (P : ℕ → Type 0) → Every P empty
unfolding Every
every-none P = (tt, (tt, (tt, (tt, (tt, (tt, tt))))))

module _ {o : Order} {p : ℕ} {words coefs starts : List ℕ} {limit : ℕ} (a : Reducible o p words coefs starts limit) where
  -- ---- polynomial 0
  pub first-words : Within starts 0 (length words)
  first-words = a.checked.parts 0 (omega (arith, a.checked.some))

  pub first-coefs : Within starts 0 (length coefs)
  first-coefs = subst (Within starts 0) (sym a.checked.long) first-words

  module _ {fw fc : List ℕ} (ew : fw ≡ part_of starts 0 words) (ec : fc ≡ part_of starts 0 coefs) where
    pub addend : Addend (compare_words o) p fw fc
    addend = record {
      long = ap length ec ∙ (part-long starts 0 coefs first-coefs ∙ sym (ap length ew ∙ part-long starts 0 words first-words));
      canonical = rw (ew, ec) (a.checked.valid 0 (omega (arith, a.checked.some))).canonical;
    }

    module _ {b : Buckets} {bw bc ww wc ow oc : List ℕ} (l : Lent b bw bc ww wc ow oc) where
      pub beginning : Beginning p b
      beginning = record { none = l.none; modulus = a.checked.modulus }

      module _ {kept : Cache} {ww' wc' bw' bc' : List ℕ} (i : KeptNumbers p words coefs starts kept) (q' : Slices ww' wc' bw' bc') where
        pub turn-start : {s : State} {x' : Spaces} → Begun o p (terms fw fc) (spaces b ww wc bw bc) s x' → Turning o p words coefs starts limit ow oc x' ww' wc' bw' bc' ow oc kept s
        turn-start {s} {x'} d = by d
          where
            gs : List (List (Term ℕ))
            gs = divisors_of words coefs starts

            none : words_in o (spaces b ww wc bw bc) ≡ empty
            none = none-held l.none l.slices o

            stands : Standing p (spaces b ww wc bw bc)
            stands = none-standing l.none l.slices a.checked.modulus

            f-is : terms fw fc ≡ polynomial words coefs starts 0
            f-is = ap₂ terms ew ec

            from : (x : State) (y : Spaces) → Sound o p words coefs starts limit x y ow oc → Reaches o p (divisors_of words coefs starts) (length ow) limit x y ow oc (reduction_of_words o p (divisors_of words coefs starts) (length ow) limit (polynomial words coefs starts 0)) → Turning o p words coefs starts limit ow oc y ww' wc' bw' bc' ow oc kept x
            from x y s r = record {
              sound = s;
              numbers = i;
              slices = q';
              out-long = refl;
              coefs-out-long = refl;
              reaches = r;
              words-past = refl;
              coefs-past = refl;
            }

            by : Begun o p (terms fw fc) (spaces b ww wc bw bc) s x' → Turning o p words coefs starts limit ow oc x' ww' wc' bw' bc' ow oc kept s
            by (refused h es ex) =
                let x : State = halted begun TooManyTerms in
                rw ex
                (subst (λ (y : State). Turning o p words coefs starts limit ow oc (spaces b ww wc bw bc) ww' wc' bw' bc' ow oc kept y) (sym es)
                (from x (spaces b ww wc bw bc)
                (record {
                  checked = a.checked;
                  stands = stands;
                  room = omega (arith, ap held (none), held_none);
                  of-layout = subst (AllOf (λ b. All (λ t. OfLayout o a.checked.weights t.mono) b)) (sym (none)) (of-every (OfLayout o a.checked.weights) empty (every-none (OfLayout o a.checked.weights)));
                  output = record { same-long = l.same-long; fits = omega arith };
                  few-leads = omega arith;
                  few-places = omega arith;
                  given-are = refl;
                  few-comparisons = λ q. absurd (false-true q);
                  few-brought = λ q. absurd (false-true q);
                })
                (record {
                  going = λ q. absurd (false-true q);
                  ended = λ q.
                      subst (Ended o x (spaces b ww wc bw bc) ow oc) (sym (begins-not (compare_words o) (chosen divides_word gs) ◌-◌ ◌+◌ over_word p (length ow) limit (polynomial words coefs starts 0) (subst (λ (g : List (Term ℕ)). most_terms < length g) f-is h)))
                      (record { stop_is = refl; leads-are = refl; remainder_is = refl; counts = record { buckets-are = none; comparisons-are = refl; brought-are = refl } });
                })))
            by (added h n e es) =
                let f = terms fw fc in
                let valid = a.checked.valid 0 (omega (arith, a.checked.some)) in
                let lists : words_in o x' ≡ add (compare_words o) p f empty = e.lists-are ∙ ap (add (compare_words o) p f) none in
                let x : State = brought (counted begun n) (length f) in
                subst (λ (y : State). Turning o p words coefs starts limit ow oc x' ww' wc' bw' bc' ow oc kept y) (sym es)
                (from x x'
                (record {
                  checked = a.checked;
                  stands = e.stands;
                  room = omega (arith, ap held lists, (adds (compare_words o) p (words-order o) (omega (arith, a.checked.modulus.two)) f empty (omega (arith, room-six {A = ℕ} empty refl, held_none)) addend.canonical (subst (Good (compare_words o) p 4) none (good-words o {x = spaces b ww wc bw bc} stands))).size, held_none);
                  of-layout = subst (AllOf (λ b. All (λ t. OfLayout o a.checked.weights t.mono) b)) (sym lists) (of-every (OfLayout o a.checked.weights) _ (add-every (OfLayout o a.checked.weights) (compare_words o) p f empty (subst (All (λ t. OfLayout o a.checked.weights t.mono)) (sym f-is) valid.are) (every-none (OfLayout o a.checked.weights))));
                  output = record { same-long = l.same-long; fits = omega arith };
                  few-leads = omega arith;
                  few-places = omega arith;
                  given-are = refl;
                  few-comparisons = λ q. omega (arith, e.few);
                  few-brought = λ q. omega arith;
                })
                (record {
                  going = λ q. record {
                    work = events.added (compare_words o) p f events.start;
                    counts = record {
                      buckets-are = lists;
                      comparisons-are = (let z : 0 + n ≡ n = omega arith in z) ∙ e.count-is ∙ ap (λ (y : List (List (Term ℕ))). length (add_compared (compare_words o) p f y)) none;
                      brought-are = let z : 0 + length f ≡ length f = omega arith in z;
                    };
                    comes-to =
                        ap (λ (m : ℕ). steps_from (compare_words o) (chosen divides_word gs) ◌-◌ ◌+◌ over_word p (length ow) m 0 [] (events.added (compare_words o) p f events.start)) (let z : limit - 0 ≡ limit = omega arith in z)
                        ∙ (ap (λ (g : List (Term ℕ)). steps_from (compare_words o) (chosen divides_word gs) ◌-◌ ◌+◌ over_word p (length ow) limit 0 [] (events.added (compare_words o) p g events.start)) f-is
                        ∙ sym (begins (compare_words o) (chosen divides_word gs) ◌-◌ ◌+◌ over_word p (length ow) limit (polynomial words coefs starts 0) (subst (λ (g : List (Term ℕ)). length g ≤ most_terms) f-is h)));
                  };
                  ended = λ q. absurd (false-true (sym q));
                }))

  -- ---- in a turn
  module _ {ow₀ oc₀ : List ℕ} {x : Spaces} {ww wc bw bc ow oc : List ℕ} {kept : Cache} {s : State} (v : Turning o p words coefs starts limit ow₀ oc₀ x ww wc bw bc ow oc kept s) where
    module _ (more : goes_on s.course ≡ true) where
      pub turn-asks : {leads : List ℕ} → KeptLeads words starts leads → Stepping o p words coefs starts leads limit s kept x ow oc
      turn-asks l = record {
        few-steps = a.few-steps;
        more = more;
        sound = v.sound;
        leads-kept = l;
        numbers = v.numbers;
      }

      module _ {s' : State} {kept' : Cache} {x' : Spaces} {ow' oc' : List ℕ} (d : Stepped o p words coefs starts limit s x ow oc s' kept' x' ow' oc') where
        past : {i j : ℕ} (l m : List ℕ) → i ≤ j → drop i l ≡ drop i m → drop j l ≡ drop j m
        past {i} {j} l m le e =
            let z : i + (j - i) ≡ j = omega arith in
            ap (λ (n : ℕ). drop n l) (sym z) ∙ (sym (drop-drop (j - i) i l) ∙ (ap (drop (j - i)) e ∙ (drop-drop (j - i) i m ∙ ap (λ (n : ℕ). drop n m) z)))

        pub turn_on : {ww' wc' bw' bc' : List ℕ} → length ww' ≡ length ww → length wc' ≡ length wc → length bw' ≡ length bw → length bc' ≡ length bc → length ow' ≡ length ow → length oc' ≡ length oc → Turning o p words coefs starts limit ow₀ oc₀ x' ww' wc' bw' bc' ow' oc' kept' s'
        turn_on lw lc lbw lbc low loc = record {
          sound = d.sound;
          numbers = d.numbers;
          slices = record { work-words = lw ∙ v.slices.work-words; work-coefs = lc ∙ v.slices.work-coefs; words_long = lbw ∙ v.slices.words_long; coefs-long = lbc ∙ v.slices.coefs-long };
          out-long = low ∙ v.out-long;
          coefs-out-long = loc ∙ v.coefs-out-long;
          reaches =
              let R = reduction_of_words o p (divisors_of words coefs starts) (length ow₀) limit (polynomial words coefs starts 0) in
              let g = subst (λ (n : ℕ). Going o p (divisors_of words coefs starts) n limit s x ow oc R) (sym v.out-long) (v.reaches.going more) in
              subst (λ (n : ℕ). Reaches o p (divisors_of words coefs starts) n limit s' x' ow' oc' R) v.out-long (d.reaches R g);
          words-past = d.words-past ∙ past ow ow₀ d.longer v.words-past;
          coefs-past = d.coefs-past ∙ past oc oc₀ d.longer v.coefs-past;
        }

        pub turn-less : left_by (goes_on s'.course) (limit - s'.finished) < left_by (goes_on s.course) (limit - s.finished)
        turn-less = subst (λ (b : Bool). left_by (goes_on s'.course) (limit - s'.finished) < left_by b (limit - s.finished)) (sym more) (by (goes_on s'.course) refl)
          where
            by : (b : Bool) → goes_on s'.course ≡ b → left_by b (limit - s'.finished) < suc (limit - s.finished)
            by true e = let q = d.further e in omega (arith, q.0, q.1)
            by false e = omega arith

    pub turn_end : goes_on s.course ≡ false → Reduced o p words coefs starts limit ow₀ oc₀ s x ow oc
    turn_end e = record {
      stands = v.sound.stands;
      output = v.sound.output;
      given-are = v.sound.given-are;
      ended = v.reaches.ended e;
      words-past = v.words-past;
      coefs-past = v.coefs-past;
    }
