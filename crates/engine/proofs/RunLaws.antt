-- The operations of a run in turn. Assumes nothing.
use mathlib.Core.Path.{◌≡◌, refl, sym, ap, ap₂, ◌∙◌, subst}
use mathlib.Core.Bool.{Bool, true, false}
use mathlib.Core.List.{List, [], ◌∷◌}
use mathlib.Core.Logic.{◌⊎◌, ⊎_elim}
use Prim.Native.Nat.{ℕ, suc, ◌+◌, ◌-◌, ◌*◌, ◌<◌, ◌≤◌, Ordering}
use native.Mathlib.Numerals.{add-one}
use native.Mathlib.Omega.{arith}
use lib.Dec.{eqb}
use lib.ListN.{length, drop, get_or, drop_of_length-le}
use lib.Seq.{drop-cons, drop-drop}
use Rattle.monomial.specs.declared.order.Order.{Order}
use Rattle.monomial.specs.Words.{compare_words}
use Rattle.polynomial.specs.Terms.{terms}
use Rattle.polynomial.specs.Opening.{part_of}
use Rattle.geobucket.specs.Buckets.{held}
use Rattle.space.specs.Space.{Buckets, Spaces, spaces, Slices}
use Rattle.space.proofs.InWords.{words-none}
use Rattle.call.specs.declared.state.State.{State}
use Rattle.call.specs.States as C
use Rattle.call.specs.States.{goes_on}
use Rattle.call.specs.Lending.{polynomial, Output, Lent}
use Rattle.call.proofs.StandLaws.{none-stands}
use Rattle.conditions.specs.declared.operations.Operation.{Operation as Asked}
use Rattle.conditions.specs.declared.operations.Operation.TheVariants.{Add}
use Rattle.conditions.specs.Operations.{code_of, index_of, operation_from, operation}
use Rattle.conditions.proofs.OperationLaws.{adds-pair}
use Rattle.run_outcome.specs.Runs.{Operation, adds, Running, begun, operate, operate_all, operation_by, operation_of, operations_of}
use Rattle.operations.specs.States.{StandsFor, Counting, Operated, AddOperated}
use Rattle.engine.specs.States.{Operable, Loaded, RanAll}

-- ---- an operation as a value: an addition is of polynomial k, and one that was read is that of its pair
module _ (words coefs starts : List ℕ) where
  abbrev named : Asked → Operation
  named q = operation_of words coefs starts (code_of q) (index_of q)

  pub one-operated : {o : Order} {p k : ℕ} {s s' : State} {x x' : Spaces} {ow oc fw fc : List ℕ} {q : Asked} → q ≡ Add k → fw ≡ part_of starts k words → fc ≡ part_of starts k coefs → Output s.places ow oc → AddOperated o p (terms fw fc) s x s' x' → Operated o p (named q) s x ow oc s' x' ow oc
  one-operated {o} {p} {k} {s} {s'} {x} {x'} {ow} {oc} is ew ec a d = subst (λ (r : Operation). Operated o p r s x ow oc s' x' ow oc) (ap₂ (λ (l m : List ℕ). adds (terms l m)) ew ec ∙ sym (ap named is)) (d.done ow oc a)

  named-read : (code k : ℕ) → named (operation code k) ≡ operation_of words coefs starts code k
  named-read code k = by (eqb code 1) (eqb code 2)
    where
      by : (one two : Bool) → named (operation_from one two k) ≡ operation_by one two (polynomial words coefs starts k)
      by true two = refl
      by false true = refl
      by false false = refl

-- ---- the rest of a list, from a state that may be stopped
module _ (cmp : ℕ → ℕ → Ordering) (p places : ℕ) where
  unfoldable pub resume : List Operation → Running → Running
  resume os t = elim (eqb t.stop 0) [ true ↦ operate_all cmp p places os t | false ↦ t ]

  resume-on : (o : Operation) (os : List Operation) (t : Running) → eqb t.stop 0 ≡ true → resume (o ∷ os) t ≡ resume os (operate cmp p places o t)
  unfolding resume operate_all
  resume-on o os t e = rw (e, resume) refl

  resume-none : (t : Running) → resume [] t ≡ t
  unfolding resume operate_all
  resume-none t = by (eqb t.stop 0)
    where
      by : (b : Bool) → ◌≡◌ {A = Running} (elim b [ true ↦ t | false ↦ t ]) t
      by true = refl
      by false = refl

  resume-stopped : (os : List Operation) (t : Running) → eqb t.stop 0 ≡ false → resume os t ≡ t
  unfolding resume
  resume-stopped os t e = rw (e, resume) refl

-- ---- the loop: the next operation is pair j, at place i
pub record Going (o : Order) (p : ℕ) (words coefs starts ops ow₀ oc₀ : List ℕ) (x : Spaces) (ww wc bw bc ow oc : List ℕ) (s : State) (i : ℕ) : Type 0 where
  pub counting : Counting o p s x
  pub slices : Slices ww wc bw bc
  pub output : Output s.places ow oc
  pub out-long : length ow ≡ length ow₀
  pub coefs-out-long : length oc ≡ length oc₀
  pub pair : ℕ
  pub at : i ≡ 2 * pair
  pub few : s.finished ≤ pair
  pub running : Running
  pub is : StandsFor o s x ow oc running
  pub left : resume (compare_words o) p (length ow₀) (operations_of words coefs starts (drop i ops)) running ≡ operate_all (compare_words o) p (length ow₀) (operations_of words coefs starts ops) begun
  pub words-past : drop s.places ow ≡ drop s.places ow₀
  pub coefs-past : drop s.places oc ≡ drop s.places oc₀

module _ {o : Order} {p : ℕ} {words coefs starts ops : List ℕ} (l : Loaded o p words coefs starts ops) where
  pub going_start : {b : Buckets} {bw bc ww wc ow oc : List ℕ} → Lent b bw bc ww wc ow oc → {s : State} → s ≡ C.begun → Going o p words coefs starts ops ow oc (spaces b ww wc bw bc) ww wc bw bc ow oc s 0
  unfolding resume held
  going_start {b} {bw} {bc} {ww} {wc} {ow} {oc} e {s} es =
      subst (λ (y : State). Going o p words coefs starts ops ow oc (spaces b ww wc bw bc) ww wc bw bc ow oc y 0) (sym es)
      (subst (λ (y : Buckets). Going o p words coefs starts ops ow oc (spaces y ww wc bw bc) ww wc bw bc ow oc C.begun 0) (sym e.none)
      (record {
        counting = record {
          stands = none-stands l.modulus e.slices;
          room = omega (arith, ap held (words-none o ww wc bw bc));
          most = omega arith;
          few = omega arith;
          some-brought = omega arith;
          some-given = omega arith;
        };
        slices = e.slices;
        output = record { same-long = e.same-long; fits = omega arith };
        out-long = refl;
        coefs-out-long = refl;
        pair = 0;
        at = refl;
        few = omega arith;
        running = begun;
        is = record {
          counts = record { buckets-are = words-none o ww wc bw bc; comparisons-are = refl; brought-are = refl };
          given-are = refl;
          output-is = refl;
          finished-is = refl;
          stop_is = refl;
          goes-on-is = refl;
        };
        left = refl;
        words-past = refl;
        coefs-past = refl;
      }))

  module _ {ow₀ oc₀ : List ℕ} {x : Spaces} {ww wc bw bc ow oc : List ℕ} {s : State} {i : ℕ} (g : Going o p words coefs starts ops ow₀ oc₀ x ww wc bw bc ow oc s i) where
    module _ (h : i < length ops) (go : goes_on s.course ≡ true) where
      pub in_pairs : g.pair < l.pairs
      in_pairs = omega (arith, h, g.at, l.whole)

      pub second : i + 1 < length ops
      second = omega (arith, in_pairs, g.at, l.whole)

      pub operable : {q : Asked} → q ≡ operation (get_or ops i 0) (get_or ops (i + 1) 0) → Operable o p words coefs starts (code_of q) (index_of q) s x ow oc
      operable is = rw is (record {
        counting = g.counting;
        output = g.output;
        more = omega (arith, in_pairs, g.few, l.most);
        long = l.long;
        there = λ one.
            let a = adds-pair (get_or ops i 0) (get_or ops (i + 1) 0) one in
            let k : get_or ops (i + 1) 0 + 1 < length starts = subst (λ (n : ℕ). get_or ops (n + 1) 0 + 1 < length starts) (sym g.at) (l.there g.pair in_pairs (ap (λ (n : ℕ). get_or ops n 0) (sym g.at) ∙ a.0)) in
            rw a.1 (l.parts (get_or ops (i + 1) 0) k, l.canonical (get_or ops (i + 1) 0) k);
      })

      next-ops : operations_of words coefs starts (drop i ops) ≡ operation_of words coefs starts (get_or ops i 0) (get_or ops (i + 1) 0) ∷ operations_of words coefs starts (drop (i + 2) ops)
      unfolding operations_of
      next-ops =
          ap (operations_of words coefs starts)
          (drop-cons ops i 0 h
          ∙ ap (λ (y : List ℕ). get_or ops i 0 ∷ y) (ap (λ (n : ℕ). drop n ops) (sym (add-one i)) ∙ (drop-cons ops (i + 1) 0 second ∙ ap (λ (n : ℕ). get_or ops (i + 1) 0 ∷ drop n ops) (let z : suc (i + 1) ≡ i + 2 = omega arith in z))))

      past : {a b : ℕ} (k l : List ℕ) → a ≤ b → drop a k ≡ drop a l → drop b k ≡ drop b l
      past {a} {b} k l le e =
          let z : a + (b - a) ≡ b = omega arith in
          ap (λ (n : ℕ). drop n k) (sym z) ∙ (sym (drop-drop (b - a) a k) ∙ (ap (drop (b - a)) e ∙ (drop-drop (b - a) a l ∙ ap (λ (n : ℕ). drop n l) z)))

      pub going_on : {s' : State} {x' : Spaces} {ww' wc' bw' bc' ow' oc' : List ℕ} {asked : Asked} → asked ≡ operation (get_or ops i 0) (get_or ops (i + 1) 0) → Operated o p (named words coefs starts asked) s x ow oc s' x' ow' oc' → length ww' ≡ length ww → length wc' ≡ length wc → length bw' ≡ length bw → length bc' ≡ length bc → length ow' ≡ length ow → length oc' ≡ length oc
          → Going o p words coefs starts ops ow₀ oc₀ x' ww' wc' bw' bc' ow' oc' s' (i + 2)
      going_on {s'} {x'} {ww'} {wc'} {bw'} {bc'} {ow'} {oc'} is done lw lc lbw lbc low loc =
          let q = operation_of words coefs starts (get_or ops i 0) (get_or ops (i + 1) 0) in
          let d : Operated o p q s x ow oc s' x' ow' oc' = subst (λ (r : Operation). Operated o p r s x ow oc s' x' ow' oc') (ap (named words coefs starts) is ∙ named-read words coefs starts (get_or ops i 0) (get_or ops (i + 1) 0)) done in
          let t = g.running in
          let rest = operations_of words coefs starts (drop (i + 2) ops) in
          record {
            counting = d.counting;
            slices = record { work-words = lw ∙ g.slices.work-words; work-coefs = lc ∙ g.slices.work-coefs; words_long = lbw ∙ g.slices.words_long; coefs-long = lbc ∙ g.slices.coefs-long };
            output = d.output;
            out-long = low ∙ g.out-long;
            coefs-out-long = loc ∙ g.coefs-out-long;
            pair = g.pair + 1;
            at = omega (arith, g.at);
            few = omega (arith, g.few, d.one_more);
            running = operate (compare_words o) p (length ow₀) q t;
            is = subst (λ (n : ℕ). StandsFor o s' x' ow' oc' (operate (compare_words o) p n q t)) g.out-long (d.is t g.is);
            left = sym (resume-on (compare_words o) p (length ow₀) q rest t (sym g.is.goes-on-is ∙ go)) ∙ (ap (λ (y : List Operation). resume (compare_words o) p (length ow₀) y t) (sym next-ops) ∙ g.left);
            words-past = d.words-past ∙ past ow ow₀ d.longer g.words-past;
            coefs-past = d.coefs-past ∙ past oc oc₀ d.longer g.coefs-past;
          }

    pub going_end : (length ops ≤ i) ⊎ (goes_on s.course ≡ false) → RanAll o p words coefs starts ops ow₀ oc₀ s x ow oc
    unfolding operations_of
    going_end e = record {
      counting = g.counting;
      output = g.output;
      is = subst (StandsFor o s x ow oc) (sym (⊎_elim none_left (λ no. resume-stopped (compare_words o) p (length ow₀) (operations_of words coefs starts (drop i ops)) g.running (sym g.is.goes-on-is ∙ no)) e) ∙ g.left) g.is;
      words-past = g.words-past;
      coefs-past = g.coefs-past;
    }
      where
        none_left : length ops ≤ i → resume (compare_words o) p (length ow₀) (operations_of words coefs starts (drop i ops)) g.running ≡ g.running
        none_left h = ap (λ (y : List Operation). resume (compare_words o) p (length ow₀) y g.running) (ap (operations_of words coefs starts) (drop_of_length-le ops {i = i} h)) ∙ resume-none (compare_words o) p (length ow₀) g.running
