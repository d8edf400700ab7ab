-- The refusal that a listing prints is the one that document 01's conditions come to, and which numbers can come at all. Assumes nothing.
use Prim.Native.Nat.{ℕ, zero, suc, ◌+◌, ◌-◌, ◌≤◌}
use native.Mathlib.Omega.{arith}
use mathlib.Core.Path.{◌≡◌, refl, sym, ap, ap₂, ◌∙◌, subst}
use mathlib.Core.Bool.{true, ◌&&◌}
use mathlib.Core.List.{List, [], ◌∷◌, ◌++◌}
use mathlib.Core.Logic.{inl, inr}
use mathlib.Core.Option.{Option, none, some}
use borrow.Author.Tests.{eq-eqb, le-leb}
use lib.ListN.{length, replicate, length-append, length-map, length-replicate}
use Rattle.limits.specs.Limits.{bucket_places, most_variables, script_terms, work_places}
use Rattle.refusal.specs.Judgement.{Condition, condition, Judged, OneOf, NumberedBy}
use Rattle.refusal.proofs.JudgementLaws.{judged-numbers, numbered-then}
use Rattle.monomial.specs.declared.order.Order.{Order}
use Rattle.monomial.specs.declared.order.Order.TheVariants.{Lex, DegLex, DegRevLex}
use Rattle.monomial.specs.Exponents.{order_of, order_number}
use Rattle.monomial.specs.Words.{compare_words}
use Rattle.polynomial.specs.Opening.{rise_to, starts_good}
use Rattle.polynomial.specs.declared.setting.Setting.{Setting}
use Rattle.opening.specs.Run.{run_refusal}
use Rattle.conditions.specs.Operations.{GoodOperations}
use Rattle.opening.specs.Judgement as O
use Rattle.opening.specs.Judgement.{Between, GoodPrime, GoodShape, run_conditions, polynomials_conditions}
use Rattle.opening.proofs.Judgements.{judged}
use Rattle.opening.proofs.StartsJudged.{starts-good}
use Rattle.call.specs.declared.answer.Tally.{Tally}
use Rattle.call.specs.Answers.{decided_by}
use Rattle.run_outcome.specs.Runs.{Running}
use Rattle.run_outcome.specs.Outcome.{ended, ran_through}
use Rattle.grammar.specs.Grammar.{Entry, Line, add_line, lead_line, sum_line, Script}
use Rattle.grammar.specs.Reading.{script_of}
use Rattle.grammar.specs.Parts.{entry_word, entry_coef, six_weights}
use Rattle.script.specs.Loading.{entries_in, ends_from, pairs_from, words_of, coefs_of, starts_of, pairs_of}
use Rattle.grammar.proofs.Accepted.{text-read}
use Rattle.grammar.proofs.Written.{read-text}
use Rattle.grammar.proofs.WeightsLaws.{six-fit}
use Rattle.script.proofs.LinesLaws.{pairs-long}
use Rattle.listing.specs.Whole.{no_tally, setting_in, script_outcome}
use Rattle.listing.specs.Judgement.{IsScript, entries_conditions, EntriesFall, lines_conditions, script_conditions, conditions_by, listing_conditions, refusal_by, printed_refusal}
use Rattle.listing.proofs.SizeLaws.{sizes}
use Rattle.listing.proofs.NeverFull.{never-full}
use Rattle.listing.proofs.WeightsJudged.{weights-alike}
use Rattle.listing.proofs.LinesJudged.{alike-judged, script-alike}

-- ---- the run of a script is refused by its opening checks, or not at all
decided-number : (refusal : ℕ) (tally : Tally) (t : Running) (bw bc ww wc ow oc : List ℕ) → t.stop ≡ 0 → refusal ≡ (decided_by refusal tally (ended t ow oc) bw bc ww wc ow oc).answer.number
decided-number zero tally t bw bc ww wc ow oc z = sym z
decided-number (suc n) tally t bw bc ww wc ow oc z = refl

same-sizes : (t : Setting) (words coefs ss ops : List ℕ) {b w o r : ℕ} → b ≡ bucket_places → w ≡ work_places → o ≡ script_terms → Judged (run_conditions t words coefs ss ops b b w w o o) r → Judged (run_conditions t words coefs ss ops bucket_places bucket_places work_places work_places script_terms script_terms) r
same-sizes t words coefs ss ops {b} {w} {o} {r} eb ew eo j =
    subst (λ (x : ℕ). Judged (run_conditions t words coefs ss ops bucket_places bucket_places work_places work_places x x) r) eo
    (subst (λ (x : ℕ). Judged (run_conditions t words coefs ss ops bucket_places bucket_places x x o o) r) ew
    (subst (λ (x : ℕ). Judged (run_conditions t words coefs ss ops x x w w o o) r) eb j))

-- what a run asks, of the run of a script
abbrev ran_conditions : Script → List Condition
ran_conditions s = run_conditions (setting_in s) (words_of s) (coefs_of s) (starts_of s) (pairs_of s) bucket_places bucket_places work_places work_places script_terms script_terms

ran-judged : (bytes : List ℕ) (s : Script) → script_of bytes ≡ some s → Judged (ran_conditions s) (script_outcome s).answer.number
ran-judged bytes s is =
    let order = order_number s.order in
    let t = setting_in s in
    let l : ℕ → ℕ = λ n. length {A = ℕ} (replicate n 0) in
    let r = run_refusal t (words_of s) (coefs_of s) (starts_of s) (pairs_of s) (l bucket_places) (l bucket_places) (l work_places) (l work_places) (l script_terms) (l script_terms) in
    subst (Judged (ran_conditions s))
    (decided-number r no_tally (ran_through t (words_of s) (coefs_of s) (starts_of s) (pairs_of s) (l script_terms)) (replicate bucket_places 0) (replicate bucket_places 0) (replicate work_places 0) (replicate work_places 0) (replicate script_terms 0) (replicate script_terms 0) (never-full bytes s is (compare_words (order_of order)) s.prime))
    (same-sizes t (words_of s) (coefs_of s) (starts_of s) (pairs_of s) {r = r} (length-replicate {A = ℕ} bucket_places 0) (length-replicate {A = ℕ} work_places 0) (length-replicate {A = ℕ} script_terms 0)
    (judged t (words_of s) (coefs_of s) (starts_of s) (pairs_of s) (l bucket_places) (l bucket_places) (l work_places) (l work_places) (l script_terms) (l script_terms)))

-- ---- 2, 8 and 9 cannot come from a script
order-between : (o : Order) → Between 1 3 (order_number o)
order-between Lex = (omega arith, omega arith)
order-between DegLex = (omega arith, omega arith)
order-between DegRevLex = (omega arith, omega arith)

-- the ends of the polynomials rise to the number of all terms
rising : (at : ℕ) (ls : List Line) (len : ℕ) → at + length (entries_in ls) ≡ len → rise_to at (ends_from at ls) len ≡ true
unfolding rise_to ends_from entries_in
rising at [] len e = eq-eqb at len (omega (arith, e))
rising at (add_line ts ∷ ls) len e = ap₂ ◌&&◌ (le-leb at (at + length ts) (omega arith)) (rising (at + length ts) ls len (omega (arith, e, length-append ts (entries_in ls))))
rising at (lead_line ∷ ls) len e = rising at ls len e
rising at (sum_line ∷ ls) len e = rising at ls len e

operations-good : (k at n : ℕ) (ls : List Line) → k + length (ends_from at ls) ≤ n → GoodOperations (pairs_from k ls) n
unfolding ends_from pairs_from
operations-good k at n [] h = tt
operations-good k at n (add_line ts ∷ ls) h = (inl (refl, omega arith), operations-good (k + 1) (at + length ts) n ls (omega arith))
operations-good k at n (lead_line ∷ ls) h = (inr (refl, inl refl), operations-good k at n ls h)
operations-good k at n (sum_line ∷ ls) h = (inr (refl, inr refl), operations-good k at n ls h)

module _ (bytes : List ℕ) (s : Script) (is : script_of bytes ≡ some s) where
  shape-good : GoodShape (six_weights s.weights) (words_of s) (coefs_of s) (starts_of s) (pairs_of s) bucket_places bucket_places work_places work_places script_terms script_terms
  unfolding starts_good
  shape-good =
      let es = entries_in s.lines in
      let lw : length (words_of s) ≡ length es = length-map es (entry_word s.order (six_weights s.weights)) in
      let lc : length (coefs_of s) ≡ length es = length-map es entry_coef in
      let lp = pairs-long 0 s.lines in
      record {
        lent = record { weights-six = (six-fit s.weights).six-are; lent = lw ∙ sym lc; output = refl; bucket-words = refl; bucket-coefs = refl; work-words = refl; work-coefs = refl };
        starts = starts-good (length (words_of s)) (starts_of s) (rising 0 s.lines (length (words_of s)) (omega (arith, lw)));
        pairs = record { whole = omega (arith, lp); most = omega (arith, lp, (sizes bytes s is).operations) };
      }

  -- a condition that holds may be left out
  skipped : (cs : List Condition) (c : Condition) (ds : List Condition) (r : ℕ) → c.holds → Judged (cs ++ (c ∷ ds)) r → Judged (cs ++ ds) r
  skipped [] c ds r h (inl a) = absurd (a.0 h)
  skipped [] c ds r h (inr a) = a.1
  skipped (d ∷ cs) c ds r h (inl a) = inl a
  skipped (d ∷ cs) c ds r h (inr a) = inr (a.0, skipped cs c ds r h a.1)

  -- so what is asked of the run of a script is what is asked of the script
  script-judged : Judged (script_conditions s) (script_outcome s).answer.number
  script-judged =
      let t = setting_in s in
      let r = (script_outcome s).answer.number in
      let one = condition 1 (GoodPrime s.prime) in
      let three = condition 3 (Between 1 most_variables s.vars) in
      let weights = condition 24 (O.GoodWeights s.vars (six_weights s.weights)) in
      let text = (text-read bytes s is).0 in
      let eight = condition 8 (GoodShape (six_weights s.weights) (words_of s) (coefs_of s) (starts_of s) (pairs_of s) bucket_places bucket_places work_places work_places script_terms script_terms) in
      let nine = condition 9 (GoodOperations (pairs_of s) (length (starts_of s) - 1)) in
      let polynomials = polynomials_conditions t (words_of s) (coefs_of s) (starts_of s) in
      alike-judged (one ∷ (three ∷ (weights ∷ polynomials))) (script_conditions s) r
      (refl, λ h. h, λ h. h, λ g. (refl, λ h. h, λ h. h, λ f. let w = weights-alike s.vars s.weights f.1 text.weights-good in (refl, w.0, w.1, λ range. script-alike s f.1 text.weights-good range text.lines-good)))
      (skipped (one ∷ (three ∷ (weights ∷ []))) nine polynomials r (operations-good 0 0 (length (starts_of s) - 1) s.lines (omega arith))
      (skipped (one ∷ (three ∷ (weights ∷ []))) eight (nine ∷ polynomials) r shape-good
      (skipped (one ∷ []) (condition 2 (Between 1 3 (order_number s.order))) (three ∷ (weights ∷ (eight ∷ (nine ∷ polynomials)))) r (order-between s.order) (ran-judged bytes s is))))

-- Each number is printed under its condition, where no earlier one is to be printed, and under no other.
pub listing-judged : (bytes : List ℕ) → Judged (listing_conditions bytes) (printed_refusal bytes)
listing-judged bytes = by (script_of bytes) refl
  where
    by : (x : Option Script) → script_of bytes ≡ x → Judged (condition 17 (IsScript bytes) ∷ conditions_by x) (refusal_by x)
    by none e = inl ((λ i. let q : none ≡ some i.script = sym e ∙ (ap script_of i.text ∙ read-text i.script i.good) in let z : ◌≡◌ {A = ℕ} 0 1 = cc in let y : ⊥ = omega arith in y), refl)
    by (some s) e = let t = text-read bytes s e in inr (record { script = s; good = t.0; text = t.1 }, script-judged bytes s e)

-- ---- these numbers can be printed, and no other
abbrev printed_numbers : List ℕ
printed_numbers = 1 ∷ 3 ∷ 4 ∷ 5 ∷ 6 ∷ 17 ∷ 24 ∷ []

entries_by : (s : Script) (es : List Entry) → NumberedBy printed_numbers (entries_conditions s es)
entries_by s [] = tt
entries_by s (e ∷ es) = (refl, (refl, entries_by s es))

lines-by : (s : Script) (ls : List Line) → NumberedBy printed_numbers (lines_conditions s ls)
lines-by s [] = tt
lines-by s (add_line es ∷ ls) =
    let six = condition 6 (EntriesFall s es) in
    numbered-then printed_numbers (entries_conditions s es ++ (six ∷ [])) (lines_conditions s ls) (numbered-then printed_numbers (entries_conditions s es) (six ∷ []) (entries_by s es) (refl, tt)) (lines-by s ls)
lines-by s (lead_line ∷ ls) = lines-by s ls
lines-by s (sum_line ∷ ls) = lines-by s ls

by-script : (x : Option Script) → NumberedBy printed_numbers (conditions_by x)
by-script none = tt
by-script (some s) = (refl, (refl, (refl, lines-by s s.lines)))

pub listing-numbers : (bytes : List ℕ) → OneOf (0 ∷ 1 ∷ 3 ∷ 4 ∷ 5 ∷ 6 ∷ 17 ∷ 24 ∷ []) (printed_refusal bytes)
listing-numbers bytes = judged-numbers printed_numbers (listing_conditions bytes) (printed_refusal bytes) (refl, by-script (script_of bytes)) (listing-judged bytes)
