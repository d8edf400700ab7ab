-- 65,536 bytes are enough for every listing: a refusal is one short line, and the lines of a run that is done have at most four bytes for each of the script. Assumes nothing.
use Prim.Native.Nat.{ℕ, zero, suc, ◌+◌, ◌*◌, ◌/◌, ◌%◌, ◌≤◌, ◌<◌}
use native.Mathlib.Nat.{div-add-mod', mul-le-mul, mul-le-mul_right}
use native.Mathlib.Decide.{dec_le}
use native.Mathlib.Omega.{arith}
use mathlib.Core.Path.{◌≡◌, refl, ap, ◌∙◌, subst}
use mathlib.Core.Bool.{Bool, true, false}
use mathlib.Core.List.{List, [], ◌∷◌, ◌++◌, map}
use mathlib.Core.Option.{Option, none, some}
use borrow.Author.Tests.{ne_eqb}
use lib.Dec.{eqb}
use lib.ListN.{length, drop, get_or, replicate, length-append, length-take}
use Rattle.limits.specs.Limits.{bucket_places, largest_prime, listing_bytes, script_terms, work_places}
use Rattle.monomial.specs.declared.order.Order.{Order}
use Rattle.monomial.specs.Exponents.{order_of, order_number}
use Rattle.monomial.specs.Words.{compare_words}
use Rattle.monomial.specs.Layout.{bytes, fields, exponents, Below}
use Rattle.monomial.proofs.Places.{below_true, true_below}
use Rattle.monomial.proofs.ByteLaws.{bytes_below}
use Rattle.monomial.proofs.LayoutLaws.{below-fields, below-take}
use Rattle.monomial.proofs.OrderLaws.{words-order}
use Rattle.polynomial.specs.Terms.{Term, term, All}
use Rattle.polynomial.proofs.OpeningLaws.{passes}
use Rattle.geobucket.specs.Events.{levels, bound}
use Rattle.geobucket.proofs.Levels.{levels-are}
use Rattle.opening.specs.Run.{run_refusal}
use Rattle.opening.proofs.RunLaws.{opened}
use Rattle.call.specs.Answers.{Outcome, decided_by}
use Rattle.call.specs.Places.{unless_zero, non_zero}
use Rattle.run_outcome.specs.Runs.{Running, operations_of}
use Rattle.run_outcome.specs.Outcome.{run_outcome, ran_through, ended, tally_of}
use Rattle.run_outcome.proofs.Follow.{all-polynomials, sound}
use Rattle.run_outcome.proofs.Demands.{outcome-is, demand-3-bound, written_back}
use Rattle.run_outcome.proofs.Endings.{finished-most, stop-most}
use Rattle.text.specs.Bytes.{joined}
use Rattle.text.specs.Numbers.{decimal}
use Rattle.text.proofs.NumberLaws.{decimal_digit, decimal-more, decimal-some}
use Rattle.grammar.specs.Grammar.{Entry, Line, add_line, lead_line, sum_line, Script, entry_text, entries_text, lines_text, GoodEntry, GoodEntries, GoodLines, GoodScript}
use Rattle.grammar.specs.Reading.{script_of}
use Rattle.grammar.specs.Parts.{six_weights}
use Rattle.script.specs.Loading.{entries_in, pairs_from, words_of, coefs_of, starts_of, pairs_of}
use Rattle.grammar.proofs.Accepted.{text-read}
use Rattle.script.proofs.LinesLaws.{pairs-long}
use Rattle.listing_lines.specs.Listing.{exponents_text, term_text, place_by, place_text, lead_text, sum_terms, terms_text, zero_if, sum_text, answers_text, of_word, at-word, cost_text, refused_text}
use Rattle.listing.specs.Whole.{ran_text, no_tally, setting_in, outcome_text, listing_by, listing_of}
use Rattle.listing.proofs.WholeLaws.{operations-short}
use Rattle.listing.specs.Printed.{Sizes}
use Rattle.listing.proofs.SizeLaws.{inside, sizes}
use Rattle.listing.proofs.GivenLaws.{CoefsBelow, gives, script-adds}
use Rattle.listing.proofs.NeverFull.{opening-most}

-- ---- numbers
-- ten to the power k + 1
abbrev pub tens : ℕ → ℕ
tens zero = 10
tens (suc k) = 10 * tens k

pub decimal-long : (k v : ℕ) → v < tens k → length (decimal v) ≤ suc k
decimal-long zero v h = omega (arith, ap length (decimal_digit v h))
decimal-long (suc k) v h = go (dec_le 10 v) (λ l. decimal-long k (v / 10) l)
  where
    go : Dec (10 ≤ v) → (v / 10 < tens k → length (decimal (v / 10)) ≤ suc k) → length (decimal v) ≤ suc (suc k)
    go (yes l) r =
        let e : v / 10 * 10 + v % 10 ≡ v = div-add-mod' v 10 in
        let q : v / 10 < tens k = omega (arith, e) in
        omega (arith, r q, ap length (decimal-more v l), length-append (decimal (v / 10)) ((48 + v % 10) ∷ []))
    go (no l) r = omega (arith, ap length (decimal_digit v (omega arith)))

-- ---- a term of the listing
joined-most : (es : List ℕ) → Below 256 es → length (joined 46 (map decimal es)) ≤ 4 * length es
unfolding joined
joined-most [] h = omega arith
joined-most (e ∷ []) h = omega (arith, decimal-long 2 e (let z : e < 1000 = omega (arith, h.0) in z))
joined-most (e ∷ (f ∷ es)) h =
    omega (arith, decimal-long 2 e (let z : e < 1000 = omega (arith, h.0) in z), joined-most (f ∷ es) h.1, length-append (decimal e) (46 ∷ joined 46 (map decimal (f ∷ es))))

fields-small : (o : Order) (w : ℕ) → Below 256 (fields o w)
fields-small o w = true_below 256 (fields o w) (below-fields 256 o w ∙ below_true 256 (bytes 6 w) (bytes_below 6 w))

-- the most bytes of a term in n variables: a space, ten digits, a colon, and four for each exponent
abbrev pub most : ℕ → ℕ
most n = 4 * n + 12

pub term-length : (o : Order) (n : ℕ) (t : Term ℕ) → t.coef < 2147483648 → length (term_text o n t) ≤ most n
term-length o n t h =
    let es = exponents o n t.mono in
    omega (
      arith,
      decimal-long 9 t.coef (let z : t.coef < 10000000000 = omega arith in z),
      joined-most es (below-take 256 n (fields o t.mono) (fields-small o t.mono)),
      length-take n (fields o t.mono),
      length-append (decimal t.coef) (58 ∷ exponents_text o n t.mono),
    )

-- ---- a term of the script
joined-least : (es : List ℕ) → 2 * length es ≤ 1 + length (joined 46 (map decimal es))
unfolding joined
joined-least [] = omega arith
joined-least (e ∷ []) = omega (arith, decimal-some e)
joined-least (e ∷ (f ∷ es)) = omega (arith, decimal-some e, joined-least (f ∷ es), length-append (decimal e) (46 ∷ joined 46 (map decimal (f ∷ es))))

entry-pays : (n : ℕ) (t : Entry) → GoodEntry n t → most n ≤ 4 * (1 + length (entry_text t))
entry-pays n t g = omega (arith, g.n-exps, decimal-some t.coef, joined-least t.exps, length-append (decimal t.coef) (58 ∷ joined 46 (map decimal t.exps)))

entries-pay : (n : ℕ) (ts : List Entry) → GoodEntries n ts → length ts * most n ≤ 4 * length (entries_text ts)
unfolding entries_text
entries-pay n [] g = omega arith
entries-pay n (t ∷ ts) g = omega (arith, entry-pays n t g.0, entries-pay n ts g.1, length-append (entry_text t) (entries_text ts))

-- four bytes for each of the script pay for its terms, and for ten bytes of each line
pub lines-pay : (n : ℕ) (ls : List Line) → GoodLines n ls → length (entries_in ls) * most n + 10 * length ls ≤ 4 * length (lines_text ls)
unfolding entries_in lines_text
lines-pay n [] g = omega arith
lines-pay n (add_line ts ∷ ls) g =
    let e : length (ts ++ entries_in ls) * most n ≡ length ts * most n + length (entries_in ls) * most n = rw (length-append ts (entries_in ls)) (omega arith) in
    omega (arith, e, entries-pay n ts g.0, lines-pay n ls g.1, length-append (entries_text ts) (10 ∷ lines_text ls))
lines-pay n (lead_line ∷ ls) g = omega (arith, lines-pay n ls g.1)
lines-pay n (sum_line ∷ ls) g = omega (arith, lines-pay n ls g.1)

-- ---- the lines of the listing
abbrev pub Small : List (Term ℕ) → Type 0
Small ts = All (λ t. t.coef < 2147483648) ts

small-drop : (k : ℕ) (ts : List (Term ℕ)) → Small ts → Small (drop k ts)
small-drop zero ts h = h
small-drop (suc k) [] h = tt
small-drop (suc k) (t ∷ ts) h = small-drop k ts h.1

suc-less : (a c : ℕ) → suc a * c ≡ c + a * c
suc-less a c = omega arith

module _ (o : Order) (n : ℕ) where
  lead-most : (ts : List (Term ℕ)) → Small ts → length (lead_text o n ts) + length (non_zero (drop 1 ts)) * most n ≤ 10 + length (non_zero ts) * most n
  unfolding lead_text
  lead-most [] h = omega arith
  lead-most (t ∷ ts) h = go t.mono t.coef (term-length o n t h.0)
    where
      go : (m c : ℕ) → length (term_text o n (term m c)) ≤ most n → length (lead_text o n (term m c ∷ ts)) + length (non_zero ts) * most n ≤ 10 + length (unless_zero c (term m c) (non_zero ts)) * most n
      go m zero l = omega arith
      go m (suc c) l =
          let e : place_text o n (term m (suc c)) ≡ term_text o n (term m (suc c)) = ap (λ (b : Bool). place_by b o n (term m (suc c))) (ne_eqb (suc c) 0 (λ q. let z : ⊥ = omega arith in z)) in
          omega (arith, l, ap (λ (x : List ℕ). length (x ++ (10 ∷ []))) e, suc-less (length (non_zero ts)) (most n), length-append (term_text o n (term m (suc c))) (10 ∷ []))

  sum_terms-most : (ts : List (Term ℕ)) → Small ts → length (terms_text o n (sum_terms ts)) + length (non_zero (drop (length (sum_terms ts) + 1) ts)) * most n ≤ length (non_zero ts) * most n
  unfolding sum_terms terms_text
  sum_terms-most [] h = omega arith
  sum_terms-most (t ∷ ts) h = go t.mono t.coef (term-length o n t h.0) (sum_terms-most ts h.1)
    where
      go : (m c : ℕ) → length (term_text o n (term m c)) ≤ most n → length (terms_text o n (sum_terms ts)) + length (non_zero (drop (length (sum_terms ts) + 1) ts)) * most n ≤ length (non_zero ts) * most n
          → length (terms_text o n (sum_terms (term m c ∷ ts))) + length (non_zero (drop (length (sum_terms (term m c ∷ ts)) + 1) (term m c ∷ ts))) * most n ≤ length (unless_zero c (term m c) (non_zero ts)) * most n
      go m zero l r = omega arith
      go m (suc c) l r =
          let e : sum_terms (term m (suc c) ∷ ts) ≡ term m (suc c) ∷ sum_terms ts = rw (ne_eqb (suc c) 0 (λ q. let z : ⊥ = omega arith in z), sum_terms) refl in
          let j : length (sum_terms (term m (suc c) ∷ ts)) + 1 ≡ suc (length (sum_terms ts) + 1) = omega (arith, ap length e) in
          omega (
            arith,
            l,
            r,
            ap (λ (x : List (Term ℕ)). length (terms_text o n x)) e,
            ap (λ (i : ℕ). length (non_zero (drop i (term m (suc c) ∷ ts))) * most n) j,
            suc-less (length (non_zero ts)) (most n),
            length-append (term_text o n (term m (suc c))) (terms_text o n (sum_terms ts)),
          )

  sum-most : (ts : List (Term ℕ)) → Small ts → length (sum_text o n ts) + length (non_zero (drop (length (sum_terms ts) + 1) ts)) * most n ≤ 10 + length (non_zero ts) * most n
  unfolding sum_text
  sum-most ts h = omega (arith, sum_terms-most ts h, length-append (terms_text o n (sum_terms ts)) (zero_if (eqb (length (sum_terms ts)) 0) ++ (10 ∷ [])), go (eqb (length (sum_terms ts)) 0))
    where
      go : (b : Bool) → length (zero_if b ++ (10 ∷ [])) ≤ 6
      go true = omega arith
      go false = omega arith

  pub answers-most : (k : ℕ) (ls : List Line) (ts : List (Term ℕ)) → Small ts → length (answers_text o n (pairs_from k ls) ts) ≤ 10 * length ls + length (non_zero ts) * most n
  unfolding pairs_from answers_text
  answers-most k [] ts h = omega arith
  answers-most k (add_line es ∷ ls) ts h = omega (arith, answers-most (k + 1) ls ts h)
  answers-most k (lead_line ∷ ls) ts h = omega (arith, lead-most ts h, answers-most k ls (drop 1 ts) (small-drop 1 ts h), length-append (lead_text o n ts) (answers_text o n (pairs_from k ls) (drop 1 ts)))
  answers-most k (sum_line ∷ ls) ts h =
      let us = drop (length (sum_terms ts) + 1) ts in
      omega (arith, sum-most ts h, answers-most k ls us (small-drop (length (sum_terms ts) + 1) ts h), length-append (sum_text o n ts) (answers_text o n (pairs_from k ls) us))

-- ---- the last line, which the first three of the script pay for
cost-most : (c b : ℕ) → c ≤ bound b → b ≤ script_terms → length (cost_text c b) ≤ 22
unfolding cost_text
cost-most c b h l =
    let m : 6 * b * levels b ≤ 24576 * 6 = mul-le-mul (let z : 6 * b ≤ 24576 = omega arith in z) (levels-are b).six in
    let k : bound b ≤ 147456 = m in
    omega (
      arith,
      decimal-long 5 c (let z : c < 1000000 = omega (arith, h, k) in z),
      decimal-long 5 (bound b) (let z : bound b < 1000000 = omega (arith, k) in z),
      length-append (decimal c) (of_word ++ (decimal (bound b) ++ (10 ∷ []))),
      length-append (decimal (bound b)) (10 ∷ []),
    )

refused-most : (number finished : ℕ) → number < 100 → finished < 100000 → length (refused_text number finished) ≤ listing_bytes
unfolding refused_text
refused-most number finished h l =
    omega (arith, decimal-long 1 number h, decimal-long 4 finished l, length-append (decimal number) (at-word ++ (decimal finished ++ (10 ∷ []))), length-append (decimal finished) (10 ∷ []))

-- ---- the listing
below-small : (p : ℕ) (ts : List (Term ℕ)) → p ≤ largest_prime → CoefsBelow p ts → Small ts
below-small p [] l h = tt
below-small p (t ∷ ts) l h = ((let z : t.coef < 2147483648 = omega (arith, h.0) in z), below-small p ts l h.1)

module _ (s : Script) (g : GoodScript s) (z : Sizes s) (bw bc ww wc ow oc : List ℕ) where
  abbrev last : Running
  last = ran_through (setting_in s) (words_of s) (coefs_of s) (starts_of s) (pairs_of s) (length ow)

  abbrev refusal : ℕ
  refusal = run_refusal (setting_in s) (words_of s) (coefs_of s) (starts_of s) (pairs_of s) (length bw) (length bc) (length ww) (length wc) (length ow) (length oc)

  done-most : refusal ≡ 0 → length (answers_text s.order s.vars (pairs_of s) last.output) + length (cost_text (length last.work.pairs) (length last.work.brought)) ≤ listing_bytes
  done-most e =
      let number = order_number s.order in
      let order = order_of number in
      let cmp = compare_words order in
      let p = s.prime in
      let os = operations_of (words_of s) (coefs_of s) (starts_of s) (pairs_of s) in
      let o = opened (setting_in s) (words_of s) (coefs_of s) (starts_of s) (pairs_of s) (length bw) (length bc) (length ww) (length wc) (length ow) (length oc) e in
      let pos : 0 < p = omega (arith, o.prime.above) in
      let all = all-polynomials cmp p (words_of s) (coefs_of s) (starts_of s) (pairs_of s) o.operations (λ k h. (passes order s.vars (six_weights s.weights) p _ (o.polynomials k (omega arith))).0) in
      let a = gives cmp p (words-order order) pos (length ow) os all in
      let t = script-adds (words_of s) (coefs_of s) (starts_of s) 0 0 s.lines (λ j. ap (λ (i : ℕ). get_or (starts_of s) i 0) (let q : 0 + j ≡ j = omega arith in q)) in
      let few : length (non_zero last.output) ≤ length (entries_in s.lines) = omega (arith, ap length (sound cmp p (words-order order) pos (length ow) os all).output-is, a.given, t) in
      let k : length (non_zero last.output) * most s.vars ≤ length (entries_in s.lines) * most s.vars = mul-le-mul_right (most s.vars) few in
      let b : length last.work.brought ≤ script_terms = omega (arith, a.brought, t, z.terms) in
      let c : length last.work.pairs ≤ bound (length last.work.brought) = subst (λ (x : Outcome). x.tally.comparisons ≤ bound x.tally.brought) (outcome-is no_tally (setting_in s) (words_of s) (coefs_of s) (starts_of s) (pairs_of s) bw bc ww wc ow oc e) (demand-3-bound no_tally (setting_in s) (words_of s) (coefs_of s) (starts_of s) (pairs_of s) bw bc ww wc ow oc e) in
      omega (
        arith,
        answers-most s.order s.vars 0 s.lines last.output (below-small p last.output o.limit a.below),
        k,
        lines-pay s.vars s.lines g.lines-good,
        cost-most (length last.work.pairs) (length last.work.brought) c b,
        inside s,
        g.not-long,
      )

  last-finished : last.finished < 100000
  last-finished = omega (arith, finished-most (compare_words (order_of (order_number s.order))) s.prime (length ow) (operations_of (words_of s) (coefs_of s) (starts_of s) (pairs_of s)), (operations-short (words_of s) (coefs_of s) (starts_of s) (pairs_of s)).1, pairs-long 0 s.lines, z.operations)

  run-most : length (outcome_text s.order s.vars (pairs_of s) (run_outcome no_tally (setting_in s) (words_of s) (coefs_of s) (starts_of s) (pairs_of s) bw bc ww wc ow oc)) ≤ listing_bytes
  unfolding ran_text
  run-most = go refusal refl
    where
      ends : (n : ℕ) → last.stop ≡ n → length (answers_text s.order s.vars (pairs_of s) last.output) + length (cost_text (length last.work.pairs) (length last.work.brought)) ≤ listing_bytes
          → length (ran_text s.order s.vars (pairs_of s) (ended last ow oc).ow (ended last ow oc).oc (tally_of last) (record { number = n; finished = last.finished; places = length last.output })) ≤ listing_bytes
      ends zero e h =
          let ts = last.output in
          let cost = cost_text (length last.work.pairs) (length last.work.brought) in
          omega (arith, h, ap (λ (x : List (Term ℕ)). length (answers_text s.order s.vars (pairs_of s) x ++ cost)) (written_back ts (drop (length ts) ow) (drop (length ts) oc)), length-append (answers_text s.order s.vars (pairs_of s) ts) cost)
      ends (suc n) e h = refused-most (suc n) last.finished (omega (arith, e, stop-most (compare_words (order_of (order_number s.order))) s.prime (length ow) (operations_of (words_of s) (coefs_of s) (starts_of s) (pairs_of s)))) last-finished

      go : (r : ℕ) → refusal ≡ r → length (outcome_text s.order s.vars (pairs_of s) (decided_by r no_tally (ended last ow oc) bw bc ww wc ow oc)) ≤ listing_bytes
      go (suc r) e = refused-most (suc r) 0 (omega (arith, e, opening-most (setting_in s) (words_of s) (coefs_of s) (starts_of s) (pairs_of s) (length bw) (length bc) (length ww) (length wc) (length ow) (length oc))) (omega arith)
      go zero e = ends last.stop refl (done-most e)

-- 65,536 bytes are enough, whatever the script: nothing of a listing is cut off
pub suffices : (s : List ℕ) → length (listing_of s) ≤ listing_bytes
unfolding listing_of
suffices s = go (script_of s) refl
  where
    go : (x : Option Script) → script_of s ≡ x → length (listing_by x) ≤ listing_bytes
    go none e = refused-most 17 0 (omega arith) (omega arith)
    go (some t) e = run-most t (text-read s t e).0 (sizes s t e) (replicate bucket_places 0) (replicate bucket_places 0) (replicate work_places 0) (replicate work_places 0) (replicate script_terms 0) (replicate script_terms 0)
