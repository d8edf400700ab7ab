-- A script's text is long enough for its terms and lines, so that what is read has room. Assumes nothing.
use Rattle.std.specs.Prelude.{Some, None, Option as Answered}
use Prim.Native.Nat.{ℕ, ◌+◌, ◌*◌, ◌≤◌}
use native.Mathlib.Omega.{arith}
use mathlib.Core.Path.{◌≡◌, refl, sym, ap, ◌∙◌}
use mathlib.Core.List.{List, [], ◌∷◌, ◌++◌}
use mathlib.Core.Option.{Option, none, some}
use lib.ListN.{length, take, drop, length-append, length-map}
use lib.Seq.{sets, sets-eq, length-sets, take_at, length-take-le}
use Rattle.limits.specs.Limits.{script_numbers, script_starts, script_terms}
use Rattle.script.specs.declared.reader.Loaded.{Loaded}
use Rattle.grammar.specs.Grammar.{Line, add_line, lead_line, sum_line, Script, order-word, vars-word, order_name, entries_text, lines_text, spaced_text, rest_text, script_text, GoodLines}
use Rattle.grammar.specs.Reading.{script_of}
use Rattle.grammar.specs.Parts.{entry_word, entry_coef, six_weights}
use Rattle.script.specs.Loading.{entries_in, ends_from, words_of, coefs_of, starts_of, pairs_of, loaded_of, ScriptAs, ReadScript}
use Rattle.grammar.proofs.Accepted.{text-read}
use Rattle.script.proofs.FieldLaws.{entries-size}
use Rattle.script.proofs.LinesLaws.{pairs-long}
use Rattle.text.specs.Numbers.{decimal}
use Rattle.listing_lines.specs.Put.{Put}
use Rattle.listing_lines.specs.Listing.{refused_text}
use Rattle.listing.specs.Whole.{listing_by, listing_of, loaded_text}
use Rattle.listing.specs.Printed.{Sizes}
use Rattle.listing_lines.proofs.PutLaws.{put_same}

lines-terms : (n : ℕ) (ls : List Line) → GoodLines n ls → 4 * length (entries_in ls) ≤ length (lines_text ls)
unfolding entries_in lines_text
lines-terms n [] g = omega arith
lines-terms n (add_line ts ∷ ls) g =
    omega (arith, entries-size n ts g.0, lines-terms n ls g.1, length-append ts (entries_in ls), length-append (entries_text ts) (10 ∷ lines_text ls))
lines-terms n (lead_line ∷ ls) g = omega (arith, lines-terms n ls g.1)
lines-terms n (sum_line ∷ ls) g = omega (arith, lines-terms n ls g.1)

lines-many : (ls : List Line) → 4 * length ls ≤ length (lines_text ls)
unfolding lines_text
lines-many [] = omega arith
lines-many (add_line ts ∷ ls) = omega (arith, lines-many ls, length-append (entries_text ts) (10 ∷ lines_text ls))
lines-many (lead_line ∷ ls) = omega (arith, lines-many ls)
lines-many (sum_line ∷ ls) = omega (arith, lines-many ls)

ends-many : (at : ℕ) (ls : List Line) → length (ends_from at ls) ≤ length ls
unfolding ends_from
ends-many at [] = omega arith
ends-many at (add_line ts ∷ ls) = omega (arith, ends-many (at + length ts) ls)
ends-many at (lead_line ∷ ls) = omega (arith, ends-many at ls)
ends-many at (sum_line ∷ ls) = omega (arith, ends-many at ls)

rest-long : (weights : Option (List ℕ)) (ls : List Line) → length (lines_text ls) ≤ length (rest_text weights ls)
rest-long none ls = omega arith
rest-long (some vs) ls = omega (arith, length-append (spaced_text vs) (10 ∷ lines_text ls))

-- six bytes of the first line stand before the others
pub inside : (s : Script) → 6 + length (lines_text s.lines) ≤ length (script_text s)
unfolding script_text
inside s =
    let t = rest_text s.weights s.lines in
    let c = vars-word ++ decimal s.vars in
    let b = order-word ++ order_name s.order in
    omega (arith, length-append (decimal s.prime) (10 ∷ (b ++ (10 ∷ (c ++ (10 ∷ t))))), length-append b (10 ∷ (c ++ (10 ∷ t))), length-append c (10 ∷ t), rest-long s.weights s.lines)

pub sizes : (bytes : List ℕ) (s : Script) → script_of bytes ≡ some s → Sizes s
sizes bytes s e =
    let g = (text-read bytes s e).0 in
    let a = g.not-long in
    let t = lines_text s.lines in
    let l : 6 + length t ≤ length (script_text s) = inside s in
    record { terms = omega (arith, lines-terms s.vars s.lines g.lines-good); polynomials = omega (arith, ends-many 0 s.lines, lines-many s.lines); operations = omega (arith, lines-many s.lines) }

-- what was put is read back
pub taken_back : (size n : ℕ) (l l' vs : List ℕ) → length l ≡ size → l' ≡ sets l 0 vs → length vs ≡ n → n ≤ size → take n l' ≡ vs
taken_back size n l l' vs h e k m =
    let f : 0 + length vs ≤ length l = omega arith in
    ap (take n) (e ∙ sets-eq vs l 0 f) ∙ take_at vs (drop (0 + length vs) l) n k

-- ---- what was read
pub record Read (s : List ℕ) (l : Loaded) (words coefs starts ops : List ℕ) : Type 0 where
  pub script : Script
  pub is : script_of s ≡ some script
  pub loaded : l ≡ loaded_of script
  pub terms-in : l.counts.terms ≤ script_terms
  pub starts-in : l.counts.polynomials + 1 ≤ script_starts
  pub pairs-in : 2 * l.counts.operations ≤ script_numbers
  pub words_are : take l.counts.terms words ≡ words_of script
  pub coefs-are : take l.counts.terms coefs ≡ coefs_of script
  pub starts-are : take (l.counts.polynomials + 1) starts ≡ starts_of script
  pub pairs-are : take (2 * l.counts.operations) ops ≡ pairs_of script
  pub words_long : length words ≡ script_terms
  pub coefs-long : length coefs ≡ script_terms
  pub starts-long : length starts ≡ script_starts
  pub ops-long : length ops ≡ script_numbers

module _ {s words₀ coefs₀ starts₀ ops₀ words coefs starts ops : List ℕ} {r : Answered Loaded} (d : ReadScript s words₀ coefs₀ starts₀ ops₀ words coefs starts ops r) where
  pub bad-listing : r ≡ None → {out out' : List ℕ} {k : ℕ} → Put (refused_text 17 0) 0 out out' k → Put (listing_of s) 0 out out' k
  unfolding listing_of
  bad-listing e p = put_same (sym (ap listing_by (go (script_of s) d.is))) p
    where
      go : (x : Option Script) → ScriptAs x words₀ coefs₀ starts₀ ops₀ words coefs starts ops r → x ≡ none
      go none q = refl
      go (some t) q = absurd (let y : r ≡ Some (loaded_of t) = q.0 in let z : ◌≡◌ {A = ℕ} 0 1 = cc in let w : ⊥ = omega arith in w)

  pub good-read : length words₀ ≡ script_terms → length coefs₀ ≡ script_terms → length starts₀ ≡ script_starts → length ops₀ ≡ script_numbers → (l : Loaded) → r ≡ Some l → Read s l words coefs starts ops
  good-read lw lc lt lo l e = go (script_of s) refl d.is
    where
      go : (x : Option Script) → script_of s ≡ x → ScriptAs x words₀ coefs₀ starts₀ ops₀ words coefs starts ops r → Read s l words coefs starts ops
      go none y q = absurd (let u : r ≡ None = q in let z : ◌≡◌ {A = ℕ} 0 1 = cc in let w : ⊥ = omega arith in w)
      go (some t) y q =
          let u : r ≡ Some (loaded_of t) = q.0 in
          let k : loaded_of t ≡ l = cc in
          let z = sizes s t y in
          rw (← k) (record {
            script = t;
            is = y;
            loaded = refl;
            terms-in = z.terms;
            starts-in = omega (arith, z.polynomials);
            pairs-in = omega (arith, z.operations);
            words_are = taken_back script_terms (length (entries_in t.lines)) words₀ words (words_of t) lw q.1 (length-map (entries_in t.lines) (entry_word t.order (six_weights t.weights))) z.terms;
            coefs-are = taken_back script_terms (length (entries_in t.lines)) coefs₀ coefs (coefs_of t) lc q.2 (length-map (entries_in t.lines) entry_coef) z.terms;
            starts-are = taken_back script_starts (length (ends_from 0 t.lines) + 1) starts₀ starts (starts_of t) lt q.3 (omega arith) (omega (arith, z.polynomials));
            pairs-are = taken_back script_numbers (2 * length t.lines) ops₀ ops (pairs_of t) lo q.4 (pairs-long 0 t.lines) (omega (arith, z.operations));
            words_long = ap length q.1 ∙ (length-sets words₀ 0 (words_of t) ∙ lw);
            coefs-long = ap length q.2 ∙ (length-sets coefs₀ 0 (coefs_of t) ∙ lc);
            starts-long = ap length q.3 ∙ (length-sets starts₀ 0 (starts_of t) ∙ lt);
            ops-long = ap length q.4 ∙ (length-sets ops₀ 0 (pairs_of t) ∙ lo);
          })

pub prefix-long : (n size : ℕ) (l : List ℕ) → n ≤ size → length l ≡ size → n ≡ length (take n l)
prefix-long n size l h e = sym (length-take-le n l (omega arith))

pub prefix-most : (n size : ℕ) (l : List ℕ) → n ≤ size → length l ≡ size → length (take n l) ≤ size
prefix-most n size l h e = omega (arith, prefix-long n size l h e)

pub good-listing : {s : List ℕ} {l : Loaded} {words coefs starts ops : List ℕ} → Read s l words coefs starts ops → {out out' : List ℕ} {k : ℕ} → Put (loaded_text l (take l.counts.terms words) (take l.counts.terms coefs) (take (l.counts.polynomials + 1) starts) (take (2 * l.counts.operations) ops)) 0 out out' k → Put (listing_of s) 0 out out' k
unfolding listing_of
good-listing {s} {l} {words} {coefs} {starts} {ops} d p = put_same (text ∙ sym (ap listing_by d.is)) p
  where
    text : loaded_text l (take l.counts.terms words) (take l.counts.terms coefs) (take (l.counts.polynomials + 1) starts) (take (2 * l.counts.operations) ops) ≡ listing_by (some d.script)
    text =
        ap (λ (x : List ℕ). loaded_text l x (take l.counts.terms coefs) (take (l.counts.polynomials + 1) starts) (take (2 * l.counts.operations) ops)) d.words_are
        ∙ (ap (λ (x : List ℕ). loaded_text l (words_of d.script) x (take (l.counts.polynomials + 1) starts) (take (2 * l.counts.operations) ops)) d.coefs-are
        ∙ (ap (λ (x : List ℕ). loaded_text l (words_of d.script) (coefs_of d.script) x (take (2 * l.counts.operations) ops)) d.starts-are
        ∙ (ap (λ (x : List ℕ). loaded_text l (words_of d.script) (coefs_of d.script) (starts_of d.script) x) d.pairs-are
        ∙ ap (λ (x : Loaded). loaded_text x (words_of d.script) (coefs_of d.script) (starts_of d.script) (pairs_of d.script)) d.loaded)))

pub prefix-in : (n size : ℕ) (l : List ℕ) → n ≤ size → length l ≡ size → n ≤ length l
prefix-in n size l h e = omega arith
