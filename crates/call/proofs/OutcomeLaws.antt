-- What a call leaves, at each of its returns. Assumes nothing.
use mathlib.Core.Path.{◌≡◌, refl, sym, ap, ap₂, ◌∙◌}
use mathlib.Core.List.{List, [], ◌∷◌, ◌++◌, map}
use Prim.Native.Nat.{ℕ, zero, suc, ◌*◌, ◌≤◌, Ordering}
use native.Mathlib.Omega.{arith}
use lib.ListN.{length, take, drop, take-append-drop, length-map}
use lib.Seq.{length-take-le}
use Rattle.polynomial.specs.Terms.{Term}
use Rattle.polynomial.specs.Terms as T
use Rattle.polynomial.proofs.TermLists.{words-terms, coefs-terms}
use Rattle.merge_common.specs.Lent.{part}
use Rattle.geobucket.specs.Buckets.{Good, Fit}
use Rattle.geobucket.proofs.EventLaws.{good-fit}
use Rattle.space.specs.Space.{laid_out, LiesIn, AtReturn}
use Rattle.space.proofs.LaidLaws.{laid_out_lem}
use Rattle.call.specs.declared.answer.Tally.{Tally}
use Rattle.call.specs.Answers.{Stated, opening_refused, Outcome, returned, decided_by}
use Rattle.call.specs.Lending.{Output}
use Rattle.call.proofs.OutputLaws.{written-long}

-- an opening refusal
pub decided-refused : (r : ℕ) (tally : Tally) (past : Outcome) (bw bc ww wc ow oc : List ℕ) → (r ≡ 0 → ⊥) → {x : Stated} {t : Tally} → (x ≡ opening_refused r) × (t ≡ tally)
    → ◌≡◌ {A = Outcome} (record { answer = x; tally = t; bw = bw; bc = bc; ww = ww; wc = wc; ow = ow; oc = oc }) (decided_by r tally past bw bc ww wc ow oc)
decided-refused zero tally past bw bc ww wc ow oc ne e = absurd (ne refl)
decided-refused (suc r) tally past bw bc ww wc ow oc ne e = ap₂ (λ (x : Stated) (t : Tally). record { answer = x; tally = t; bw = bw; bc = bc; ww = ww; wc = wc; ow = ow; oc = oc }) e.0 e.1

-- no opening refusal
pub decided-none : (r : ℕ) (tally : Tally) (past : Outcome) (bw bc ww wc ow oc : List ℕ) → r ≡ 0 → decided_by r tally past bw bc ww wc ow oc ≡ past
decided-none r tally past bw bc ww wc ow oc e = ap (λ (x : ℕ). decided_by x tally past bw bc ww wc ow oc) e

-- the output is what was written, and past it what it was
module _ {at : ℕ} {ow oc : List ℕ} (o : Output at ow oc) where
  lw : length (take at ow) ≡ at
  lw = length-take-le at ow o.fits

  lc : length (take at oc) ≡ at
  lc = length-take-le at oc (omega (arith, o.fits, o.same-long))

  pub words-whole : (ow₀ : List ℕ) → drop at ow ≡ drop at ow₀ → ow ≡ T.words (T.terms (part 0 at ow) (part 0 at oc)) ++ drop (length (T.terms (part 0 at ow) (part 0 at oc))) ow₀
  words-whole ow₀ e = sym (take-append-drop at ow) ∙ ap₂ (λ (x y : List ℕ). x ++ y) (sym (words-terms (take at ow) (take at oc) (lc ∙ sym lw))) (e ∙ ap (λ (n : ℕ). drop n ow₀) (sym (written-long o)))

  pub coefs-whole : (oc₀ : List ℕ) → drop at oc ≡ drop at oc₀ → oc ≡ T.coefs (T.terms (part 0 at ow) (part 0 at oc)) ++ drop (length (T.terms (part 0 at ow) (part 0 at oc))) oc₀
  coefs-whole oc₀ e = sym (take-append-drop at oc) ∙ ap₂ (λ (x y : List ℕ). x ++ y) (sym (coefs-terms (take at ow) (take at oc) (lc ∙ sym lw))) (e ∙ ap (λ (n : ℕ). drop n oc₀) (sym (written-long o)))

  -- a call that ended or was stopped, with what it holds and what it wrote
  pub returned-as : (ow₀ oc₀ : List ℕ) → drop at ow ≡ drop at ow₀ → drop at oc ≡ drop at oc₀ → {bs bs' : List (List (Term ℕ))} {bw bc ww wc : List ℕ} → AtReturn bs bw bc ww wc → bs ≡ bs' → {out : List (Term ℕ)} → T.terms (part 0 at ow) (part 0 at oc) ≡ out
      → {x y : Stated} {t u : Tally} → x ≡ y → t ≡ u → ◌≡◌ {A = Outcome} (record { answer = x; tally = t; bw = bw; bc = bc; ww = ww; wc = wc; ow = ow; oc = oc }) (returned y u bs' out ow₀ oc₀)
  returned-as ow₀ oc₀ pw pc {bs} {bs'} {bw} {bc} {ww} {wc} a eb {out} eo ex et =
      let ebw = a.words_are in
      let ebc = a.coefs-are in
      let eww = a.work-words in
      let ewc = a.work-coefs in
      let eow = words-whole ow₀ pw in
      let eoc = coefs-whole oc₀ pc in
      cc

-- ---- the bucket space that a call leaves
fit-map : (g : List (Term ℕ) → List ℕ) → ((b : List (Term ℕ)) → length (g b) ≡ length b) → (cap : ℕ) (bs : List (List (Term ℕ))) → Fit cap bs → Fit cap (map g bs)
unfolding Fit
fit-map g e cap [] f = tt
fit-map g e cap (b ∷ bs) f = (let h : length (g b) ≤ cap = omega (arith, e b, f.0) in h, fit-map g e (4 * cap) bs f.1)

-- each bucket held lies in it from document 01's start of that bucket on, and 0 past it
pub returned-lies : (cmp : ℕ → ℕ → Ordering) (p : ℕ) (answer : Stated) (tally : Tally) (held : List (List (Term ℕ))) (written : List (Term ℕ)) (ow oc : List ℕ) → length held ≡ 6 → Good cmp p 4 held
    → let o = returned answer tally held written ow oc in LiesIn (map T.words held) o.bw × LiesIn (map T.coefs held) o.bc
returned-lies cmp p answer tally held written ow oc count g = (lies T.words (λ b. length-map b _), lies T.coefs (λ b. length-map b _))
  where
    lies : (f : List (Term ℕ) → List ℕ) → ((b : List (Term ℕ)) → length (f b) ≡ length b) → LiesIn (map f held) (laid_out 4 (map f held))
    lies f e = laid_out_lem (map f held) (length-map held f ∙ count) (fit-map f e 4 held (good-fit cmp p 4 held g))
