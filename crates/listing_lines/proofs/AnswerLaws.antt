-- The lines of leads and sums as the code puts them. Assumes nothing.
use Prim.Native.Nat.{ℕ, suc, ◌+◌, ◌-◌, ◌≤◌, ◌<◌, min}
use native.Mathlib.Decide.{dec_le}
use native.Mathlib.Omega.{arith}
use mathlib.Core.Path.{◌≡◌, refl, sym, ap, ◌∙◌, subst}
use mathlib.Core.Bool.{Bool, true, false}
use mathlib.Core.List.{List, [], ◌∷◌, ◌++◌, append-nil, append_assoc}
use borrow.Author.Tests.{eq-eqb, ne_eqb}
use lib.Dec.{eqb}
use lib.ListN.{length, take, drop, get_or, length-append, length-drop, drop_of_length-le}
use lib.Seq.{drop-cons, take_all}
use Rattle.monomial.specs.declared.order.Order.{Order}
use Rattle.conditions.specs.declared.operations.Operation.{Operation}
use Rattle.conditions.specs.declared.operations.Operation.TheVariants.{Lead, Sum}
use Rattle.conditions.specs.Operations.{code_of, operation_from, operation}
use Rattle.polynomial.specs.Terms.{Term, term, terms}
use Rattle.polynomial.proofs.TermLists.{length-terms, term-at, lead-at, terms-drop}
use Rattle.grammar.specs.Grammar.{lead-word, sum-word}
use Rattle.listing_lines.specs.declared.answers.Next.{Next}
use Rattle.listing_lines.specs.Put.{Put}
use Rattle.listing_lines.specs.Listing.{term_text, place_text, first_place, lead_text, sum_terms, terms_text, zero_word, zero_if, sum_text, answer_by, behind_by, answers_text, TermsPut, SumPut, AnswerPut}
use Rattle.listing_lines.proofs.PutLaws.{put_both, put_same, put-nothing}

first-get : (ts : List (Term ℕ)) → first_place ts ≡ get_or ts 0 (term 0 0)
first-get [] = refl
first-get (t ∷ ts) = refl

same-term : {a b c d : ℕ} → a ≡ b → c ≡ d → ◌≡◌ {A = Term ℕ} (term a c) (term b d)
same-term p q = cc

pub lead-put : (o : Order) (n : ℕ) (ow oc : List ℕ) → length oc ≡ length ow → {w c : ℕ} → w ≡ get_or ow 0 0 → c ≡ get_or oc 0 0 → {at : ℕ} {out out' out'' out''' : List ℕ} {a b e : ℕ} → Put lead-word at out out' a → Put (place_text o n (term w c)) a out' out'' b → Put (10 ∷ []) b out'' out''' e → Put (lead_text o n (terms ow oc)) at out out''' e
unfolding lead_text
lead-put o n ow oc h x y p q r = put_both p (put_both (put_same (ap (place_text o n) (same-term x y ∙ (sym (term-at ow oc 0 h) ∙ sym (first-get (terms ow oc))))) q) r)

-- ---- the terms of a sum
module _ (ow oc : List ℕ) (h : length oc ≡ length ow) (i : ℕ) where
  terms-end : length ow ≤ i → sum_terms (drop i (terms ow oc)) ≡ []
  unfolding sum_terms
  terms-end l = let z : length (terms ow oc) ≤ i = omega (arith, length-terms ow oc h) in ap sum_terms (drop_of_length-le (terms ow oc) z)

  module _ (l : i < length ow) where
    terms-zero : get_or oc i 0 ≡ 0 → sum_terms (drop i (terms ow oc)) ≡ []
    unfolding sum_terms
    terms-zero e = ap sum_terms (lead-at ow oc i h l) ∙ rw (eq-eqb (get_or oc i 0) 0 e, sum_terms)

    terms-next : (get_or oc i 0 ≡ 0 → ⊥) → sum_terms (drop i (terms ow oc)) ≡ term (get_or ow i 0) (get_or oc i 0) ∷ sum_terms (drop (i + 1) (terms ow oc))
    unfolding sum_terms
    terms-next e = ap sum_terms (lead-at ow oc i h l) ∙ rw (ne_eqb (get_or oc i 0) 0 e, sum_terms)

text-more : (o : Order) (n : ℕ) (ts : List (Term ℕ)) (t : Term ℕ) → terms_text o n (ts ++ (t ∷ [])) ≡ terms_text o n ts ++ term_text o n t
unfolding terms_text
text-more o n [] t = append-nil (term_text o n t)
text-more o n (u ∷ ts) t = ap (λ (l : List ℕ). term_text o n u ++ l) (text-more o n ts t) ∙ sym (append_assoc (term_text o n u) (terms_text o n ts) (term_text o n t))

pub record Putting (o : Order) (n : ℕ) (ow oc : List ℕ) (at : ℕ) (out₀ out : List ℕ) (read to : ℕ) : Type 0 where
  pub done : List (Term ℕ)
  pub text : Put (terms_text o n done) at out₀ out to
  pub whole : done ++ sum_terms (drop read (terms ow oc)) ≡ sum_terms (terms ow oc)
  pub read_is : read ≡ length done

pub putting-start : (o : Order) (n : ℕ) (ow oc : List ℕ) (at : ℕ) (out : List ℕ) (to : ℕ) → to ≡ min at (length out) → Putting o n ow oc at out out 0 to
unfolding terms_text
putting-start o n ow oc at out to e = record { done = []; text = put-nothing out at to e; whole = refl; read_is = refl }

module _ {o : Order} {n : ℕ} {ow oc : List ℕ} {at : ℕ} {out₀ out : List ℕ} {read to : ℕ} (d : Putting o n ow oc at out₀ out read to) (h : length oc ≡ length ow) where
  ends : read ≤ length ow → sum_terms (drop read (terms ow oc)) ≡ [] → TermsPut o n ow oc at out₀ out (record { read = read; at = to })
  ends l e =
      let w : d.done ≡ sum_terms (terms ow oc) = sym (append-nil d.done) ∙ (ap (λ (x : List (Term ℕ)). d.done ++ x) (sym e) ∙ d.whole) in
      record { put = put_same (ap (terms_text o n) w) d.text; read = d.read_is ∙ ap (λ (x : List (Term ℕ)). length x) w; within = l }

  pub putting-end : read ≤ length ow → length ow ≤ read → TermsPut o n ow oc at out₀ out (record { read = length ow; at = to })
  putting-end l m = let z : read ≡ length ow = omega arith in rw (← z) (ends l (terms-end ow oc h read m))

  pub putting-zero : read < length ow → get_or oc read 0 ≡ 0 → TermsPut o n ow oc at out₀ out (record { read = read; at = to })
  putting-zero l e = ends (omega arith) (terms-zero ow oc h read l e)

  pub putting-more : read < length ow → (get_or oc read 0 ≡ 0 → ⊥) → {out' : List ℕ} {to' : ℕ} → Put (term_text o n (term (get_or ow read 0) (get_or oc read 0))) to out out' to' → Putting o n ow oc at out₀ out' (read + 1) to'
  putting-more l e p = record {
    done = d.done ++ (term (get_or ow read 0) (get_or oc read 0) ∷ []);
    text = put_same (sym (text-more o n d.done (term (get_or ow read 0) (get_or oc read 0)))) (put_both d.text p);
    whole = append_assoc d.done (term (get_or ow read 0) (get_or oc read 0) ∷ []) (sum_terms (drop (read + 1) (terms ow oc))) ∙ (ap (λ (x : List (Term ℕ)). d.done ++ x) (sym (terms-next ow oc h read l e)) ∙ d.whole);
    read_is = simp length-append (omega (arith, d.read_is));
  }

-- no more places are read than there are
drop-least : (ow oc : List ℕ) → length oc ≡ length ow → (j k : ℕ) → k ≡ min (length ow) j → drop k (terms ow oc) ≡ drop j (terms ow oc)
drop-least ow oc h j k e = by (dec_le j (length ow))
  where
    by : Dec (j ≤ length ow) → drop k (terms ow oc) ≡ drop j (terms ow oc)
    by (yes l) = ap (λ (i : ℕ). drop i (terms ow oc)) (let z : k ≡ j = omega arith in z)
    by (no l) =
        let z : length (terms ow oc) ≤ k = omega (arith, length-terms ow oc h) in
        let y : length (terms ow oc) ≤ j = omega (arith, length-terms ow oc h) in
        drop_of_length-le (terms ow oc) z ∙ sym (drop_of_length-le (terms ow oc) y)

-- ---- one operation
module _ {o : Order} {n : ℕ} {ow oc : List ℕ} {at : ℕ} {out : List ℕ} where
  pub sum-put : {out1 out2 out3 out4 : List ℕ} {a : ℕ} {t : Next} {b e : ℕ} → Put sum-word at out out1 a → TermsPut o n ow oc a out1 out2 t → Put (zero_if (eqb (length (sum_terms (terms ow oc))) 0)) t.at out2 out3 b → Put (10 ∷ []) b out3 out4 e → Put (sum_text o n (terms ow oc)) at out out4 e
  unfolding sum_text
  sum-put p t q r = put_both p (put_both t.put (put_both q r))

  pub lead-answer : {q : Operation} → q ≡ Lead → length oc ≡ length ow → {out' : List ℕ} {e : ℕ} → Put (lead_text o n (terms ow oc)) at out out' e → (k : ℕ) → k ≡ min (length ow) 1 → AnswerPut o n (code_of q) ow oc at out out' (record { read = k; at = e })
  lead-answer is h p k l = rw is (record { put = p; behind = drop-least ow oc h 1 k l; within = omega arith })

  pub sum-answer : {q : Operation} → q ≡ Sum → length oc ≡ length ow → {out' : List ℕ} {r : Next} → SumPut o n ow oc at out out' r → (k : ℕ) → k ≡ min (length ow) (r.read + 1) → AnswerPut o n (code_of q) ow oc at out out' (record { read = k; at = r.at })
  sum-answer is h {out'} {r} d k l = rw is (record { put = d.put; behind = drop-least ow oc h (r.read + 1) k l ∙ ap (λ (j : ℕ). drop (j + 1) (terms ow oc)) d.read; within = omega arith })

  -- one that was read has the line of its pair
  pub read-answer : (code k : ℕ) {out' : List ℕ} {r : Next} → AnswerPut o n (code_of (operation code k)) ow oc at out out' r → AnswerPut o n code ow oc at out out' r
  read-answer code k d = record { put = put_same (line (eqb code 1) (eqb code 2)) d.put; behind = d.behind ∙ behind (eqb code 1) (eqb code 2); within = d.within }
    where
      line : (a b : Bool) → answer_by (eqb (code_of (operation_from a b k)) 1) (eqb (code_of (operation_from a b k)) 2) o n (terms ow oc) ≡ answer_by a b o n (terms ow oc)
      line true b = refl
      line false true = refl
      line false false = refl

      behind : (a b : Bool) → behind_by (eqb (code_of (operation_from a b k)) 1) (eqb (code_of (operation_from a b k)) 2) (terms ow oc) ≡ behind_by a b (terms ow oc)
      behind true b = refl
      behind false true = refl
      behind false false = refl

-- whether there were no terms
pub no_terms : (k r : ℕ) → r ≡ k → r ≡ 0 → zero_word ≡ zero_if (eqb k 0)
no_terms k r e z = sym (ap zero_if (eq-eqb k 0 (omega arith)))

pub some_terms : (k r : ℕ) → r ≡ k → (r ≡ 0 → ⊥) → [] ≡ zero_if (eqb k 0)
some_terms k r e z = sym (ap zero_if (ne_eqb k 0 (λ x. z (e ∙ x))))

-- ---- all operations
no_answer : (o : Order) (n : ℕ) (os : List ℕ) (ts : List (Term ℕ)) → length os ≤ 1 → answers_text o n os ts ≡ []
unfolding answers_text
no_answer o n [] ts h = refl
no_answer o n (c ∷ []) ts h = refl
no_answer o n (c ∷ (e ∷ os)) ts h = absurd (let z : ⊥ = omega arith in z)

-- what is left, as the code cuts it
left : (k : ℕ) (xs : List ℕ) → take (length xs - k) (drop k xs) ≡ drop k xs
left k xs = take_all (length xs - k) (drop k xs) (omega (arith, length-drop k xs))

pub record Answering (o : Order) (n : ℕ) (ops ow oc : List ℕ) (out₀ out words coefs : List ℕ) (at k : ℕ) : Type 0 where
  pub done : List ℕ
  pub text : Put done 0 out₀ out at
  pub whole : done ++ answers_text o n (drop k ops) (terms words coefs) ≡ answers_text o n ops (terms ow oc)
  pub same_long : length coefs ≡ length words
  pub most : length words ≤ length ow
  pub read : k ≤ length ops

module _ {o : Order} {n : ℕ} {ops ow oc : List ℕ} {out₀ out words coefs : List ℕ} {at k : ℕ} (d : Answering o n ops ow oc out₀ out words coefs at k) where
  answering-more : k + 1 < length ops → {out' : List ℕ} {r : Next} → AnswerPut o n (get_or ops k 0) words coefs at out out' r → Answering o n ops ow oc out₀ out' (drop r.read words) (drop r.read coefs) r.at (k + 2)
  unfolding answers_text
  answering-more l {out'} {r} a =
      let two : drop k ops ≡ get_or ops k 0 ∷ (get_or ops (suc k) 0 ∷ drop (k + 2) ops) = drop-cons ops k 0 (omega arith) ∙ ap (λ (x : List ℕ). get_or ops k 0 ∷ x) (drop-cons ops (suc k) 0 (omega arith) ∙ ap (λ (j : ℕ). get_or ops (suc k) 0 ∷ drop j ops) (let z : suc (suc k) ≡ k + 2 = omega arith in z)) in
      let t = answer_by (eqb (get_or ops k 0) 1) (eqb (get_or ops k 0) 2) o n (terms words coefs) in
      record {
        done = d.done ++ t;
        text = put_both d.text a.put;
        whole = append_assoc d.done t (answers_text o n (drop (k + 2) ops) (terms (drop r.read words) (drop r.read coefs))) ∙ (ap (λ (x : List (Term ℕ)). d.done ++ (t ++ answers_text o n (drop (k + 2) ops) x)) (terms-drop r.read words coefs ∙ a.behind) ∙ (ap (λ (x : List ℕ). d.done ++ answers_text o n x (terms words coefs)) (sym two) ∙ d.whole));
        same_long = omega (arith, d.same_long, length-drop r.read words, length-drop r.read coefs);
        most = omega (arith, d.most, length-drop r.read words);
        read = omega arith;
      }

  pub answering-next : (j : ℕ) → j ≡ k + 2 → k + 1 < length ops → {q : Operation} → q ≡ operation (get_or ops k 0) (get_or ops (k + 1) 0) → {out' : List ℕ} {r : Next} → AnswerPut o n (code_of q) words coefs at out out' r → Answering o n ops ow oc out₀ out' (take (length words - r.read) (drop r.read words)) (take (length coefs - r.read) (drop r.read coefs)) r.at j
  answering-next j e l is {out'} {r} a = rw (e, left r.read words, left r.read coefs) (answering-more l (read-answer (get_or ops k 0) (get_or ops (k + 1) 0) (subst (λ (y : Operation). AnswerPut o n (code_of y) words coefs at out out' r) is a)))

  pub answering-end : length ops ≤ k + 1 → Put (answers_text o n ops (terms ow oc)) 0 out₀ out at
  answering-end l = put_same (sym (append-nil d.done) ∙ (ap (λ (x : List ℕ). d.done ++ x) (sym (no_answer o n (drop k ops) (terms words coefs) (omega (arith, length-drop k ops)))) ∙ d.whole)) d.text
