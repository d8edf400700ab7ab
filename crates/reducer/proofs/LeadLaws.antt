-- A lead that was found and left, in words. Assumes nothing.
use mathlib.Core.Path.{◌≡◌, refl, sym, ap, ◌∙◌}
use mathlib.Core.List.{List}
use Prim.Native.Nat.{ℕ, ◌<◌}
use native.Mathlib.Omega.{arith}
use lib.ListN.{length}
use Rattle.std.specs.Prelude.{Some, None}
use Rattle.std.proofs.lemmas.Option.{none-some, same_Some}
use Rattle.monomial.specs.declared.order.Order.{Order}
use Rattle.monomial.specs.Words.{compare_words}
use Rattle.monomial.proofs.OrderLaws.{words-order}
use Rattle.polynomial.specs.Terms.{Term, term}
use Rattle.geobucket.specs.Buckets.{Canon}
use Rattle.geobucket.specs.Search.{Lead, none, lead, search}
use Rattle.geobucket.proofs.SearchLaws.{Finds, finds}
use Rattle.geobucket.proofs.EventLaws.{good-canon}
use Rattle.space.specs.Space.{Spaces, words_in, Standing}
use Rattle.space.proofs.InWords.{good-words}
use Rattle.search.specs.declared.candidate.Lead.{Lead as FoundLead}
use Rattle.search.specs.declared.candidate.LeadSearch.{LeadSearch}
use Rattle.search.specs.Candidates.{search_of}
use Rattle.search.specs.Searching.{Found}

pub words-canon : (o : Order) {p : ℕ} {x : Spaces} → Standing p x → Canon (compare_words o) p (words_in o x)
words-canon o {p} {x} st = good-canon (compare_words o) p 4 (words_in o x) (good-words o st)

module _ {o : Order} {p : ℕ} {x : Spaces} (st : Standing p x) {x' : Spaces} {c : LeadSearch} (d : Found o p x x' c) where
  abbrev bs : List (List (Term ℕ))
  bs = words_in o x

  pos : 0 < p
  pos = omega (arith, st.modulus.two)

  pub finds-lead : Finds (compare_words o) p (words_in o x) (search (compare_words o) p (words_in o x))
  finds-lead = finds (compare_words o) p (words-order o) pos bs (words-canon o st)

  lead-of : (a : Lead ℕ) → (search (compare_words o) p (words_in o x)).answer ≡ a → c.lead ≡ (search_of a (length (search (compare_words o) p (words_in o x)).pairs)).lead
  lead-of a e = ap (λ (k : LeadSearch). k.lead) (d.search-is ∙ ap (λ (y : Lead ℕ). search_of y (length (search (compare_words o) p bs).pairs)) e)

  -- zero was found
  pub no_answer : c.lead ≡ None → (search (compare_words o) p (words_in o x)).answer ≡ none
  no_answer h = by (search (compare_words o) p bs).answer refl
    where
      by : (a : Lead ℕ) → (search (compare_words o) p bs).answer ≡ a → (search (compare_words o) p bs).answer ≡ none
      by none e = e
      by (lead at t) e = absurd (none-some _ (sym h ∙ lead-of (lead at t) e))

  pub the-lead : {k : FoundLead} → c.lead ≡ Some k → (search (compare_words o) p (words_in o x)).answer ≡ lead k.bucket (term k.word k.coef)
  the-lead {k} h = by (search (compare_words o) p bs).answer refl
    where
      by : (a : Lead ℕ) → (search (compare_words o) p bs).answer ≡ a → (search (compare_words o) p bs).answer ≡ lead k.bucket (term k.word k.coef)
      by none q = absurd (none-some k (sym (lead-of none q) ∙ h))
      by (lead at t) q = q ∙ ap (λ (y : FoundLead). lead y.bucket (term y.word y.coef)) (same_Some _ _ (sym (lead-of (lead at t) q) ∙ h))
