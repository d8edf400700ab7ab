-- The comparisons of a search, and the spaces at return in an order by its number. Assumes nothing.
use mathlib.Core.Path.{◌≡◌, refl, ap, subst, ◌∙◌}
use mathlib.Core.List.{List}
use Prim.Native.Nat.{ℕ}
use lib.ListN.{length}
use Rattle.monomial.specs.declared.order.Order.{Order}
use Rattle.monomial.specs.Words.{compare_words}
use Rattle.geobucket.specs.Search.{Lead, none, lead, search}
use Rattle.space.specs.Space.{Spaces, words_in, AtReturn}
use Rattle.search.specs.declared.candidate.LeadSearch.{LeadSearch}
use Rattle.search.specs.Candidates.{search_of}
use Rattle.search.specs.Searching.{Found, Taken}

count_of : (a : Lead ℕ) (n : ℕ) (c : LeadSearch) → c ≡ search_of a n → c.count ≡ n
count_of a n c e = ap (λ (x : LeadSearch). x.count) e ∙ by a
  where
    by : (a : Lead ℕ) → (search_of a n).count ≡ n
    by none = refl
    by (lead at t) = refl

module _ {o : Order} {p : ℕ} {x x' : Spaces} {c : LeadSearch} where
  pub found-count : Found o p x x' c → c.count ≡ length (search (compare_words o) p (words_in o x)).pairs
  found-count f = count_of (search (compare_words o) p (words_in o x)).answer (length (search (compare_words o) p (words_in o x)).pairs) c f.search-is

  pub taken-count : Taken o p x x' c → c.count ≡ length (search (compare_words o) p (words_in o x)).pairs
  taken-count f = count_of (search (compare_words o) p (words_in o x)).answer (length (search (compare_words o) p (words_in o x)).pairs) c f.search-is

-- what is said in an order is said in its equal
pub returned-in : {o o' : Order} (x : Spaces) {sw sc ww wc : List ℕ} → o ≡ o' → AtReturn (words_in o x) sw sc ww wc → AtReturn (words_in o' x) sw sc ww wc
returned-in x {sw} {sc} {ww} {wc} e h = subst (λ (o : Order). AtReturn (words_in o x) sw sc ww wc) e h
