-- What a step that divides its lead asks and leaves. Assumes nothing.
use Rattle.std.specs.Prelude.{ℕ, ◌+◌, ◌-◌, ◌<◌, ◌≤◌, ◌≡◌, true, false, List, length}
use Rattle.limits.specs.Limits.{most_terms}
use Rattle.residue.specs.declared.factor.Factor.{Factor}
use Rattle.residue.specs.Share.{Prepared}
use Rattle.monomial.specs.declared.order.Order.{Order}
use Rattle.monomial.specs.Words.{compare_words, divides_word, Packed}
use Rattle.polynomial.specs.Terms.{Term, term, terms, Canonical}
use Rattle.polynomial.specs.Multiple.{multiple}
use Rattle.merge_common.specs.Lent.{Poly}
use Rattle.multiple.specs.Multiplying.{AllPacked, any_over}
use Rattle.geobucket.specs.Buckets.{held}
use Rattle.space.specs.Space.{Spaces, words_in, Standing}
use Rattle.refusal.specs.declared.Refusal.TheVariants.{TooManyTerms, ExponentOver}
use Rattle.call.specs.declared.state.State.{State}
use Rattle.call.specs.States.{counted, brought, finished_one, halted}
use Rattle.search.specs.declared.candidate.Lead.{Lead}
use Rattle.search.specs.Searching.{Removal, without}
use Rattle.buckets.specs.Adding.{Added}
use Rattle.division.specs.Division.{tail_multiple}
use Rattle.divisors.specs.declared.kept.Cache.{Cache}
use Rattle.divisors.specs.Divisors.{lead_word, lead_coef, tail_of, KeptNumbers}
use Rattle.reducer.specs.Divisors.{OfLayout, Checked}

-- ---- the multiple of a tail is added

-- a factor, a monomial and a tail fit to be multiplied
pub record Times (f : Factor) (q : ℕ) (tw tc : List ℕ) : Type 0 where
  pub prepared : Prepared f
  pub poly : Poly f.prime tw tc
  pub monomial : Packed q
  pub packed : AllPacked tw

abbrev pub times_tail : Factor → (q : ℕ) → (tw tc : List ℕ) → List (Term ℕ)
times_tail f q tw tc = multiple (λ x y. x + y) f.prime f.value q (terms tw tc)

pub record TailAddition (o : Order) (p : ℕ) (f : Factor) (q : ℕ) (tw tc : List ℕ) (s : State) (x : Spaces) : Type 0 where
  pub stands : Standing p x
  pub times : Times f q tw tc
  pub canonical : Canonical (compare_words o) p (times_tail f q tw tc)
  pub room : length tw + held (words_in o x) ≤ most_terms
  pub few-comparisons : s.comparisons < 2000000000000000000
  pub few-brought : s.brought < 2000000000000000000

pub record TailAdded (o : Order) (p : ℕ) (f : Factor) (q : ℕ) (tw tc : List ℕ) (s : State) (x : Spaces) (s' : State) (x' : Spaces) : Type 0 where
  pub comparisons : ℕ
  pub done : Added o p x (times_tail f q tw tc) x' comparisons
  pub is : s' ≡ brought (counted s comparisons) (length tw)

-- ---- the lead is divided by divisor k

pub record Dividing (o : Order) (p : ℕ) (words coefs starts : List ℕ) (k : ℕ) (s : State) (lead : Lead) (kept : Cache) (x : Spaces) : Type 0 where
  pub checked : Checked o p words coefs starts
  pub low : 1 ≤ k
  pub high : k + 1 < length starts
  pub fits : divides_word (lead_word words starts k) lead.word ≡ true
  pub stands : Standing p x
  pub room : held (words_in o x) ≤ most_terms
  pub removal : Removal x.places lead.bucket
  -- the buckets without the lead
  pub rest : Standing p (without lead.bucket x)
  pub one_less : held (words_in o x) ≡ held (words_in o (without lead.bucket x)) + 1
  pub of-layout : OfLayout o checked.weights lead.word
  pub coef-pos : 0 < lead.coef
  pub coef-small : lead.coef < p
  pub numbers : KeptNumbers p words coefs starts kept
  pub few-leads : s.finished < 10000000000000
  pub few-comparisons : s.comparisons < 2000000000000000000
  pub few-brought : s.brought < 2000000000000000000

module _ (o : Order) (p : ℕ) (words coefs starts : List ℕ) (k : ℕ) (s : State) (lead : Lead) (x : Spaces) where
  -- the multiple of the tail, by the lead c·α that was found
  abbrev pub to_add : List (Term ℕ)
  to_add = tail_multiple ◌-◌ ◌+◌ p (term lead.word lead.coef) (term (lead_word words starts k) (lead_coef coefs starts k)) (terms (tail_of starts k words) (tail_of starts k coefs))

  -- "12, then 11, if a divisor fits"; else the lead is removed, and the multiple of the tail added
  pub data DividedTo (s' : State) (x' : Spaces) : Type 0 where
    over : any_over (lead.word - lead_word words starts k) (tail_of starts k words) ≡ true → s' ≡ halted s ExponentOver → x' ≡ x → DividedTo s' x'
    many : any_over (lead.word - lead_word words starts k) (tail_of starts k words) ≡ false → most_terms < held (words_in o (without lead.bucket x)) + length (tail_of starts k words) → s' ≡ halted s TooManyTerms → x' ≡ x → DividedTo s' x'
    divided : any_over (lead.word - lead_word words starts k) (tail_of starts k words) ≡ false → held (words_in o (without lead.bucket x)) + length (tail_of starts k words) ≤ most_terms
        → (comparisons : ℕ) → Added o p (without lead.bucket x) to_add x' comparisons → s' ≡ brought (counted (finished_one s) comparisons) (length (tail_of starts k words))
        → DividedTo s' x'

pub record Divided (o : Order) (p : ℕ) (words coefs starts : List ℕ) (k : ℕ) (s : State) (lead : Lead) (x : Spaces) (s' : State) (kept' : Cache) (x' : Spaces) : Type 0 where
  pub numbers : KeptNumbers p words coefs starts kept'
  pub done : DividedTo o p words coefs starts k s lead x s' x'
