-- What the steps of a reduction ask and leave: a state is on the way to a reduction, or has come to it. Assumes nothing.
use Rattle.std.specs.Prelude.{ℕ, ◌+◌, ◌-◌, ◌*◌, ◌<◌, ◌≤◌, ◌≡◌, true, false, List, length, drop, set}
use Rattle.limits.specs.Limits.{most_steps, most_terms}
use Rattle.residue.specs.Modular.{Modulus}
use Rattle.monomial.specs.declared.order.Order.{Order}
use Rattle.monomial.specs.Words.{compare_words, divides_word}
use Rattle.polynomial.specs.Terms.{Term, All, terms}
use Rattle.merge_common.specs.Lent.{part}
use Rattle.geobucket.specs.Buckets.{held}
use Rattle.geobucket.specs.Events as events
use Rattle.space.specs.Space.{Buckets, dropped, no_buckets, Spaces, words_in, Standing}
use Rattle.refusal.specs.declared.Refusal.TheVariants.{NoOutput, TooManyTerms}
use Rattle.call.specs.declared.state.State.{State}
use Rattle.call.specs.States.{begun, counted, brought, gave, finished_one, halted, goes_on, stop_of}
use Rattle.call.specs.Counts.{Counts}
use Rattle.call.specs.Lending.{polynomial, divisors_of, Output}
use Rattle.search.specs.declared.candidate.Lead.{Lead}
use Rattle.search.specs.Searching.{Removal}
use Rattle.buckets.specs.Adding.{Added}
use Rattle.division.specs.Choice.{chosen}
use Rattle.division.specs.Divisors.{AllOf}
use Rattle.division.specs.Steps.{Reduction, steps_from, over_word, reduction_of_words}
use Rattle.divisors.specs.declared.kept.Cache.{Cache}
use Rattle.divisors.specs.Divisors.{KeptLeads, KeptNumbers}
use Rattle.reducer.specs.Divisors.{OfLayout, Checked}

-- ---- the lead goes to the remainder

pub record Keeping (s : State) (lead : Lead) (b : Buckets) (ow oc : List ℕ) : Type 0 where
  pub removal : Removal b lead.bucket
  pub few-leads : s.finished < 10000000000000
  pub given-are : s.given ≡ s.places
  pub few-places : s.places ≤ s.finished
  pub output : Output s.places ow oc

-- "else 10": where the output has no place for it, nothing is done
pub data Kept (s : State) (lead : Lead) (b : Buckets) (ow oc : List ℕ) (s' : State) (b' : Buckets) (ow' oc' : List ℕ) : Type 0 where
  full : length ow ≤ s.places → s' ≡ halted s NoOutput → b' ≡ b → ow' ≡ ow → oc' ≡ oc → Kept s lead b ow oc s' b' ow' oc'
  put : s.places < length ow → s' ≡ gave (finished_one s) 1 1 → b' ≡ dropped b lead.bucket → ow' ≡ set ow s.places lead.word → oc' ≡ set oc s.places lead.coef → Kept s lead b ow oc s' b' ow' oc'

-- ---- one step

-- the remainder so far
abbrev pub remainder_in : State → (ow oc : List ℕ) → List (Term ℕ)
remainder_in s ow oc = terms (part 0 s.places ow) (part 0 s.places oc)

-- the reduction has come to R
pub record Ended (o : Order) (s : State) (x : Spaces) (ow oc : List ℕ) (R : Reduction ℕ) : Type 0 where
  pub stop_is : stop_of s.course ≡ R.stop
  pub leads-are : s.finished ≡ R.leads
  pub remainder_is : remainder_in s ow oc ≡ R.remainder
  pub counts : Counts o s x R.work

module _ (o : Order) (p : ℕ) (gs : List (List (Term ℕ))) (places limit : ℕ) where
  -- the published steps from here on come to R
  pub record Going (s : State) (x : Spaces) (ow oc : List ℕ) (R : Reduction ℕ) : Type 0 where
    pub work : events.Work ℕ
    pub counts : Counts o s x work
    pub comes-to : steps_from (compare_words o) (chosen divides_word gs) ◌-◌ ◌+◌ over_word p places (limit - s.finished) s.finished (remainder_in s ow oc) work ≡ R

  pub record Reaches (s : State) (x : Spaces) (ow oc : List ℕ) (R : Reduction ℕ) : Type 0 where
    pub going : goes_on s.course ≡ true → Going s x ow oc R
    pub ended : goes_on s.course ≡ false → Ended o s x ow oc R

-- a state between steps: its buckets, whose words have the divisors' weights, and its counts, which are far from 64 bits
pub record Sound (o : Order) (p : ℕ) (words coefs starts : List ℕ) (limit : ℕ) (s : State) (x : Spaces) (ow oc : List ℕ) : Type 0 where
  pub checked : Checked o p words coefs starts
  pub stands : Standing p x
  pub room : held (words_in o x) ≤ most_terms
  pub of-layout : AllOf (λ b. All (λ t. OfLayout o checked.weights t.mono) b) (words_in o x)
  pub output : Output s.places ow oc
  pub few-leads : s.finished ≤ limit
  -- each lead has at most one place of the remainder
  pub few-places : s.places ≤ s.finished
  pub given-are : s.given ≡ s.places
  pub few-comparisons : goes_on s.course ≡ true → s.comparisons ≤ 100000 * (s.finished + 1)
  pub few-brought : goes_on s.course ≡ true → s.brought ≤ most_terms * (s.finished + 1)

pub record Stepping (o : Order) (p : ℕ) (words coefs starts leads : List ℕ) (limit : ℕ) (s : State) (kept : Cache) (x : Spaces) (ow oc : List ℕ) : Type 0 where
  pub few-steps : limit ≤ most_steps
  pub more : goes_on s.course ≡ true
  pub sound : Sound o p words coefs starts limit s x ow oc
  pub leads-kept : KeptLeads words starts leads
  pub numbers : KeptNumbers p words coefs starts kept

-- whatever reduction the published steps come to, this step is one of them; output past the remainder is untouched
pub record Stepped (o : Order) (p : ℕ) (words coefs starts : List ℕ) (limit : ℕ) (s : State) (x : Spaces) (ow oc : List ℕ) (s' : State) (kept' : Cache) (x' : Spaces) (ow' oc' : List ℕ) : Type 0 where
  pub sound : Sound o p words coefs starts limit s' x' ow' oc'
  pub numbers : KeptNumbers p words coefs starts kept'
  pub further : goes_on s'.course ≡ true → (s'.finished ≡ s.finished + 1) × (s.finished < limit)
  pub reaches : (R : Reduction ℕ) → Going o p (divisors_of words coefs starts) (length ow) limit s x ow oc R → Reaches o p (divisors_of words coefs starts) (length ow) limit s' x' ow' oc' R
  pub longer : s.places ≤ s'.places
  pub words-past : drop s'.places ow' ≡ drop s'.places ow
  pub coefs-past : drop s'.places oc' ≡ drop s'.places oc

-- ---- the steps in turn

pub record Beginning (p : ℕ) (b : Buckets) : Type 0 where
  pub none : b ≡ no_buckets
  pub modulus : Modulus p

-- "Polynomial 0 is added first"; 11: "polynomial 0 itself is tested before the first step"
pub data Begun (o : Order) (p : ℕ) (f : List (Term ℕ)) (x : Spaces) (s' : State) (x' : Spaces) : Type 0 where
  refused : most_terms < length f → s' ≡ halted begun TooManyTerms → x' ≡ x → Begun o p f x s' x'
  added : length f ≤ most_terms → (comparisons : ℕ) → Added o p x f x' comparisons → s' ≡ brought (counted begun comparisons) (length f) → Begun o p f x s' x'

pub record Reducible (o : Order) (p : ℕ) (words coefs starts : List ℕ) (limit : ℕ) : Type 0 where
  pub checked : Checked o p words coefs starts
  pub few-steps : limit ≤ most_steps

-- the state has come to the published reduction
pub record Reduced (o : Order) (p : ℕ) (words coefs starts : List ℕ) (limit : ℕ) (ow oc : List ℕ) (s' : State) (x' : Spaces) (ow' oc' : List ℕ) : Type 0 where
  pub stands : Standing p x'
  pub output : Output s'.places ow' oc'
  pub given-are : s'.given ≡ s'.places
  pub ended : Ended o s' x' ow' oc' (reduction_of_words o p (divisors_of words coefs starts) (length ow) limit (polynomial words coefs starts 0))
  pub words-past : drop s'.places ow' ≡ drop s'.places ow
  pub coefs-past : drop s'.places oc' ≡ drop s'.places oc
