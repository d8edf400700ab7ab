-- What documents 01 and 02 ask of a script and of a call for its listing, in their words and order, and the refusal that a listing prints. Assumes nothing.
use Rattle.std.specs.Prelude.{ℕ, ◌<◌, ◌≤◌, ◌≡◌, List, [], ◌∷◌, ◌++◌, map, replicate}
use Rattle.std.proofs.Math.Option.{Option, none, some}
use Rattle.limits.specs.Limits.{largest_weight, listing_bytes, most_variables}
use Rattle.refusal.specs.Judgement.{Condition, condition}
use Rattle.monomial.specs.Exponents.{compare_in}
use Rattle.monomial.specs.Layout.{Below}
use Rattle.polynomial.specs.Terms.{term, Falling}
use Rattle.opening.specs.Judgement.{GoodPrime, Between}
use Rattle.grammar.specs.Grammar.{Entry, Line, add_line, lead_line, sum_line, Script, GoodScript, script_text}
use Rattle.grammar.specs.Reading.{script_of}
use Rattle.listing.specs.Whole.{script_outcome}

-- ---- the call: "10: too little output", which is less than the bytes that hold every listing
abbrev pub call_conditions : (room : ℕ) → List Condition
call_conditions room = condition 10 (listing_bytes ≤ room) ∷ []

-- ---- the script

-- "17: script not of the form below.": the bytes are the text of a script of the grammar
pub record IsScript (bytes : List ℕ) : Type 0 where
  pub script : Script
  pub good : GoodScript script
  pub text : bytes ≡ script_text script

abbrev pub weights_by : (n : ℕ) → Option (List ℕ) → List ℕ
weights_by n none = replicate n 1
weights_by n (some vs) = vs

-- "24, a weight outside its range", of the numbers of a line `weights`
abbrev pub InRange : List ℕ → Type 0
InRange [] = Unit {0}
InRange (v ∷ vs) = Between 1 largest_weight v × InRange vs

abbrev pub LineInRange : Option (List ℕ) → Type 0
LineInRange none = Unit {0}
LineInRange (some vs) = InRange vs

module _ (s : Script) where
  -- 4 and 5, term by term: "4: coefficient 0 or ≥ p."; "an exponent over 127 gives 5"
  abbrev pub entries_conditions : List Entry → List Condition
  entries_conditions [] = []
  entries_conditions (e ∷ es) = condition 4 ((0 < e.coef) × (e.coef < s.prime)) ∷ (condition 5 (Below 128 e.exps) ∷ entries_conditions es)

  -- the weights of the script's variables: the numbers of its line `weights`, or 1 each
  abbrev pub own_weights : List ℕ
  own_weights = weights_by s.vars s.weights

  -- "6: terms do not fall strictly.", by their exponents under the script's order and weights
  abbrev pub EntriesFall : List Entry → Type 0
  EntriesFall es = Falling (compare_in s.order own_weights) (map (λ e. term e.exps e.coef) es)

  -- addition by addition, "the first place with 4 or 5 (4 first at one place), then 6"
  abbrev pub lines_conditions : List Line → List Condition
  lines_conditions [] = []
  lines_conditions (add_line es ∷ ls) = (entries_conditions es ++ (condition 6 (EntriesFall es) ∷ [])) ++ lines_conditions ls
  lines_conditions (lead_line ∷ ls) = lines_conditions ls
  lines_conditions (sum_line ∷ ls) = lines_conditions ls

  -- "1: p is not a prime from 2 to 65,521.", of which document 02 says "Refusal 1 has the new limit."; "3: n not 1 to 6."; 24 "after 3"; what else a run asks, every script has
  abbrev pub script_conditions : List Condition
  script_conditions = condition 1 (GoodPrime s.prime) ∷ (condition 3 (Between 1 most_variables s.vars) ∷ (condition 24 (LineInRange s.weights) ∷ lines_conditions s.lines))

abbrev pub conditions_by : Option Script → List Condition
conditions_by none = []
conditions_by (some s) = script_conditions s

-- "17 is judged first, over the whole script, with 0 operations finished"
abbrev pub listing_conditions : (bytes : List ℕ) → List Condition
listing_conditions bytes = condition 17 (IsScript bytes) ∷ conditions_by (script_of bytes)

-- ---- the number of the refusal that the listing of these bytes prints, 0 for none (theorems `demand-1-printed` and `demand-2-printed`)
abbrev pub refusal_by : Option Script → ℕ
refusal_by none = 17
refusal_by (some s) = (script_outcome s).answer.number

abbrev pub printed_refusal : (bytes : List ℕ) → ℕ
printed_refusal bytes = refusal_by (script_of bytes)
