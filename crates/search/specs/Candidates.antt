-- The search's candidate and what a search comes to, as values. Assumes nothing.
use Rattle.std.specs.Prelude.{ℕ, ◌+◌, ◌%◌, Some, None}
use Rattle.monomial.specs.declared.order.Order.{Order}
use Rattle.monomial.specs.Words.{from_key}
use Rattle.geobucket.specs.Search.{Lead, none, lead}
use Rattle.search.specs.declared.candidate.Candidate.{Candidate}
use Rattle.search.specs.declared.candidate.LeadSearch.{LeadSearch}

-- what a search answers, with its comparisons
abbrev pub search_of : Lead ℕ → ℕ → LeadSearch
search_of none n = record { count = n; lead = None }
search_of (lead at t) n = record { count = n; lead = Some (record { bucket = at; word = t.mono; coef = t.coef }) }

abbrev pub passed_by : Candidate → Candidate
passed_by c = record { bucket = c.bucket; key = c.key; coef = c.coef; count = c.count + 1 }

abbrev pub joined : Candidate → (coef p : ℕ) → Candidate
joined c coef p = record { bucket = c.bucket; key = c.key; coef = (c.coef + coef) % p; count = c.count + 1 }

abbrev pub replaced_by : Candidate → (bucket key coef : ℕ) → Candidate
replaced_by c bucket key coef = record { bucket = bucket; key = key; coef = coef; count = c.count + 1 }

-- the candidate as the lead, with the word of its key
abbrev pub said_in : Order → Candidate → LeadSearch
said_in o c = record { count = c.count; lead = Some (record { bucket = c.bucket; word = from_key o c.key; coef = c.coef }) }
