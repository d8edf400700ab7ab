-- The limits that documents 01 and 02 name, each once. They are abbreviations, so that arithmetic sees the numbers. Assumes nothing.
use Rattle.std.specs.Prelude.{ℕ}

-- "p may go up to 2,147,483,647."
abbrev pub largest_prime : ℕ
largest_prime = 2147483647

-- "n from 1 to 6"
abbrev pub most_variables : ℕ
most_variables = 6

-- "Each variable gets a weight from 1 to 16": how many are lent, x1's first, and the largest
abbrev pub weight_count : ℕ
weight_count = 6

abbrev pub largest_weight : ℕ
largest_weight = 16

-- "The bucket space has 5,460 places for words and for coefficients": the six buckets' capacities
abbrev pub bucket_places : ℕ
bucket_places = 5460

-- "The work space, 8,192 places for each": two areas for each of buckets 1 to 5, and room past them
abbrev pub work_places : ℕ
work_places = 8192

-- "11: terms held + terms to add > 4,096", and the most terms that blocks hold
abbrev pub most_terms : ℕ
most_terms = 4096

-- "operations not whole pairs or over 16,777,216 of them"
abbrev pub most_operations : ℕ
most_operations = 16777216

-- "a step limit over 8,796,093,022,208"
abbrev pub most_steps : ℕ
most_steps = 8796093022208

-- "13 is never given with an allowed step limit of 4,398,046,511,104 (128 to the sixth) or more" (theorem `limit-suffices`)
abbrev pub sufficient_steps : ℕ
sufficient_steps = 4398046511104

-- "At most 16,384 bytes" of a script
abbrev pub script_bytes : ℕ
script_bytes = 16384

-- a term, and a line, takes at least four bytes of a script: the most terms, and the most operations
abbrev pub script_terms : ℕ
script_terms = 4096

-- the starts of as many polynomials
abbrev pub script_starts : ℕ
script_starts = 4097

-- the numbers of as many operations
abbrev pub script_numbers : ℕ
script_numbers = 8192

-- bytes that every listing fits in (theorem `suffices`)
abbrev pub listing_bytes : ℕ
listing_bytes = 65536
