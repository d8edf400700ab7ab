-- The divisors as they are lent: what the search for a fitting one, the inverse of its lead coefficient and the highest exponents of its tail ask and give. Assumes nothing.
use Rattle.std.specs.Prelude.{ℕ, ◌+◌, ◌-◌, ◌*◌, ◌/◌, ◌%◌, ◌<◌, ◌≤◌, ◌≡◌, true, false, cond, List, ◌⊎◌, leb, length, get_or, set, drop}
use Rattle.residue.specs.Modular.{Modulus, inverse_of}
use Rattle.residue.specs.Prime.{Prime}
use Rattle.monomial.specs.Words.{Packed, divides_word}
use Rattle.polynomial.specs.Opening.{part_of}
use Rattle.multiple.specs.Multiplying.{highest_word}
use Rattle.divisors.specs.declared.kept.Cache.{Cache}

-- the lead of polynomial k
abbrev pub lead_word : (words starts : List ℕ) → ℕ → ℕ
lead_word words starts k = get_or words (get_or starts k 0) 0

abbrev pub lead_coef : (coefs starts : List ℕ) → ℕ → ℕ
lead_coef coefs starts k = get_or coefs (get_or starts k 0) 0

-- the words, or the coefficients, of its tail
abbrev pub tail_of : (starts : List ℕ) → (k : ℕ) → List ℕ → List ℕ
tail_of starts k l = drop 1 (part_of starts k l)

-- the leads of the divisors are there
pub record Leads (words starts : List ℕ) : Type 0 where
  pub some : 1 < length starts
  pub there : (k : ℕ) → 1 ≤ k → k + 1 < length starts → get_or starts k 0 < length words
  pub packed : (k : ℕ) → 1 ≤ k → k + 1 < length starts → Packed (lead_word words starts k)

-- "The first divisor in the list whose lead monomial divides α"
pub record FirstFit (words starts : List ℕ) (α k : ℕ) : Type 0 where
  pub low : 1 ≤ k
  pub high : k + 1 ≤ length starts
  pub before : (j : ℕ) → 1 ≤ j → j < k → divides_word (lead_word words starts j) α ≡ false
  pub here : k + 1 < length starts → divides_word (lead_word words starts k) α ≡ true

-- the first place from `from` on and before `past` whose lead divides α, or `past` where there is none
pub record FirstOf (lead : ℕ → ℕ) (α from past k : ℕ) : Type 0 where
  pub low : from ≤ k
  pub high : k ≤ past
  pub before : (j : ℕ) → from ≤ j → j < k → divides_word (lead j) α ≡ false
  pub here : k < past → divides_word (lead k) α ≡ true

-- the lead monomials of the first 1,024 divisors, from place 0 on
pub record KeptLeads (words starts leads : List ℕ) : Type 0 where
  pub long : length leads ≡ 1024
  pub each : (j : ℕ) → j < 1024 → j + 2 < length starts → get_or leads j 0 ≡ lead_word words starts (j + 1)

-- how many those are, from the number of starts
pub record KeptCount (m n : ℕ) : Type 0 where
  pub few : n ≤ 1024
  pub high : n + 2 ≤ m
  pub all : n < 1024 → n + 2 ≡ m

-- words, and one that they may divide
pub record Scannable (leads : List ℕ) (α : ℕ) : Type 0 where
  pub packed : (j d : ℕ) → j < length leads → Packed (get_or leads j d)
  pub word : Packed α

-- a number below p is kept in one number of 64 bits with its share of p above it: in the low 16 bits, with the share in parts of 2 ^ 48, where p is at most 2 ^ 16, and else in the low 32 bits, with the share in parts of 2 ^ 32
abbrev pub low_part : (p : ℕ) → ℕ
low_part p = cond (leb p 65536) 65536 4294967296

abbrev pub in_one : (p value : ℕ) → ℕ
in_one p value = value * (18446744073709551616 / low_part p) / p * low_part p + value

-- the number that is kept
abbrev pub inverse_in : (p kept : ℕ) → ℕ
inverse_in p kept = kept % low_part p

-- such a number, and one to multiply it by
pub record Multiplying (p x kept : ℕ) : Type 0 where
  pub modulus : Modulus p
  pub small : x < p
  pub below : inverse_in p kept < p
  pub kept-is : kept ≡ in_one p (inverse_in p kept)

-- ---- what is kept of the first 1,024 divisors, as far as it was asked for: the inverses of the lead coefficients, and the highest exponents of the tails, those of divisor k at k - 1. 0 stands for what was not asked for yet

-- at each divisor's place is its number, or 0
abbrev pub KeptAt : (number : ℕ → ℕ) → List ℕ → Type 0
KeptAt number kept = (k : ℕ) → 1 ≤ k → k ≤ 1024 → (get_or kept (k - 1) 0 ≡ 0) ⊎ (get_or kept (k - 1) 0 ≡ number k)

pub record KeptNumbers (p : ℕ) (words coefs starts : List ℕ) (kept : Cache) : Type 0 where
  pub inverses : KeptAt (λ k. in_one p (inverse_of p (lead_coef coefs starts k))) kept.inverses
  pub tails : KeptAt (λ k. highest_word (tail_of starts k words)) kept.highest

-- the number x of divisor k belongs at its place
pub record Keepable (k x : ℕ) (kept : List ℕ) : Type 0 where
  pub low : 1 ≤ k
  pub here : k ≤ 1024 → (get_or kept (k - 1) 0 ≡ 0) ⊎ (get_or kept (k - 1) 0 ≡ x)

-- it was put there, or nothing was changed
abbrev pub PutOrNot : (k x : ℕ) (kept kept' : List ℕ) → Type 0
PutOrNot k x kept kept' = (kept' ≡ kept) ⊎ ((k ≤ 1024) × (kept' ≡ set kept (k - 1) x))

-- and nothing else that is kept was changed
pub record InverseKept (k x : ℕ) (kept kept' : Cache) : Type 0 where
  pub put : PutOrNot k x kept.inverses kept'.inverses
  pub same : kept'.highest ≡ kept.highest

pub record HighestKept (k x : ℕ) (kept kept' : Cache) : Type 0 where
  pub put : PutOrNot k x kept.highest kept'.highest
  pub same : kept'.inverses ≡ kept.inverses

-- x is what is kept of one of the first 1,024 divisors, or was made
abbrev pub KnownOr : (k : ℕ) (kept : List ℕ) (Made : ℕ → Type 0) → ℕ → Type 0
KnownOr k kept Made x = ((k ≤ 1024) × (x ≡ get_or kept (k - 1) 0) × (x ≡ 0 → ⊥)) ⊎ Made x

pub record Inverting (p : ℕ) (coefs starts : List ℕ) (k : ℕ) (kept : List ℕ) : Type 0 where
  pub modulus : Modulus p
  pub prime : Prime p
  pub there : k < length starts
  pub inside : get_or starts k 0 < length coefs
  pub pos : 0 < lead_coef coefs starts k
  pub small : lead_coef coefs starts k < p
  pub keepable : Keepable k (in_one p (inverse_of p (lead_coef coefs starts k))) kept
