-- Texts as lists of bytes: a word at the start, and the parts between separators. Assumes nothing.
use Rattle.std.specs.Prelude.{ℕ, suc, Bool, true, false, ◌&&◌, List, [], ◌∷◌, ◌++◌, eqb, length}

-- the text begins with the word
unfoldable pub begins : (word text : List ℕ) → Bool
begins [] s = true
begins (x ∷ w) [] = false
begins (x ∷ w) (y ∷ s) = eqb y x && begins w s

-- the text is the word
unfoldable pub same : (word text : List ℕ) → Bool
same w s = eqb (length s) (length w) && begins w s

-- the place of the first byte b, or the length
unfoldable pub index_of : ℕ → List ℕ → ℕ
index_of b [] = 0
index_of b (x ∷ xs) = elim (eqb x b) [ true ↦ 0 | false ↦ suc (index_of b xs) ]

-- a byte put before the first of some parts
abbrev pub onto : ℕ → List (List ℕ) → List (List ℕ)
onto x [] = []
onto x (p ∷ ps) = (x ∷ p) ∷ ps

-- the parts of a text between its bytes b: one more than there are such bytes
unfoldable pub parts : ℕ → List ℕ → List (List ℕ)
parts b [] = [] ∷ []
parts b (x ∷ xs) = elim (eqb x b) [ true ↦ [] ∷ parts b xs | false ↦ onto x (parts b xs) ]

-- the parts with a byte b between each two
unfoldable pub joined : ℕ → List (List ℕ) → List ℕ
joined b [] = []
joined b (p ∷ []) = p
joined b (p ∷ (q ∷ ps)) = p ++ (b ∷ joined b (q ∷ ps))
