-- Wrong programs that no edit of an operand makes, each with a script on which its listing differs from the defined one. Assumes nothing.
use mathlib.Core.Path.{◌≡◌, refl}
use mathlib.Core.List.{List, [], ◌∷◌, ◌++◌}
use mathlib.Core.Option.{some}
use Prim.Native.Nat.{ℕ}
use Rattle.monomial.specs.declared.order.Order.TheVariants.{DegRevLex}
use Rattle.text.specs.Bytes.{begins, same, index_of, parts, joined}
use Rattle.text.specs.Numbers.{and_then, with_digit, with_digits, number_of}
use Rattle.grammar.specs.Reading.{numbers_of, entry_of, entries_of, add_of, line_of, lines_of, script_of}
use Rattle.listing.specs.Whole.{listing_of}
use Rattle.listing_lines.specs.Listing.{refused_text}

-- `prime 7`, `order dp`, `vars 7`, and a line that is no line of a script
seven : List ℕ
seven =
    112 ∷ 114 ∷ 105 ∷ 109 ∷ 101 ∷ 32 ∷ 55 ∷ 10
    ∷ 111 ∷ 114 ∷ 100 ∷ 101 ∷ 114 ∷ 32 ∷ 100 ∷ 112 ∷ 10
    ∷ 118 ∷ 97 ∷ 114 ∷ 115 ∷ 32 ∷ 55 ∷ 10
    ∷ 108 ∷ 101 ∷ 97 ∷ 10 ∷ []

-- 17 is judged first: a program that judges the number of variables before the lines prints 3
seventeen-first : listing_of seven ≡ refused_text 17 0
unfolding seven listing_of script_of begins same index_of parts joined and_then with_digit with_digits number_of numbers_of entry_of entries_of add_of line_of lines_of
seventeen-first = refl

-- `prime 7`, `order dp`, `vars 2`
front : List ℕ
front =
    112 ∷ 114 ∷ 105 ∷ 109 ∷ 101 ∷ 32 ∷ 55 ∷ 10
    ∷ 111 ∷ 114 ∷ 100 ∷ 101 ∷ 114 ∷ 32 ∷ 100 ∷ 112 ∷ 10
    ∷ 118 ∷ 97 ∷ 114 ∷ 115 ∷ 32 ∷ 50 ∷ 10 ∷ []

-- `weights 1 2`
line : List ℕ
line = 119 ∷ 101 ∷ 105 ∷ 103 ∷ 104 ∷ 116 ∷ 115 ∷ 32 ∷ 49 ∷ 32 ∷ 50 ∷ 10 ∷ []

-- one line of weights is of the form, and of two the second is no line of a script: a program that takes the line twice prints no refusal
one_line : script_of (front ++ line) ≡ some (record { prime = 7; order = DegRevLex; vars = 2; weights = some (1 ∷ 2 ∷ []); lines = [] })
unfolding front line script_of begins same index_of parts joined and_then with_digit with_digits number_of numbers_of line_of lines_of
one_line = refl

weights-twice : listing_of (front ++ (line ++ line)) ≡ refused_text 17 0
unfolding front line listing_of script_of begins same index_of parts joined and_then with_digit with_digits number_of numbers_of entry_of entries_of add_of line_of lines_of
weights-twice = refl
