-- Every known result of the table holds: antt computes both sides of each. Assumes nothing.
use Prim.Native.Nat.{ℕ, ◌≤◌, min}
use mathlib.Core.Path.{◌≡◌, refl, ap, ap₂, ◌∙◌}
use mathlib.Core.List.{List, ◌++◌}
use mathlib.Core.Bool.{Bool}
use native.Mathlib.Nat.{zero-add}
use native.Mathlib.Omega.{arith}
use borrow.Author.Tests.{le-ltb}
use lib.Dec.{lit≤}
use lib.ListN.{length, drop}
use lib.Seq.{sets-eq}
use Rattle.limits.specs.Limits.{listing_bytes}
use Rattle.residue.specs.Prime.{no_divisor, is_prime}
use Rattle.residue.specs.Modular.{inverse_below, inverse_of}
use Rattle.monomial.specs.Layout.{word_of, bytes, fields, in_layout}
use Rattle.polynomial.specs.Merge.{keep, into, merge, compared_into, compared}
use Rattle.polynomial.specs.Opening.{rise_to, starts_good, terms_refusal, fall, refusal_of}
use Rattle.geobucket.specs.Buckets.{held, carry, carry_compared, place, place_compared, add, add_compared, sum_from, sum_compared, emptied}
use Rattle.geobucket.specs.Search.{seek, pass, onward, ended, search_in, put_back}
use Rattle.geobucket.specs.Events.{level_from}
use Rattle.space.specs.Space.{list_from}
use Rattle.conditions.specs.Lengths.{space_good, lent_good, pairs_good}
use Rattle.conditions.specs.Operations.{operation_good, operations_good}
use Rattle.opening.specs.Run.{weights_good, setting, shape_good, refusal_from, run_refusal}
use Rattle.conditions.specs.Divisors.{none_zero}
use Rattle.opening.specs.Reduction.{reduction_shape, reduction_refusal}
use Rattle.run_outcome.specs.Runs.{operate, operate_all, operations_of}
use Rattle.division.specs.Choice.{first_from, chosen}
use Rattle.division.specs.Steps.{any_too_large, dividing, keeping, steps_from, reduction}
use Rattle.block.specs.Block.{weight_number, setting_bytes, header_with, places, sum_words, block_with, first_blocks_with}
use Rattle.blocks.specs.Outcome.{write_refusal}
use Rattle.text.specs.Bytes.{begins, same, index_of, parts, joined}
use Rattle.text.specs.Numbers.{decimal_in, and_then, with_digit, with_digits, number_of}
use Rattle.grammar.specs.Reading.{numbers_of, entry_of, entries_of, add_of, line_of, lines_of, script_of}
use Rattle.script.specs.Loading.{entries_in, ends_from, pairs_from}
use Rattle.listing_lines.specs.Listing.{lead_text, sum_terms, terms_text, sum_text, answers_text, cost_text, refused_text}
use Rattle.listing.specs.Whole.{ran_text, listing_of}
use Rattle.listing.specs.Outcome.{outcome_by}
use Rattle.known.specs.Known.{Hold, Prints, text_of, script, listing, nothing-added, zero-lines, bad-prime, refused-line, slide, slide-lines, table}

-- a listing of this text is what the entry writes
printed : (script text : List ℕ) → listing_of script ≡ text → length text ≤ listing_bytes → Prints script text
printed script text e small out h =
    ap₂ (λ (few : Bool) (t : List ℕ). outcome_by few t out) (le-ltb (length out) listing_bytes h) e
    ∙ ap₂ (λ (n : ℕ) (l : List ℕ). record { answer = record { number = 0; finished = 0; bytes = n }; out = l })
    (let all : min (length text) (length out) ≡ length text = omega arith in all)
    (sets-eq text out 0 (omega arith) ∙ ap (λ (n : ℕ). text ++ drop n out) (zero-add (length text)))

pub known : Hold table
unfolding no_divisor is_prime inverse_below inverse_of word_of bytes fields in_layout keep into merge compared_into compared rise_to starts_good terms_refusal fall refusal_of held carry carry_compared place place_compared add add_compared sum_from sum_compared emptied seek pass onward ended search_in put_back level_from list_from weights_good setting space_good lent_good pairs_good shape_good operation_good operations_good refusal_from run_refusal reduction_shape none_zero reduction_refusal operate operate_all operations_of first_from chosen any_too_large dividing keeping steps_from reduction weight_number setting_bytes header_with places sum_words block_with first_blocks_with write_refusal begins same index_of parts joined decimal_in and_then with_digit with_digits number_of numbers_of entry_of entries_of add_of line_of lines_of script_of entries_in ends_from pairs_from lead_text sum_terms terms_text sum_text answers_text cost_text refused_text ran_text listing_of
known = ((refl, refl), ((refl, refl), ((refl, refl), (refl, (refl, (printed (text_of script) (text_of listing) refl (lit≤ tt), ((refl, refl, refl), ((refl, refl, refl), ((refl, refl), ((refl, refl, refl), ((refl, refl, refl), ((refl, refl, refl), ((refl, refl, refl), ((refl, refl), ((refl, refl, refl, refl), (printed (text_of nothing-added) (text_of zero-lines) refl (lit≤ tt), (printed (text_of bad-prime) (text_of refused-line) refl (lit≤ tt), (refl, (refl, (refl, ((refl, refl), ((refl, refl), ((refl, refl), (printed (text_of slide) (text_of slide-lines) refl (lit≤ tt), (refl, (refl, (refl, tt)))))))))))))))))))))))))))
