-- The lines that are not skipped, taken off one by one.
use Rattle.std.proofs.Common.{◌≡◌, refl, ap, ℕ, ◌+◌, ◌<◌, ◌≤◌, ◌==◌, inl, inr, length, true, false, not, List, [], ◌∷◌, ◌++◌, arith}
use Rattle.std.specs.Prelude.{AllPairs}
use Rattle.std.proofs.lemmas.List.Elements.{filter-append}
use Rattle.std.proofs.lemmas.List.Kept.{AllPairs-filter}
use Rattle.std.proofs.lemmas.Bool.{cases_Bool, cond-true, cond-false, not_from_true, not_from_false}
use Rattle.num_text.specs.Cuts.{LineText, field_texts, lines_of, line_texts, is_line_end, without_empty_last}
use Rattle.std.specs.List.{slice_split}
use Rattle.std.proofs.lemmas.List.Splits.{length-slice_split}
use Rattle.std.proofs.lemmas.List.Sums.{count_by-le-length}
use Rattle.std.proofs.lemmas.List.{length-map}
use Rattle.num_text.proofs.CutLemmas.{numbers-lines_of, line_texts-lines_of}
use Rattle.num_text.specs.Lines.{are_skipped, kept, kept_lines}

pub kept-nil : kept [] ≡ []
unfolding kept
kept-nil = refl

pub kept-skips : (line : LineText) (more : List LineText) → are_skipped (field_texts line.text) ≡ true
    → kept (line ∷ more) ≡ kept more
unfolding kept
kept-skips line more skipped = cond-false _ _ _ (not_from_true _ skipped)

pub kept-keeps : (line : LineText) (more : List LineText) → are_skipped (field_texts line.text) ≡ false
    → kept (line ∷ more) ≡ line ∷ kept more
unfolding kept
kept-keeps line more says = cond-true _ _ _ (not_from_false _ says)

pub kept-append : (lines more : List LineText) → kept (lines ++ more) ≡ kept lines ++ kept more
unfolding kept
kept-append lines more = filter-append (λ line. not (are_skipped (field_texts line.text))) lines more

-- the numbers of the lines that are not skipped rise
pub kept_lines-rise : (bytes : List ℕ) → AllPairs (λ l m. l.number < m.number) (kept_lines bytes)
unfolding kept
kept_lines-rise bytes = AllPairs-filter (λ l m. l.number < m.number) (λ line. not (are_skipped (field_texts line.text)))
    (lines_of bytes)
    (λ i j d below within.
    let here = numbers-lines_of bytes i d (omega arith) in
    let there = numbers-lines_of bytes j d within in
    omega arith)

-- there are at most as many lines as bytes, and one
without_empty_last-le : (pieces : List (List ℕ)) → length (without_empty_last pieces) ≤ length pieces
unfolding without_empty_last
without_empty_last-le [] = omega arith
without_empty_last-le (piece ∷ []) = elim (cases_Bool (length piece == 0)) [
  | inl empty ↦ let none = ap length (cond-true _ [] (piece ∷ []) empty) in omega (arith, none)
  | inr some ↦ let one = ap length (cond-false _ [] (piece ∷ []) some) in omega (arith, one)
]
without_empty_last-le (piece ∷ next ∷ more) =
    let h = without_empty_last-le (next ∷ more) in omega (arith, h)

pub length-lines_of-le : (bytes : List ℕ) → length (lines_of bytes) ≤ length bytes + 1
unfolding line_texts
length-lines_of-le bytes =
    let texts = ap length (line_texts-lines_of bytes) in
    let long = length-map (lines_of bytes) (λ l. l.text) in
    let cut = without_empty_last-le (slice_split is_line_end bytes) in
    let pieces = length-slice_split is_line_end bytes in
    let ends = count_by-le-length is_line_end bytes in
    omega (arith, texts, long, cut, pieces, ends)
