-- The lines of a text that say something.
use Rattle.std.specs.Prelude.{ℕ, ◌==◌, Bool, true, not, List, [], ◌∷◌, filter, slice_index}
use Rattle.num_text.specs.Cuts.{LineText, field_texts, lines_of}

-- no fields, or a first field that begins with `#`
abbrev pub are_skipped : List (List ℕ) → Bool
are_skipped [] = true
are_skipped (first ∷ more) = slice_index first 0 == 35

-- the lines that are not skipped, each with its number among all lines
unfoldable pub kept : List LineText → List LineText
kept lines = filter (λ line. not (are_skipped (field_texts line.text))) lines

-- the lines of the bytes that are not skipped
abbrev pub kept_lines : List ℕ → List LineText
kept_lines bytes = kept (lines_of bytes)
