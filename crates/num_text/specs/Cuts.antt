-- How bytes are cut into lines, and the text of a line into fields.
use Rattle.std.specs.Prelude.{◌≡◌, ℕ, ◌+◌, ◌≤◌, ◌==◌, ◌||◌, Bool, not, if◌then◌else◌, List, [], ◌∷◌, length, filter, slice_range}
use Rattle.std.specs.List.{slice_split}
use Rattle.num_text.specs.declared.span.Span.{Span}

-- LF
abbrev pub is_line_end : ℕ → Bool
is_line_end byte = byte == 10

-- space, tab or CR
abbrev pub is_blank : ℕ → Bool
is_blank byte = (byte == 32) || (byte == 9) || (byte == 13)

-- a field: its text, and where that stands in its line's text
pub record FieldText : Type 0 where
  pub span : Span
  pub text : List ℕ

-- a line: its number, its text, and where that stands in the bytes
pub record LineText : Type 0 where
  pub number : ℕ
  pub span : Span
  pub text : List ℕ

-- the pieces, without a last one that is empty
unfoldable pub without_empty_last : List (List ℕ) → List (List ℕ)
without_empty_last [] = []
without_empty_last (piece ∷ []) = if length piece == 0 then [] else piece ∷ []
without_empty_last (piece ∷ next ∷ more) = piece ∷ without_empty_last (next ∷ more)

-- the texts of all lines in order: the pieces between line ends, without a last one that is empty
unfoldable pub line_texts : List ℕ → List (List ℕ)
line_texts bytes = without_empty_last (slice_split is_line_end bytes)

-- the texts of all fields in order: the pieces between blanks that aren't empty
unfoldable pub field_texts : List ℕ → List (List ℕ)
field_texts text = filter (λ piece. not (length piece == 0)) (slice_split is_blank text)

-- pieces with their spans, where they stand one after the other from a place on, each one byte after
-- the end of the piece before
unfoldable pub placed : ℕ → List (List ℕ) → List FieldText
placed start [] = []
placed start (piece ∷ more) = record {
  span = record { start = start; end = start + length piece };
  text = piece;
} ∷ placed (start + length piece + 1) more

-- placed pieces as lines, numbered from a number on
unfoldable pub numbered : ℕ → List FieldText → List LineText
numbered number [] = []
numbered number (piece ∷ more) = record { number = number; span = piece.span; text = piece.text }
    ∷ numbered (number + 1) more

-- the lines of bytes that stand from a place on, numbered from a number on
unfoldable pub lines_from : ℕ → ℕ → List ℕ → List LineText
lines_from number start bytes = numbered number (placed start (line_texts bytes))

-- all lines of the bytes
unfoldable pub lines_of : List ℕ → List LineText
lines_of bytes = lines_from 1 0 bytes

-- the fields of a text that stands from a place on
unfoldable pub fields_from : ℕ → List ℕ → List FieldText
fields_from start text = filter (λ field. not (length field.text == 0))
    (placed start (slice_split is_blank text))

-- all fields of the text
unfoldable pub fields_of : List ℕ → List FieldText
fields_of text = fields_from 0 text

-- the text is the part of its source at the span
pub record IsPartAt (source : List ℕ) (span : Span) (text : List ℕ) : Type 0 where
  pub ordered : span.start ≤ span.end
  pub within : span.end ≤ length source
  pub text_is : text ≡ slice_range source span.start span.end
