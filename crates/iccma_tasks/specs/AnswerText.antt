-- What the text of an answer means, and where it has which fault.
use Rattle.std.specs.Prelude.{◌≡◌, ℕ, ◌+◌, ◌<◌, ◌&&◌, ◌||◌, ◌==◌, Bool, true, false, List, [], ◌∷◌, length, map, codes, Option, Some, None, slice_index_or, nat_eq}
use Rattle.std.specs.Cmp.Lexicographic.{pointwise}
use Rattle.std.specs.List.Sorted.{IsStrictlyIncreasing}
use Rattle.num_text.specs.Cuts.{LineText, lines_of, field_texts}
use Rattle.num_text.specs.Lines.{kept}
use Rattle.semantics.specs.Arguments.{IsArgument}
use Rattle.num_text.specs.Number.{IsNumber}
use Rattle.iccma_tasks.specs.declared.answer.Answer.{Answer}
use Rattle.iccma_tasks.specs.declared.answer.Answer.TheVariants.{Yes, No, Sets}
use Rattle.iccma_tasks.specs.declared.fault.AnswerCause.{AnswerCause}
use Rattle.iccma_tasks.specs.declared.fault.AnswerCause.TheVariants.{Empty, BadLine, BadNumber, NotRising}
use Rattle.iccma_tasks.specs.declared.fault.AnswerFault.{AnswerFault}
use Rattle.iccma_tasks.specs.declared.fault.AnswerFault.TheVariants.{At, Memory}

-- a line that isn't skipped: its number and its fields
pub record FilledLine : Type 0 where
  pub number : ℕ
  pub fields : List (List ℕ)

abbrev pub filled_line : LineText → FilledLine
filled_line line = record { number = line.number; fields = field_texts line.text }

-- those of the lines that aren't skipped, in order
unfoldable pub filled_of : List LineText → List FilledLine
filled_of lines = map filled_line (kept lines)

-- the lines of a text that aren't skipped
abbrev pub filled_lines : List ℕ → List FilledLine
filled_lines bytes = filled_of (lines_of bytes)

-- their fields
abbrev pub filled_fields : List ℕ → List (List (List ℕ))
filled_fields bytes = map (λ line. line.fields) (filled_lines bytes)

-- the field spells n, which is the number of an argument
pub record SpellsArgument (field : List ℕ) (n : ℕ) : Type 0 where
  pub number : IsNumber field n
  pub argument : IsArgument n

-- the fields spell these numbers of arguments, in the same order
pub record AreArguments (fields : List (List ℕ)) (numbers : List ℕ) : Type 0 where
  pub same_length : length fields ≡ length numbers
  pub each : (k : ℕ) → k < length fields
      → SpellsArgument (slice_index_or fields k []) (slice_index_or numbers k 0)

-- the fields spell these numbers, and the numbers rise
pub record AreRisingArguments (fields : List (List ℕ)) (set : List ℕ) : Type 0 where
  pub arguments : AreArguments fields set
  pub rises : IsStrictlyIncreasing set

-- a line `w NUMBERS` with these numbers, which rise
pub record IsSetLine (fields : List (List ℕ)) (set : List ℕ) : Type 0 where
  pub numbers : List (List ℕ)
  pub fields_are : fields ≡ codes "w" ∷ numbers
  pub rising : AreRisingArguments numbers set

-- a word alone, or followed by the line of a set
abbrev pub ReadsAsWord : List ℕ → List (List (List ℕ)) → Option (List ℕ) → Type 0
ReadsAsWord word lines None = lines ≡ (word ∷ []) ∷ []
ReadsAsWord word lines (Some set) =
    (line : List (List ℕ)) × (lines ≡ (word ∷ []) ∷ line ∷ []) × IsSetLine line set

-- one line or more, each the line of the set at its index
pub record ReadsAsSets (lines : List (List (List ℕ))) (sets : List (List ℕ)) : Type 0 where
  pub some : 0 < length sets
  pub same_length : length lines ≡ length sets
  pub each : (k : ℕ) → k < length lines → IsSetLine (slice_index_or lines k []) (slice_index_or sets k [])

-- the lines, of which none is skipped, read as the answer
abbrev pub ReadsAs : List (List (List ℕ)) → Answer → Type 0
ReadsAs lines (Yes set) = ReadsAsWord (codes "YES") lines set
ReadsAs lines (No set) = ReadsAsWord (codes "NO") lines set
ReadsAs lines (Sets sets) = ReadsAsSets lines sets

-- the field is this word
abbrev pub is_field : List ℕ → List ℕ → Bool
is_field word field = pointwise nat_eq field word

-- the line is `YES` or `NO` alone
abbrev pub is_word_line : List (List ℕ) → Bool
is_word_line [] = false
is_word_line (first ∷ more) = (is_field (codes "YES") first || is_field (codes "NO") first) &&
    (length more == 0)

-- the line begins with `w`
abbrev pub is_w_line : List (List ℕ) → Bool
is_w_line [] = false
is_w_line (first ∷ more) = is_field (codes "w") first

-- the line at an index has a form that is open there: the first line may be a word or
-- begin with `w`, the second may begin with `w`, and a later one where the first begins with it
abbrev pub is_open : List (List (List ℕ)) → ℕ → Bool
is_open lines k = is_w_line (slice_index_or lines k []) &&
    ((k == 0) || (k == 1) || is_w_line (slice_index_or lines 0 []))
    || (k == 0) && is_word_line (slice_index_or lines k [])

-- the fields behind the first
abbrev pub behind_first : List (List ℕ) → List (List ℕ)
behind_first [] = []
behind_first (first ∷ more) = more

-- some field is no number from 1 to MAX_ARGUMENT
pub record HasBadNumber (fields : List (List ℕ)) : Type 0 where
  pub index : ℕ
  pub within : index < length fields
  pub bad : (n : ℕ) → ¬ SpellsArgument (slice_index_or fields index []) n

-- the fields are such numbers, and they don't rise
pub record HasFallingNumbers (fields : List (List ℕ)) : Type 0 where
  pub numbers : List ℕ
  pub arguments : AreArguments fields numbers
  pub falls : ¬ IsStrictlyIncreasing numbers

-- the cause stands at a line that has an open form, or none. Of several the first in order stands alone
abbrev pub LineStands : Bool → List (List ℕ) → AnswerCause → Type 0
LineStands fits fields Empty = ⊥
LineStands fits fields BadLine = fits ≡ false
LineStands fits fields BadNumber = (fits ≡ true) × HasBadNumber (behind_first fields)
LineStands fits fields NotRising = (fits ≡ true) × HasFallingNumbers (behind_first fields)

-- the cause stands at the line of this index
abbrev pub Stands : List (List (List ℕ)) → ℕ → AnswerCause → Type 0
Stands lines k cause = LineStands (is_open lines k) (slice_index_or lines k []) cause

-- the cause stands at the line of this number, and at no line before it stands any
pub record IsFirstAt (lines : List FilledLine) (number : ℕ) (cause : AnswerCause) : Type 0 where
  pub index : ℕ
  pub within : index < length lines
  pub numbered : (d : FilledLine) → (slice_index_or lines index d).number ≡ number
  pub stands : Stands (map (λ line. line.fields) lines) index cause
  pub before : (j : ℕ) → j < index → (other : AnswerCause)
      → ¬ Stands (map (λ line. line.fields) lines) j other

-- the fault of a text: where all lines are skipped Empty, at the number of lines plus one
abbrev pub IsFaultOf : List ℕ → ℕ → AnswerCause → Type 0
IsFaultOf bytes number Empty = (filled_lines bytes ≡ []) × (number ≡ length (lines_of bytes) + 1)
IsFaultOf bytes number BadLine = IsFirstAt (filled_lines bytes) number BadLine
IsFaultOf bytes number BadNumber = IsFirstAt (filled_lines bytes) number BadNumber
IsFaultOf bytes number NotRising = IsFirstAt (filled_lines bytes) number NotRising

-- what a reader tells of a text that is no answer: its fault, or want of memory
abbrev pub IsToldOf : List ℕ → AnswerFault → Type 0
IsToldOf bytes (At number cause) = IsFaultOf bytes number cause
IsToldOf bytes Memory = Unit {0}
