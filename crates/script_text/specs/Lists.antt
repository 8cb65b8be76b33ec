-- The text of a list of frameworks, the names that it lists, and its faults.
use Rattle.std.specs.Prelude.{◌≡◌, ℕ, ◌+◌, ◌<◌, ◌≤◌, ◌⊎◌, List, [], ◌∷◌, ◌++◌, length, codes}
use Rattle.std.specs.List.{AllZip}
use Rattle.std.specs.Str.{IsUtf8}
use Rattle.num_text.specs.Cuts.{LineText, field_texts, lines_of}
use Rattle.num_text.specs.Lines.{kept_lines}
use Rattle.script_text.specs.declared.list.ListCause.{ListCause}
use Rattle.script_text.specs.declared.list.ListCause.TheVariants.{Empty, BadLine, TooMany}
use Rattle.script_text.specs.declared.list.ListFault.{ListFault}
use Rattle.script_text.specs.declared.list.ListFault.TheVariants.{At, Memory}
use Rattle.script_text.specs.declared.list.TheConstants.{MAX_FRAMEWORKS}

-- the name of a cause
abbrev pub list_cause_name : ListCause → List ℕ
list_cause_name Empty = codes "Empty"
list_cause_name BadLine = codes "BadLine"
list_cause_name TooMany = codes "TooMany"

-- where several causes stand on one line, the one of the lowest rank is told
abbrev pub list_rank : ListCause → ℕ
list_rank Empty = 1
list_rank BadLine = 2
list_rank TooMany = 3

-- the name is the line's only field, and UTF-8
pub record IsNameLine (text name : List ℕ) : Type 0 where
  pub fields_are : field_texts text ≡ name ∷ []
  pub encoded : IsUtf8 name

abbrev pub AreNameLines : List LineText → List (List ℕ) → Type 0
AreNameLines lines names = AllZip (λ line name. IsNameLine line.text name) lines names

-- but for skipped lines, each line of the bytes is one of the names, of which there is one and not too many
pub record IsList (bytes : List ℕ) (names : List (List ℕ)) : Type 0 where
  pub are_lines : AreNameLines (kept_lines bytes) names
  pub some : 1 ≤ length names
  pub few : length names ≤ MAX_FRAMEWORKS

-- the cause stands on the text of a line behind so many others
abbrev pub StandsOnName : ℕ → List ℕ → ListCause → Type 0
StandsOnName count text Empty = ⊥
StandsOnName count text BadLine = (name : List ℕ) → ¬ IsNameLine text name
StandsOnName count text TooMany = count ≡ MAX_FRAMEWORKS

-- the cause stands at one of the lines, the line of this number
pub record StandsAtName (lines : List LineText) (number : ℕ) (cause : ListCause) : Type 0 where
  pub before : List LineText
  pub line : LineText
  pub behind : List LineText
  pub lines_are : lines ≡ before ++ line ∷ behind
  pub number_is : number ≡ line.number
  pub stands : StandsOnName (length before) line.text cause

-- there is no name; this is told at the number of all lines and one more
pub record IsNameless (bytes : List ℕ) (number : ℕ) : Type 0 where
  pub none : kept_lines bytes ≡ []
  pub number_is : number ≡ length (lines_of bytes) + 1

-- the cause stands at the line of the bytes
abbrev pub StandsInList : List ℕ → ℕ → ListCause → Type 0
StandsInList bytes number cause =
    StandsAtName (kept_lines bytes) number cause ⊎ ((cause ≡ Empty) × IsNameless bytes number)

-- the cause stands at the line of the bytes, every other one at a later line or behind it in the order
pub record IsFirstListFault (bytes : List ℕ) (number : ℕ) (cause : ListCause) : Type 0 where
  pub stands : StandsInList bytes number cause
  pub first : (l : ℕ) (c : ListCause) → StandsInList bytes l c
      → (number < l) ⊎ ((number ≡ l) × (list_rank cause ≤ list_rank c))

-- where the fault is that of a line, it is the first
abbrev pub IsListToldOf : List ℕ → ListFault → Type 0
IsListToldOf bytes (At line cause) = IsFirstListFault bytes line cause
IsListToldOf bytes Memory = Unit {0}

-- no cause stands at any line of the bytes
pub record IsListFaultless (bytes : List ℕ) : Type 0 where
  pub none : (line : ℕ) (cause : ListCause) → StandsInList bytes line cause → ⊥
