-- The faults of the text of a flat assumption-based framework: which cause stands at which line, and which is told.
use Rattle.std.specs.Prelude.{◌≡◌, ℕ, ◌+◌, ◌<◌, ◌≤◌, ◌⊎◌, ◌==◌, ◌&&◌, Bool, true, false, List, [], ◌∷◌, ◌++◌}
use Rattle.std.specs.Prelude.{length, take, count_by, Contains, codes, slice_index, slice_index_or}
use Rattle.num_text.specs.Cuts.{LineText, field_texts, lines_of}
use Rattle.num_text.specs.Lines.{kept_lines}
use Rattle.af_format.specs.declared.fault.LineCause.{LineCause}
use Rattle.af_format.specs.declared.fault.LineCause.TheVariants.{NoHeader, WrongKind, BadHeader, SecondHeader}
use Rattle.af_format.specs.declared.fault.LineCause.TheVariants.{BadLine, BadNumber, OutOfRange, TooManyLines}
use Rattle.af_format.specs.declared.fault.LineCause.TheVariants.{NotFlat, ContraryOfNonAssumption}
use Rattle.af_format.specs.Causes.{rank}
use Rattle.af_format.specs.Faults.{HaveNoNumber, HaveOutsider}
use Rattle.af_format.specs.Headers.{af_word, aba_word, IsHeaderOf, BeginWithP, IsHeaderFault}
use Rattle.aba_format.specs.AbaText.{Said, says_assumption, says_contrary, says_rule, SaysLine}
use Rattle.aba_format.specs.declared.said.TheConstants.{MAX_CONTRARY_LINES, MAX_RULE_LINES}

-- the fields are those of a line of one of the three kinds: `a` and one more, `c` and two more, or `r` and one more at
-- least
abbrev pub HaveForm : List (List ℕ) → Type 0
HaveForm fields =
    ((x : List ℕ) × (fields ≡ codes "a" ∷ x ∷ []))
    ⊎ (((x : List ℕ) × (y : List ℕ) × (fields ≡ codes "c" ∷ x ∷ y ∷ []))
    ⊎ ((x : List ℕ) × (more : List (List ℕ)) × (fields ≡ codes "r" ∷ x ∷ more)))

-- the fields behind the first
abbrev pub behind_first : List (List ℕ) → List (List ℕ)
behind_first [] = []
behind_first (first ∷ more) = more

-- the cause stands on the fields of a line behind a header with this number of atoms, whatever the other lines are
abbrev pub StandsOnFields : ℕ → List (List ℕ) → LineCause → Type 0
StandsOnFields count fields NoHeader = ⊥
StandsOnFields count fields WrongKind = ⊥
StandsOnFields count fields BadHeader = ⊥
StandsOnFields count fields SecondHeader = BeginWithP fields
StandsOnFields count fields BadLine = HaveForm fields → ⊥
StandsOnFields count fields BadNumber = HaveNoNumber (behind_first fields)
StandsOnFields count fields OutOfRange = HaveOutsider count (behind_first fields)
StandsOnFields count fields TooManyLines = ⊥
StandsOnFields count fields NotFlat = ⊥
StandsOnFields count fields ContraryOfNonAssumption = ⊥

-- the first field is this byte
abbrev pub begin_with : ℕ → List (List ℕ) → Bool
begin_with byte [] = false
begin_with byte (first ∷ more) = (length first == 1) && (slice_index first 0 == byte)

-- the line is a rule's: its first field is `r`
abbrev pub is_rule_line : LineText → Bool
is_rule_line line = begin_with 114 (field_texts line.text)

-- the line is a contrary's: its first field is `c`
abbrev pub is_contrary_line : LineText → Bool
is_contrary_line line = begin_with 99 (field_texts line.text)

-- the line is a rule's or a contrary's, and as many of its kind as are allowed stand before it
abbrev pub IsOneTooMany : List LineText → LineText → Type 0
IsOneTooMany before here =
    ((is_rule_line here ≡ true) × (MAX_RULE_LINES ≤ count_by is_rule_line before))
    ⊎ ((is_contrary_line here ≡ true) × (MAX_CONTRARY_LINES ≤ count_by is_contrary_line before))

-- one of the lines says this
abbrev pub SaySome : ℕ → List LineText → Said → Type 0
SaySome count lines said = (line : LineText) × Contains lines line × SaysLine count line.text said

-- the lines make an atom an assumption and the head of a rule
pub record AreNotFlat (count : ℕ) (lines : List LineText) : Type 0 where
  pub x : ℕ
  pub body : List ℕ
  pub assumed : SaySome count lines (says_assumption x)
  pub heads : SaySome count lines (says_rule x body)

-- the cause stands on a line behind a header with this number of atoms, where these lines stand between the two
abbrev pub StandsOnLine : ℕ → List LineText → LineText → LineCause → Type 0
StandsOnLine count before here NoHeader = ⊥
StandsOnLine count before here WrongKind = ⊥
StandsOnLine count before here BadHeader = ⊥
StandsOnLine count before here SecondHeader = StandsOnFields count (field_texts here.text) SecondHeader
StandsOnLine count before here BadLine = StandsOnFields count (field_texts here.text) BadLine
StandsOnLine count before here BadNumber = StandsOnFields count (field_texts here.text) BadNumber
StandsOnLine count before here OutOfRange = StandsOnFields count (field_texts here.text) OutOfRange
StandsOnLine count before here TooManyLines = IsOneTooMany before here
StandsOnLine count before here NotFlat = AreNotFlat count (before ++ here ∷ [])
StandsOnLine count before here ContraryOfNonAssumption = ⊥

-- the cause stands at a line behind a header in which none stands
pub record IsLineFault (header : LineText) (others : List LineText) (line : ℕ) (cause : LineCause) : Type 0 where
  pub count : ℕ
  pub header_is : IsHeaderOf aba_word header.text count
  pub index : ℕ
  pub within : index < length others
  pub line_is : line ≡ (slice_index_or others index header).number
  pub stands : StandsOnLine count (take index others) (slice_index_or others index header) cause

-- the cause stands at the header's line or at one behind it
abbrev pub StandsAtLine : LineText → List LineText → ℕ → LineCause → Type 0
StandsAtLine header others line cause =
    IsHeaderFault aba_word af_word header line cause ⊎ IsLineFault header others line cause

-- no cause stands at any line, and the line gives a contrary to an atom of which no line says that it is an assumption
pub record IsStray (header : LineText) (others : List LineText) (line : ℕ) (cause : LineCause) : Type 0 where
  pub cause_is : cause ≡ ContraryOfNonAssumption
  pub no_other : (l : ℕ) (c : LineCause) → StandsAtLine header others l c → ⊥
  pub count : ℕ
  pub header_is : IsHeaderOf aba_word header.text count
  pub here : LineText
  pub there : Contains others here
  pub line_is : line ≡ here.number
  pub x : ℕ
  pub y : ℕ
  pub gives : SaysLine count here.text (says_contrary x y)
  pub not_assumed : SaySome count others (says_assumption x) → ⊥

-- the cause stands at the line, in a text of so many lines of which these are not skipped
abbrev pub StandsIn : ℕ → List LineText → ℕ → LineCause → Type 0
StandsIn size [] line cause = (line ≡ size + 1) × (cause ≡ NoHeader)
StandsIn size (header ∷ others) line cause = StandsAtLine header others line cause ⊎ IsStray header others line cause

-- the cause stands at the line of the bytes
abbrev pub HasFault : List ℕ → ℕ → LineCause → Type 0
HasFault bytes line cause = StandsIn (length (lines_of bytes)) (kept_lines bytes) line cause

-- the cause stands at the line, every other one at a later line or behind it in the order
pub record IsFirstFault (bytes : List ℕ) (line : ℕ) (cause : LineCause) : Type 0 where
  pub stands : HasFault bytes line cause
  pub first : (l : ℕ) (c : LineCause) → HasFault bytes l c → (line < l) ⊎ ((line ≡ l) × (rank cause ≤ rank c))

-- no cause stands at any line of the bytes
pub record IsFaultless (bytes : List ℕ) : Type 0 where
  pub none : (line : ℕ) (cause : LineCause) → HasFault bytes line cause → ⊥
