-- The faults of a framework's text: which cause stands at which line, and which is told.
use Rattle.std.specs.Prelude.{◌≡◌, ℕ, ◌+◌, ◌<◌, ◌≤◌, ◌⊎◌, List, [], ◌∷◌, length, Contains, slice_index_or}
use Rattle.num_text.specs.Cuts.{LineText, field_texts, lines_of}
use Rattle.num_text.specs.Number.{IsNumber}
use Rattle.af_format.specs.declared.af_line.TheConstants.{MAX_ATTACK_LINES}
use Rattle.af_format.specs.declared.fault.LineCause.{LineCause}
use Rattle.af_format.specs.declared.fault.LineCause.TheVariants.{NoHeader, WrongKind, BadHeader, SecondHeader}
use Rattle.af_format.specs.declared.fault.LineCause.TheVariants.{BadLine, BadNumber, OutOfRange, TooManyLines}
use Rattle.af_format.specs.declared.fault.LineCause.TheVariants.{NotFlat, ContraryOfNonAssumption}
use Rattle.af_format.specs.declared.fault.LineFault.{LineFault}
use Rattle.af_format.specs.declared.fault.ReadFault.{ReadFault}
use Rattle.af_format.specs.declared.fault.ReadFault.TheVariants.{Line, Memory}
use Rattle.num_text.specs.Lines.{kept_lines}
use Rattle.af_format.specs.AfText.{IsHeader}
use Rattle.af_format.specs.Headers.{af_word, aba_word, BeginWithP, IsHeaderFault}
use Rattle.af_format.specs.Causes.{rank}

-- some field is no number
pub record HaveNoNumber (fields : List (List ℕ)) : Type 0 where
  pub field : List ℕ
  pub member : Contains fields field
  pub none : (n : ℕ) → ¬ IsNumber field n

-- some field is a number outside 1 to n
pub record HaveOutsider (count : ℕ) (fields : List (List ℕ)) : Type 0 where
  pub field : List ℕ
  pub member : Contains fields field
  pub n : ℕ
  pub number_is : IsNumber field n
  pub outside : (n < 1) ⊎ (count < n)

-- the cause stands on the fields of a line behind a header with this number of arguments, where so many
-- lines that are not skipped stand between the two
abbrev pub StandsOnAttack : ℕ → ℕ → List (List ℕ) → LineCause → Type 0
StandsOnAttack count index fields NoHeader = ⊥
StandsOnAttack count index fields WrongKind = ⊥
StandsOnAttack count index fields BadHeader = ⊥
StandsOnAttack count index fields SecondHeader = BeginWithP fields
StandsOnAttack count index fields BadLine = (b a : List ℕ) → ¬ (fields ≡ b ∷ a ∷ [])
StandsOnAttack count index fields BadNumber = HaveNoNumber fields
StandsOnAttack count index fields OutOfRange = HaveOutsider count fields
StandsOnAttack count index fields TooManyLines = MAX_ATTACK_LINES ≤ index
StandsOnAttack count index fields NotFlat = ⊥
StandsOnAttack count index fields ContraryOfNonAssumption = ⊥

-- the cause stands at a line behind a header in which none stands
pub record IsAttackFault (header : LineText) (others : List LineText) (line : ℕ) (cause : LineCause) : Type 0 where
  pub count : ℕ
  pub header_is : IsHeader header.text count
  pub index : ℕ
  pub within : index < length others
  pub line_is : line ≡ (slice_index_or others index header).number
  pub stands : StandsOnAttack count index (field_texts (slice_index_or others index header).text) cause

-- the cause stands at the line, in a text of so many lines of which these are not skipped
abbrev pub StandsIn : ℕ → List LineText → ℕ → LineCause → Type 0
StandsIn size [] line cause = (line ≡ size + 1) × (cause ≡ NoHeader)
StandsIn size (header ∷ others) line cause = IsHeaderFault af_word aba_word header line cause ⊎ IsAttackFault header
    others line cause

-- the cause stands at the line of the bytes
abbrev pub HasFault : List ℕ → ℕ → LineCause → Type 0
HasFault bytes line cause = StandsIn (length (lines_of bytes)) (kept_lines bytes) line cause

-- the cause stands at the line, every other one at a later line or behind it in the order
pub record IsFirstFault (bytes : List ℕ) (line : ℕ) (cause : LineCause) : Type 0 where
  pub stands : HasFault bytes line cause
  pub first : (l : ℕ) (c : LineCause) → HasFault bytes l c → (line < l) ⊎ ((line ≡ l) × (rank cause ≤ rank c))

-- no cause stands at any line of the bytes
pub record IsFaultless (bytes : List ℕ) : Type 0 where
  pub none : (line : ℕ) (cause : LineCause) → HasFault bytes line cause → ⊥

-- where the error tells a line's fault, it is one of which P holds
abbrev pub IfLine : ReadFault → (LineFault → Type 0) → Type 0
IfLine (Line fault) P = P fault
IfLine Memory P = Unit {0}
