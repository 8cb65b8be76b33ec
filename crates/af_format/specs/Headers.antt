-- The header of a framework's text, `p`, the word of its kind and one number, and the faults of its line.
use Rattle.std.specs.Prelude.{◌≡◌, ℕ, ◌+◌, ◌≤◌, ◌<◌, List, [], ◌∷◌, length, codes}
use Rattle.num_text.specs.Cuts.{LineText, field_texts, lines_of}
use Rattle.num_text.specs.Lines.{kept, kept_lines}
use Rattle.num_text.specs.Number.{IsNumber}
use Rattle.semantics.specs.declared.argument.TheConstants.{MAX_ARGUMENT}
use Rattle.af_format.specs.declared.fault.LineCause.{LineCause}
use Rattle.af_format.specs.declared.fault.LineCause.TheVariants.{NoHeader, WrongKind, BadHeader, SecondHeader}
use Rattle.af_format.specs.declared.fault.LineCause.TheVariants.{BadLine, BadNumber, OutOfRange, TooManyLines}
use Rattle.af_format.specs.declared.fault.LineCause.TheVariants.{NotFlat, ContraryOfNonAssumption}
use Rattle.af_format.specs.Causes.{IsFirstCause}

-- the words of the two kinds
abbrev pub af_word : List ℕ
af_word = codes "af"

abbrev pub aba_word : List ℕ
aba_word = codes "aba"

-- the line is `p`, the word and n, of at most MAX_ARGUMENT
pub record IsHeaderOf (word : List ℕ) (line : List ℕ) (count : ℕ) : Type 0 where
  pub number : List ℕ
  pub fields : field_texts line ≡ codes "p" ∷ word ∷ number ∷ []
  pub number_is : IsNumber number count
  pub few : count ≤ MAX_ARGUMENT

-- the first field is `p`
abbrev pub BeginWithP : List (List ℕ) → Type 0
BeginWithP fields = (more : List (List ℕ)) × (fields ≡ codes "p" ∷ more)

-- the second field is the word
pub record HaveWord (word : List ℕ) (fields : List (List ℕ)) : Type 0 where
  pub first : List ℕ
  pub more : List (List ℕ)
  pub fields_are : fields ≡ first ∷ word ∷ more

-- the fields are `p`, the word and the number
pub record AreHeaderOf (word : List ℕ) (fields : List (List ℕ)) (n : ℕ) : Type 0 where
  pub number : List ℕ
  pub fields_are : fields ≡ codes "p" ∷ word ∷ number ∷ []
  pub number_is : IsNumber number n

-- the cause stands on the fields of the first line that is not skipped, in a text whose own kind has the one word and
-- the other kind the other
abbrev pub StandsOnHeader : List ℕ → List ℕ → List (List ℕ) → LineCause → Type 0
StandsOnHeader own other fields NoHeader = ¬ BeginWithP fields
StandsOnHeader own other fields WrongKind = HaveWord other fields
StandsOnHeader own other fields BadHeader = (n : ℕ) → ¬ AreHeaderOf own fields n
StandsOnHeader own other fields SecondHeader = ⊥
StandsOnHeader own other fields BadLine = ⊥
StandsOnHeader own other fields BadNumber = ⊥
StandsOnHeader own other fields OutOfRange = (n : ℕ) × AreHeaderOf own fields n × (MAX_ARGUMENT < n)
StandsOnHeader own other fields TooManyLines = ⊥
StandsOnHeader own other fields NotFlat = ⊥
StandsOnHeader own other fields ContraryOfNonAssumption = ⊥

-- the cause stands at the header's line
pub record IsHeaderFault (own other : List ℕ) (header : LineText) (line : ℕ) (cause : LineCause) : Type 0 where
  pub line_is : line ≡ header.number
  pub stands : StandsOnHeader own other (field_texts header.text) cause

-- of what stands on the first line of these that are not skipped, the cause is told; where there is no such line, of the
-- line behind all lines, of which there are so many
abbrev pub IsBadFirstLine : List ℕ → List ℕ → ℕ → List LineText → ℕ → LineCause → Type 0
IsBadFirstLine own other size [] line cause = (line ≡ size + 1) × (cause ≡ NoHeader)
IsBadFirstLine own other size (header ∷ others) line cause = (line ≡ header.number)
    × IsFirstCause (StandsOnHeader own other (field_texts header.text)) cause

-- the bytes have no header, and the cause is told of the line where it is missed
abbrev pub IsBadHeader : List ℕ → List ℕ → List ℕ → ℕ → LineCause → Type 0
IsBadHeader own other bytes line cause =
    IsBadFirstLine own other (length (lines_of bytes)) (kept_lines bytes) line cause

-- the bytes begin with a header of the word and of this number, and these lines stand behind it
pub record BeginWith (word : List ℕ) (bytes : List ℕ) (count : ℕ) (left : List LineText) : Type 0 where
  pub header : LineText
  pub lines : kept_lines bytes ≡ header ∷ kept left
  pub header_is : IsHeaderOf word header.text count
