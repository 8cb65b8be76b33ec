-- The fault that is told of a text.
use Rattle.std.specs.Prelude.{◌≡◌, ℕ, ◌<◌, ◌≤◌, ◌⊎◌, Bool, false, List, ◌∷◌, ◌++◌, length, Contains, codes}
use Rattle.num_text.specs.Cuts.{LineText, lines_of}
use Rattle.semantics.specs.declared.argument.TheConstants.{MAX_ARGUMENT}
use Rattle.af_format.specs.declared.af_line.TheConstants.{MAX_ATTACK_LINES}
use Rattle.apx_tgf.specs.declared.format.NameFormat.{NameFormat}
use Rattle.apx_tgf.specs.declared.fault.NameCause.{NameCause}
use Rattle.apx_tgf.specs.declared.fault.NameCause.TheVariants.{BadLine, TooManyArguments, TooManyLines, UnknownName}
use Rattle.apx_tgf.specs.declared.fault.NameFault.{NameFault}
use Rattle.apx_tgf.specs.declared.fault.ReadFault.{ReadFault}
use Rattle.apx_tgf.specs.declared.fault.ReadFault.TheVariants.{Line, Memory}
use Rattle.apx_tgf.specs.Told.{Told, ToldAttack, Statement, IsWithinLimits, IsKnown, told_by, told_after_line}
use Rattle.apx_tgf.specs.NamedText.{SaysLine, AreSaid}

-- the name of a cause
abbrev pub cause_name : NameCause → List ℕ
cause_name BadLine = codes "BadLine"
cause_name TooManyArguments = codes "TooManyArguments"
cause_name TooManyLines = codes "TooManyLines"
cause_name UnknownName = codes "UnknownName"

-- where several causes stand on one line, the one of the lowest rank is told
abbrev pub rank : NameCause → ℕ
rank BadLine = 1
rank TooManyArguments = 2
rank TooManyLines = 3
rank UnknownName = 4

-- the line says something, of which P holds where so much is told before it
pub record SaysSo (format : NameFormat) (told : Told) (divided : Bool) (line : LineText)
    (P : Told → Type 0) : Type 0 where
  pub statements : List Statement
  pub after : Bool
  pub line_is : SaysLine format divided line statements after
  pub is : P (told_after_line told statements)

-- the cause stands at a line before which so much is told
abbrev pub StandsAt : NameFormat → Told → Bool → LineText → NameCause → Type 0
StandsAt format told divided line BadLine = (statements : List Statement) (after : Bool)
    → ¬ SaysLine format divided line statements after
StandsAt format told divided line TooManyArguments =
    SaysSo format told divided line (λ all. MAX_ARGUMENT < length all.names)
StandsAt format told divided line TooManyLines =
    SaysSo format told divided line (λ all. MAX_ATTACK_LINES < length all.attacks)
StandsAt format told divided line UnknownName = ⊥

-- of the causes that stand at the line, this one is told
pub record IsFirstCause (format : NameFormat) (told : Told) (divided : Bool) (line : LineText)
    (cause : NameCause) : Type 0 where
  pub stands : StandsAt format told divided line cause
  pub first : (other : NameCause) → StandsAt format told divided line other → rank cause ≤ rank other

-- the cause is told of the first of the lines at which one stands: those before it say something, within the limits
pub record IsLineFault (format : NameFormat) (lines : List LineText) (number : ℕ) (cause : NameCause) : Type 0 where
  pub before : List LineText
  pub bad : LineText
  pub after : List LineText
  pub lines_are : lines ≡ before ++ bad ∷ after
  pub says : List (List Statement)
  pub divided : Bool
  pub before_are : AreSaid format false before says divided
  pub few : IsWithinLimits (told_by says)
  pub number_is : number ≡ bad.number
  pub told : IsFirstCause format (told_by says) divided bad cause

-- the first of the attacks that has a name which isn't declared stands at this line
pub record IsFirstUnknown (names : List (List ℕ)) (attacks : List ToldAttack) (line : ℕ) : Type 0 where
  pub before : List ToldAttack
  pub unknown : ToldAttack
  pub after : List ToldAttack
  pub attacks_are : attacks ≡ before ++ unknown ∷ after
  pub known : (attack : ToldAttack) → Contains before attack → IsKnown names attack
  pub is_unknown : ¬ IsKnown names unknown
  pub line_is : line ≡ unknown.line

-- all lines say something, within the limits, and the first attack with a name that none of them declares stands at
-- this line
pub record IsUnknownName (format : NameFormat) (lines : List LineText) (line : ℕ) (cause : NameCause) : Type 0 where
  pub says : List (List Statement)
  pub last : Bool
  pub lines_are : AreSaid format false lines says last
  pub few : IsWithinLimits (told_by says)
  pub unknown : IsFirstUnknown (told_by says).names (told_by says).attacks line
  pub cause_is : cause ≡ UnknownName

-- the fault that is told of the bytes
abbrev pub IsFirstFault : NameFormat → List ℕ → ℕ → NameCause → Type 0
IsFirstFault format bytes line cause = IsLineFault format (lines_of bytes) line cause ⊎ IsUnknownName format
    (lines_of bytes) line cause

-- where the error tells a line's fault, it is one of which P holds
abbrev pub IfLine : ReadFault → (NameFault → Type 0) → Type 0
IfLine (Line fault) P = P fault
IfLine Memory P = Unit {0}
