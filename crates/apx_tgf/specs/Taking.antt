-- What is told before and after a line is taken.
use Rattle.std.specs.Prelude.{◌≡◌, ℕ, ◌<◌, ◌≤◌, Bool, List, length}
use Rattle.num_text.specs.Cuts.{LineText}
use Rattle.apx_tgf.specs.declared.format.NameFormat.{NameFormat}
use Rattle.semantics.specs.declared.argument.TheConstants.{MAX_ARGUMENT}
use Rattle.af_format.specs.declared.af_line.TheConstants.{MAX_ATTACK_LINES}
use Rattle.apx_tgf.specs.declared.fault.NameCause.{NameCause}
use Rattle.apx_tgf.specs.declared.fault.NameFault.{NameFault}
use Rattle.apx_tgf.specs.declared.fault.NameCause.TheVariants.{BadLine, TooManyArguments, TooManyLines, UnknownName}
use Rattle.apx_tgf.specs.declared.fault.ReadFault.{ReadFault}
use Rattle.apx_tgf.specs.Told.{Told, Statement, told_after, told_after_line}
use Rattle.apx_tgf.specs.ApxText.{Fact, IsApxLine, statement_of}
use Rattle.apx_tgf.specs.Facts.{BeginWithFact, BeginWithNoFact}
use Rattle.apx_tgf.specs.NamedText.{SaysLine}
use Rattle.apx_tgf.specs.Faults.{IfLine}

-- the fact that the tokens begin with is told of this line, and the other tokens are left
pub record TakesFact (line : ℕ) (tokens left : List (List ℕ)) (old new : Told) : Type 0 where
  pub fact : Fact
  pub begins : BeginWithFact tokens fact left
  pub new_is : new ≡ told_after old (statement_of line fact)

-- the error, where it tells a line's fault, tells that this line is bad, and P holds
abbrev pub IsBadLine : ℕ → Type 0 → ReadFault → Type 0
IsBadLine line P e = IfLine e (λ fault. (fault.line ≡ line) × (fault.cause ≡ BadLine) × P)

-- that the tokens begin with no fact
abbrev pub IsNoFactFault : ℕ → List (List ℕ) → ReadFault → Type 0
IsNoFactFault line tokens e = IsBadLine line (BeginWithNoFact tokens) e

-- what the line says is told
pub record TakesLine (format : NameFormat) (divided : Bool) (line : LineText) (old new : Told)
    (after : Bool) : Type 0 where
  pub statements : List Statement
  pub line_is : SaysLine format divided line statements after
  pub new_is : new ≡ told_after_line old statements

-- the line says nothing that a line may say, and is told as a bad one
abbrev pub IsNoLine : NameFormat → Bool → LineText → ReadFault → Type 0
IsNoLine format divided line e = IsBadLine line.number
    ((statements : List Statement) (after : Bool) → ¬ SaysLine format divided line statements after) e

-- the same of a line of an APX text
pub record TakesApxLine (line : LineText) (old new : Told) : Type 0 where
  pub statements : List Statement
  pub line_is : IsApxLine line statements
  pub new_is : new ≡ told_after_line old statements

abbrev pub IsNoApxLine : LineText → ReadFault → Type 0
IsNoApxLine line e = IsBadLine line.number ((statements : List Statement) → ¬ IsApxLine line statements) e

-- what is told passes a limit, of which the first is told at this line
abbrev pub IsOver : NameCause → Told → Type 0
IsOver BadLine told = ⊥
IsOver TooManyArguments told = MAX_ARGUMENT < length told.names
IsOver TooManyLines told = (length told.names ≤ MAX_ARGUMENT) × (MAX_ATTACK_LINES < length told.attacks)
IsOver UnknownName told = ⊥

pub record IsOverLimit (told : Told) (line : ℕ) (fault : NameFault) : Type 0 where
  pub line_is : fault.line ≡ line
  pub over : IsOver fault.cause told
