-- The causes of a line's fault: what is printed of each, and the order in which they are told.
use Rattle.std.specs.Prelude.{ℕ, ◌≤◌, List, codes}
use Rattle.af_format.specs.declared.fault.LineCause.{LineCause}
use Rattle.af_format.specs.declared.fault.LineCause.TheVariants.{NoHeader, WrongKind, BadHeader, SecondHeader, BadLine, BadNumber, OutOfRange, TooManyLines, NotFlat, ContraryOfNonAssumption}

-- the name of a cause
abbrev pub cause_name : LineCause → List ℕ
cause_name NoHeader = codes "NoHeader"
cause_name WrongKind = codes "WrongKind"
cause_name BadHeader = codes "BadHeader"
cause_name SecondHeader = codes "SecondHeader"
cause_name BadLine = codes "BadLine"
cause_name BadNumber = codes "BadNumber"
cause_name OutOfRange = codes "OutOfRange"
cause_name TooManyLines = codes "TooManyLines"
cause_name NotFlat = codes "NotFlat"
cause_name ContraryOfNonAssumption = codes "ContraryOfNonAssumption"

-- where several causes stand on one line, the one of the lowest rank is told
abbrev pub rank : LineCause → ℕ
rank NoHeader = 1
rank WrongKind = 2
rank BadHeader = 3
rank SecondHeader = 4
rank BadLine = 5
rank BadNumber = 6
rank OutOfRange = 7
rank TooManyLines = 8
rank NotFlat = 9
rank ContraryOfNonAssumption = 10

-- of the causes that stand, this one is told
pub record IsFirstCause (Stands : LineCause → Type 0) (cause : LineCause) : Type 0 where
  pub stands : Stands cause
  pub first : (other : LineCause) → Stands other → rank cause ≤ rank other
