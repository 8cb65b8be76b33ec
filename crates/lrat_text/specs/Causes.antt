-- The causes of faults: what is printed of each, and the order in which they are told.
use Rattle.std.specs.Prelude.{ℕ, ◌≤◌, List, codes}
use Rattle.lrat_text.specs.declared.fault.CnfCause.{CnfCause}
use Rattle.lrat_text.specs.declared.fault.CnfCause.TheVariants.{NoHeader, BadHeader, BadNumber, OutOfRange, ClauseCount}
use Rattle.lrat_text.specs.declared.fault.LratCause.{LratCause}
use Rattle.lrat_text.specs.declared.fault.LratCause.TheVariants.{BadLine, BadNumber as NoNumber, OutOfRange as Outside, IdOrder}

-- the names
abbrev pub cnf_cause_name : CnfCause → List ℕ
cnf_cause_name NoHeader = codes "NoHeader"
cnf_cause_name BadHeader = codes "BadHeader"
cnf_cause_name BadNumber = codes "BadNumber"
cnf_cause_name OutOfRange = codes "OutOfRange"
cnf_cause_name ClauseCount = codes "ClauseCount"

abbrev pub lrat_cause_name : LratCause → List ℕ
lrat_cause_name BadLine = codes "BadLine"
lrat_cause_name NoNumber = codes "BadNumber"
lrat_cause_name Outside = codes "OutOfRange"
lrat_cause_name IdOrder = codes "IdOrder"

-- where several causes stand on one line, the one of the lowest rank is told
abbrev pub cnf_rank : CnfCause → ℕ
cnf_rank NoHeader = 1
cnf_rank BadHeader = 2
cnf_rank BadNumber = 3
cnf_rank OutOfRange = 4
cnf_rank ClauseCount = 5

abbrev pub lrat_rank : LratCause → ℕ
lrat_rank BadLine = 1
lrat_rank NoNumber = 2
lrat_rank Outside = 3
lrat_rank IdOrder = 4

-- of the causes that stand, this one is told
pub record IsFirstCnfCause (Stands : CnfCause → Type 0) (cause : CnfCause) : Type 0 where
  pub stands : Stands cause
  pub first : (other : CnfCause) → Stands other → cnf_rank cause ≤ cnf_rank other

pub record IsFirstLratCause (Stands : LratCause → Type 0) (cause : LratCause) : Type 0 where
  pub stands : Stands cause
  pub first : (other : LratCause) → Stands other → lrat_rank cause ≤ lrat_rank other
