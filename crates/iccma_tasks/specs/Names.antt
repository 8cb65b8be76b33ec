-- The names of causes, as they are printed.
use Rattle.std.specs.Prelude.{ℕ, List, codes}
use Rattle.iccma_tasks.specs.declared.fault.AnswerCause.{AnswerCause}
use Rattle.iccma_tasks.specs.declared.fault.AnswerCause.TheVariants.{Empty, BadLine, BadNumber, NotRising}

abbrev pub cause_name : AnswerCause → List ℕ
cause_name Empty = codes "Empty"
cause_name BadLine = codes "BadLine"
cause_name BadNumber = codes "BadNumber"
cause_name NotRising = codes "NotRising"
