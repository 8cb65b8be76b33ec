-- The exit status of each way to end.
use Rattle.std.specs.Prelude.{ℕ}
use Rattle.argue_commands.specs.declared.ended.Status.{Status}
use Rattle.argue_commands.specs.declared.ended.Status.TheVariants.{Done, Usage, InputRefused, ReadFault, WriteFault, WantOfMemory, Unknown, Limit, Rejected}

-- the number with which the process ends
abbrev pub code_of : Status → ℕ
code_of Done = 0
code_of Usage = 1
code_of (InputRefused refusal) = 2
code_of (ReadFault role) = 3
code_of WriteFault = 4
code_of WantOfMemory = 5
code_of Unknown = 6
code_of (Limit limit) = 7
code_of (Rejected rejection) = 8
