-- Why a commit adds nothing to a history.
use Rattle.std.specs.Prelude.{ℕ}
use Rattle.edit_groups.specs.declared.taking.GroupFault.{GroupFault}
use Rattle.edit_groups.specs.declared.taking.GroupFault.TheVariants.{Edit as OfGroup, Memory as NoMemory}
use Rattle.edit_history.specs.declared.fault.CommitFault.{CommitFault}
use Rattle.edit_history.specs.declared.fault.CommitFault.TheVariants.{Edit as Refused, Memory}

-- a framework's fault, at a front
abbrev pub fault_of : GroupFault → ℕ → CommitFault
fault_of (OfGroup place why) front = Refused place why front
fault_of NoMemory front = Memory
