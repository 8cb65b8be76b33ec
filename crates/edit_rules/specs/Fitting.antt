-- Which queries fit a framework, and why one doesn't.
use Rattle.std.specs.Prelude.{◌≡◌, ℕ, List, codes, Contains, Option, Some, None}
use Rattle.semantics.specs.Frameworks.{Framework, af, aba}
use Rattle.semantics.specs.AbaFrameworks.{IsAtom}
use Rattle.iccma_tasks.specs.Tasks.{Asked, IsTaskOf}
use Rattle.edit_rules.specs.Kinds.{kind_of}
use Rattle.edit_rules.specs.declared.query_fault.QueryFault.{QueryFault}
use Rattle.edit_rules.specs.declared.query_fault.QueryFault.TheVariants.{TaskNotForKind, UnknownArgument, UnknownAtom}

-- what a query with this number asks about is there
abbrev pub IsKnown : Framework → ℕ → Type 0
IsKnown (af f) n = Contains f.live n
IsKnown (aba f) n = IsAtom f.atoms n

-- frameworks of the kind have the task, and what is asked about is there
pub record Fits (f : Framework) (asked : Asked) : Type 0 where
  pub task : IsTaskOf (kind_of f) asked.task
  pub known : (n : ℕ) → asked.number ≡ Some n → IsKnown f n

-- frameworks of the kind have the task, and what is asked about isn't there
pub record AsksUnknown (f : Framework) (asked : Asked) (n : ℕ) : Type 0 where
  pub task : IsTaskOf (kind_of f) asked.task
  pub number : asked.number ≡ Some n
  pub unknown : ¬ IsKnown f n

-- the fault of a number that isn't there, by the kind
abbrev pub unknown_fault : Framework → ℕ → QueryFault
unknown_fault (af f) n = UnknownArgument n
unknown_fault (aba f) n = UnknownAtom n

-- the first fault of a query
abbrev pub IsFaultOf : Framework → Asked → QueryFault → Type 0
IsFaultOf f asked TaskNotForKind = ¬ IsTaskOf (kind_of f) asked.task
IsFaultOf (af f) asked (UnknownArgument n) = AsksUnknown (af f) asked n
IsFaultOf (af f) asked (UnknownAtom n) = ⊥
IsFaultOf (aba f) asked (UnknownArgument n) = ⊥
IsFaultOf (aba f) asked (UnknownAtom n) = AsksUnknown (aba f) asked n

-- the names of the faults, as they are printed
abbrev pub fault_name : QueryFault → List ℕ
fault_name TaskNotForKind = codes "TaskNotForKind"
fault_name (UnknownArgument n) = codes "UnknownArgument"
fault_name (UnknownAtom n) = codes "UnknownAtom"

-- the number that is printed behind the name
abbrev pub fault_number : QueryFault → Option ℕ
fault_number TaskNotForKind = None
fault_number (UnknownArgument n) = Some n
fault_number (UnknownAtom n) = Some n
