-- The tasks by name, and which queries there are.
use Rattle.std.specs.Prelude.{ℕ, List, [], ◌∷◌, ◌++◌, codes, map, Option, Some, None}
use Rattle.std.specs.List.{join_with_byte}
use Rattle.iccma_tasks.specs.declared.task.Problem.{Problem}
use Rattle.iccma_tasks.specs.declared.task.Problem.TheVariants.{Credulous, Sceptical, SomeExtension, AllExtensions}
use Rattle.iccma_tasks.specs.declared.task.Semantics.{Semantics}
use Rattle.iccma_tasks.specs.declared.task.Semantics.TheVariants.{Complete, Grounded, Preferred, Stable, SemiStable, Ideal, Stage}
use Rattle.iccma_tasks.specs.declared.task.Kind.{Kind}
use Rattle.iccma_tasks.specs.declared.task.Kind.TheVariants.{Af, Aba}
use Rattle.iccma_tasks.specs.declared.task.Task.{Task}
use Rattle.iccma_tasks.specs.declared.task.TaskFault.{TaskFault}
use Rattle.iccma_tasks.specs.declared.task.TaskFault.TheVariants.{UnknownTask}

abbrev pub problem_name : Problem → List ℕ
problem_name Credulous = codes "DC"
problem_name Sceptical = codes "DS"
problem_name SomeExtension = codes "SE"
problem_name AllExtensions = codes "EE"

abbrev pub semantics_name : Semantics → List ℕ
semantics_name Complete = codes "CO"
semantics_name Grounded = codes "GR"
semantics_name Preferred = codes "PR"
semantics_name Stable = codes "ST"
semantics_name SemiStable = codes "SST"
semantics_name Ideal = codes "ID"
semantics_name Stage = codes "STG"

-- the two names with a dash between
abbrev pub task_name : Task → List ℕ
task_name task = problem_name task.problem ++ codes "-" ++ semantics_name task.semantics

abbrev pub task_of : Problem → Semantics → Task
task_of problem semantics = record { problem = problem; semantics = semantics }

-- frameworks of that kind have the task: all problems by all semantics, but that single sets are not enumerated, and
-- assumption-based frameworks have no semi-stable and stage sets
abbrev pub HasTask : Kind → Problem → Semantics → Type 0
HasTask _ AllExtensions Grounded = ⊥
HasTask _ AllExtensions Ideal = ⊥
HasTask Aba _ SemiStable = ⊥
HasTask Aba _ Stage = ⊥
HasTask _ _ _ = Unit {0}

abbrev pub IsTaskOf : Kind → Task → Type 0
IsTaskOf kind task = HasTask kind task.problem task.semantics

-- abstract frameworks have each task that there is
abbrev pub IsTask : Task → Type 0
IsTask task = IsTaskOf Af task

-- the tasks of a problem under these semantics, in order
abbrev pub tasks_of : Problem → List Semantics → List Task
tasks_of problem list = map (task_of problem) list

abbrev pub all_semantics : List Semantics
all_semantics = Complete ∷ Grounded ∷ Preferred ∷ Stable ∷ SemiStable ∷ Ideal ∷ Stage ∷ []

-- the semantics that may have several extensions
abbrev pub plural_semantics : List Semantics
plural_semantics = Complete ∷ Preferred ∷ Stable ∷ SemiStable ∷ Stage ∷ []

-- all tasks: DC, DS, SE, each by CO, GR, PR, ST, SST, ID, STG, and EE by CO, PR, ST, SST, STG
abbrev pub all_tasks : List Task
all_tasks = tasks_of Credulous all_semantics ++ tasks_of Sceptical all_semantics ++ tasks_of SomeExtension all_semantics
    ++ tasks_of AllExtensions plural_semantics

-- the names of all tasks in this order, with commas between, in brackets, and LF
abbrev pub tasks_line : List ℕ
tasks_line = codes "[" ++ join_with_byte 44 (map task_name all_tasks) ++ codes "]\n"

abbrev pub fault_name : TaskFault → List ℕ
fault_name UnknownTask = codes "UnknownTask"

-- a task, and a number or none
pub record Asked : Type 0 where
  pub task : Task
  pub number : Option ℕ

-- DC and DS ask about a number, SE and EE ask about none
abbrev pub FitsTask : Problem → Option ℕ → Type 0
FitsTask Credulous (Some n) = Unit {0}
FitsTask Credulous None = ⊥
FitsTask Sceptical (Some n) = Unit {0}
FitsTask Sceptical None = ⊥
FitsTask SomeExtension (Some n) = ⊥
FitsTask SomeExtension None = Unit {0}
FitsTask AllExtensions (Some n) = ⊥
FitsTask AllExtensions None = Unit {0}
