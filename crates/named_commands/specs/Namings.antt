-- The queries by names that words ask, and how they may end.
use Rattle.std.specs.Prelude.{◌≡◌, ◌⊎◌, ℕ, Bool, true, false, List, [], Contains, Option, Some, None, if◌then◌else◌, codes}
use Rattle.std.specs.Str.{bytes_eq}
use Rattle.argue_outside.specs.Outside.{KnownFile}
use Rattle.argue_outside.specs.declared.Role.TheVariants.{Framework}
use Rattle.iccma_tasks.specs.declared.task.Problem.{Problem}
use Rattle.iccma_tasks.specs.declared.task.Problem.TheVariants.{Credulous, Sceptical, SomeExtension, AllExtensions}
use Rattle.iccma_tasks.specs.declared.task.Task.{Task}
use Rattle.iccma_tasks.specs.Tasks.{Asked, all_tasks}
use Rattle.semantics.specs.Framework.{Af}
use Rattle.semantics.specs.Frameworks.{af}
use Rattle.apx_tgf.specs.Names.{AreDistinct, IsNumberOf}
use Rattle.apx_tgf.specs.NamedText.{ReadsAs}
use Rattle.apx_tgf.specs.declared.fault.ReadFault.{ReadFault as NamesFault}
use Rattle.apx_tgf.specs.declared.fault.ReadFault.TheVariants as fault
use Rattle.apx_tgf.specs.declared.format.NameFormat.{NameFormat}
use Rattle.apx_tgf.specs.declared.format.NameFormat.TheVariants.{Apx, Tgf}
use Rattle.argue_words.specs.Words.{NamesTexts}
use Rattle.argue_commands.specs.Inputs.{EndsReading, HasBytes, IsFirstFaultAs, Reading, named_input}
use Rattle.argue_commands.specs.Queries.{budget_of, first_named}
use Rattle.argue_commands.specs.Solves.{IsSessionOf}
use Rattle.argue_commands.specs.declared.ended.FaultCause.TheVariants.{Name}
use Rattle.argue_commands.specs.declared.ended.KeptSession.{KeptSession}
use Rattle.argue_commands.specs.declared.ended.Refusal.TheVariants.{Line, UnknownName}
use Rattle.argue_commands.specs.declared.ended.Status.{Status}
use Rattle.argue_commands.specs.declared.ended.Status.TheVariants.{InputRefused, WantOfMemory}
use Rattle.argue_commands.specs.declared.query.Solving.{Solving}
use Rattle.named_commands.specs.NamedTexts.{named_reply}
use Rattle.named_commands.specs.declared.naming.Naming.{Naming}

-- the format of a name
abbrev pub format_named : List ℕ → Option NameFormat
format_named text =
    if bytes_eq text (codes "apx") then Some Apx else (if bytes_eq text (codes "tgf") then Some Tgf else None)

-- DC and DS ask about an argument, SE and EE ask about none
abbrev pub fits_name : Problem → Option (List ℕ) → Bool
fits_name Credulous (Some name) = true
fits_name Credulous None = false
fits_name Sceptical (Some name) = true
fits_name Sceptical None = false
fits_name SomeExtension (Some name) = false
fits_name SomeExtension None = true
fits_name AllExtensions (Some name) = false
fits_name AllExtensions None = true

abbrev pub naming_with : Option NameFormat → Option Task → Option (List ℕ) → Option ℕ → Option Naming
naming_with (Some format) (Some task) name (Some budget) =
    if fits_name task.problem name then Some (record { format = format; task = task; budget = budget }) else None
naming_with _ _ _ _ = None

-- the query by names that the texts of its words ask, with its budget
unfoldable pub naming_by : NamesTexts → Option Naming
naming_by texts = naming_with (format_named texts.kind) (first_named all_tasks texts.task) texts.name
    (budget_of texts.budget)

-- ---- what is asked

-- the number is that of the argument that is asked about, where one is
abbrev pub IsNumberAsked : List (List ℕ) → Option (List ℕ) → Option ℕ → Type 0
IsNumberAsked names None None = Unit {0}
IsNumberAsked names (Some name) (Some number) = IsNumberOf names name number
IsNumberAsked names _ _ = ⊥

-- the query of numbers that the query by names asks
pub record IsAskedBy (names : List (List ℕ)) (task : Task) (name : Option (List ℕ)) (asked : Asked) : Type 0 where
  pub task_is : asked.task ≡ task
  pub number_is : IsNumberAsked names name asked.number

-- the name that is asked about is none of the names
pub record IsUnknown (names : List (List ℕ)) (name : Option (List ℕ)) (end : Status) : Type 0 where
  pub end_is : end ≡ InputRefused UnknownName
  pub unknown : List ℕ
  pub name_is : name ≡ Some unknown
  pub none : ¬ Contains names unknown

-- the query of numbers with its budget
abbrev pub solving_of : Naming → Asked → Solving
solving_of naming asked = record { query = asked; budget = naming.budget }

-- ---- how a query by names ends

-- the bytes read as a framework with these names, each of which has one number; the session is that of the query of
-- numbers on it; and the text is that of the session's answer, with the names of numbers in their place
pub record AnswersNamed (bytes : List ℕ) (naming : Naming) (name : Option (List ℕ)) (session : KeptSession)
    (text : List ℕ) : Type 0 where
  pub names : List (List ℕ)
  pub framework : Af
  pub reads : ReadsAs naming.format bytes names framework
  pub one_to_one : AreDistinct names
  pub asked : Asked
  pub asks : IsAskedBy names naming.task name asked
  pub is : IsSessionOf (af framework) (solving_of naming asked) session
  pub text_is : text ≡ named_reply names session.reply

-- the bytes read as a framework with names, and the name that is asked about is none of them
pub record AsksUnknown (bytes : List ℕ) (naming : Naming) (name : Option (List ℕ)) : Type 0 where
  pub names : List (List ℕ)
  pub framework : Af
  pub reads : ReadsAs naming.format bytes names framework
  pub unknown : List ℕ
  pub name_is : name ≡ Some unknown
  pub none : ¬ Contains names unknown

-- the framework with names that the file's bytes read as in the format
pub record IsNamedOf (known : KnownFile) (format : NameFormat) (names : List (List ℕ)) (framework : Af) : Type 0 where
  pub bytes : List ℕ
  pub has : HasBytes known bytes
  pub reads : ReadsAs format bytes names framework

-- the same of the bytes of a file
pub record AnswersNamedFile (known : KnownFile) (naming : Naming) (name : Option (List ℕ)) (session : KeptSession)
    (text : List ℕ) : Type 0 where
  pub bytes : List ℕ
  pub has : HasBytes known bytes
  pub answers : AnswersNamed bytes naming name session text

pub record AsksUnknownOf (known : KnownFile) (naming : Naming) (name : Option (List ℕ)) : Type 0 where
  pub bytes : List ℕ
  pub has : HasBytes known bytes
  pub asks : AsksUnknown bytes naming name

-- why a query by names on these bytes comes to no session
abbrev pub StopsNaming : List ℕ → Naming → Option (List ℕ) → Status → Type 0
StopsNaming bytes naming name (InputRefused (Line of line cause)) =
    (of ≡ Framework 1) × IsFirstFaultAs naming.format bytes line cause
StopsNaming bytes naming name (InputRefused UnknownName) = AsksUnknown bytes naming name
StopsNaming bytes naming name WantOfMemory = Unit {0}
StopsNaming bytes naming name _ = ⊥

-- why one on the bytes of a file does: by reading the file, for want of memory, or for its name
abbrev pub EndsNaming : Reading → Naming → NamesTexts → Status → Type 0
EndsNaming found naming texts end =
    EndsReading found (named_input naming.format texts.file) end
    ⊎ ((end ≡ InputRefused UnknownName) × AsksUnknownOf (found.holds texts.file) naming texts.name)

-- the status of a run whose framework has the fault
abbrev pub names_status : NamesFault → Status
names_status (fault.Line told) = InputRefused (Line (Framework 1) told.line (Name told.cause))
names_status fault.Memory = WantOfMemory
