-- The faults of a script's text: which cause stands at which line, and which is told.
use Rattle.std.specs.Prelude.{◌≡◌, ℕ, ◌+◌, ◌<◌, ◌≤◌, ◌⊎◌, List, [], ◌∷◌, ◌++◌, length, Contains, codes}
use Rattle.std.specs.List.{AllZip}
use Rattle.num_text.specs.Cuts.{LineText, field_texts, lines_of}
use Rattle.num_text.specs.Lines.{kept_lines}
use Rattle.num_text.specs.Number.{IsNumber}
use Rattle.iccma_tasks.specs.declared.task.Problem.{Problem}
use Rattle.iccma_tasks.specs.declared.task.Problem.TheVariants.{Credulous, Sceptical, SomeExtension, AllExtensions}
use Rattle.iccma_tasks.specs.declared.task.Task.{Task}
use Rattle.iccma_tasks.specs.AnswerText.{behind_first}
use Rattle.iccma_tasks.specs.Tasks.{IsTask, task_name}
use Rattle.edit_rules.specs.declared.edit.Edit.{Edit}
use Rattle.edit_rules.specs.declared.edit.TheConstants.{MAX_GROUP}
use Rattle.script_text.specs.declared.edit_word.EditWord.{EditWord}
use Rattle.script_text.specs.declared.fault.ScriptCause.{ScriptCause}
use Rattle.script_text.specs.declared.fault.ScriptCause.TheVariants.{BadSession, BadCommand, BadTask, BadNumber}
use Rattle.script_text.specs.declared.fault.ScriptCause.TheVariants.{BadQuery, EmptyGroup, GroupTooLong, OpenGroup}
use Rattle.script_text.specs.declared.fault.ScriptCause.TheVariants.{BadFramework}
use Rattle.script_text.specs.declared.fault.ScriptFault.{ScriptFault}
use Rattle.script_text.specs.declared.fault.ScriptFault.TheVariants.{At, Memory}
use Rattle.script_text.specs.declared.open_groups.Place.{Place}
use Rattle.script_text.specs.declared.open_groups.Place.TheVariants.{Unbegun, Between, Inside}
use Rattle.script_text.specs.Changes.{change_name, Takes}
use Rattle.script_text.specs.declared.text_line.TextLine.{TextLine}
use Rattle.script_text.specs.Groups.{Places, after_lines, all_unbegun}
use Rattle.script_text.specs.ScriptText.{AreTextLines, SpellsSession}
use Rattle.script_text.specs.Uses.{IsAmong}

-- the name of a cause
abbrev pub cause_name : ScriptCause → List ℕ
cause_name BadSession = codes "BadSession"
cause_name BadCommand = codes "BadCommand"
cause_name BadTask = codes "BadTask"
cause_name BadNumber = codes "BadNumber"
cause_name BadQuery = codes "BadQuery"
cause_name OpenGroup = codes "OpenGroup"
cause_name GroupTooLong = codes "GroupTooLong"
cause_name EmptyGroup = codes "EmptyGroup"
cause_name BadFramework = codes "BadFramework"

-- where several causes stand on one line, the one of the lowest rank is told
abbrev pub rank : ScriptCause → ℕ
rank BadSession = 1
rank BadCommand = 2
rank BadTask = 3
rank BadNumber = 4
rank BadQuery = 5
rank OpenGroup = 6
rank GroupTooLong = 7
rank EmptyGroup = 8
rank BadFramework = 9

-- of the causes that stand, this one is told
pub record IsFirstCause (Stands : ScriptCause → Type 0) (cause : ScriptCause) : Type 0 where
  pub stands : Stands cause
  pub first : (other : ScriptCause) → Stands other → rank cause ≤ rank other

-- the first field is the number of a session
pub record BeginWithSession (fields : List (List ℕ)) : Type 0 where
  pub text : List ℕ
  pub others : List (List ℕ)
  pub fields_are : fields ≡ text ∷ others
  pub session : ℕ
  pub session_is : SpellsSession text session

-- the name of a command that changes the framework, and as many fields as it takes
pub record HaveChangeForm (fields : List (List ℕ)) : Type 0 where
  pub change : EditWord
  pub arguments : List (List ℕ)
  pub fields_are : fields ≡ change_name change ∷ arguments
  pub takes : Takes change (length arguments)

-- `ask`, a field, and another one or none
pub record HaveAskForm (fields : List (List ℕ)) : Type 0 where
  pub task : List ℕ
  pub arguments : List (List ℕ)
  pub fields_are : fields ≡ codes "ask" ∷ task ∷ arguments
  pub few : length arguments ≤ 1

-- `begin` or `end` alone
abbrev pub HaveMarkForm : List (List ℕ) → Type 0
HaveMarkForm fields = (fields ≡ codes "begin" ∷ []) ⊎ (fields ≡ codes "end" ∷ [])

-- `use` and a field
pub record HaveUseForm (fields : List (List ℕ)) : Type 0 where
  pub arguments : List (List ℕ)
  pub fields_are : fields ≡ codes "use" ∷ arguments
  pub one : length arguments ≡ 1

-- a command's name, and as many fields as it takes
abbrev pub HaveForm : List (List ℕ) → Type 0
HaveForm fields = HaveChangeForm fields ⊎ (HaveAskForm fields ⊎ (HaveMarkForm fields ⊎ HaveUseForm fields))

-- what is asked is no task's name
pub record HaveUnknownTask (fields : List (List ℕ)) : Type 0 where
  pub form : HaveAskForm fields
  pub unknown : (task : Task) → IsTask task → ¬ (task_name task ≡ form.task)

-- some of the fields is no number
pub record HaveNoNumber (fields : List (List ℕ)) : Type 0 where
  pub field : List ℕ
  pub member : Contains fields field
  pub none : (n : ℕ) → ¬ IsNumber field n

-- DC and DS ask about one number, SE and EE about none
abbrev pub asks_about : Problem → ℕ
asks_about Credulous = 1
asks_about Sceptical = 1
asks_about SomeExtension = 0
asks_about AllExtensions = 0

-- a task is asked with a number too few or too many
pub record HaveUnfitTask (fields : List (List ℕ)) : Type 0 where
  pub form : HaveAskForm fields
  pub task : Task
  pub task_is : IsTask task
  pub named : task_name task ≡ form.task
  pub unfit : ¬ (length form.arguments ≡ asks_about task.problem)

-- the cause stands on the fields behind the session's number
abbrev pub StandsOnCommand : List (List ℕ) → ScriptCause → Type 0
StandsOnCommand fields BadSession = ⊥
StandsOnCommand fields BadCommand = ¬ HaveForm fields
StandsOnCommand fields BadTask = HaveUnknownTask fields
StandsOnCommand fields BadNumber = ((form : HaveChangeForm fields) × HaveNoNumber form.arguments)
    ⊎ (((form : HaveAskForm fields) × HaveNoNumber form.arguments)
    ⊎ ((form : HaveUseForm fields) × HaveNoNumber form.arguments))
StandsOnCommand fields BadQuery = HaveUnfitTask fields
StandsOnCommand fields OpenGroup = ⊥
StandsOnCommand fields GroupTooLong = ⊥
StandsOnCommand fields EmptyGroup = ⊥
StandsOnCommand fields BadFramework = ⊥

-- the cause stands on the fields of a line
abbrev pub StandsOn : List (List ℕ) → ScriptCause → Type 0
StandsOn fields BadSession = ¬ BeginWithSession fields
StandsOn fields cause = StandsOnCommand (behind_first fields) cause

-- ---- frameworks

-- `use` and the number of a framework that is none of so many
pub record HaveStrayUse (frameworks : ℕ) (fields : List (List ℕ)) : Type 0 where
  pub form : HaveUseForm fields
  pub number : ℕ
  pub spelled : AllZip IsNumber form.arguments (number ∷ [])
  pub stray : ¬ IsAmong frameworks number

-- the cause stands on the fields of a line where there are so many frameworks
abbrev pub StandsAmong : ℕ → List (List ℕ) → ScriptCause → Type 0
StandsAmong frameworks fields cause = (cause ≡ BadFramework) × HaveStrayUse frameworks (behind_first fields)

-- ---- where sessions stand

-- the name of a command that may not stand where its session stands
abbrev pub IsMisplacedName : Place → List ℕ → Type 0
IsMisplacedName Unbegun name = name ≡ codes "end"
IsMisplacedName Between name = (name ≡ codes "end") ⊎ (name ≡ codes "use")
IsMisplacedName (Inside edits) name = (name ≡ codes "ask") ⊎ ((name ≡ codes "begin") ⊎ (name ≡ codes "use"))

-- the fields begin with such a name
pub record IsMisplaced (place : Place) (fields : List (List ℕ)) : Type 0 where
  pub name : List ℕ
  pub others : List (List ℕ)
  pub fields_are : fields ≡ name ∷ others
  pub misplaced : IsMisplacedName place name

-- an edit more than a group may have
abbrev pub IsTooMany : Place → List (List ℕ) → Type 0
IsTooMany Unbegun fields = ⊥
IsTooMany Between fields = ⊥
IsTooMany (Inside edits) fields = HaveChangeForm fields × (MAX_GROUP ≤ length edits)

-- the cause stands on the fields behind the session's number, by where the session stands
abbrev pub StandsAtPlace : Place → List (List ℕ) → ScriptCause → Type 0
StandsAtPlace place fields BadSession = ⊥
StandsAtPlace place fields BadCommand = IsMisplaced place fields
StandsAtPlace place fields BadTask = ⊥
StandsAtPlace place fields BadNumber = ⊥
StandsAtPlace place fields BadQuery = ⊥
StandsAtPlace place fields OpenGroup = ⊥
StandsAtPlace place fields GroupTooLong = IsTooMany place fields
StandsAtPlace place fields EmptyGroup = (fields ≡ codes "end" ∷ []) × (place ≡ Inside [])
StandsAtPlace place fields BadFramework = ⊥

-- the cause stands on the fields of a line by where the line's session stands
pub record StandsByPlace (places : Places) (fields : List (List ℕ)) (cause : ScriptCause) : Type 0 where
  pub session : ℕ
  pub text : List ℕ
  pub others : List (List ℕ)
  pub fields_are : fields ≡ text ∷ others
  pub session_is : SpellsSession text session
  pub stands : StandsAtPlace (places session) others cause

-- the cause stands on the fields of a line by where the lines before it leave its session
pub record StandsBehind (before : List LineText) (fields : List (List ℕ)) (cause : ScriptCause) : Type 0 where
  pub read : List TextLine
  pub are_lines : AreTextLines before read
  pub stands : StandsByPlace (after_lines read all_unbegun) fields cause

-- ---- the text

-- the cause stands on the fields of a line behind others, where there are so many frameworks
abbrev pub StandsThere : ℕ → List LineText → List (List ℕ) → ScriptCause → Type 0
StandsThere frameworks before fields cause =
    StandsOn fields cause ⊎ (StandsBehind before fields cause ⊎ StandsAmong frameworks fields cause)

-- the cause stands at one of the lines, the line of this number
pub record StandsAt (frameworks : ℕ) (lines : List LineText) (number : ℕ) (cause : ScriptCause) : Type 0 where
  pub before : List LineText
  pub line : LineText
  pub behind : List LineText
  pub lines_are : lines ≡ before ++ line ∷ behind
  pub number_is : number ≡ line.number
  pub stands : StandsThere frameworks before (field_texts line.text) cause

-- a group is open behind the last line; this is told at the number of all lines and one more
pub record IsLeftOpen (bytes : List ℕ) (number : ℕ) : Type 0 where
  pub read : List TextLine
  pub are_lines : AreTextLines (kept_lines bytes) read
  pub session : ℕ
  pub edits : List Edit
  pub left : after_lines read all_unbegun session ≡ Inside edits
  pub number_is : number ≡ length (lines_of bytes) + 1

-- the cause stands at the line of the bytes, where there are so many frameworks
abbrev pub Stands : ℕ → List ℕ → ℕ → ScriptCause → Type 0
Stands frameworks bytes number cause =
    StandsAt frameworks (kept_lines bytes) number cause ⊎ ((cause ≡ OpenGroup) × IsLeftOpen bytes number)

-- the cause stands at the line of the bytes, every other one at a later line or behind it in the order
pub record IsFirstFault (frameworks : ℕ) (bytes : List ℕ) (number : ℕ) (cause : ScriptCause) : Type 0 where
  pub stands : Stands frameworks bytes number cause
  pub first : (l : ℕ) (c : ScriptCause) → Stands frameworks bytes l c
      → (number < l) ⊎ ((number ≡ l) × (rank cause ≤ rank c))

-- where the fault is that of a line, it is the first
abbrev pub IsToldOf : ℕ → List ℕ → ScriptFault → Type 0
IsToldOf frameworks bytes (At line cause) = IsFirstFault frameworks bytes line cause
IsToldOf frameworks bytes Memory = Unit {0}

-- no cause stands at any line of the bytes
pub record IsFaultless (frameworks : ℕ) (bytes : List ℕ) : Type 0 where
  pub none : (line : ℕ) (cause : ScriptCause) → Stands frameworks bytes line cause → ⊥
