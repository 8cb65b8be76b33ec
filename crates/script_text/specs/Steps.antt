-- How reading goes on from field to field and from line to line.
use Rattle.std.specs.Prelude.{◌≡◌, ◌⊎◌, ℕ, ◌≤◌, List, ◌∷◌, ◌++◌, length}
use Rattle.num_text.specs.Cuts.{LineText, field_texts}
use Rattle.edit_rules.specs.declared.edit.Edit.{Edit}
use Rattle.edit_rules.specs.declared.edit.TheConstants.{MAX_GROUP}
use Rattle.script_text.specs.declared.fault.LineStop.{LineStop}
use Rattle.script_text.specs.declared.fault.LineStop.TheVariants.{Wrong, Memory}
use Rattle.script_text.specs.declared.fault.ScriptCause.{ScriptCause}
use Rattle.script_text.specs.declared.fault.ScriptCause.TheVariants.{BadCommand, BadFramework, EmptyGroup, GroupTooLong}
use Rattle.script_text.specs.declared.fault.ScriptFault.{ScriptFault}
use Rattle.script_text.specs.declared.fault.ScriptFault.TheVariants.{At, Memory as Refused}
use Rattle.script_text.specs.declared.open_groups.OpenGroups.{OpenGroups}
use Rattle.script_text.specs.declared.open_groups.Place.TheVariants.{Inside}
use Rattle.script_text.specs.declared.script.Script.{Script}
use Rattle.script_text.specs.declared.text_line.LineCommand.{LineCommand}
use Rattle.script_text.specs.declared.text_line.LineCommand.TheVariants.{Ask, Begin, Edit as change_by, End, Use as on}
use Rattle.script_text.specs.declared.text_line.TextLine.{TextLine}
use Rattle.script_text.specs.Groups.{FitPlaces, FitsPlace, Places, after_lines, commands_of, all_unbegun}
use Rattle.script_text.specs.ScriptFaults.{IsFirstCause, StandsAmong, StandsByPlace, StandsOn}
use Rattle.script_text.specs.ScriptText.{AreTextLines, IsTextLine, SpellsSession}
use Rattle.script_text.specs.Sizes.{place_at}
use Rattle.script_text.specs.Uses.{AreAmong, used_at, uses_of}

-- where the line is wrong, its cause is one of which P holds
abbrev pub IfWrong : LineStop → (ScriptCause → Type 0) → Type 0
IfWrong (Wrong cause) P = P cause
IfWrong Memory P = Unit {0}

-- the first of the fields names the session, and the others are left
pub record TakesSession (before : List (List ℕ)) (session : ℕ) (after : List (List ℕ)) : Type 0 where
  pub text : List ℕ
  pub fields_are : before ≡ text ∷ after
  pub session_is : SpellsSession text session

-- the next line says this, and the others are left
pub record TellsNext (before after : List LineText) (told : TextLine) : Type 0 where
  pub line : LineText
  pub lines_are : before ≡ line ∷ after
  pub told_is : IsTextLine line.text told

-- ---- where sessions stand

abbrev pub places_of : OpenGroups → Places
places_of open_groups s = place_at open_groups.places.items s

-- a line, by its parts
abbrev pub line_by : ℕ → LineCommand → TextLine
line_by session command = record { session = session; command = command }

-- the line may stand where the sessions stand so
abbrev pub FitsIn : Places → TextLine → Type 0
FitsIn places line = FitsPlace line.command (places line.session)

-- the cause is that of a line behind so many edits of a group
abbrev pub BreaksLimit : LineCommand → ℕ → ScriptCause → Type 0
BreaksLimit (change_by edit) count cause = (MAX_GROUP ≤ count) × (cause ≡ GroupTooLong)
BreaksLimit (Ask asked) count cause = ⊥
BreaksLimit Begin count cause = ⊥
BreaksLimit End count cause = (count ≡ 0) × (cause ≡ EmptyGroup)
BreaksLimit (on framework) count cause = ⊥

-- the cause is that of a line by the number of edits of its session's group
pub record BreaksIn (places : Places) (line : TextLine) (cause : ScriptCause) : Type 0 where
  pub edits : List Edit
  pub opened : places line.session ≡ Inside edits
  pub breaks : BreaksLimit line.command (length edits) cause

abbrev pub IsMisplacedIn : Places → List (List ℕ) → Type 0
IsMisplacedIn places fields = StandsByPlace places fields BadCommand

-- the cause stands on a line's fields, where there are so many frameworks and the sessions stand so
abbrev pub StandsIn : ℕ → Places → List (List ℕ) → ScriptCause → Type 0
StandsIn frameworks places fields cause =
    StandsOn fields cause ⊎ (StandsByPlace places fields cause ⊎ StandsAmong frameworks fields cause)

-- the cause is told of them
abbrev pub IsFirstIn : ℕ → Places → List (List ℕ) → ScriptCause → Type 0
IsFirstIn frameworks places fields cause = IsFirstCause (StandsIn frameworks places fields) cause

-- the cause is that of a line whose framework is none of so many
abbrev pub IsStrayIn : ℕ → TextLine → ScriptCause → Type 0
IsStrayIn frameworks line cause = (cause ≡ BadFramework) × ¬ AreAmong frameworks (used_at line)

-- ---- lines

-- the next line has this number, and the cause is told of it
pub record IsNextFault (frameworks : ℕ) (places : Places) (lines : List LineText) (number : ℕ) (cause : ScriptCause)
    : Type 0 where
  pub line : LineText
  pub others : List LineText
  pub lines_are : lines ≡ line ∷ others
  pub number_is : number ≡ line.number
  pub told : IsFirstIn frameworks places (field_texts line.text) cause

-- where the fault is that of a line, it is that of the next one
abbrev pub StopsAt : ℕ → Places → List LineText → ScriptFault → Type 0
StopsAt frameworks places lines (At number cause) = IsNextFault frameworks places lines number cause
StopsAt frameworks places lines Refused = Unit {0}

-- the lines are these, of which each may stand where it does, and this script; they leave the sessions so
pub record AreRead (frameworks : ℕ) (lines : List LineText) (places : Places) (script : Script) : Type 0 where
  pub read : List TextLine
  pub are_lines : AreTextLines lines read
  pub fit : FitPlaces all_unbegun read
  pub places_are : places ≡ after_lines read all_unbegun
  pub commands : script.lines ≡ commands_of all_unbegun read
  pub uses : script.uses ≡ uses_of read
  pub among : AreAmong frameworks (uses_of read)

-- the lines are some that were read, with what they left, and those that are left to read
pub record HasRead (frameworks : ℕ) (lines left : List LineText) (places : Places) (script : Script) : Type 0 where
  pub before : List LineText
  pub lines_are : lines ≡ before ++ left
  pub are_read : AreRead frameworks before places script

-- the first line that may not stand where it does has this number, and the cause is told of it
pub record IsFirstBadLine (frameworks : ℕ) (lines : List LineText) (number : ℕ) (cause : ScriptCause) : Type 0 where
  pub left : List LineText
  pub places : Places
  pub script : Script
  pub has_read : HasRead frameworks lines left places script
  pub bad : IsNextFault frameworks places left number cause

-- where the fault is that of a line, it is that of the first bad one
abbrev pub BreaksAt : ℕ → List LineText → ScriptFault → Type 0
BreaksAt frameworks lines (At number cause) = IsFirstBadLine frameworks lines number cause
BreaksAt frameworks lines Refused = Unit {0}
