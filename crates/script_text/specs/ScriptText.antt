-- The text of a script, and the script that it is.
use Rattle.std.specs.Prelude.{◌≡◌, ℕ, ◌≤◌, List, [], ◌∷◌, Option, Some, None, codes}
use Rattle.std.specs.List.{AllZip}
use Rattle.num_text.specs.Cuts.{LineText, field_texts}
use Rattle.num_text.specs.Lines.{kept_lines}
use Rattle.num_text.specs.Number.{IsNumber}
use Rattle.iccma_tasks.specs.Tasks.{Asked, FitsTask, IsTask, task_name}
use Rattle.edit_rules.specs.declared.edit.Edit.{Edit}
use Rattle.script_text.specs.declared.open_groups.Place.TheVariants.{Inside}
use Rattle.script_text.specs.declared.script.TheConstants.{MAX_SESSIONS}
use Rattle.script_text.specs.declared.text_line.LineCommand.{LineCommand}
use Rattle.script_text.specs.declared.text_line.LineCommand.TheVariants.{Ask, Begin, Edit as change_by, End, Use as on}
use Rattle.script_text.specs.declared.text_line.TextLine.{TextLine}
use Rattle.script_text.specs.declared.script.Script.{Script}
use Rattle.script_text.specs.Changes.{change_name, change_of, edit_numbers}
use Rattle.script_text.specs.Groups.{FitPlaces, after_lines, commands_of, all_unbegun}
use Rattle.script_text.specs.Uses.{AreAmong, uses_of}

-- the fields are the name of the edit's command and its numbers, with leading zeros or without
pub record AreEditFields (fields : List (List ℕ)) (edit : Edit) : Type 0 where
  pub numbers : List (List ℕ)
  pub fields_are : fields ≡ change_name (change_of edit) ∷ numbers
  pub spelled : AllZip IsNumber numbers (edit_numbers edit)

-- the number that is asked about, where there is one
abbrev pub asked_numbers : Option ℕ → List ℕ
asked_numbers None = []
asked_numbers (Some n) = n ∷ []

-- the fields are `ask`, the name of a task, and the number that the task asks about where it asks about one
pub record AreAskFields (fields : List (List ℕ)) (asked : Asked) : Type 0 where
  pub numbers : List (List ℕ)
  pub fields_are : fields ≡ codes "ask" ∷ task_name asked.task ∷ numbers
  pub task_is : IsTask asked.task
  pub spelled : AllZip IsNumber numbers (asked_numbers asked.number)
  pub fits : FitsTask asked.task.problem asked.number

-- the fields are `use` and a number
pub record AreUseFields (fields : List (List ℕ)) (framework : ℕ) : Type 0 where
  pub numbers : List (List ℕ)
  pub fields_are : fields ≡ codes "use" ∷ numbers
  pub spelled : AllZip IsNumber numbers (framework ∷ [])

-- the fields are those of the command
abbrev pub AreCommandFields : List (List ℕ) → LineCommand → Type 0
AreCommandFields fields (change_by edit) = AreEditFields fields edit
AreCommandFields fields (Ask asked) = AreAskFields fields asked
AreCommandFields fields Begin = fields ≡ codes "begin" ∷ []
AreCommandFields fields End = fields ≡ codes "end" ∷ []
AreCommandFields fields (on framework) = AreUseFields fields framework

-- the text is the number of a session
pub record SpellsSession (text : List ℕ) (session : ℕ) : Type 0 where
  pub number : IsNumber text session
  pub low : 1 ≤ session
  pub high : session ≤ MAX_SESSIONS

-- the line is a session's number and a command
pub record IsTextLine (text : List ℕ) (line : TextLine) : Type 0 where
  pub session : List ℕ
  pub others : List (List ℕ)
  pub fields : field_texts text ≡ session ∷ others
  pub session_is : SpellsSession session line.session
  pub command_is : AreCommandFields others line.command

abbrev pub AreTextLines : List LineText → List TextLine → Type 0
AreTextLines texts lines = AllZip (λ text line. IsTextLine text.text line) texts lines

-- but for skipped lines, the bytes are lines of which each fits where its session stands, and no group is open at the
-- end; the script is their commands and their uses, each of one of so many frameworks
pub record IsScript (frameworks : ℕ) (bytes : List ℕ) (script : Script) : Type 0 where
  pub lines : List TextLine
  pub are_lines : AreTextLines (kept_lines bytes) lines
  pub fit : FitPlaces all_unbegun lines
  pub closed : (s : ℕ) (edits : List Edit) → ¬ (after_lines lines all_unbegun s ≡ Inside edits)
  pub commands : script.lines ≡ commands_of all_unbegun lines
  pub uses : script.uses ≡ uses_of lines
  pub among : AreAmong frameworks script.uses
