-- Where the sessions of a script stand, and their groups of edits: each stands between the lines `S begin` and `S end`,
-- and lines of other sessions may stand among its own.
use Rattle.std.specs.Prelude.{ℕ, ◌==◌, ◌<◌, true, false, List, [], ◌∷◌, ◌++◌, length, map, if◌then◌else◌}
use Rattle.edit_rules.specs.declared.edit.TheConstants.{MAX_GROUP}
use Rattle.script_text.specs.declared.open_groups.Place.{Place}
use Rattle.script_text.specs.declared.open_groups.Place.TheVariants.{Unbegun, Between, Inside}
use Rattle.script_text.specs.declared.script.ScriptCommand.{ScriptCommand}
use Rattle.script_text.specs.declared.script.ScriptCommand.TheVariants.{Ask as asks, Edit as changes}
use Rattle.script_text.specs.declared.script.ScriptLine.{ScriptLine}
use Rattle.script_text.specs.declared.text_line.LineCommand.{LineCommand}
use Rattle.script_text.specs.declared.text_line.LineCommand.TheVariants.{Ask, Begin, Edit as change_by, End, Use as on}
use Rattle.script_text.specs.declared.text_line.TextLine.{TextLine}

-- where each session stands: it has had no line, or it is between groups, or inside one, whose edits so far these are
abbrev pub Places : Type 0
Places = ℕ → Place

abbrev pub all_unbegun : Places
all_unbegun s = Unbegun

-- where a line leaves its session
abbrev pub left_by : LineCommand → Place → Place
left_by (change_by edit) Unbegun = Between
left_by (change_by edit) Between = Between
left_by (change_by edit) (Inside edits) = Inside (edits ++ edit ∷ [])
left_by (Ask asked) place = Between
left_by Begin place = Inside []
left_by End place = Between
left_by (on framework) place = Between

abbrev pub after_line : TextLine → Places → Places
after_line line places s = if s == line.session then left_by line.command (places line.session) else places s

abbrev pub after_lines : List TextLine → Places → Places
after_lines [] places = places
after_lines (line ∷ more) places = after_lines more (after_line line places)

-- a line may stand where its session stands
abbrev pub FitsPlace : LineCommand → Place → Type 0
FitsPlace (change_by edit) Unbegun = Unit {0}
FitsPlace (change_by edit) Between = Unit {0}
FitsPlace (change_by edit) (Inside edits) = length edits < MAX_GROUP
FitsPlace (Ask asked) Unbegun = Unit {0}
FitsPlace (Ask asked) Between = Unit {0}
FitsPlace (Ask asked) (Inside edits) = ⊥
FitsPlace Begin Unbegun = Unit {0}
FitsPlace Begin Between = Unit {0}
FitsPlace Begin (Inside edits) = ⊥
FitsPlace End Unbegun = ⊥
FitsPlace End Between = ⊥
FitsPlace End (Inside edits) = 0 < length edits
FitsPlace (on framework) Unbegun = Unit {0}
FitsPlace (on framework) Between = ⊥
FitsPlace (on framework) (Inside edits) = ⊥

abbrev pub FitPlaces : Places → List TextLine → Type 0
FitPlaces places [] = Unit {0}
FitPlaces places (line ∷ more) =
    FitsPlace line.command (places line.session) × FitPlaces (after_line line places) more

-- the command that ends at a line, if one does
abbrev pub ended_at : LineCommand → Place → List ScriptCommand
ended_at (change_by edit) Unbegun = changes (edit ∷ []) false ∷ []
ended_at (change_by edit) Between = changes (edit ∷ []) false ∷ []
ended_at (change_by edit) (Inside edits) = []
ended_at (Ask asked) place = asks asked ∷ []
ended_at Begin place = []
ended_at End Unbegun = []
ended_at End Between = []
ended_at End (Inside edits) = changes edits true ∷ []
ended_at (on framework) place = []

abbrev pub told_at : TextLine → Place → List ScriptLine
told_at line place =
    map (λ (command : ScriptCommand). record { session = line.session; command = command })
    (ended_at line.command place)

-- the commands of lines, each where its last line stands
abbrev pub commands_of : Places → List TextLine → List ScriptLine
commands_of places [] = []
commands_of places (line ∷ more) = told_at line (places line.session) ++ commands_of (after_line line places) more
