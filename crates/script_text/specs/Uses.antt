-- Which framework each session of a script is on.
use Rattle.std.specs.Prelude.{ℕ, ◌≤◌, ◌==◌, List, [], ◌∷◌, ◌++◌, if◌then◌else◌}
use Rattle.script_text.specs.declared.script.ScriptUse.{ScriptUse}
use Rattle.script_text.specs.declared.text_line.LineCommand.{LineCommand}
use Rattle.script_text.specs.declared.text_line.LineCommand.TheVariants.{Ask, Begin, Edit as change_by, End, Use as on}
use Rattle.script_text.specs.declared.text_line.TextLine.{TextLine}

-- the framework of a session: that of its first use, and 1 where there is none
abbrev pub use_of : List ScriptUse → ℕ → ℕ
use_of [] session = 1
use_of (one ∷ more) session = if one.session == session then one.framework else use_of more session

-- the use that a line of a session is, if it is one
abbrev pub used_by : ℕ → LineCommand → List ScriptUse
used_by session (on framework) = record { session = session; framework = framework } ∷ []
used_by session (change_by edit) = []
used_by session (Ask asked) = []
used_by session Begin = []
used_by session End = []

abbrev pub used_at : TextLine → List ScriptUse
used_at line = used_by line.session line.command

-- the uses that lines are, in order
abbrev pub uses_of : List TextLine → List ScriptUse
uses_of [] = []
uses_of (line ∷ more) = used_at line ++ uses_of more

-- the number is that of one of so many frameworks
pub record IsAmong (frameworks number : ℕ) : Type 0 where
  pub low : 1 ≤ number
  pub high : number ≤ frameworks

-- each of the uses is of one of so many frameworks
abbrev pub AreAmong : ℕ → List ScriptUse → Type 0
AreAmong frameworks [] = Unit {0}
AreAmong frameworks (one ∷ more) = IsAmong frameworks one.framework × AreAmong frameworks more
