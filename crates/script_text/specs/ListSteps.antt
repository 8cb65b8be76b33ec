-- How reading a list goes on from line to line.
use Rattle.std.specs.Prelude.{◌≡◌, ℕ, ◌≤◌, List, ◌∷◌, ◌++◌, length}
use Rattle.num_text.specs.Cuts.{LineText}
use Rattle.script_text.specs.declared.list.ListCause.{ListCause}
use Rattle.script_text.specs.declared.list.ListFault.{ListFault}
use Rattle.script_text.specs.declared.list.ListFault.TheVariants.{At, Memory}
use Rattle.script_text.specs.declared.list.TheConstants.{MAX_FRAMEWORKS}
use Rattle.script_text.specs.Lists.{AreNameLines, StandsOnName, list_rank}

-- each of the lines is one of the names, of which there aren't too many
pub record AreNames (lines : List LineText) (names : List (List ℕ)) : Type 0 where
  pub are_lines : AreNameLines lines names
  pub few : length names ≤ MAX_FRAMEWORKS

-- the lines are some that were read, with their names, and those that are left to read
pub record HaveNames (lines left : List LineText) (names : List (List ℕ)) : Type 0 where
  pub before : List LineText
  pub lines_are : lines ≡ before ++ left
  pub are_names : AreNames before names

-- the cause is told of a line behind so many others, which has this number
pub record IsToldName (count : ℕ) (line : LineText) (number : ℕ) (cause : ListCause) : Type 0 where
  pub number_is : number ≡ line.number
  pub stands : StandsOnName count line.text cause
  pub first : (other : ListCause) → StandsOnName count line.text other → list_rank cause ≤ list_rank other

-- where the fault is that of a line, it is that of this one behind so many others
abbrev pub StopsList : ℕ → LineText → ListFault → Type 0
StopsList count line (At number cause) = IsToldName count line number cause
StopsList count line Memory = Unit {0}

-- the first line that is no name, or a name too many, has this number, and the cause is told of it
pub record IsFirstBadName (lines : List LineText) (number : ℕ) (cause : ListCause) : Type 0 where
  pub left : List LineText
  pub names : List (List ℕ)
  pub line : LineText
  pub has_read : HaveNames lines (line ∷ left) names
  pub told : IsToldName (length names) line number cause

-- where the fault is that of a line, it is that of the first bad one
abbrev pub BreaksList : List LineText → ListFault → Type 0
BreaksList lines (At number cause) = IsFirstBadName lines number cause
BreaksList lines Memory = Unit {0}
