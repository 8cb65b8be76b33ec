-- The text that is written of a framework with names.
use Rattle.std.specs.Prelude.{ℕ, ◌+◌, List, [], ◌∷◌, ◌++◌, codes}
use Rattle.std.specs.Fmt.{decimal}
use Rattle.semantics.specs.Framework.{Af}
use Rattle.af_format.specs.Written.{af_text}

-- the line of a name: `#`, its number and the name, one blank between, and LF
abbrev pub name_line : ℕ → List ℕ → List ℕ
name_line number name = codes "# " ++ (decimal number ++ (32 ∷ (name ++ 10 ∷ [])))

-- the lines of names, numbered from a number on
unfoldable pub name_lines : ℕ → List (List ℕ) → List ℕ
name_lines number [] = []
name_lines number (name ∷ more) = name_line number name ++ name_lines (number + 1) more

-- the line of each name, and the text of the framework
abbrev pub named_text : List (List ℕ) → Af → List ℕ
named_text names f = name_lines 1 names ++ af_text f
