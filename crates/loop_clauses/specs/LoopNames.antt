-- What is unfounded, as the rows of a loop clause.
use Rattle.std.specs.Prelude.{ℕ, ◌==◌, if◌then◌else◌, List, map}
use Rattle.meaning_atoms.specs.declared.atom.Closure.{Closure}
use Rattle.meaning_atoms.specs.declared.atom.Closure.TheVariants.{Own, Rest}
use Rattle.meaning_atoms.specs.declared.loop_rows.LoopRow.{LoopRow}
use Rattle.aba_notions.specs.declared.unfounded.Row.{Row}

-- the closure of the number 1, and that of any other
abbrev pub closure_numbered : ℕ → Closure
closure_numbered k = if k == 1 then Own else Rest

-- a row, as one of a clause
abbrev pub loop_row : Row → LoopRow
loop_row row = record { atom = row.atom; pairs = row.pairs }

abbrev pub loop_rows : List Row → List LoopRow
loop_rows rows = map loop_row rows
