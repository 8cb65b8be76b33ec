-- Literals as numbers, and lists of lists in one list.
use Rattle.std.specs.Prelude.{ℕ, ◌+◌, ◌*◌, ◌/◌, ◌%◌, ◌==◌, if◌then◌else◌}
use Rattle.plain_lits.specs.declared.lit.Lit.{Lit}

-- the literal of a number: its half is the variable, and an odd number is positive
abbrev pub unpacked : ℕ → Lit
unpacked code = record { var = code / 2; positive = code % 2 == 1 }

-- the number of a literal
abbrev pub packed : Lit → ℕ
packed l = 2 * l.var + (if l.positive then 1 else 0)
