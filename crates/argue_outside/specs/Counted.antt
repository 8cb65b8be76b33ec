-- Counts of faults in an array, one for each role.
use Rattle.std.specs.Prelude.{ℕ, ◌+◌, List, slice_index}
use Rattle.argue_outside.specs.declared.Role.{Role}
use Rattle.argue_outside.specs.declared.Role.TheVariants.{Framework, Script, Answer, Certificate, List as AnswerList, Cnf, Lrat}

-- the index of a role's count
abbrev pub index_of : Role → ℕ
index_of Script = 0
index_of Answer = 1
index_of Certificate = 2
index_of AnswerList = 3
index_of Cnf = 4
index_of Lrat = 5
index_of (Framework k) = 6 + k

-- a role's count; it is 0 for a role without one
abbrev pub count_at : List ℕ → Role → ℕ
count_at counts role = slice_index counts (index_of role)
