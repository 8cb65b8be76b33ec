-- What a table of clauses stands for.
use Rattle.lrat_text.specs.declared.table.Table.{Table}
use Rattle.lrat_text.specs.declared.table.Table.TheVariants.{Plain, Spelled}
use Rattle.lrat_text.specs.CnfText.{Formula}

-- the variables and the clauses of a table, however it holds them
abbrev pub formula_of : Table → Formula
formula_of (Plain f) = f
formula_of (Spelled f) = f
