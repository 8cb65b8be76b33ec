use Rattle.std.proofs.Common.{◌≡◌, take}
use Rattle.atom_solver.specs.Tables.{AddsLits, Extends}
use Rattle.atom_solver.proofs.tables.push_lits_for.Given as goal

abbrev pub invariant-loop-literal : goal.invariant-loop-literal
invariant-loop-literal l = record {
  table : Extends (take l.literal-index l.literals) l.initial.table l.table;
  solver : l.solver ≡ l.initial.solver;
  lits : AddsLits l.table (take l.literal-index l.literals) l.initial.lits.items l.lits.items;
}
