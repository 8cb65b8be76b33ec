use Rattle.std.proofs.Common.{◌≡◌, take}
use Rattle.clause_bench.specs.Benches.{Spells, HasGrown}
use Rattle.clause_bench.proofs.bench.spell.Given as goal

abbrev pub invariant-loop-literal : goal.invariant-loop-literal
invariant-loop-literal l = record {
  spelled : Spells l.atoms l.lits.items (take l.literal-index l.clause);
  packed : l.packed.items ≡ l.lits.items;
  grown : HasGrown l.initial.atoms l.atoms;
}
