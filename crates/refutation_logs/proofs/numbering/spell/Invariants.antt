use Rattle.std.proofs.Common.{◌≡◌, take}
use Rattle.plain_lits.specs.CheckLaws.{IsImage}
use Rattle.clause_bench.specs.Benches.{lit_over}
use Rattle.refutation_logs.specs.Variables.{IsKnown, with_atoms}
use Rattle.refutation_logs.proofs.numbering.spell.Given as goal

abbrev pub invariant-loop-literal : goal.invariant-loop-literal
invariant-loop-literal l = record {
  spelled : IsImage (lit_over l.atoms) (IsKnown l.atoms) l.lits.items (take l.literal-index l.clause);
  appearance : l.atoms ≡ with_atoms l.initial.atoms (take l.literal-index l.clause);
}
