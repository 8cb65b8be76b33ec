use Rattle.atom_solver.specs.Assumed.{AreFacts}
use Rattle.atom_solver.proofs.tables.assume_facts.Given as goal

abbrev pub invariant-loop-var : goal.invariant-loop-var
invariant-loop-var g l = AreFacts (g.E.Encoding.framework l.plain) l.table l.var l.assumed.items
