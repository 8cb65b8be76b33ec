use Rattle.atom_solver.specs.Assumed.{AreSomeFacts}
use Rattle.atom_solver.proofs.tables.assume_some.Given as goal

abbrev pub invariant-loop-atom : goal.invariant-loop-atom
invariant-loop-atom g l = AreSomeFacts (g.E.Encoding.framework l.plain) l.table l.assumed.items
