use Rattle.atom_solver.proofs.Assuming.{some_facts_none}
use Rattle.atom_solver.proofs.tables.assume_some.Goals as goal

pub loop-atom-init : goal.loop-atom-init
loop-atom-init g c = rw c.clear.ensures.items (some_facts_none (g.E.Encoding.framework c.args.plain.now) c.args.table.now)
