use Rattle.atom_solver.proofs.Reading.{if_imported_read, if_source_read}
use Rattle.atom_solver.proofs.solver.AtomSolver.origin.Goals as goal

pub returns-clause-source : goal.returns-clause-source
returns-clause-source c =
    let p = c.self.inside.parts in
    rw (← c.self.view_is)
    (if_source_read p.table p.solver p.origins.items c.args.step c.origin.result (rw (← c.self.view_is) at c.requires)
    c.origin.ensures)

pub returns-clause-imported : goal.returns-clause-imported
returns-clause-imported c =
    let p = c.self.inside.parts in
    rw (← c.self.view_is)
    (if_imported_read p.table p.solver p.origins.items c.args.step c.origin.result (rw (← c.self.view_is) at c.requires)
    c.origin.ensures)
