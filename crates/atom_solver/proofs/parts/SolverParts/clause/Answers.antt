use Rattle.atom_solver.proofs.Reading.{step_named, clause_read}
use Rattle.atom_solver.proofs.parts.SolverParts.clause.Goals as goal

pub clause-requires : goal.clause-requires
clause-requires c =
    let p = c.args.self.now in
    rw c.log.ensures.log (step_named p.table p.solver p.origins.items c.args.step c.requires.step)

pub returns : goal.returns
returns c =
    let p = c.args.self.now in
    clause_read p.table p.solver p.origins.items c.args.step c.clause.result.now c.packed_over_atoms.result
    c.requires.whole.room c.requires.step (rw c.log.ensures.log at c.clause.ensures.clause) c.packed_over_atoms.ensures
