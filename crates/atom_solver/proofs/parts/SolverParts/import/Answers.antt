use Rattle.std.proofs.Common.{subst}
use Rattle.std.specs.Prelude.{IfOk}
use Rattle.atom_solver.specs.States.{AtomState}
use Rattle.atom_solver.specs.Inner.{state_of}
use Rattle.atom_solver.specs.Imported.{IsImported}
use Rattle.atom_solver.specs.Lifted.{atoms_of}
use Rattle.atom_solver.proofs.EntryLemmas.{imported_as}
use Rattle.atom_solver.proofs.parts.SolverParts.import.Goals as goal

pub returns-clause-imported : goal.returns-clause-imported
returns-clause-imported c =
    let p = c.args.self.now in
    let q = c.stand_for.new.self in
    imported_as c.add_entry.result (atoms_of q.table c.in_ok-clause.clause) c.args.literals.now c.args.hints c.args.name
    (state_of p) (state_of c.add_entry.new.self) c.in_ok-clause.ensures.clause.same
    (subst (λ (s : AtomState). IfOk c.add_entry.result (IsImported (atoms_of q.table c.in_ok-clause.clause) c.args.hints
    c.args.name s (state_of c.add_entry.new.self))) c.in_ok-clause.ensures.state c.add_entry.ensures.imported)
