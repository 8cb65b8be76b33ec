use Rattle.atom_solver.proofs.Giving.{stands_if}
use Rattle.atom_solver.proofs.Running.{whole_grown, state_grown}
use Rattle.atom_solver.proofs.parts.SolverParts.stand_for.Goals as goal

pub returns-in_err-push_lits_for-clause-whole : goal.returns-in_err-push_lits_for-clause-whole
returns-in_err-push_lits_for-clause-whole c = whole_grown c.args.literals.now c.args.self.now.table _
    c.args.self.now.solver _ _ c.requires.whole c.push_lits_for.ensures.table c.push_lits_for.ensures.solver

pub returns-in_err-push_lits_for-clause-state : goal.returns-in_err-push_lits_for-clause-state
returns-in_err-push_lits_for-clause-state c = state_grown c.args.literals.now c.args.self.now.table
    c.push_lits_for.new.table c.args.self.now.solver c.push_lits_for.new.solver c.args.self.now.origins.items
    c.args.self.now.sides.kept c.args.self.now.pending c.requires.whole c.push_lits_for.ensures.table
    c.push_lits_for.ensures.solver

pub returns-clause-whole : goal.returns-clause-whole
returns-clause-whole c = whole_grown c.args.literals.now c.args.self.now.table _ c.args.self.now.solver _ _
    c.requires.whole c.push_lits_for.ensures.table c.push_lits_for.ensures.solver

pub returns-clause-state : goal.returns-clause-state
returns-clause-state c = state_grown c.args.literals.now c.args.self.now.table c.push_lits_for.new.table
    c.args.self.now.solver c.push_lits_for.new.solver c.args.self.now.origins.items c.args.self.now.sides.kept
    c.args.self.now.pending c.requires.whole c.push_lits_for.ensures.table c.push_lits_for.ensures.solver

pub returns-clause-clause : goal.returns-clause-clause
returns-clause-clause c =
    let adds = rw c.clear.ensures.items at c.in_ok-push_lits_for.ensures.ok in
    stands_if c.push_lits_for.new.table c.args.literals.now c.push_lits_for.new.lits.items c.from_slice.result adds
    (rw c.as_slice.ensures.value at c.from_slice.ensures)
