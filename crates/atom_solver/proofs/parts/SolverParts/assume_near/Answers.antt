use Rattle.atom_solver.proofs.Assuming.{are_near}
use Rattle.atom_solver.proofs.Running.{whole_grown, state_grown}
use Rattle.atom_solver.proofs.parts.SolverParts.assume_near.Goals as goal

pub returns-in_err-push_lits_for-clause-whole : goal.returns-in_err-push_lits_for-clause-whole
returns-in_err-push_lits_for-clause-whole g c = whole_grown _ c.args.self.now.table _
    c.args.self.now.solver _ _ c.requires.whole c.push_lits_for.ensures.table c.push_lits_for.ensures.solver

pub returns-in_err-push_lits_for-clause-state : goal.returns-in_err-push_lits_for-clause-state
returns-in_err-push_lits_for-clause-state g c = state_grown _ c.args.self.now.table
    c.push_lits_for.new.table c.args.self.now.solver c.push_lits_for.new.solver c.args.self.now.origins.items
    c.args.self.now.sides.kept c.args.self.now.pending c.requires.whole c.push_lits_for.ensures.table
    c.push_lits_for.ensures.solver

pub returns-clause-whole : goal.returns-clause-whole
returns-clause-whole g c = whole_grown _ c.args.self.now.table _
    c.args.self.now.solver _ _ c.requires.whole c.push_lits_for.ensures.table c.push_lits_for.ensures.solver

pub returns-clause-state : goal.returns-clause-state
returns-clause-state g c = state_grown _ c.args.self.now.table c.push_lits_for.new.table
    c.args.self.now.solver c.push_lits_for.new.solver c.args.self.now.origins.items c.args.self.now.sides.kept
    c.args.self.now.pending c.requires.whole c.push_lits_for.ensures.table c.push_lits_for.ensures.solver

pub returns-clause-ok : goal.returns-clause-ok
returns-clause-ok g c = are_near (g.E.Encoding.framework c.args.plain.now) c.args.self.now.table _
    c.args.goals.now _ _ c.in_ok-assume_some.ensures c.push_lits_for.ensures.table c.in_ok-push_lits_for.ensures.ok
