use Rattle.atom_solver.proofs.Tabling.{side_found, side_lacking}
use Rattle.atom_solver.proofs.side_table.SideTable.find.Goals as goal

pub returns-clause-some : goal.returns-clause-some
returns-clause-some c = rw (← c.self.view_is)
    (side_found c.self.inside.sides.keys c.args.literals.now _ c.get_index_of.ensures.index)

pub returns-clause-none : goal.returns-clause-none
returns-clause-none c = rw (← c.self.view_is)
    (side_lacking c.self.inside.sides.keys c.args.literals.now _ c.get_index_of.ensures.found c.self.invariant)
