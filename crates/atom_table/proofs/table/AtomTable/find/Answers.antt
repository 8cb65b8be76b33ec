use Rattle.atom_table.proofs.NumberingLemmas.{found}
use Rattle.atom_table.proofs.table.AtomTable.find.Goals as goal

pub returns-clause-some : goal.returns-clause-some
returns-clause-some c = rw (← c.self.view_is)
    (found c.self.inside.atoms.keys c.args.atom.now _ c.get_index_of.ensures.index)
