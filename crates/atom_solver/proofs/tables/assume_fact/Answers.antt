use Rattle.atom_solver.proofs.Assuming.{some_facts_more}
use Rattle.atom_solver.proofs.tables.assume_fact.Goals as goal

pub returns : goal.returns
returns g c = some_facts_more (g.E.Encoding.framework c.args.plain.now) c.args.table.now c.args.atom.now c.in-Some.var
    c.in-Some-fact.value _ _ c.in-Some.ensures.some c.in-Some-fact.ensures.some c.in_ok-push.ensures.items
    (record { known = c.requires.known; only = c.requires.only })
