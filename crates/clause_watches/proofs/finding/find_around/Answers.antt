use Rattle.clause_watches.proofs.Looking.{looked_around}
use Rattle.clause_watches.proofs.finding.find_around.Goals as goal

pub returns-in-None : goal.returns-in-None
returns-in-None c =
    looked_around c.args.trail.now.lits c.args.clause.now c.args.begin c.args.other c.find_in-in-None.result
    c.in-None.ensures c.find_in-in-None.ensures
