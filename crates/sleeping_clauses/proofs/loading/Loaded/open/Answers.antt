use Rattle.std.proofs.Common.{rules}
use Rattle.sleeping_clauses.proofs.Mirroring.{loaded_none}
use Rattle.sleeping_clauses.proofs.loading.Loaded.open.Goals as goal

pub returns : goal.returns
returns c = λ steps sleepers.
    loaded_none _ c.args.asleep.now steps c.in_ok-search.ensures.clauses c.in_ok-search.ensures.lits
    c.in_ok-search.ensures.starts (search rules) c.in_ok-asleep.ensures.items sleepers
