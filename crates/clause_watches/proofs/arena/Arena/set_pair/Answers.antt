use Rattle.std.proofs.Common.{◌-◌}
use Rattle.std.proofs.lemmas.List.{map-set}
use Rattle.clause_watches.proofs.arena.Arena.set_pair.Goals as goal

pub returns-clause-pairs : goal.returns-clause-pairs
returns-clause-pairs c = rw (← c.self.view_is) (map-set _ c.self.inside.watched.items (c.args.id - 1) _)
