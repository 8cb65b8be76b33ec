use Rattle.std.proofs.Common.{◌∙◌}
use Rattle.hinted_log.proofs.Parts.{clauses-steps_of}
use Rattle.hinted_log.proofs.store.Store.clauses.Goals as goal

pub returns : goal.returns
returns c = rw (← c.self.view_is) (c.rows.ensures ∙ clauses-steps_of _ _ _ c.self.invariant)
