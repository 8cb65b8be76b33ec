use Rattle.std.proofs.Common.{rules}
use Rattle.edit_history.proofs.hub.Hub.close.Goals as goal

pub returns : goal.returns
returns c = rw (c.into_parts-opening.ensures.opening, c.into_parts-opening.ensures.changes) (search rules)
