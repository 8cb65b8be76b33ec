use Rattle.std.proofs.Common.{refl}
use Rattle.marked_sets.proofs.arguments.is_admissible.Goals as goal

pub returns : goal.returns
returns c = (
  λ e. record { conflict_free = c.if-not-apart.ensures.0 refl; defended = c.defends_itself-defended.ensures.0 e },
  λ ok. c.defends_itself-defended.ensures.1 ok.defended,
)
