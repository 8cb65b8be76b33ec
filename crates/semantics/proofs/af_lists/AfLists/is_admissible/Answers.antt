use Rattle.std.proofs.Common.{rules}
use Rattle.semantics.proofs.af_lists.AfLists.is_admissible.Goals as goal

pub returns-then-is_conflict_free : goal.returns-then-is_conflict_free
returns-then-is_conflict_free c = (
  λ e. record { conflict_free = search rules; defended = c.defends_members.ensures.0 e },
  λ ok. c.defends_members.ensures.1 ok.defended,
)
