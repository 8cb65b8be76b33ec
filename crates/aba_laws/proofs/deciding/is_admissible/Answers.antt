use Rattle.std.proofs.Common.{refl}
use Rattle.aba_laws.proofs.deciding.is_admissible.Goals as goal

pub returns-then-is_conflict_free : goal.returns-then-is_conflict_free
returns-then-is_conflict_free c = (
  λ e. record { conflict_free = c.if-is_conflict_free.ensures.0 refl; defended = c.defends_members.ensures.0 e },
  λ ok. c.defends_members.ensures.1 ok.defended,
)
