use Rattle.std.proofs.Common.{rules}
use Rattle.dung_notions.proofs.af_plain.AfPlain.is_admissible.Goals as goal

pub returns-then-is_conflict_free : goal.returns-then-is_conflict_free
returns-then-is_conflict_free c = (
  λ e. record { conflict_free = search rules; defended = c.defends_itself.ensures.0 e },
  λ ok.
      c.defends_itself.ensures.1 ok.defended,
)
