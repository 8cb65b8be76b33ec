use Rattle.std.proofs.Common.{refl}
use Rattle.semantics.proofs.deciding.has_no_wider.Goals as goal

pub returns : goal.returns
returns c = (
  λ e. record { back = λ ok sub. c.is_range_within-2.ensures.0 e },
  λ h. c.is_range_within-2.ensures.1
      (h.back (c.if-not-is_of_mode.ensures.0 refl) (c.if-not-is_range_within.ensures.0 refl)),
)
