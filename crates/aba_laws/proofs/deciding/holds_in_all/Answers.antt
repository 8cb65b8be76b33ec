use Rattle.std.proofs.Common.{refl}
use Rattle.aba_laws.proofs.deciding.holds_in_all.Goals as goal

pub returns-else-not-is_in_all_preferred : goal.returns-else-not-is_in_all_preferred
returns-else-not-is_in_all_preferred c = (
  λ e. record { back = λ ok. c.lies_in.ensures.0 e },
  λ h. c.lies_in.ensures.1 (h.back (c.if-not-is_in_all_preferred.ensures.0 refl)),
)
