use Rattle.std.proofs.Common.{refl}
use Rattle.aba_laws.proofs.deciding.is_in_preferred.Goals as goal

pub returns-else-not-is_preferred : goal.returns-else-not-is_preferred
returns-else-not-is_preferred c = (
  λ e. record { within = λ ok. c.lies_in.ensures.0 e },
  λ h. c.lies_in.ensures.1 (h.within (c.if-not-is_preferred.ensures.0 refl)),
)
