use Rattle.std.proofs.Common.{refl}
use Rattle.aba_laws.proofs.deciding.is_in_complete.Goals as goal

pub returns-else-not-is_complete : goal.returns-else-not-is_complete
returns-else-not-is_complete c = (
  λ e. record { within = λ ok. c.lies_in.ensures.0 e },
  λ h. c.lies_in.ensures.1 (h.within (c.if-not-is_complete.ensures.0 refl)),
)
