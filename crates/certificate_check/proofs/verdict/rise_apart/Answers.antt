use Rattle.std.proofs.Common.{refl}
use Rattle.certificate_check.proofs.verdict.rise_apart.Goals as goal

pub returns-then-sets_rise : goal.returns-then-sets_rise
returns-then-sets_rise c = (
  λ t. (c.if-sets_rise.ensures.0 refl, c.none_within.ensures.0 t),
  λ both. c.none_within.ensures.1 both.1,
)
