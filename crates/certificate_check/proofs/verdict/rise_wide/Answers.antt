use Rattle.std.proofs.Common.{refl}
use Rattle.certificate_check.proofs.verdict.rise_wide.Goals as goal

pub returns : goal.returns
returns c = (
  λ t. (c.if-not-rise.ensures.0 refl, c.in_ok-apart.ensures.tells.0 t),
  λ both. c.in_ok-apart.ensures.tells.1 both.1,
)
