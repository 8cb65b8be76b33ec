use Rattle.std.proofs.Common.{refl}
use Rattle.refutation_logs.proofs.Standing.{stands_from}
use Rattle.refutation_logs.proofs.numbering.number.Goals as goal

pub returns-clause-stands : goal.returns-clause-stands
returns-clause-stands c = stands_from _ _ _ _ _ c.in_ok-spell.ensures.spelled refl c.put_in_order.ensures
