use Rattle.certificate_check.proofs.StepLemmas.{ends_named}
use Rattle.certificate_check.proofs.refuting.flaw_of.Goals as goal

pub ends_closed-requires : goal.ends_closed-requires
ends_closed-requires c =
    ends_named _ c.args.claim.now.kind c.args.claim.now.sides c.args.steps.now
    (rw (c.in_default.is, c.as_slice.ensures) at c.in_ok-bad.ensures)
