use Rattle.std.proofs.Common.{refl}
use Rattle.certificate_text.proofs.MemberText.{member_text}
use Rattle.certificate_text.proofs.step.member.Goals as goal

pub returns : goal.returns
returns c =
    member_text _ _ _ _ c.in_ok-positive.ensures c.in_ok-decimal.ensures.number (c.if-not-is_within.ensures.0 refl)
