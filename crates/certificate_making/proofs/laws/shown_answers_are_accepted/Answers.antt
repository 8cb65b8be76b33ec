use Rattle.certificate_making.proofs.Existing.{shown_is_accepted}
use Rattle.certificate_making.proofs.laws.shown_answers_are_accepted.Goals as goal

pub returns : goal.returns
returns c = shown_is_accepted
