use Rattle.hinted_log.proofs.Following.{all_follow}
use Rattle.hinted_log.proofs.laws.steps_follow.Goals as goal

pub returns : goal.returns
returns c = all_follow
