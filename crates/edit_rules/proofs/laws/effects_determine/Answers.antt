use Rattle.edit_rules.proofs.laws.effects_determine.Goals as goal
use Rattle.edit_rules.proofs.ReplayLemmas.{effects_tell}

pub returns : goal.returns
returns c = effects_tell
