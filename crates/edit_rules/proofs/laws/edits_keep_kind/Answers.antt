use Rattle.edit_rules.proofs.laws.edits_keep_kind.Goals as goal
use Rattle.edit_rules.proofs.ReplayLemmas.{kind_stays}

pub returns : goal.returns
returns c = kind_stays
